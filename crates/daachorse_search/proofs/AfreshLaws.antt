-- Where no key that began before goes on, a search goes on as one that begins there: each end has the same matches, further on.
use Rattle.std.proofs.Common.{◌≡◌, ℕ, suc, ◌+◌, ◌<◌, ◌≤◌, List, [], ◌∷◌, ◌++◌, map, take, length, inl, inr, refl, sym, ap, ◌∙◌, subst, append_assoc, append-nil, add_assoc, length-append, arith}
use Rattle.std.specs.Prelude.{option_to_list}
use Rattle.std.proofs.lemmas.List.{map-append, append_cancel_left}
use Rattle.daachorse_model.specs.declared.Match.{Match}
use Rattle.daachorse_model.specs.Units.{size}
use Rattle.daachorse_model.specs.Dictionary.{Dictionary}
use Rattle.daachorse_model.specs.Matches.{matches_of, ending_at, matches_after, standard_from, standard_after, shifted}
use Rattle.daachorse_model.specs.Prefixes.{IsSuffix, IsLong}
use Rattle.daachorse_model.specs.Best.{NoneStarts}
use Rattle.daachorse_model.specs.Resumed.{IsResumed}
use Rattle.daachorse_model.proofs.Searches.{first_or}
use Rattle.daachorse_model.proofs.StandardEnds.{IsResumed-begin, joined-from, standard_after-empty}
use Rattle.daachorse_model.proofs.Suffixes.{size-append, IsSuffix-of_push}
use Rattle.daachorse_model.proofs.Lists.{nil_of}
use Rattle.daachorse_model.proofs.Shifts.{IsPast, ending_at-past, matches_after-past, standard_from-past, standard_from-shifted}
use Rattle.daachorse_search.specs.Scans.{past_each_end}
use Rattle.daachorse_search.specs.Afresh.{GoesOnAfresh}
use Rattle.daachorse_search.proofs.ScanLaws.{at_each_end-split}

-- ---- matches further on

-- a match no further on is the same
pub shifted-none : {V : Type 0} (ms : List (Match V)) → map (shifted 0) ms ≡ ms
shifted-none [] = refl
shifted-none {V} (m ∷ ms) =
    let from : 0 + m.start ≡ m.start = omega arith in
    let to : 0 + m.end ≡ m.end = omega arith in
    ap (λ n. record { start = n; end = 0 + m.end; value = m.value } ∷ map (shifted 0) ms) from
    ∙ ap (λ n. record { start = m.start; end = n; value = m.value } ∷ map (shifted 0) ms) to
    ∙ ap (λ l. m ∷ l) (shifted-none ms)

-- where matches that are no further on begin with one, so do they themselves
pub unshifted : {V : Type 0} (ms ns : List (Match V)) (m : Match V) → map (shifted 0) ms ≡ m ∷ map (shifted 0) ns → ms ≡ m ∷ ns
unshifted ms ns m e = sym (shifted-none ms) ∙ e ∙ ap (λ l. m ∷ l) (shifted-none ns)

-- the first of the matches further on, alone
pub first_shifted : {V : Type 0} (d : ℕ) (ms ns none : List (Match V)) (m : Match V) → map (shifted d) ms ≡ m ∷ ns → none ≡ [] → map (shifted d) (take 1 ms) ≡ m ∷ map (shifted d) none
first_shifted d [] ns none m e nothing = absurd (omega (arith, ap length e))
first_shifted {V} d (x ∷ ms) ns none m e nothing =
    let here : Match V = shifted d x in
    let rest : List (Match V) = map (shifted d) ms in
    let same : here ≡ m = cc in
    ap (λ y. y ∷ []) same ∙ ap (λ l. m ∷ map (shifted d) l) (sym nothing)

-- further on twice is further on by both
pub shifted-twice : {V : Type 0} (a b : ℕ) (ms : List (Match V)) → map (shifted a) (map (shifted b) ms) ≡ map (shifted (a + b)) ms
shifted-twice a b [] = refl
shifted-twice {V} a b (m ∷ ms) =
    let rest : List (Match V) = map (shifted a) (map (shifted b) ms) in
    ap (λ n. record { start = n; end = a + (b + m.end); value = m.value } ∷ rest) (sym (add_assoc a b m.start))
    ∙ ap (λ n. record { start = (a + b) + m.start; end = n; value = m.value } ∷ rest) (sym (add_assoc a b m.end))
    ∙ ap (λ l. shifted (a + b) m ∷ l) (shifted-twice a b ms)

module _ {V : Type 0} (width : ℕ → ℕ) (K : Dictionary V) where
  -- ---- keys that began before

  -- no end of p begins a key
  pub IsPast-root : (p w : List ℕ) → IsLong K p [] → IsPast K p w
  IsPast-root p w long = record {
    none = λ b x y ends some more cut. nil_of (K (b ++ x)) (λ key. let short : length b ≤ 0 = long.longest b ends (inr (x, key)) in omega (arith, short, some));
  }

  none_here : (w k b : List ℕ) → NoneStarts K 1 w → w ≡ k ++ b → K k ≡ []
  none_here w k b starts cut = nil_of (K k) (λ key. let late : 1 ≤ 0 = starts [] k b (record { parts = cut; key = key }) in omega (arith, late))

  starts_first : (n : ℕ) (w : List ℕ) → NoneStarts K (suc n) w → NoneStarts K 1 w
  starts_first n w starts = λ a k b o. (let late : suc n ≤ length a = starts a k b o in omega (arith, late))

  starts_later : (n u : ℕ) (w : List ℕ) → NoneStarts K (suc n) (u ∷ w) → NoneStarts K n w
  starts_later n u w starts = λ a k b o. (let late : suc n ≤ suc (length a) = starts (u ∷ a) k b (record { parts = ap (λ x. u ∷ x) o.parts; key = o.key }) in omega (arith, late))

  -- one more unit, at which no key starts
  IsPast-push : (p w : List ℕ) (u : ℕ) → IsPast K p (u ∷ w) → NoneStarts K 1 (u ∷ w) → IsPast K (p ++ u ∷ []) w
  IsPast-push p w u past starts = record {
    none = λ b x y ends some more cut. elim (IsSuffix-of_push p b u ends) [
      | inl empty ↦ absurd (omega (arith, some, ap length empty))
      | inr t ↦ ap (λ z. K (z ++ x)) t.2 ∙ ap K (append_assoc t.0 (u ∷ []) x) ∙ by t.0 t.1 x y cut
    ];
  }
    where
      by : (t : List ℕ) → IsSuffix t p → (x y : List ℕ) → w ≡ x ++ y → K (t ++ (u ∷ x)) ≡ []
      by [] ends x y cut = none_here (u ∷ w) (u ∷ x) y starts (ap (λ z. u ∷ z) cut)
      by (c ∷ t) ends x y cut = past.none (c ∷ t) (u ∷ x) y ends (omega arith) (omega arith) (ap (λ z. u ∷ z) cut)

  IsPast-front : (p front w : List ℕ) → IsPast K p (front ++ w) → NoneStarts K (length front) (front ++ w) → IsPast K (p ++ front) w
  IsPast-front p [] w past starts = let P : List ℕ → Type 0 = λ z. IsPast K z w in subst P (sym (append-nil p)) past
  IsPast-front p (u ∷ front) w past starts =
      let P : List ℕ → Type 0 = λ z. IsPast K z w in
      subst P (append_assoc p (u ∷ []) front)
      (IsPast-front (p ++ u ∷ []) front w (IsPast-push p (front ++ w) u past (starts_first (length front) (u ∷ (front ++ w)) starts)) (starts_later (length front) u (front ++ w) starts))

  -- nothing ends with a unit at which no key starts
  nothing_ends : (s e : ℕ) (p w : List ℕ) (u : ℕ) → IsPast K p (u ∷ w) → NoneStarts K 1 (u ∷ w) → ending_at width K s e (p ++ u ∷ []) ≡ []
  nothing_ends s e p w u past starts =
      let at : ℕ = s + size width p in
      ending_at-past width K s e p (u ∷ []) (λ b ends some. past.none b (u ∷ []) w ends some (omega arith) refl)
      ∙ ap (λ vs. map (λ v. record { start = at; end = e; value = v }) vs ++ matches_of K (at + width u) e []) (none_here (u ∷ w) (u ∷ []) w starts refl)
      ∙ ap (map (λ v. record { start = at + width u; end = e; value = v })) (none_here (u ∷ w) [] (u ∷ w) starts refl)

  -- where each end has the same matches further on, so has the whole
  past-shifted : (f : List ℕ → List (Match V)) (d : ℕ) (p v w : List ℕ) → ((x y : List ℕ) → v ++ w ≡ x ++ y → 0 < length x → f (p ++ x) ≡ map (shifted d) (f x)) → past_each_end f (p ++ v) w ≡ map (shifted d) (past_each_end f v w)
  past-shifted f d p v [] each = refl
  past-shifted f d p v (u ∷ w) each =
      let x : List ℕ = v ++ u ∷ [] in
      let text : v ++ (u ∷ w) ≡ x ++ w = sym (append_assoc v (u ∷ []) w) in
      at_each_end-split f ((p ++ v) ++ u ∷ []) w
      ∙ ap (λ t. f t ++ past_each_end f t w) (append_assoc p v (u ∷ []))
      ∙ ap (λ l. l ++ past_each_end f (p ++ x) w) (each x w text (omega (arith, length-append v (u ∷ []))))
      ∙ ap (λ l. map (shifted d) (f x) ++ l) (past-shifted f d p x w (λ y z cut. each y z (text ∙ cut)))
      ∙ sym (map-append (shifted d) (f x) (past_each_end f x w))
      ∙ ap (map (shifted d)) (sym (at_each_end-split f x w))

  -- ---- all matches that end at a place, or some of them

  module _ (g : List (Match V) → List (Match V)) (empty : g [] ≡ []) (even : (d : ℕ) (ms : List (Match V)) → g (map (shifted d) ms) ≡ map (shifted d) (g ms)) where
    abbrev at_end : List ℕ → List (Match V)
    at_end t = g (ending_at width K 0 (size width t) t)

    pass_over : (p front w : List ℕ) → IsPast K p (front ++ w) → NoneStarts K (length front) (front ++ w) → past_each_end at_end p (front ++ w) ≡ past_each_end at_end (p ++ front) w
    pass_over p [] w past starts = ap (λ t. past_each_end at_end t w) (sym (append-nil p))
    pass_over p (u ∷ front) w past starts =
        let first : NoneStarts K 1 (u ∷ (front ++ w)) = starts_first (length front) (u ∷ (front ++ w)) starts in
        let rest : List (Match V) = past_each_end at_end (p ++ u ∷ []) (front ++ w) in
        at_each_end-split at_end (p ++ u ∷ []) (front ++ w)
        ∙ ap (λ l. g l ++ rest) (nothing_ends 0 (size width (p ++ u ∷ [])) p (front ++ w) u past first)
        ∙ ap (λ l. l ++ rest) empty
        ∙ pass_over (p ++ u ∷ []) front w (IsPast-push p (front ++ w) u past first) (starts_later (length front) u (front ++ w) starts)
        ∙ ap (λ t. past_each_end at_end t w) (append_assoc p (u ∷ []) front)

    each_end : (p x y : List ℕ) → IsPast K p (x ++ y) → 0 < length x → at_end (p ++ x) ≡ map (shifted (size width p)) (at_end x)
    each_end p x y past some =
        ap g (matches_after-past width K p x (λ b ends long. past.none b x y ends long some refl)) ∙ even (size width p) (matches_after width K x)

    pub GoesOnAfresh-all : (read : List ℕ) → IsLong K read [] → GoesOnAfresh width K at_end read
    GoesOnAfresh-all read long front rest starts =
        let past : IsPast K read (front ++ rest) = IsPast-root read (front ++ rest) long in
        let before : List ℕ = read ++ front in
        let over : IsPast K before rest = IsPast-front read front rest past starts in
        let P : List ℕ → Type 0 = λ z. IsPast K before z in
        pass_over read front rest past starts
        ∙ ap (λ t. past_each_end at_end t rest) (sym (append-nil before))
        ∙ past-shifted at_end (size width before) before [] rest (λ x y cut some. each_end before x y (subst P cut over) some)

  -- ---- the standard search

  standard_from-over : (r : ℕ) (p front w : List ℕ) → IsPast K p (front ++ w) → NoneStarts K (length front) (front ++ w) → standard_from width K r p (front ++ w) ≡ standard_from width K r (p ++ front) w
  standard_from-over r p [] w past starts = ap (λ t. standard_from width K r t w) (sym (append-nil p))
  standard_from-over r p (u ∷ front) w past starts =
      let first : NoneStarts K 1 (u ∷ (front ++ w)) = starts_first (length front) (u ∷ (front ++ w)) starts in
      let x : List ℕ = p ++ u ∷ [] in let e : ℕ = r + size width x in
      ap (λ l. first_or l (standard_from width K r x (front ++ w)) (standard_from width K e [] (front ++ w))) (nothing_ends r e p (front ++ w) u past first)
      ∙ standard_from-over r x front w (IsPast-push p (front ++ w) u past first) (starts_later (length front) u (front ++ w) starts)
      ∙ ap (λ t. standard_from width K r t w) (append_assoc p (u ∷ []) front)

  module _ (wide : (u : ℕ) → 1 ≤ width u) where
    abbrev one_after : List ℕ → List (Match V)
    one_after t = option_to_list (standard_after width K t)

    -- what the search finds past its last match
    past-resumed : (before since w : List ℕ) → IsResumed width K before since → past_each_end one_after (before ++ since) w ≡ standard_from width K (size width before) since w
    past-resumed before since w resumed =
        append_cancel_left (one_after (before ++ since)) (past_each_end one_after (before ++ since) w) (standard_from width K (size width before) since w)
        (sym (at_each_end-split one_after (before ++ since) w) ∙ joined-from width K wide before since w resumed)

    pub GoesOnAfresh-standard : (before since : List ℕ) → IsResumed width K before since → IsLong K since [] → GoesOnAfresh width K one_after (before ++ since)
    GoesOnAfresh-standard before since resumed long front rest starts =
        let past : IsPast K since (front ++ rest) = IsPast-root since (front ++ rest) long in
        let after : List ℕ = since ++ front in
        let n : ℕ = size width ((before ++ since) ++ front) in
        let whole : size width before + size width after ≡ n + 0 = omega (arith, sym (size-append width before after), ap (size width) (append_assoc before since front)) in
        past-resumed before since (front ++ rest) resumed
        ∙ standard_from-over (size width before) since front rest past starts
        ∙ ap (λ t. standard_from width K (size width before) t rest) (sym (append-nil after))
        ∙ standard_from-past width K (size width before) after [] rest (IsPast-front since front rest past starts)
        ∙ ap (λ m. standard_from width K m [] rest) whole
        ∙ standard_from-shifted width K n 0 [] rest
        ∙ ap (map (shifted n)) (sym (past-resumed [] [] rest (IsResumed-begin width K wide resumed.no_empty)))

    -- with an empty key, at each end the same
    pub GoesOnAfresh-empty : (v : V) (vs : List V) → K [] ≡ v ∷ vs → (read : List ℕ) → GoesOnAfresh width K one_after read
    GoesOnAfresh-empty v vs has read (u ∷ front) rest starts =
        let late : suc (length front) ≤ 0 = starts [] [] (u ∷ (front ++ rest)) (record { parts = refl; key = λ none. omega (arith, ap length (sym has ∙ none)) }) in
        absurd (omega (arith, late))
    GoesOnAfresh-empty v vs has read [] rest starts =
        let before : List ℕ = read ++ [] in
        ap (λ t. past_each_end one_after t rest) (sym (append-nil read) ∙ sym (append-nil before))
        ∙ past-shifted one_after (size width before) before [] rest (λ x y cut some. each before x)
      where
        each : (p x : List ℕ) → one_after (p ++ x) ≡ map (shifted (size width p)) (one_after x)
        each p x =
            ap option_to_list (standard_after-empty width K wide v vs has (p ++ x))
            ∙ ap (λ n. record { start = n; end = n; value = v } ∷ []) (size-append width p x)
            ∙ ap (λ o. map (shifted (size width p)) (option_to_list o)) (sym (standard_after-empty width K wide v vs has x))
