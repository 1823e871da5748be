-- The standard search, further on: it gains matches that begin after those before them, and take no more bytes than the longest key. With
-- one unit it gains at most one.
use Rattle.std.proofs.Common.{
  ◌≡◌,
  ◌≢◌,
  ◌⊎◌,
  inl,
  inr,
  ℕ,
  ◌+◌,
  ◌≤◌,
  ◌==◌,
  Bool,
  true,
  false,
  cond,
  List,
  [],
  ◌∷◌,
  ◌++◌,
  length,
  Option,
  Some,
  None,
  refl,
  sym,
  ap,
  ◌∙◌,
  subst,
  append_assoc,
  append-nil,
  arith,
}
use Rattle.std.specs.Prelude.{All, find, option_to_list, ⊤}
use Rattle.std.proofs.lemmas.Bool.{eqb-true}
use Rattle.std.proofs.lemmas.List.Elements.{All-head, All-tail}
use Rattle.daachorse_model.specs.declared.Match.{Match}
use Rattle.daachorse_model.specs.Dictionary.{Dictionary}
use Rattle.daachorse_model.specs.Folding.{as_read}
use Rattle.daachorse_model.specs.Laws.{Follows, IsOccurrence}
use Rattle.daachorse_model.specs.Matches.{at_each_end, last_end, standard, standard_after}
use Rattle.daachorse_model.specs.Units.{size}
use Rattle.daachorse_model.proofs.Overlap.{Follows-earlier}
use Rattle.daachorse_model.proofs.Suffixes.{size-push}
use Rattle.daachorse_model.proofs.Find.{standard_apart, standard_occur}
use Rattle.daachorse_model.proofs.StandardEnds.{standard-joined}
use Rattle.daachorse_streams.specs.Streams.{HasNoLonger}

at_each_end-push : {A : Type 0} (f : List ℕ → List A) (t w : List ℕ) (u : ℕ)
    → at_each_end f t (w ++ u ∷ []) ≡ at_each_end f t w ++ f ((t ++ w) ++ u ∷ [])
at_each_end-push f t [] u = ap (λ l. f t ++ f (l ++ u ∷ [])) (sym (append-nil t))
at_each_end-push f t (v ∷ w) u =
    ap (λ l. f t ++ l) (at_each_end-push f (t ++ v ∷ []) w u)
    ∙ sym (append_assoc (f t) (at_each_end f (t ++ v ∷ []) w) (f (((t ++ v ∷ []) ++ w) ++ u ∷ [])))
    ∙ ap (λ l. (f t ++ at_each_end f (t ++ v ∷ []) w) ++ f (l ++ u ∷ [])) (append_assoc t (v ∷ []) w)

-- what f gives of the longer beginnings of the haystack
abbrev after_each : {A : Type 0} → (List ℕ → List A) → List ℕ → List ℕ → List A
after_each f t [] = []
after_each f t (u ∷ d) = at_each_end f (t ++ u ∷ []) d

at_each_end-append : {A : Type 0} (f : List ℕ → List A) (t w d : List ℕ)
    → at_each_end f t (w ++ d) ≡ at_each_end f t w ++ after_each f (t ++ w) d
at_each_end-append f t [] [] = sym (append-nil (f t))
at_each_end-append f t [] (u ∷ d) = ap (λ l. f t ++ at_each_end f (l ++ u ∷ []) d) (sym (append-nil t))
at_each_end-append f t (v ∷ w) d =
    ap (λ l. f t ++ l) (at_each_end-append f (t ++ v ∷ []) w d)
    ∙ sym (append_assoc (f t) (at_each_end f (t ++ v ∷ []) w) (after_each f ((t ++ v ∷ []) ++ w) d))
    ∙ ap (λ l. (f t ++ at_each_end f (t ++ v ∷ []) w) ++ after_each f l d) (append_assoc t (v ∷ []) w)

-- what is found is in the list, and passes
found_passes : {A : Type 0} (P : A → Type 0) (p : A → Bool) (xs : List A) (x : A) → All P xs → find p xs ≡ Some x → P x × (p x ≡ true)
found_passes P p [] x all is = absurd (cc)
found_passes P p (y ∷ ys) x all is = here (λ rest. found_passes P p ys x (All-tail P y ys all) rest) (p y) refl
  where
    here : (find p ys ≡ Some x → P x × (p x ≡ true)) → (b : Bool) → p y ≡ b → P x × (p x ≡ true)
    here later true e =
        let first : Some y ≡ Some x = sym (ap (λ b. cond b (Some y) (find p ys)) e) ∙ is in
        let same : y ≡ x = cc in
        (subst P same (All-head P y ys all), subst (λ z. p z ≡ true) same e)
    here later false e = later (sym (ap (λ b. cond b (Some y) (find p ys)) e) ∙ is)

pub last_end-push : {V : Type 0} (r : ℕ) (ms : List (Match V)) (m : Match V) → last_end r (ms ++ m ∷ []) ≡ m.end
last_end-push r [] m = refl
last_end-push r (n ∷ ms) m = last_end-push n.end ms m

-- matches after others follow the last of them
pub Follows-behind : {V : Type 0} (s : ℕ) (before ms : List (Match V)) → Follows s (before ++ ms) → Follows (last_end s before) ms
Follows-behind s [] ms follows = follows
Follows-behind s (m ∷ before) ms follows = Follows-behind m.end before ms follows.2

-- the first match, if there is one, starts at s or later
abbrev pub StartsFrom : {V : Type 0} → ℕ → List (Match V) → Type 0
StartsFrom s [] = ⊤
StartsFrom s (m ∷ ms) = s ≤ m.start

pub Follows-from : {V : Type 0} (r s : ℕ) (ms : List (Match V)) → Follows r ms → StartsFrom s ms → Follows s ms
Follows-from r s [] follows from = tt
Follows-from r s (m ∷ ms) follows from = (from, follows.1, follows.2)

starts_in_front : {V : Type 0} (s : ℕ) (o : Option (Match V)) (ms : List (Match V)) → ((m : Match V) → o ≡ Some m → s ≤ m.start)
    → StartsFrom s ms → StartsFrom s (option_to_list o ++ ms)
starts_in_front s None ms late from = from
starts_in_front s (Some m) ms late from = late m refl

Follows-last : {V : Type 0} (r : ℕ) (ms : List (Match V)) (m : Match V) → Follows r (ms ++ m ∷ []) → last_end r ms ≤ m.start
Follows-last r [] m after = after.0
Follows-last r (n ∷ ms) m after = Follows-last n.end ms m after.2

module _ {V : Type 0} (width : ℕ → ℕ) (K : Dictionary V) where
  pub standard-behind : (done : List (Match V)) (m : Match V) (read : List ℕ) → standard width K read ≡ done ++ m ∷ []
      → last_end 0 done ≤ m.start
  standard-behind done m read is = Follows-last 0 done m (subst (Follows 0) is (standard_apart width K read))

  -- the match is at the end, and is no longer than the longest key
  pub record EndsHere (longest : ℕ) (read : List ℕ) (m : Match V) : Type 0 where
    pub ends : m.end ≡ size width read
    pub ordered : m.start ≤ m.end
    pub short : m.end ≤ m.start + longest

  pub standard_after-ends : (longest : ℕ) → HasNoLonger width K longest → (read : List ℕ) (m : Match V)
      → standard_after width K read ≡ Some m → EndsHere longest read m
  standard_after-ends longest bound read m is =
      let found = found_passes (IsOccurrence width K read) (λ x. x.end == size width read) (standard width K read) m
      (standard_occur width K read) is in
      let o = found.0 in
      let some : K o.key ≢ [] = λ none. absurd (omega (arith, o.has.1, ap length none)) in
      let short : size width o.key ≤ longest = bound o.key some in
      record {
        ends = eqb-true m.end (size width read) found.1;
        ordered = omega (arith, o.starts, o.ends);
        short = omega (arith, o.starts, o.ends, short);
      }

  module _ (longest : ℕ) (bound : HasNoLonger width K longest) (s : ℕ) where
    -- no match that ends after t starts before s, where the longest key does not reach back from the end of t so far
    starts_late : (t d : List ℕ) → s + longest ≤ size width t
        → StartsFrom s (at_each_end (λ t. option_to_list (standard_after width K t)) t d)
    starts_late t [] late =
        subst (StartsFrom s) (append-nil (option_to_list (standard_after width K t)))
        (starts_in_front s (standard_after width K t) [] (λ m is. here t m late is) tt)
      where
        here : (t : List ℕ) (m : Match V) → s + longest ≤ size width t → standard_after width K t ≡ Some m → s ≤ m.start
        here t m late is = let ends = standard_after-ends longest bound t m is in omega (arith, ends.ends, ends.short, late)
    starts_late t (u ∷ d) late =
        starts_in_front s (standard_after width K t) _
        (λ m is. (let ends = standard_after-ends longest bound t m is in omega (arith, ends.ends, ends.short, late)))
        (starts_late (t ++ u ∷ []) d (omega (arith, late, size-push width t u)))

    starts_after : (t d : List ℕ) → s + longest ≤ size width t
        → StartsFrom s (after_each (λ t. option_to_list (standard_after width K t)) t d)
    starts_after t [] late = tt
    starts_after t (u ∷ d) late = starts_late (t ++ u ∷ []) d (omega (arith, late, size-push width t u))

    -- However the haystack goes on, its search adds matches to those found. They start at s or later, if the last found ends there or
    -- later, or the longest key does not reach back so far.
    pub standard-late : ((u : ℕ) → 1 ≤ width u) → (read d : List ℕ) (done : List (Match V)) → standard width K read ≡ done
        → (s ≤ last_end 0 done) ⊎ (s + longest ≤ size width read)
        → (ms : List (Match V)) × (standard width K (read ++ d) ≡ done ++ ms) × Follows s ms
    standard-late wide read d done is behind =
        let ends : List ℕ → List (Match V) = λ t. option_to_list (standard_after width K t) in
        let ms : List (Match V) = after_each ends read d in
        let all : standard width K (read ++ d) ≡ done ++ ms =
        sym (standard-joined width K wide (read ++ d)) ∙ at_each_end-append ends [] read d
        ∙ ap (λ l. l ++ ms) (standard-joined width K wide read ∙ is) in
        let after : Follows (last_end 0 done) ms =
        Follows-behind 0 done ms (subst (Follows 0) all (standard_apart width K (read ++ d))) in (
          ms,
          all,
          elim behind [
            | inl p ↦ Follows-earlier s (last_end 0 done) ms p after
            | inr p ↦ Follows-from (last_end 0 done) s ms after
                (starts_after read d p)
          ],
        )

  module _ (wide : (u : ℕ) → 1 ≤ width u) where
    pub standard-first : standard width K [] ≡ [] ++ option_to_list (standard_after width K [])
    standard-first = sym (standard-joined width K wide [])

    standard-push : (read : List ℕ) (u : ℕ)
        → standard width K (read ++ u ∷ []) ≡ standard width K read ++ option_to_list (standard_after width K (read ++ u ∷ []))
    standard-push read u =
        sym (standard-joined width K wide (read ++ u ∷ []))
        ∙ at_each_end-push (λ t. option_to_list (standard_after width K t)) [] read u
        ∙ ap (λ l. l ++ option_to_list (standard_after width K (read ++ u ∷ []))) (standard-joined width K wide read)

    -- one unit more, as it is read
    pub standard-more : (folds : Bool) (read : List ℕ) (u : ℕ)
        → standard width K (read ++ as_read folds (u ∷ [])) ≡ standard width K read ++ option_to_list
        (standard_after width K (read ++ as_read folds (u ∷ [])))
    standard-more true read u = standard-push read _
    standard-more false read u = standard-push read u
