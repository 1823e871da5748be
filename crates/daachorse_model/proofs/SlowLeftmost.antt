-- Steps of the plain leftmost search over the definitions: one more place, one more beginning or one more pattern.
use Rattle.std.proofs.Common.{◌≡◌, ℕ, zero, suc, ◌+◌, ◌-◌, ◌<◌, ◌≤◌, ◌⊎◌, inl, inr, Bool, true, false, cond, ◌&&◌, ◌||◌, nat_eq, nat_lt, List, [], ◌∷◌, ◌++◌, length, take, drop, get_or, Option, Some, None, IfSome, slice_get, option_map, refl, sym, ap, ◌∙◌, subst, arith, add-one, append-nil, Bor}
use Rattle.std.specs.Option.{option_or}
use Rattle.std.specs.List.{list_any, starts_with}
use Rattle.std.proofs.lemmas.List.{map-append, append_assoc, length-take-le, length-drop}
use Rattle.std.proofs.lemmas.Bool.{lt-ltb}
use Rattle.std.proofs.Math.Seq.{take-suc}
use Rattle.daachorse_model.specs.declared.Match.{Match}
use Rattle.daachorse_model.specs.declared.slow.leftmost.Longest.{Longest}
use Rattle.daachorse_model.specs.Units.{size}
use Rattle.daachorse_model.specs.Dictionary.{Dictionary, is_proper_prefix, without_extensions, registrations_of}
use Rattle.daachorse_model.specs.Leftmost.{key_with_value, longest_key, match_at, units_to_skip, is_after, leftmost_from}
use Rattle.daachorse_model.specs.Slow.{key_found, skip_of, after_of}
use Rattle.daachorse_model.proofs.SlowLaws.{drop-item, drop-next, drop-all, take-all, take-rest, size-join, size-next}
use Rattle.daachorse_model.proofs.Booleans.{and-false, or-none, or-turned}
use Rattle.daachorse_model.proofs.Searches.{leftmost_from-skip}

-- ---- the patterns that count

-- the texts of the registrations, the last first
abbrev pub texts_before : {V : Type 0} → List (List ℕ × V) → List (List ℕ) → List (List ℕ)
texts_before [] before = before
texts_before (r ∷ rs) before = texts_before rs (r.0 ∷ before)

texts_before-push : {V : Type 0} (rs : List (List ℕ × V)) (r : List ℕ × V) (before : List (List ℕ)) → texts_before (rs ++ r ∷ []) before ≡ r.0 ∷ texts_before rs before
texts_before-push [] r before = refl
texts_before-push (q ∷ rs) r before = texts_before-push rs r (q.0 ∷ before)

list_any-texts_before : {V : Type 0} (p : List ℕ → Bool) (rs : List (List ℕ × V)) (before : List (List ℕ)) → list_any p (texts_before rs before) ≡ (list_any (λ r. p r.0) rs || list_any p before)
list_any-texts_before p [] before = refl
list_any-texts_before p (r ∷ rs) before = list_any-texts_before p rs (r.0 ∷ before) ∙ or-turned (list_any (λ q. p q.0) rs) (p r.0) (list_any p before)

cond-front : {A : Type 0} (b : Bool) (x : A) (xs : List A) → cond b xs (x ∷ xs) ≡ cond b [] (x ∷ []) ++ xs
cond-front true x xs = refl
cond-front false x xs = refl

-- one more pattern stays, unless an earlier one is a proper prefix of it
pub without_extensions-next : {V : Type 0} (ps : List (Bor (List ℕ) × V)) (i : ℕ) (p : Bor (List ℕ) × V) (drops : Bool) → i < length ps → p ≡ get_or ps i p
    → drops ≡ list_any (λ r. is_proper_prefix r.0 p.0.now) (registrations_of (take i ps))
    → without_extensions (texts_before (registrations_of (take i ps)) []) (registrations_of (drop i ps))
    ≡ cond drops [] ((p.0.now, p.1) ∷ []) ++ without_extensions (texts_before (registrations_of (take (i + 1) ps)) []) (registrations_of (drop (i + 1) ps))
without_extensions-next ps i p drops h is t =
    let more : registrations_of (take (i + 1) ps) ≡ registrations_of (take i ps) ++ (p.0.now, p.1) ∷ [] = rw (add-one, take-suc ps i p h, ← is) (map-append (λ q. (q.0.now, q.1)) (take i ps) (p ∷ [])) in
    let before = texts_before (registrations_of (take i ps)) [] in
    let same : list_any (λ q. is_proper_prefix q p.0.now) before ≡ drops = list_any-texts_before (λ q. is_proper_prefix q p.0.now) (registrations_of (take i ps)) [] ∙ (or-none (list_any (λ r. is_proper_prefix r.0 p.0.now) (registrations_of (take i ps))) ∙ sym t) in
    rw (drop-item ps i p h is, more, texts_before-push, same) (cond-front drops (p.0.now, p.1) (without_extensions (p.0.now ∷ before) (registrations_of (drop (i + 1) ps))))

pub is_proper_prefix-long : (p w : List ℕ) → length w ≤ length p → is_proper_prefix p w ≡ false
is_proper_prefix-long p [] h = refl
is_proper_prefix-long [] (u ∷ w) h = absurd (omega arith)
is_proper_prefix-long (a ∷ p) (u ∷ w) h = rw (is_proper_prefix-long p w (omega arith)) (and-false (nat_eq a u))

-- a proper prefix is shorter and stands at the beginning
pub is_proper_prefix-starts : (p w : List ℕ) → length p < length w → is_proper_prefix p w ≡ starts_with nat_eq w p
is_proper_prefix-starts p [] less = absurd (omega arith)
is_proper_prefix-starts [] (u ∷ w) less = refl
is_proper_prefix-starts (a ∷ p) (u ∷ w) less = ap (λ b. nat_eq a u && b) (is_proper_prefix-starts p w (omega arith))

-- one more pattern: it is dropped, or stays
pub without_extensions-step : {V : Type 0} (ps : List (Bor (List ℕ) × V)) (i : ℕ) (p : Bor (List ℕ) × V) (drops : Bool) (kept more : List (Bor (List ℕ) × V)) (all : List (List ℕ × V))
    → i < length ps → p ≡ get_or ps i p → drops ≡ list_any (λ r. is_proper_prefix r.0 p.0.now) (registrations_of (take i ps))
    → ((drops ≡ true) × (more ≡ kept)) ⊎ ((drops ≡ false) × (more ≡ kept ++ (p.0, p.1) ∷ []))
    → registrations_of kept ++ without_extensions (texts_before (registrations_of (take i ps)) []) (registrations_of (drop i ps)) ≡ all
    → registrations_of more ++ without_extensions (texts_before (registrations_of (take (i + 1) ps)) []) (registrations_of (drop (i + 1) ps)) ≡ all
without_extensions-step ps i p drops kept more all h is t (inl (out, same)) so_far =
    let rest = without_extensions (texts_before (registrations_of (take (i + 1) ps)) []) (registrations_of (drop (i + 1) ps)) in
    let next = without_extensions-next ps i p drops h is t in
    rw same (ap (λ l. registrations_of kept ++ l) (sym (next ∙ ap (λ b. cond b [] ((p.0.now, p.1) ∷ []) ++ rest) out)) ∙ so_far)
without_extensions-step ps i p drops kept more all h is t (inr (stays, longer)) so_far =
    let rest = without_extensions (texts_before (registrations_of (take (i + 1) ps)) []) (registrations_of (drop (i + 1) ps)) in
    let next = without_extensions-next ps i p drops h is t in
    rw (longer, map-append) (append_assoc (registrations_of kept) ((p.0.now, p.1) ∷ []) rest
    ∙ (ap (λ l. registrations_of kept ++ l) (sym (next ∙ ap (λ b. cond b [] ((p.0.now, p.1) ∷ []) ++ rest) stays)) ∙ so_far))

-- ---- the longest key

option_or-assoc : {A : Type 0} (a b c : Option A) → option_or (option_or a b) c ≡ option_or a (option_or b c)
option_or-assoc None b c = refl
option_or-assoc (Some x) b c = refl

key_found-longer : {V : Type 0} (text t : List ℕ) → take (length t) text ≡ t → (value : Option V) (best : Option (Longest V))
    → key_found text (option_or (option_map (λ v. record { units = length t; value = v }) value) best) ≡ option_or (option_map (λ v. (t, v)) value) (key_found text best)
key_found-longer text t same None best = refl
key_found-longer text t same (Some v) best = ap (λ x. Some (x, v)) same

pub within-longer : {V : Type 0} (value : Option V) (n most : ℕ) (best more : Option (Longest V)) → n ≤ most → more ≡ option_or (option_map (λ v. record { units = n; value = v }) value) best
    → IfSome best (λ b. b.units ≤ most) → IfSome more (λ b. b.units ≤ most)
within-longer value n most best more fits is within = let P : Option (Longest _) → Type 0 = λ o. IfSome o (λ b. b.units ≤ most) in subst P (sym is) (by_value value)
  where
    by_value : (o : Option _) → IfSome (option_or (option_map (λ v. record { units = n; value = v }) o) best) (λ b. b.units ≤ most)
    by_value None = within
    by_value (Some v) = fits

-- one more beginning of the text
pub longest_key-next : {V : Type 0} (K : Dictionary V) (text : List ℕ) (i : ℕ) (best more : Option (Longest V)) → i < length text
    → more ≡ option_or (option_map (λ v. record { units = length (take i text); value = v }) (slice_get (K (take i text)) 0)) best
    → option_or (longest_key K (take (i + 1) text) (drop (i + 1) text)) (key_found text more) ≡ option_or (longest_key K (take i text) (drop i text)) (key_found text best)
longest_key-next K text i best more lt is =
    let t = take i text in
    let later = longest_key K (take (i + 1) text) (drop (i + 1) text) in
    let joined : t ++ get_or text i 0 ∷ [] ≡ take (i + 1) text = sym (take-suc text i 0 lt) ∙ ap (λ n. take n text) (sym (add-one i)) in
    let here : longest_key K t (drop i text) ≡ option_or later (key_with_value K t) =
    ap (longest_key K t) (drop-next text i lt) ∙ ap (λ x. option_or (longest_key K x (drop (i + 1) text)) (key_with_value K t)) joined in
    let found : key_found text more ≡ option_or (key_with_value K t) (key_found text best) =
    ap (key_found text) is ∙ key_found-longer text t (ap (λ n. take n text) (length-take-le i text (omega arith))) (slice_get (K t) 0) best in
    ap (option_or later) found ∙ (sym (option_or-assoc later (key_with_value K t) (key_found text best)) ∙ ap (λ o. option_or o (key_found text best)) (sym here))

-- ---- what is given at a place

key_length : (text : List ℕ) (n : ℕ) → n ≤ length text → length (take n text) ≡ n
key_length text n h = length-take-le n text h

skip-key : {V : Type 0} (w : List ℕ) (v : V) (n : ℕ) → length w ≡ n → units_to_skip (Some (w, v)) ≡ n - 1
skip-key [] v n e = omega (arith, e)
skip-key (c ∷ w) v n e = omega (arith, e)

after-key : {V : Type 0} (after : Bool) (w : List ℕ) (v : V) (n : ℕ) → length w ≡ n → is_after after (Some (w, v)) ≡ nat_lt 0 n
after-key after [] v n e = ap (nat_lt 0) e
after-key after (c ∷ w) v n e = sym (lt-ltb 0 n (omega (arith, e)))

skip-found : {V : Type 0} (text : List ℕ) (best : Option (Longest V)) → IfSome best (λ b. b.units ≤ length text) → units_to_skip (key_found text best) ≡ skip_of best
skip-found text None h = refl
skip-found text (Some b) h = skip-key (take b.units text) b.value b.units (key_length text b.units h)

after-found : {V : Type 0} (after : Bool) (text : List ℕ) (best : Option (Longest V)) → IfSome best (λ b. b.units ≤ length text) → is_after after (key_found text best) ≡ after_of after best
after-found after text None h = refl
after-found after text (Some b) h = after-key after (take b.units text) b.value b.units (key_length text b.units h)

module _ {V : Type 0} (width : ℕ → ℕ) where
  match_at-key : (s e : ℕ) (after : Bool) (w : List ℕ) (v : V) → (after ≡ false) ⊎ (0 < length w) → s + size width w ≡ e → match_at width s after (Some (w, v)) ≡ record { start = s; end = e; value = v } ∷ []
  match_at-key s e after [] v (inl bare) sum = let at : s ≡ e = omega (arith, sum) in rw bare (ap (λ n. record { start = s; end = n; value = v } ∷ []) at)
  match_at-key s e after [] v (inr some) sum = absurd (omega arith)
  match_at-key s e after (c ∷ w) v h sum = ap (λ n. record { start = s; end = n; value = v } ∷ []) sum

  pub match_at-found : (h : List ℕ) (read s e : ℕ) (after : Bool) (b : Longest V) → read + b.units ≤ length h → (after ≡ false) ⊎ (0 < b.units)
      → s ≡ size width (take read h) → e ≡ size width (take (read + b.units) h)
      → match_at width (size width (take read h)) after (key_found (drop read h) (Some b)) ≡ record { start = s; end = e; value = b.value } ∷ []
  match_at-found h read s e after b inside shown start end =
      let key = take b.units (drop read h) in
      let units : length key ≡ b.units = key_length (drop read h) b.units (rw length-drop (omega arith)) in
      let some : (after ≡ false) ⊎ (0 < length key) = elim shown [ inl bare ↦ inl bare | inr more ↦ inr (omega (arith, units, more)) ] in
      rw (← start) (match_at-key s e after key b.value some (omega (arith, start, end, size-join width h read b.units (read + b.units) refl)))

module _ {V : Type 0} (width : ℕ → ℕ) (K : Dictionary V) where
  -- a unit that belongs to the match given last
  leftmost_from-covered : (h : List ℕ) (i skip : ℕ) (after : Bool) → i < length h → 0 < skip
      → leftmost_from width K (size width (take i h)) skip after (drop i h) ≡ leftmost_from width K (size width (take (i + 1) h)) (skip - 1) after (drop (i + 1) h)
  leftmost_from-covered h i skip after lt some =
      let place : size width (take i h) + size width (get_or h i 0 ∷ []) ≡ size width (take (i + 1) h) = omega (arith, size-next width h i lt) in
      ap (leftmost_from width K (size width (take i h)) skip after) (drop-next h i lt)
      ∙ (leftmost_from-skip width K (size width (take i h)) skip (skip - 1) after (get_or h i 0 ∷ []) (drop (i + 1) h) (omega arith) ∙ ap (λ n. leftmost_from width K n (skip - 1) after (drop (i + 1) h)) place)

  -- a place that is looked at
  pub leftmost_from-start : (h : List ℕ) (i : ℕ) (after : Bool) (best : Option (Longest V)) → i < length h
      → key_found (drop i h) best ≡ longest_key K [] (drop i h) → IfSome best (λ b. b.units ≤ length (drop i h))
      → leftmost_from width K (size width (take i h)) 0 after (drop i h)
      ≡ match_at width (size width (take i h)) after (key_found (drop i h) best) ++ leftmost_from width K (size width (take (i + 1) h)) (skip_of best) (after_of after best) (drop (i + 1) h)
  leftmost_from-start h i after best lt is within =
      looked (get_or h i 0) (drop i h) (drop (i + 1) h) (key_found (drop i h) best) (skip_of best) (after_of after best) (size width (take i h)) (size width (take (i + 1) h))
      (drop-next h i lt) is (skip-found (drop i h) best within) (after-found after (drop i h) best within) (size-next width h i lt)
    where
      looked : (u : ℕ) (w rest : List ℕ) (found : Option (List ℕ × V)) (skip : ℕ) (later : Bool) (s e : ℕ) → w ≡ u ∷ rest → found ≡ longest_key K [] w
          → units_to_skip found ≡ skip → is_after after found ≡ later → e ≡ s + width u
          → leftmost_from width K s 0 after w ≡ match_at width s after found ++ leftmost_from width K e skip later rest
      looked u w rest found skip later s e cut best to_skip then sum = rw (← to_skip, ← then, sum, best, cut) refl

  -- nothing is left
  pub leftmost_from-last : (h : List ℕ) (i : ℕ) (after : Bool) (best : Option (Longest V)) → length h ≤ i → key_found [] best ≡ longest_key K [] []
      → leftmost_from width K (size width (take i h)) 0 after (drop i h) ≡ match_at width (size width h) after (key_found [] best)
  leftmost_from-last h i after best all is = rw (take-all h i all, drop-all h i all, is) refl

  pub leftmost_from-skipped : (h : List ℕ) (i skip : ℕ) (after : Bool) → length h ≤ i → 0 < skip → leftmost_from width K (size width (take i h)) skip after (drop i h) ≡ []
  leftmost_from-skipped h i zero after all some = absurd (omega arith)
  leftmost_from-skipped h i (suc skip) after all some = rw (drop-all h i all) refl

  -- what is still given from place i on
  abbrev pub leftmost_left : List ℕ → ℕ → ℕ → Bool → List (Match V)
  leftmost_left h i skip after = leftmost_from width K (size width (take i h)) skip after (drop i h)

  -- `best` is the longest key that begins the text
  pub record IsLongestIn (text : List ℕ) (best : Option (Longest V)) : Type 0 where
    pub key : key_found text best ≡ longest_key K [] text
    pub within : IfSome best (λ b. b.units ≤ length text)

  -- one more place: it belongs to the match given last, or is looked at
  pub leftmost_left-next : (h : List ℕ) (i skip later : ℕ) (after then : Bool) (found more all : List (Match V)) → i < length h
      → ((0 < skip) × (more ≡ found) × (later ≡ skip - 1) × (then ≡ after))
      ⊎ ((best : Option (Longest V)) × (skip ≡ 0) × IsLongestIn (take (length h - i) (drop i h)) best
      × (more ≡ found ++ match_at width (size width (take i h)) after (key_found (drop i h) best)) × (later ≡ skip_of best) × (then ≡ after_of after best))
      → found ++ leftmost_left h i skip after ≡ all → more ++ leftmost_left h (i + 1) later then ≡ all
  leftmost_left-next h i skip later after then found more all lt (inl (some, same, less, stays)) so_far =
      rw (same, less, stays) (ap (λ l. found ++ l) (sym (leftmost_from-covered h i skip after lt some)) ∙ so_far)
  leftmost_left-next h i skip later after then found more all lt (inr (best, none, longest, longer, to_skip, is)) so_far =
      let P : List ℕ → Type 0 = λ text. IsLongestIn text best in
      let here : IsLongestIn (drop i h) best = subst P (take-rest h i) longest in
      let Q : ℕ → Type 0 = λ n. found ++ leftmost_left h i n after ≡ all in
      let from : found ++ leftmost_left h i 0 after ≡ all = subst Q none so_far in
      rw (longer, to_skip, is) (append_assoc found (match_at width (size width (take i h)) after (key_found (drop i h) best)) (leftmost_left h (i + 1) (skip_of best) (after_of after best))
      ∙ (ap (λ l. found ++ l) (sym (leftmost_from-start h i after best lt here.key here.within)) ∙ from))

  -- the last place, where nothing is left
  pub leftmost_left-last : (h : List ℕ) (i skip : ℕ) (after : Bool) (found more all : List (Match V)) → length h ≤ i
      → ((best : Option (Longest V)) × (skip ≡ 0) × (key_found [] best ≡ longest_key K [] []) × (more ≡ found ++ match_at width (size width (take (length h) h)) after (key_found (drop (length h) h) best)))
      ⊎ ((0 < skip) × (more ≡ found))
      → found ++ leftmost_left h i skip after ≡ all → more ≡ all
  leftmost_left-last h i skip after found more all end (inl (best, none, longest, longer)) so_far =
      let Q : ℕ → Type 0 = λ n. found ++ leftmost_left h i n after ≡ all in
      let from : found ++ leftmost_left h i 0 after ≡ all = subst Q none so_far in
      let whole : length h ≤ length h = omega arith in
      longer ∙ (ap (λ w. found ++ match_at width (size width w) after (key_found (drop (length h) h) best)) (take-all h (length h) whole)
      ∙ (ap (λ w. found ++ match_at width (size width h) after (key_found w best)) (drop-all h (length h) whole)
      ∙ (ap (λ l. found ++ l) (sym (leftmost_from-last h i after best end longest)) ∙ from)))
  leftmost_left-last h i skip after found more all end (inr (some, same)) so_far =
      same ∙ (sym (append-nil found) ∙ (ap (λ l. found ++ l) (sym (leftmost_from-skipped h i skip after end some)) ∙ so_far))
