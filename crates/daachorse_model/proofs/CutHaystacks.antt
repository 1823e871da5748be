-- A unit that no key has cuts each haystack: no key begins before it and ends behind it, so what is found behind it is what is found from there on alone.
use Rattle.std.proofs.Common.{◌≡◌, ℕ, zero, suc, ◌+◌, ◌<◌, ◌≤◌, inl, inr, Bool, false, Option, Some, None, List, [], ◌∷◌, ◌++◌, length, map, take, refl, sym, ap, ◌∙◌, append_assoc, append-nil, add_assoc, length-append, arith}
use Rattle.std.specs.Option.{option_or}
use Rattle.std.proofs.lemmas.List.{map-append, take-map}
use Rattle.std.proofs.lemmas.List.Elements.{Contains-append_right}
use Rattle.daachorse_model.specs.declared.Match.{Match}
use Rattle.daachorse_model.specs.Units.{size}
use Rattle.daachorse_model.specs.Dictionary.{Dictionary}
use Rattle.daachorse_model.specs.Matches.{matches_of, at_each_end, ending_at, matches_after, overlapping, no_suffix, empty_matches, standard_from, standard, shifted}
use Rattle.daachorse_model.specs.Leftmost.{key_with_value, longest_key, match_at, units_to_skip, is_after, leftmost_from, leftmost}
use Rattle.daachorse_model.specs.Prefixes.{IsSuffix}
use Rattle.daachorse_model.specs.Laws.{StandsInNoKey, IsCutBy}
use Rattle.daachorse_model.proofs.Suffixes.{size-append, IsSuffix-of_push}
use Rattle.daachorse_model.proofs.Lists.{nil_of}
use Rattle.daachorse_model.proofs.Searches.{first_or, key_with_value-none}
use Rattle.daachorse_model.proofs.Earliest.{longest_key-none}
use Rattle.daachorse_model.proofs.Overlap.{longest_key-begins}
use Rattle.daachorse_model.proofs.Shifts.{ending_at-shifted, standard_from-shifted, leftmost_from-shifted, ending_at-past, matches_after-past, standard_from-past}

-- ---- at each end

at_each_end-append : {A : Type 0} (f : List ℕ → List A) (t front : List ℕ) (u : ℕ) (back : List ℕ)
    → at_each_end f t (front ++ u ∷ back) ≡ at_each_end f t front ++ at_each_end f (t ++ (front ++ u ∷ [])) back
at_each_end-append f t [] u back = refl
at_each_end-append f t (c ∷ front) u back =
    let x = t ++ c ∷ [] in
    ap (λ l. f t ++ l) (at_each_end-append f x front u back)
    ∙ ap (λ y. f t ++ (at_each_end f x front ++ at_each_end f y back)) (append_assoc t (c ∷ []) (front ++ u ∷ []))
    ∙ sym (append_assoc (f t) (at_each_end f x front) (at_each_end f (t ++ (c ∷ front ++ u ∷ [])) back))

at_each_end-behind : {A : Type 0} (f : List ℕ → List A) (g : A → A) (p t w : List ℕ) → ((x : List ℕ) → f (p ++ x) ≡ map g (f x)) → at_each_end f (p ++ t) w ≡ map g (at_each_end f t w)
at_each_end-behind f g p t [] each = each t
at_each_end-behind f g p t (c ∷ w) each =
    let x = t ++ c ∷ [] in
    ap (λ y. f (p ++ t) ++ at_each_end f y w) (append_assoc p t (c ∷ []))
    ∙ ap (λ l. l ++ at_each_end f (p ++ x) w) (each t)
    ∙ ap (λ l. map g (f t) ++ l) (at_each_end-behind f g p x w each)
    ∙ sym (map-append g (f t) (at_each_end f x w))

first_or-append : {V : Type 0} (here none found rest : List (Match V)) → first_or here (none ++ rest) (found ++ rest) ≡ first_or here none found ++ rest
first_or-append [] none found rest = refl
first_or-append (m ∷ here) none found rest = refl

-- no more units are passed over than there are
skip_fits : {V : Type 0} (K : Dictionary V) (c : ℕ) (w : List ℕ) → units_to_skip (longest_key K [] (c ∷ w)) ≤ length w
skip_fits {V} K c w = by (longest_key K [] (c ∷ w)) refl
  where
    by : (best : Option (List ℕ × V)) → longest_key K [] (c ∷ w) ≡ best → units_to_skip best ≤ length w
    by None e = omega arith
    by (Some ([], v)) e = omega arith
    by (Some (d ∷ p, v)) e =
        let b = longest_key-begins K [] (c ∷ w) (d ∷ p, v) e in
        omega (arith, ap length b.key, ap length b.splits, length-append b.more b.rest)

-- without an empty key it makes no difference what comes before
leftmost_from-after : {V : Type 0} (width : ℕ → ℕ) (K : Dictionary V) (s skip : ℕ) (after : Bool) (w : List ℕ) → K [] ≡ [] → leftmost_from width K s skip after w ≡ leftmost_from width K s skip false w
leftmost_from-after width K s (suc skip) after [] no_empty = refl
leftmost_from-after width K s (suc skip) after (c ∷ w) no_empty = leftmost_from-after width K (s + width c) skip after w no_empty
leftmost_from-after width K s zero after [] no_empty =
    let none = key_with_value-none K [] no_empty in
    ap (match_at width s after) none ∙ sym (ap (match_at width s false) none)
leftmost_from-after {V} width K s zero after (c ∷ w) no_empty = by (leftmost_from-after width K (s + width c) 0 after w no_empty) (longest_key K [] (c ∷ w)) refl
  where
    by : leftmost_from width K (s + width c) 0 after w ≡ leftmost_from width K (s + width c) 0 false w → (best : Option (List ℕ × V)) → longest_key K [] (c ∷ w) ≡ best
        → match_at width s after best ++ leftmost_from width K (s + width c) (units_to_skip best) (is_after after best) w
        ≡ match_at width s false best ++ leftmost_from width K (s + width c) (units_to_skip best) (is_after false best) w
    by rest None e = rest
    by rest (Some ([], v)) e = let b = longest_key-begins K [] (c ∷ w) ([], v) e in absurd (let bad : [] ≡ v ∷ b.others = sym no_empty ∙ b.first in cc)
    by rest (Some (d ∷ p, v)) e = refl

module _ {V : Type 0} (width : ℕ → ℕ) (K : Dictionary V) (u : ℕ) (unused : StandsInNoKey K u) where
  no_key : (t x : List ℕ) → K (t ++ u ∷ x) ≡ []
  no_key t x = nil_of (K (t ++ u ∷ x)) (λ key. unused (t ++ u ∷ x) key (Contains-append_right t (u ∷ x) u (0, omega arith, refl)))

  -- none goes on behind it
  none_past : (t x b : List ℕ) → IsSuffix b (t ++ u ∷ []) → 0 < length b → K (b ++ x) ≡ []
  none_past t x b ends some = elim (IsSuffix-of_push t b u ends) [
    | inl empty ↦ absurd (omega (arith, some, ap length empty))
    | inr last ↦ ap (λ y. K (y ++ x)) last.2 ∙ ap K (append_assoc last.0 (u ∷ []) x) ∙ no_key last.0 x
  ]

  -- ---- overlapping and no-suffix searches

  matches_after-cut : (t x : List ℕ) → matches_after width K ((t ++ u ∷ []) ++ x) ≡ map (shifted (size width (t ++ u ∷ []))) (matches_after width K x)
  matches_after-cut t x = matches_after-past width K (t ++ u ∷ []) x (none_past t x)

  each_end_cut : (f : List ℕ → List (Match V)) → ((t x : List ℕ) → f ((t ++ u ∷ []) ++ x) ≡ map (shifted (size width (t ++ u ∷ []))) (f x)) → IsCutBy width (at_each_end f []) u
  each_end_cut f each front back =
      let p = front ++ u ∷ [] in
      at_each_end-append f [] front u back
      ∙ ap (λ t. at_each_end f [] front ++ at_each_end f t back) (sym (append-nil p))
      ∙ ap (λ l. at_each_end f [] front ++ l) (at_each_end-behind f (shifted (size width p)) p [] back (each front))

  pub overlapping_cut : IsCutBy width (overlapping width K) u
  overlapping_cut = each_end_cut (matches_after width K) matches_after-cut

  pub no_suffix_cut : IsCutBy width (no_suffix width K) u
  no_suffix_cut =
      each_end_cut (λ t. take 1 (matches_after width K t))
      (λ t x. ap (take 1) (matches_after-cut t x) ∙ take-map (shifted (size width (t ++ u ∷ []))) 1 (matches_after width K x))

  -- ---- standard searches

  empty_cut : IsCutBy width (empty_matches width K) u
  empty_cut = each_end_cut (λ t. take 1 (matches_of K (size width t) (size width t) [])) each
    where
      each : (t x : List ℕ)
          → take 1 (matches_of K (size width ((t ++ u ∷ []) ++ x)) (size width ((t ++ u ∷ []) ++ x)) []) ≡ map (shifted (size width (t ++ u ∷ []))) (take 1 (matches_of K (size width x) (size width x) []))
      each t x =
          let p = t ++ u ∷ [] in
          ap (λ n. take 1 (matches_of K n n [])) (size-append width p x)
          ∙ ap (take 1) (ending_at-shifted width K (size width p) (size width x) (size width x) [])
          ∙ take-map (shifted (size width p)) 1 (matches_of K (size width x) (size width x) [])

  standard_from-cut : (r : ℕ) (t front back : List ℕ) → K [] ≡ [] → standard_from width K r t (front ++ u ∷ back) ≡ standard_from width K r t front ++ standard_from width K (r + size width (t ++ (front ++ u ∷ []))) [] back
  standard_from-cut r t [] back no_empty =
      let x : List ℕ = t ++ u ∷ [] in let e : ℕ = r + size width x in
      let here : ending_at width K r e x ≡ [] =
      ap (ending_at width K r e) (sym (append-nil x)) ∙ ending_at-past width K r e x [] (none_past t []) ∙ ap (map (λ v. record { start = e; end = e; value = v })) no_empty in
      ap (λ l. first_or l (standard_from width K r x back) (standard_from width K e [] back)) here
      ∙ ap (λ y. standard_from width K r y back) (sym (append-nil x))
      ∙ standard_from-past width K r x [] back (record { none = λ b y z ends some more cut. none_past t y b ends some })
  standard_from-cut r t (c ∷ front) back no_empty =
      let x : List ℕ = t ++ c ∷ [] in let e : ℕ = r + size width x in
      let p : List ℕ = front ++ u ∷ [] in
      let here : List (Match V) = ending_at width K r e x in
      let rest : List (Match V) = standard_from width K (r + size width (t ++ c ∷ p)) [] back in
      let text : x ++ p ≡ t ++ c ∷ p = append_assoc t (c ∷ []) p in
      let place : e + size width p ≡ r + size width (t ++ c ∷ p) = omega (arith, size-append width x p, ap (size width) text) in
      ap (λ l. first_or here l (standard_from width K e [] (front ++ u ∷ back)))
      (standard_from-cut r x front back no_empty ∙ ap (λ z. standard_from width K r x front ++ standard_from width K (r + size width z) [] back) text)
      ∙ ap (λ l. first_or here (standard_from width K r x front ++ rest) l)
      (standard_from-cut e [] front back no_empty ∙ ap (λ n. standard_from width K e [] front ++ standard_from width K n [] back) place)
      ∙ first_or-append here (standard_from width K r x front) (standard_from width K e [] front) rest

  pub standard_cut : IsCutBy width (standard width K) u
  standard_cut = by (K []) refl
    where
      by : (vs : List V) → K [] ≡ vs → IsCutBy width (λ h. elim vs [ [] ↦ standard_from width K 0 [] h | _ ∷ _ ↦ empty_matches width K h ]) u
      by [] no_empty = λ front back.
          let n = size width (front ++ u ∷ []) in
          let begin : 0 + n ≡ n + 0 = omega arith in
          standard_from-cut 0 [] front back no_empty
          ∙ ap (λ r. standard_from width K 0 [] front ++ standard_from width K r [] back) begin
          ∙ ap (λ l. standard_from width K 0 [] front ++ l) (standard_from-shifted width K n 0 [] back)
      by (v ∷ vs) has = empty_cut

  -- ---- leftmost searches

  longest_key-cut : (t front back : List ℕ) → longest_key K t (front ++ u ∷ back) ≡ longest_key K t front
  longest_key-cut t [] back =
      ap (λ o. option_or o (key_with_value K t)) (longest_key-none K (t ++ u ∷ []) back (λ z y cut. ap K (append_assoc t (u ∷ []) z) ∙ no_key t z))
  longest_key-cut t (c ∷ front) back = ap (λ o. option_or o (key_with_value K t)) (longest_key-cut (t ++ c ∷ []) front back)

  leftmost_from-cut : (s skip : ℕ) (after : Bool) (front back : List ℕ) → skip ≤ length front
      → leftmost_from width K s skip after (front ++ u ∷ back) ≡ leftmost_from width K s skip after front ++ leftmost_from width K (s + size width (front ++ u ∷ [])) 0 false back
  leftmost_from-cut s (suc skip) after [] back fits = absurd (omega arith)
  leftmost_from-cut s (suc skip) after (c ∷ front) back fits =
      leftmost_from-cut (s + width c) skip after front back (omega arith)
      ∙ ap (λ n. leftmost_from width K (s + width c) skip after front ++ leftmost_from width K n 0 false back) (add_assoc s (width c) (size width (front ++ u ∷ [])))
  leftmost_from-cut s zero after [] back fits =
      let next : s + width u ≡ s + (width u + 0) = omega arith in
      ap (λ best. match_at width s after best ++ leftmost_from width K (s + width u) (units_to_skip best) (is_after after best) back) (longest_key-cut [] [] back)
      ∙ ap (λ l. match_at width s after (key_with_value K []) ++ l) (by (K []) refl ∙ ap (λ n. leftmost_from width K n 0 false back) next)
    where
      by : (vs : List V) → K [] ≡ vs
          → leftmost_from width K (s + width u) (units_to_skip (key_with_value K [])) (is_after after (key_with_value K [])) back ≡ leftmost_from width K (s + width u) 0 false back
      by [] no_empty = rw no_empty (leftmost_from-after width K (s + width u) 0 after back no_empty)
      by (v ∷ vs) has = rw has refl
  leftmost_from-cut s zero after (c ∷ front) back fits =
      let best = longest_key K [] (c ∷ front) in
      let p : List ℕ = front ++ u ∷ [] in
      let here : List (Match V) = leftmost_from width K (s + width c) (units_to_skip best) (is_after after best) front in
      ap (λ best. match_at width s after best ++ leftmost_from width K (s + width c) (units_to_skip best) (is_after after best) (front ++ u ∷ back)) (longest_key-cut [] (c ∷ front) back)
      ∙ ap (λ l. match_at width s after best ++ l)
      (leftmost_from-cut (s + width c) (units_to_skip best) (is_after after best) front back (skip_fits K c front)
      ∙ ap (λ n. here ++ leftmost_from width K n 0 false back) (add_assoc s (width c) (size width p)))
      ∙ sym (append_assoc (match_at width s after best) here (leftmost_from width K (s + (width c + size width p)) 0 false back))

  pub leftmost_cut : IsCutBy width (leftmost width K) u
  leftmost_cut front back =
      let n = size width (front ++ u ∷ []) in
      let begin : 0 + n ≡ n + 0 = omega arith in
      leftmost_from-cut 0 0 false front back (omega arith)
      ∙ ap (λ s. leftmost width K front ++ leftmost_from width K s 0 false back) begin
      ∙ ap (λ l. leftmost width K front ++ l) (leftmost_from-shifted width K n 0 0 false back)
