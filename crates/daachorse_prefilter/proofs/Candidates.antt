-- The first candidate of the buckets whose whole window the filter lets pass, and near the end the filter's own, is the first place at which both pass.
use Rattle.std.proofs.Common.{◌≡◌, ℕ, zero, suc, ◌+◌, ◌-◌, ◌%◌, ◌<◌, ◌≤◌, ◌⊎◌, inl, inr, Bool, true, false, ◌&&◌, List, ◌++◌, length, take, drop, map, Some, refl, sym, ap, ◌∙◌, subst, arith}
use Rattle.std.specs.Prelude.{bit_or, nat_eq, nat_lt}
use Rattle.std.proofs.lemmas.Bool.{cases_lt, le-leb, le-ltb, lt-ltb, or_left, or_from, or_right}
use Rattle.std.proofs.lemmas.Bool.Decides.{nat_tests}
use Rattle.std.proofs.lemmas.List.{drop-map, length-append, length-drop, length-map, length-take-le, map-append, take-append-drop}
use Rattle.daachorse_model.specs.Filter.{pairs_pass}
use Rattle.daachorse_prefilter.specs.Buckets.{NoneLet, may_begin, some_lets}
use Rattle.daachorse_prefilter.specs.Filters.{Filter, IsFilter, admits, entry_of}
use Rattle.daachorse_prefilter.specs.Places.{IsFirstPlace}
use Rattle.daachorse_prefilter.proofs.BucketFolds.{some_lets-kept}
use Rattle.daachorse_prefilter.proofs.PlaceLaws.{both_pass}
use Rattle.daachorse_prefilter.proofs.WindowLaws.{pairs_pass-front}

-- of a text the filter looks at no more than its window
admits-front : (f : Filter) (w rest : List ℕ) → 2 ≤ f.window → length w ≡ f.window → admits f (w ++ rest) ≡ admits f w
admits-front f w rest wide size =
    ap (λ b. b && pairs_pass (entry_of f) 0 (f.window - 1) (w ++ rest)) (le-leb f.window (length (w ++ rest)) (omega (arith, size, length-append w rest)))
    ∙ pairs_pass-front (entry_of f) 0 (f.window - 1) w rest (omega (arith, size, wide))
    ∙ sym (ap (λ b. b && pairs_pass (entry_of f) 0 (f.window - 1) w) (le-leb f.window (length w) (omega (arith, size))))

not_zero : (r : ℕ) → nat_eq (suc r) 0 ≡ false
not_zero r = grind (arith, nat_tests)

whole_window : (f : Filter) (w rest : List ℕ) (r : ℕ) → 2 ≤ f.window → length w ≡ f.window → IsFirstPlace (admits f) w 0 r → nat_eq r 0 ≡ admits f (w ++ rest)
whole_window f w rest zero wide size is = sym (admits-front f w rest wide size ∙ (is.found (omega (arith, wide, size))).1)
whole_window f w rest (suc r) wide size is = not_zero r ∙ sym (admits-front f w rest wide size ∙ is.first 0 (omega arith) (omega arith) tt)

-- none of the places from pos on and before n passes
abbrev pub NoneBefore : (List ℕ → Bool) → List ℕ → ℕ → ℕ → Type 0
NoneBefore passes text pos n = (k : ℕ) → pos ≤ k → k < n → passes (drop k text) ≡ false

-- both pass
abbrev pub both : List ℕ → Filter → List ℕ → Bool
both table f w = may_begin (Some table) w && admits f w

second_refused : (x y : Bool) → y ≡ false → (x && y) ≡ false
second_refused true y e = e
second_refused false y e = refl

module _ (as_read : ℕ → ℕ) (read : List ℕ → List ℕ) (each : (text : List ℕ) → read text ≡ map as_read text) where
  -- the window at a place is scanned alone
  pub window_at : (f : Filter) (h : List ℕ) (place n r : ℕ) → IsFilter f → n ≡ f.window → place + 9 ≤ length h → IsFirstPlace (admits f) (read (take n (drop place h))) 0 r → nat_eq r 0 ≡ admits f (drop place (read h))
  window_at f h place n r is size inside first =
      let low = is.low in let high = is.high in
      let bs : List ℕ = drop place h in
      let w : List ℕ = map as_read (take n bs) in
      let rest : List ℕ = map as_read (drop n bs) in
      let fits : length w ≡ f.window = omega (arith, length-map (take n bs) as_read, length-take-le n bs (omega (arith, size, high, inside, length-drop place h)), size) in
      let P : List ℕ → Type 0 = λ t. IsFirstPlace (admits f) t 0 r in
      let parts : drop place (read h) ≡ w ++ rest =
      ap (drop place) (each h) ∙ drop-map as_read place h ∙ ap (map as_read) (sym (take-append-drop n bs)) ∙ map-append as_read (take n bs) (drop n bs) in
      whole_window f w rest r low fits (subst P (each (take n bs)) first) ∙ ap (admits f) (sym parts)

  module _ (keeps : (b : ℕ) → bit_or (as_read b % 256) 32 ≡ bit_or (b % 256) 32) (table : List ℕ) (f : Filter) (h : List ℕ) (pos from : ℕ) (low : pos ≤ from) (before : NoneBefore (both table f) (read h) pos from) where
    abbrev pub text : List ℕ
    text = read h

    shared : (q : ℕ) → some_lets table (drop q text) ≡ some_lets table (drop q h)
    shared q = ap (λ t. some_lets table (drop q t)) (each h) ∙ some_lets-kept as_read keeps table h q

    left : (q : ℕ) → length (drop q text) ≡ length h - q
    left q = omega (arith, length-drop q text, ap length (each h), length-map h as_read)

    -- no place passes where no bucket lets the window pass
    passed_over : (place k : ℕ) → NoneLet table h from place → pos ≤ k → k < place → k + 26 ≤ length h → both table f (drop k text) ≡ false
    passed_over place k none first less far = by (cases_lt k from)
      where
        by : (k < from) ⊎ (from ≤ k) → both table f (drop k text) ≡ false
        by (inl old) = before k first old
        by (inr new) =
            ap (λ b. b && admits f (drop k text))
            (or_from (nat_lt (length (drop k text)) 26) (some_lets table (drop k text)) (le-ltb (length (drop k text)) 26 (omega (arith, far, left k))) (shared k ∙ none k new less))

    -- up to the end, near which each place is a candidate
    pub none_far : (place near : ℕ) → near ≡ length h - 25 → near ≤ place → NoneLet table h from place → NoneBefore (both table f) text pos near
    none_far place near is past none k first less = passed_over place k none first (omega arith) (omega arith)

    -- and over a candidate that the filter refuses
    pub none_refused : (place : ℕ) → place + 26 ≤ length h → admits f (drop place text) ≡ false → NoneLet table h from place → NoneBefore (both table f) text pos (place + 1)
    none_refused place far refused none k first less = by (cases_lt k place)
      where
        by : (k < place) ⊎ (place ≤ k) → both table f (drop k text) ≡ false
        by (inl earlier) = passed_over place k none first earlier (omega arith)
        by (inr last) =
            let same : place ≡ k = omega arith in
            second_refused (may_begin (Some table) (drop k text)) (admits f (drop k text)) (ap (λ q. admits f (drop q text)) (sym same) ∙ refused)

    pub candidate_found : (place : ℕ) → place + 26 ≤ length h → from ≤ place → (some_lets table (drop place h) ≡ true) ⊎ (length h < place + 26) → admits f (drop place text) ≡ true → NoneLet table h from place → IsFirstPlace (both table f) text pos place
    candidate_found place far behind here passing none = record {
      inside = omega (arith, far, ap length (each h), length-map h as_read);
      told = tt;
      found = λ less. (omega (arith, low, behind), both_pass (may_begin (Some table) (drop place text)) (admits f (drop place text)) (or_right (nat_lt (length (drop place text)) 26) (some_lets table (drop place text)) (shared place ∙ by here)) passing);
      first = λ k first less t. passed_over place k none first less (omega arith);
    }
      where
        by : (some_lets table (drop place h) ≡ true) ⊎ (length h < place + 26) → some_lets table (drop place h) ≡ true
        by (inl lets) = lets
        by (inr near) = absurd (omega arith)

    -- near the end the filter alone tells
    pub ended : (near r : ℕ) → near ≡ length h - 25 → near ≤ from → IsFirstPlace (admits f) text from r → IsFirstPlace (both table f) text pos r
    ended near r is past next = record {
      inside = next.inside;
      told = tt;
      found = λ less. (let at = next.found less in let behind = at.0 in
          (omega arith, both_pass (may_begin (Some table) (drop r text)) (admits f (drop r text)) (or_left (nat_lt (length (drop r text)) 26) (some_lets table (drop r text)) (lt-ltb (length (drop r text)) 26 (omega (arith, left r, less, next.inside, ap length (each h), length-map h as_read)))) at.1));
      first = λ k first less t. (elim (cases_lt k from) [
        | inl old ↦ before k first old
        | inr new ↦ second_refused (may_begin (Some table) (drop k text)) (admits f (drop k text)) (next.first k new less tt)
      ]);
    }
