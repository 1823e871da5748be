-- A search that begins further on finds the same matches, further on, and so does one that read units from which no key goes on.
use Rattle.std.proofs.Common.{◌≡◌, ℕ, zero, suc, ◌+◌, ◌<◌, Bool, true, false, Option, Some, None, List, [], ◌∷◌, ◌++◌, length, map, refl, sym, ap, ◌∙◌, subst, append_assoc, add_assoc, length-append, arith}
use Rattle.std.proofs.lemmas.List.{map-append}
use Rattle.daachorse_model.specs.declared.Match.{Match}
use Rattle.daachorse_model.specs.Units.{size}
use Rattle.daachorse_model.specs.Dictionary.{Dictionary}
use Rattle.daachorse_model.specs.Matches.{matches_of, ending_at, matches_after, standard_from, shifted}
use Rattle.daachorse_model.specs.Leftmost.{longest_key, match_at, units_to_skip, is_after, leftmost_from}
use Rattle.daachorse_model.specs.Prefixes.{IsSuffix}
use Rattle.daachorse_model.proofs.Searches.{first_or}
use Rattle.daachorse_model.proofs.Suffixes.{size-append, IsSuffix-same, IsSuffix-cons}

first_or-shifted : {V : Type 0} (d : ℕ) (here none found : List (Match V)) → first_or (map (shifted d) here) (map (shifted d) none) (map (shifted d) found) ≡ map (shifted d) (first_or here none found)
first_or-shifted d [] none found = refl
first_or-shifted d (m ∷ here) none found = refl

module _ {V : Type 0} (width : ℕ → ℕ) (K : Dictionary V) (d : ℕ) where
  values_shifted : (s e : ℕ) (vs : List V) → map (λ v. record { start = d + s; end = d + e; value = v }) vs ≡ map (shifted d) (map (λ v. record { start = s; end = e; value = v }) vs)
  values_shifted s e [] = refl
  values_shifted s e (v ∷ vs) = ap (λ l. record { start = d + s; end = d + e; value = v } ∷ l) (values_shifted s e vs)

  pub ending_at-shifted : (s e : ℕ) (w : List ℕ) → ending_at width K (d + s) (d + e) w ≡ map (shifted d) (ending_at width K s e w)
  ending_at-shifted s e [] = values_shifted s e (K [])
  ending_at-shifted s e (u ∷ w) =
      ap (λ l. l ++ ending_at width K (d + s + width u) (d + e) w) (values_shifted s e (K (u ∷ w)))
      ∙ ap (λ n. map (shifted d) (matches_of K s e (u ∷ w)) ++ ending_at width K n (d + e) w) (add_assoc d s (width u))
      ∙ ap (λ l. map (shifted d) (matches_of K s e (u ∷ w)) ++ l) (ending_at-shifted (s + width u) e w)
      ∙ sym (map-append (shifted d) (matches_of K s e (u ∷ w)) (ending_at width K (s + width u) e w))

  pub standard_from-shifted : (r : ℕ) (v w : List ℕ) → standard_from width K (d + r) v w ≡ map (shifted d) (standard_from width K r v w)
  standard_from-shifted r v [] = refl
  standard_from-shifted r v (u ∷ w) =
      let x : List ℕ = v ++ u ∷ [] in let e : ℕ = r + size width x in
      let here : List (Match V) = ending_at width K r e x in
      ap (λ n. first_or (ending_at width K (d + r) n x) (standard_from width K (d + r) x w) (standard_from width K n [] w)) (add_assoc d r (size width x))
      ∙ ap (λ l. first_or l (standard_from width K (d + r) x w) (standard_from width K (d + e) [] w)) (ending_at-shifted r e x)
      ∙ ap (λ l. first_or (map (shifted d) here) l (standard_from width K (d + e) [] w)) (standard_from-shifted r x w)
      ∙ ap (λ l. first_or (map (shifted d) here) (map (shifted d) (standard_from width K r x w)) l) (standard_from-shifted e [] w)
      ∙ first_or-shifted d here (standard_from width K r x w) (standard_from width K e [] w)

  match_at-shifted : (s : ℕ) (after : Bool) (best : Option (List ℕ × V)) → match_at width (d + s) after best ≡ map (shifted d) (match_at width s after best)
  match_at-shifted s after None = refl
  match_at-shifted s true (Some ([], v)) = refl
  match_at-shifted s false (Some ([], v)) = refl
  match_at-shifted s after (Some (c ∷ p, v)) = ap (λ n. record { start = d + s; end = n; value = v } ∷ []) (add_assoc d s (size width (c ∷ p)))

  pub leftmost_from-shifted : (s skip : ℕ) (after : Bool) (w : List ℕ) → leftmost_from width K (d + s) skip after w ≡ map (shifted d) (leftmost_from width K s skip after w)
  leftmost_from-shifted s (suc skip) after [] = refl
  leftmost_from-shifted s (suc skip) after (u ∷ w) = ap (λ n. leftmost_from width K n skip after w) (add_assoc d s (width u)) ∙ leftmost_from-shifted (s + width u) skip after w
  leftmost_from-shifted s zero after [] = match_at-shifted s after (longest_key K [] [])
  leftmost_from-shifted s zero after (u ∷ w) =
      let best = longest_key K [] (u ∷ w) in
      ap (λ l. l ++ leftmost_from width K (d + s + width u) (units_to_skip best) (is_after after best) w) (match_at-shifted s after best)
      ∙ ap (λ n. map (shifted d) (match_at width s after best) ++ leftmost_from width K n (units_to_skip best) (is_after after best) w) (add_assoc d s (width u))
      ∙ ap (λ l. map (shifted d) (match_at width s after best) ++ l) (leftmost_from-shifted (s + width u) (units_to_skip best) (is_after after best) w)
      ∙ sym (map-append (shifted d) (match_at width s after best) (leftmost_from width K (s + width u) (units_to_skip best) (is_after after best) w))

-- no key that begins in p ends behind it in w
pub record IsPast {V : Type 0} (K : Dictionary V) (p w : List ℕ) : Type 0 where
  pub none : (b x y : List ℕ) → IsSuffix b p → 0 < length b → 0 < length x → w ≡ x ++ y → K (b ++ x) ≡ []

module _ {V : Type 0} (width : ℕ → ℕ) (K : Dictionary V) where
  -- what ends behind p begins behind it
  pub ending_at-past : (s e : ℕ) (p v : List ℕ) → ((b : List ℕ) → IsSuffix b p → 0 < length b → K (b ++ v) ≡ []) → ending_at width K s e (p ++ v) ≡ ending_at width K (s + size width p) e v
  ending_at-past s e [] v none = let same : s ≡ s + 0 = omega arith in ap (λ n. ending_at width K n e v) same
  ending_at-past s e (u ∷ p) v none =
      ap (λ vs. map (λ v. record { start = s; end = e; value = v }) vs ++ ending_at width K (s + width u) e (p ++ v)) (none (u ∷ p) (IsSuffix-same (u ∷ p)) (omega arith))
      ∙ ending_at-past (s + width u) e p v (λ b ends some. none b (IsSuffix-cons b p u ends) some)
      ∙ ap (λ n. ending_at width K n e v) (add_assoc s (width u) (size width p))

  pub matches_after-past : (p v : List ℕ) → ((b : List ℕ) → IsSuffix b p → 0 < length b → K (b ++ v) ≡ []) → matches_after width K (p ++ v) ≡ map (shifted (size width p)) (matches_after width K v)
  matches_after-past p v none =
      let n : ℕ = size width p in
      let begin : 0 + n ≡ n + 0 = omega arith in
      ending_at-past 0 (size width (p ++ v)) p v none
      ∙ ap (λ e. ending_at width K (0 + n) e v) (size-append width p v)
      ∙ ap (λ s. ending_at width K s (n + size width v) v) begin
      ∙ ending_at-shifted width K n 0 (size width v) v

  pub standard_from-past : (r : ℕ) (p v w : List ℕ) → IsPast K p (v ++ w) → standard_from width K r (p ++ v) w ≡ standard_from width K (r + size width p) v w
  standard_from-past r p v [] past = refl
  standard_from-past r p v (u ∷ w) past =
      let x : List ℕ = v ++ u ∷ [] in
      let n : ℕ = r + size width p in let e : ℕ = n + size width x in
      let text : v ++ (u ∷ w) ≡ x ++ w = sym (append_assoc v (u ∷ []) w) in
      let over : IsPast K p (x ++ w) = subst (IsPast K p) text past in
      let end : r + size width (p ++ x) ≡ e = omega (arith, size-append width p x) in
      ap (λ t. first_or (ending_at width K r (r + size width t) t) (standard_from width K r t w) (standard_from width K (r + size width t) [] w)) (append_assoc p v (u ∷ []))
      ∙ ap (λ m. first_or (ending_at width K r m (p ++ x)) (standard_from width K r (p ++ x) w) (standard_from width K m [] w)) end
      ∙ ap (λ l. first_or l (standard_from width K r (p ++ x) w) (standard_from width K e [] w)) (ending_at-past r e p x (λ b ends some. over.none b x w ends some (omega (arith, length-append v (u ∷ []))) refl))
      ∙ ap (λ l. first_or (ending_at width K n e x) l (standard_from width K e [] w)) (standard_from-past r p x w over)
