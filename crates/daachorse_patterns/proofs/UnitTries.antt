-- A trie over labels, read by units: the units of a text lead where the text does, and nothing else leads anywhere.
use Rattle.std.proofs.Common.{◌≡◌, ℕ, true, false, cond, List, [], ◌∷◌, map, Option, Some, None, refl, sym, ap, ◌∙◌}
use Rattle.std.specs.Prelude.{is_some, option_and_then}
use Rattle.std.proofs.lemmas.Option.{option_and_then_some}
use Rattle.std.specs.declared.cmp.Ordering.{Ordering}
use Rattle.daachorse_model.specs.Paths.{is_reached, walk}
use Rattle.daachorse_model.specs.Prefixes.{long}
use Rattle.daachorse_build.specs.Tables.{child_in}
use Rattle.daachorse_patterns.specs.Tries.{LeadsByUnit}

module _ {L : Type 0} (cmp : L → L → Ordering) (unit : L → ℕ) (edges : List (List (L × ℕ))) (child : ℕ → ℕ → Option ℕ) (by : LeadsByUnit cmp unit edges child) where
  abbrev to : ℕ → L → Option ℕ
  to = child_in cmp edges

  pub walk-units : (s : ℕ) (w : List L) → walk child s (map unit w) ≡ walk to s w
  walk-units s [] = refl
  walk-units s (c ∷ w) =
      ap (option_and_then (λ j. walk child j (map unit w))) (by.same s c)
      ∙ (elim (to s c) as (λ o. option_and_then (λ j. walk child j (map unit w)) o ≡ option_and_then (λ j. walk to j w) o) [ None ↦ refl | Some j ↦ walk-units j w ])

  -- what leads somewhere is the units of a text
  pub text_of_units : (s : ℕ) (w : List ℕ) (t : ℕ) → walk child s w ≡ Some t → (x : List L) × (map unit x ≡ w) × (walk to s x ≡ Some t)
  text_of_units s [] t e = ([], refl, e)
  text_of_units s (u ∷ w) t e =
      option_and_then_some (λ j. walk child j w) (child s u) t e
      (λ j is h. (
      let c = by.only s u j is in
      let r = text_of_units j w t h in
      let at : to s c.0 ≡ Some j = sym (by.same s c.0) ∙ ap (child s) c.1 ∙ is in
      (c.0 ∷ r.0, ap (λ y. y ∷ map unit r.0) c.1 ∙ ap (λ y. u ∷ y) r.1, ap (option_and_then (λ k. walk to k r.0)) at ∙ r.2)))

  -- the longest end that leads somewhere is the same
  pub long-units : (w : List L) → long (is_reached child) (map unit w) ≡ map unit (long (is_reached to) w)
  long-units [] = refl
  long-units (c ∷ w) =
      ap (λ b. cond b (unit c ∷ map unit w) (long (is_reached child) (map unit w))) (ap is_some (walk-units 0 (c ∷ w)))
      ∙ (elim (is_reached to (c ∷ w)) as (λ b. cond b (unit c ∷ map unit w) (long (is_reached child) (map unit w)) ≡ map unit (cond b (c ∷ w) (long (is_reached to) w)))
      [ true ↦ refl | false ↦ long-units w ])

-- a label that is a number is its own unit
pub own_units : (cmp : ℕ → ℕ → Ordering) (edges : List (List (ℕ × ℕ))) → LeadsByUnit cmp (λ u. u) edges (child_in cmp edges)
own_units cmp edges = record { same = λ s c. refl; only = λ s u t e. (u, refl) }
