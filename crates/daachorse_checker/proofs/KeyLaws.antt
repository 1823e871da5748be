-- The keys of a right machine are the texts of the elements with own outputs, so a filter passes at all of them where it passes at each of these.
use Rattle.std.proofs.Common.{◌≡◌, ℕ, Bool, true, List, Some, None, refl, sym, ap, ◌∙◌}
use Rattle.std.specs.Prelude.{flat_map}
use Rattle.daachorse_model.specs.Paths.{walk}
use Rattle.daachorse_model.specs.Prefixes.{IsKey}
use Rattle.daachorse_array.specs.Machines.{Machine, IsMachine, content, values_at}
use Rattle.daachorse_array.specs.Listing.{has_own}
use Rattle.daachorse_array.proofs.MachineListings.{key_at}
use Rattle.daachorse_prefilter.specs.Filters.{Filter, admits}
use Rattle.daachorse_checker.specs.Filters.{PassesAll}
use Rattle.daachorse_checker.proofs.ChainedLaws.{some_values, values_some}

module _ {V : Type 0} (width : ℕ → ℕ) (a : Machine V) (leftmost : Bool) (n m : ℕ) (machine : IsMachine width a leftmost n m) (bytes : ℕ → List ℕ) (spell : List ℕ → List ℕ) (spells : (w : List ℕ) → flat_map bytes w ≡ spell w) (f : Filter) where
  abbrev PassesEach : Type 0
  PassesEach = (k : List ℕ) → IsKey (content width a) k → admits f (spell k) ≡ true

  pub each_from_all : PassesAll a.child bytes (has_own a.fail a.output) f → PassesEach
  each_from_all all k key = (elim (walk a.child 0 k) as (λ o. walk a.child 0 k ≡ o → admits f (spell k) ≡ true) [
    | None ↦ λ e. absurd (key (ap (values_at width a k) e))
    | Some i ↦ λ e. ap (admits f) (sym (spells k)) ∙ all i k e (key_at width a leftmost n m machine i k e ∙ some_values (content width a k) key)
  ]) refl

  pub all_from_each : PassesEach → PassesAll a.child bytes (has_own a.fail a.output) f
  all_from_each each i k leads own =
      ap (admits f) (spells k) ∙ each k (values_some (content width a k) (sym (key_at width a leftmost n m machine i k leads) ∙ own))
