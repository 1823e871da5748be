-- The links of a builder that is built lead back, where labels are their own units.
use Rattle.std.proofs.Common.{◌<◌, ℕ, ◌∷◌, length, Option, inl, inr, arith}
use Rattle.std.specs.Ordering.{nat_cmp}
use Rattle.daachorse_model.specs.declared.MatchKind.{MatchKind}
use Rattle.daachorse_model.specs.Dictionary.{Dictionary}
use Rattle.daachorse_build.specs.declared.nfa_builder.NfaBuilder.{NfaBuilder}
use Rattle.daachorse_build.specs.Builders.{states_of}
use Rattle.daachorse_build.specs.Counts.{LinksLeadBack}
use Rattle.daachorse_build.specs.Tables.{child_of, edges_of}
use Rattle.daachorse_patterns.specs.Tries.{IsBuilt}
use Rattle.daachorse_patterns.proofs.UnitTries.{own_units}

pub links_back : {V A : Type 0} (width : ℕ → ℕ) (most : Option ℕ) (kind : MatchKind) (b : NfaBuilder ℕ V A) (K : Dictionary V) → IsBuilt nat_cmp (λ u. u) width most kind b K → LinksLeadBack nat_cmp (states_of b)
links_back width most kind b K built =
    let held = built.holds (child_of nat_cmp (states_of b)) (own_units nat_cmp (edges_of (states_of b))) in
    record {
      each = λ c w t at.
          elim (held.links c t w at) [
            | inl dead ↦ inl dead.0
            | inr there ↦ let link = there.2 in inr (link.0, link.1, (let short : length link.0 < length (c ∷ w) = link.2.shorter in omega arith))
          ];
    }
