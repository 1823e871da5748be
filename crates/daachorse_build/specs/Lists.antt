-- Lists of outputs that share their ends.
use Rattle.std.specs.Prelude.{◌≡◌, ◌≢◌, ℕ, ◌+◌, ◌≤◌, ◌⊎◌, Bool, cond, List, [], ◌∷◌, ◌++◌, length, slice_index}
use Rattle.std.specs.declared.cmp.Ordering.{Ordering}
use Rattle.daachorse_core.specs.declared.outputs.Output.{Output}
use Rattle.daachorse_core.specs.Outputs.{outputs_at}
use Rattle.daachorse_core.specs.Chains.{Passes}
use Rattle.daachorse_model.specs.Paths.{Leads}
use Rattle.daachorse_build.specs.declared.nfa_builder.NfaBuilderState.{NfaBuilderState}
use Rattle.daachorse_build.specs.Tables.{child_of, fails_of, own_outputs_at, own_at, own_of, output_count, positions_of, stops_of}
use Rattle.daachorse_build.specs.Left.{meets}
use Rattle.daachorse_build.specs.Orders.{HoldLeftLinks, IsKnown}

-- the own outputs of a text and of each of its suffixes, the longest first
abbrev pub suffix_outputs : {L V A : Type 0} → (L → L → Ordering) → List (NfaBuilderState L V A) → List L → List (V × ℕ)
suffix_outputs cmp states [] = own_outputs_at cmp states []
suffix_outputs cmp states (c ∷ cs) = own_outputs_at cmp states (c ∷ cs) ++ suffix_outputs cmp states cs

-- the same up to the first of them, the longest first, whose walk comes to a state that stops; that one counts
abbrev pub left_outputs : {L V A : Type 0} → (L → L → Ordering) → (ℕ → Bool) → List (NfaBuilderState L V A) → List L → List (V × ℕ)
left_outputs cmp stops states [] = own_outputs_at cmp states []
left_outputs cmp stops states (c ∷ cs) =
    own_outputs_at cmp states (c ∷ cs) ++ cond (meets (child_of cmp states) stops 0 (c ∷ cs)) [] (left_outputs cmp stops states cs)

-- the list of each known state has the outputs of its text and of the suffixes, as far as links go
abbrev pub AreListed : {L V A : Type 0} → (L → L → Ordering) → (ℕ → Bool) → List (NfaBuilderState L V A) → List ℕ → List (Output V) → List ℕ → Type 0
AreListed {L} cmp stops states done outputs positions =
    (t : ℕ) → IsKnown done t → (w : List L) → Leads (child_of cmp states) w t → outputs_at outputs (slice_index positions t) ≡ left_outputs cmp stops states w

-- where the list of a link begins: nowhere, if the link is dead
abbrev pub IsParent : List ℕ → ℕ → ℕ → Type 0
IsParent positions f p = ((f ≡ 1) × (p ≡ 0)) ⊎ ((f ≢ 1) × (p ≡ slice_index positions f))

-- no position of a known state is past the end
abbrev pub PositionsFit : {V : Type 0} → List ℕ → List (Output V) → List ℕ → Type 0
PositionsFit done outputs positions = (t : ℕ) → IsKnown done t → slice_index positions t ≤ length outputs

-- where the outputs after a state's own ones begin: where those of its link do, and nowhere for the root
abbrev pub IsRest : List ℕ → List ℕ → ℕ → ℕ → Type 0
IsRest fails positions t q = ((t ≡ 0) × (q ≡ 0)) ⊎ ((t ≢ 0) × IsParent positions (slice_index fails t) q)

-- from a state's position its own outputs come, and then those of its link
abbrev pub IsChainedAt : {V : Type 0} → List (List (V × ℕ)) → List ℕ → List (Output V) → List ℕ → ℕ → Type 0
IsChainedAt own fails outputs positions t =
    (q : ℕ) × IsRest fails positions t q × Passes outputs (slice_index positions t) (own_at own t) q

-- each known state is chained
abbrev pub AreChained : {V : Type 0} → List (List (V × ℕ)) → List ℕ → List ℕ → List (Output V) → List ℕ → Type 0
AreChained own fails done outputs positions =
    (t : ℕ) → IsKnown done t → IsChainedAt own fails outputs positions t

-- a state's own outputs stand in front of the list at `parent`, and the new list begins at `position`
pub record HasChain {V : Type 0} (old new : List (Output V)) (own : List (V × ℕ)) (parent position : ℕ) : Type 0 where
  pub count : length new ≡ length old + length own
  pub few : length old ≤ 4294967295 → length new ≤ 4294967295
  pub fits : position ≤ length new
  pub list : outputs_at new position ≡ own ++ outputs_at old parent
  pub passes : Passes new position own parent

-- the states of `old`, whose links are in this order, have their lists in `new`
pub record HaveLists {L V A : Type 0} (cmp : L → L → Ordering) (old new : List (NfaBuilderState L V A)) (order : List ℕ) (outputs : List (Output V)) : Type 0 where
  pub positions : PositionsFit order outputs (positions_of new)
  pub lists : (leftmost : Bool) → HoldLeftLinks cmp leftmost old order → AreListed cmp (stops_of leftmost old) old order outputs (positions_of new)
  pub chained : (leftmost : Bool) → HoldLeftLinks cmp leftmost old order → AreChained (own_of old) (fails_of old) order outputs (positions_of new)
  pub bound : length outputs ≤ output_count (own_of old)
  pub whole : own_at (own_of old) 1 ≡ [] → length outputs ≡ output_count (own_of old)
  pub few : length outputs ≤ 4294967295
