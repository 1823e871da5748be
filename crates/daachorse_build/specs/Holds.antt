-- What a trie holds, by the list of the patterns that were registered.
use Rattle.std.specs.Prelude.{◌≡◌, ℕ, ◌<◌, List, [], map, length}
use Rattle.std.specs.List.{AllByRecursion, IsDistinct}
use Rattle.std.specs.declared.cmp.Ordering.{Ordering}
use Rattle.daachorse_model.specs.declared.MatchKind.{MatchKind}
use Rattle.daachorse_model.specs.Units.{same_text}
use Rattle.daachorse_model.specs.Dictionary.{Dictionary, dictionary, kept_registrations}
use Rattle.daachorse_model.specs.Prefixes.{IsPrefix}
use Rattle.daachorse_model.specs.Outputs.{own_outputs}
use Rattle.daachorse_model.specs.Paths.{Leads}
use Rattle.daachorse_build.specs.declared.nfa_builder.NfaBuilderState.{NfaBuilderState}
use Rattle.daachorse_build.specs.Tables.{child_of, own_at, own_of, own_outputs_at, output_count, HoldTrie}

-- the registrations, with the units of each text in place of its labels
abbrev pub in_units : {L V : Type 0} → (L → ℕ) → List (List L × V) → List (List ℕ × V)
in_units unit rs = map (λ r. (map unit r.0, r.1)) rs

-- The states are the prefixes of the keys. The own outputs of a text are its values, and the dead state has none, so there are as many as patterns that are kept.
pub record Holds {L V A : Type 0} (cmp : L → L → Ordering) (unit : L → ℕ) (width : ℕ → ℕ) (kind : MatchKind) (states : List (NfaBuilderState L V A)) (rs : List (List L × V)) : Type 0 where
  pub trie : HoldTrie cmp states
  pub begins : (w : List L) → IsPrefix (dictionary kind (in_units unit rs)) (map unit w) → (s : ℕ) × Leads (child_of cmp states) w s
  pub only : (w : List L) (s : ℕ) → Leads (child_of cmp states) w s → IsPrefix (dictionary kind (in_units unit rs)) (map unit w)
  pub outputs : (w : List L) → own_outputs_at cmp states w ≡ own_outputs width (dictionary kind (in_units unit rs)) (map unit w)
  pub dead : own_at (own_of states) 1 ≡ []
  pub count : output_count (own_of states) ≡ length (kept_registrations kind (in_units unit rs))

-- more than n texts are prefixes of keys
pub record HasMorePrefixes {V : Type 0} (K : Dictionary V) (n : ℕ) : Type 0 where
  pub texts : List (List ℕ)
  pub distinct : IsDistinct same_text texts
  pub prefixes : AllByRecursion (IsPrefix K) texts
  pub more : n < length texts
