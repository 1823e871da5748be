-- The counts of a profile, and the trie that a search is counted over.
use Rattle.std.specs.Prelude.{◌≡◌, ℕ, ◌≤◌, ◌⊎◌, List, ◌∷◌, length, slice_index}
use Rattle.std.specs.List.{AllZip}
use Rattle.std.specs.declared.cmp.Ordering.{Ordering}
use Rattle.daachorse_model.specs.Paths.{Leads}
use Rattle.daachorse_placement.specs.declared.build_helper.profile.Profile.{Profile}
use Rattle.daachorse_build.specs.declared.nfa_builder.NfaBuilderState.{NfaBuilderState}
use Rattle.daachorse_build.specs.Tables.{child_of, fails_of}

-- a count of each kind for each of n states
pub record HasCounts {A : Type 0} (n : ℕ) (p : Profile A) : Type 0 where
  pub visits : length p.visits.items ≡ n
  pub probes : length p.probes.items ≡ n

-- as many counts, none of which fell
abbrev pub HaveGrown : List ℕ → List ℕ → Type 0
HaveGrown old new = AllZip (λ m n. m ≤ n) old new

-- more was counted
pub record HasCountedMore {A : Type 0} (old new : Profile A) : Type 0 where
  pub visits : HaveGrown old.visits.items new.visits.items
  pub probes : HaveGrown old.probes.items new.probes.items

-- nothing was counted
pub record HasSameCounts {A : Type 0} (old new : Profile A) : Type 0 where
  pub visits : new.visits.items ≡ old.visits.items
  pub probes : new.probes.items ≡ old.probes.items

-- the link of each state but the root is dead, or the state of a shorter text
pub record LinksLeadBack {L V A : Type 0} (cmp : L → L → Ordering) (states : List (NfaBuilderState L V A)) : Type 0 where
  pub each : (c : L) (w : List L) (t : ℕ) → Leads (child_of cmp states) (c ∷ w) t → (slice_index (fails_of states) t ≡ 1) ⊎ ((v : List L) × Leads (child_of cmp states) v (slice_index (fails_of states) t) × (length v ≤ length w))
