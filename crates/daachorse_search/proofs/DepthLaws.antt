-- A state's depth is the length of its text, which is the longest end of what was read that begins a key.
use Rattle.std.proofs.Common.{◌≡◌, ◌≢◌, ℕ, inl, inr, List, [], length, ap, ◌∙◌}
use Rattle.std.specs.Prelude.{slice_index}
use Rattle.daachorse_model.specs.Prefixes.{IsLong}
use Rattle.daachorse_model.proofs.Steps.{IsLong-same}
use Rattle.daachorse_search.specs.Views.{AutomatonView, HasDepths}

pub depth-of : {V : Type 0} (view : AutomatonView V) (depths : List ℕ) (state : ℕ) (since s : List ℕ) → HasDepths view depths → depths ≢ [] → view.reached state
    → IsLong view.content since (view.text state) → IsLong view.content since s → slice_index depths state ≡ length s
depth-of view depths state since s (inl none) some at long same = absurd (some none)
depth-of view depths state since s (inr all) some at long same = (all state at).1 ∙ ap length (IsLong-same view.content since (view.text state) s long same)
