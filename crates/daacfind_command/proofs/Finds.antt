-- A search that was written whole, or as far as the sink took it, wrote what the mode finds.
use Rattle.std.proofs.Common.{◌≡◌, ◌+◌, ℕ, List, Option, ap, sym, ◌∙◌}
use Rattle.std.proofs.lemmas.Result.{on_ok_weaker, on_err_weaker}
use Rattle.std.specs.Prelude.{Result, OnOk, OnErr}
use Rattle.std.specs.Io.KnownBytes.{Appends}
use Rattle.std.specs.Iterator.{AlwaysYields}
use Rattle.daachorse.proofs.MatchesLaws.{YieldsList-from_progress}
use Rattle.daachorse.specs.Matches.{GivesFirst, Progress}
use Rattle.daachorse.specs.Replaced.{AppendsBeginning}
use Rattle.daachorse_model.specs.declared.Match.{Match}
use Rattle.daachorse_model.specs.Dictionary.{Dictionary}
use Rattle.daachorse_model.specs.Program.{match_text}
use Rattle.daacfind_command.specs.declared.mode.Mode.{Mode}
use Rattle.daacfind_command.specs.Modes.{found_by}
use Rattle.daacfind_command.specs.Runs.{IsWritten}

module _ {T E A F : Type 0} (stands : Match ℕ → List ℕ → List ℕ → Type 0) (search : Progress ℕ A F) (old new : Option (List ℕ))
    (failures_old failures_new : ℕ) (result : Result T E) where
  pub written_by : (mode asked : Mode) (K : Dictionary ℕ) (h : List ℕ) → asked ≡ mode → search.left ≡ found_by mode K h
      → OnOk result
      ((all : List (Match ℕ)) → AlwaysYields (GivesFirst {V = ℕ} {A = A} {F = F} stands) (λ (m : Match ℕ). m) search all
      → Appends old new (match_text all))
      → OnOk result (failures_new ≡ failures_old)
      → OnErr result
      ((all : List (Match ℕ)) → AlwaysYields (GivesFirst {V = ℕ} {A = A} {F = F} stands) (λ (m : Match ℕ). m) search all
      → AppendsBeginning old new (match_text all))
      → OnErr result (failures_new ≡ failures_old + 1)
      → IsWritten old new failures_old failures_new result (match_text (found_by asked K h))
  written_by mode asked K h is left whole unfailed beginning failed =
      let all : search.left ≡ found_by asked K h = left ∙ ap (λ m. found_by m K h) (sym is) in
      let yields = (YieldsList-from_progress stands search (found_by asked K h) all).runs in
      record {
        whole = on_ok_weaker result (λ f. f _ yields) whole;
        unfailed = unfailed;
        beginning = on_err_weaker result (λ f. f _ yields) beginning;
        failed = failed;
      }
