-- How a request ends, from what is known of its run.
use Rattle.std.proofs.Common.{◌≡◌, ◌⊎◌, ◌+◌, ℕ, inl, inr, refl, List, Option, Some}
use Rattle.std.specs.Prelude.{Err, Result}
use Rattle.std.specs.Borrow.{Bor}
use Rattle.std.specs.Int.{w32}
use Rattle.std.specs.Io.KnownBytes.{Keeps}
use Rattle.std.proofs.lemmas.Result.{err_from_is_err_and}
use Rattle.daachorse_model.specs.Program.{pattern_lines}
use Rattle.daachorse.specs.bytewise.Building.{IsBuildRefusal}
use Rattle.daachorse.specs.Forms.{IsReadRefusal, take_number}
use Rattle.daachorse.specs.bytewise.ReadForms.{GivesNoAutomaton}
use Rattle.daachorse.specs.Refusals.{IsOutOfMemory}
use Rattle.daachorse.specs.Replaced.{AppendsBeginning}
use Rattle.daacfind_command.specs.declared.index.command.Request.{Request}
use Rattle.daacfind_command.specs.declared.index.command.Request.TheVariants.{Form, Matches}
use Rattle.daacfind_command.specs.declared.index.written.IndexError.{IndexError}
use Rattle.daacfind_command.specs.declared.index.written.IndexError.TheVariants.{Refused, Kind, Write}
use Rattle.daacfind_command.specs.declared.mode.Mode.{Mode}
use Rattle.daacfind_command.specs.declared.status.CommandError.{CommandError}
use Rattle.daacfind_command.specs.declared.status.CommandError.TheVariants.{Run}
use Rattle.daacfind_command.specs.Commands.{Tells, status_of}
use Rattle.daacfind_command.specs.IndexCommands.{Ask, Attempts, EndsBy, EndsFor}
use Rattle.daacfind_command.specs.Modes.{kind_of_mode}
use Rattle.daacfind_command.specs.Runs.{value_gives}
use Rattle.daacfind_command.specs.Written.{IfRefused, IsFormOf, IsOfAnotherKind, IsTextBy, OnFailure, OnKind, OnRefusal}
use Rattle.daacfind_command.proofs.EndsLaws.{Ends-weaker}

module _ (given : Option (List ℕ → Option (List ℕ))) (mode : Mode) (old new : Option (List ℕ)) (f g : ℕ) where
  -- a write of a form failed
  pub form_failed : (name : Bor (List ℕ)) (patterns : List ℕ) → Tells given name.now (Some patterns) → (e : IndexError)
      → IfRefused e (IsBuildRefusal value_gives (kind_of_mode mode) (pattern_lines patterns)) → OnKind e ⊥
      → OnRefusal e (Keeps old new) → OnRefusal e (g ≡ f)
      → OnFailure e ((bytes : List ℕ) × IsFormOf (kind_of_mode mode) patterns bytes × AppendsBeginning old new bytes)
      → OnFailure e (g ≡ f + 1)
      → EndsFor given {T = Unit {0}} (Form mode name) old new f g (Err (Run e))
  form_failed name patterns told (Refused e) refused kind kept same beginning failed =
      inl (inr (e, refl, record { patterns = patterns; has_patterns = told; refused = refused }), kept, same)
  form_failed name patterns told Kind refused kind kept same beginning failed = absurd kind
  form_failed name patterns told Write refused kind kept same beginning failed =
      inr (beginning.0, record { patterns = patterns; has_patterns = told; form = beginning.1 }, beginning.2, failed)

  -- a search with a form failed
  pub matches_failed : (a h : Bor (List ℕ)) (form haystack : List ℕ) → Tells given a.now (Some form)
      → Tells given h.now (Some haystack) → (e : IndexError)
      → IfRefused e (λ cause. IsOutOfMemory cause ⊎ GivesNoAutomaton (take_number w32) form) → IfRefused e (IsReadRefusal (λ _. ⊥))
      → OnKind e (IsOfAnotherKind mode form)
      → OnRefusal e (Keeps old new) → OnRefusal e (g ≡ f)
      → OnFailure e ((text : List ℕ) × IsTextBy mode form haystack text × AppendsBeginning old new text) → OnFailure e (g ≡ f + 1)
      → EndsFor given {T = Unit {0}} (Matches mode a h) old new f g (Err (Run e))
  matches_failed a h form haystack has_form has_haystack (Refused e) none cause kind kept same beginning failed =
      inl (inr (inl (e, refl, record { bytes = form; has_bytes = has_form; none = none; cause = cause })), kept, same)
  matches_failed a h form haystack has_form has_haystack Kind none cause kind kept same beginning failed =
      inl (inr (inr (refl, (form, has_form, kind))), kept, same)
  matches_failed a h form haystack has_form has_haystack Write none cause kind kept same beginning failed =
      inr (
        beginning.0,
        record { automaton = form; haystack = haystack; has_automaton = has_form; has_haystack = has_haystack; found = beginning.1 },
        beginning.2,
        failed,
      )

module _ {T : Type 0} (words : List (Option (List ℕ))) (given : Option (List ℕ → Option (List ℕ))) (old new : Option (List ℕ))
    (f g : ℕ) (result : Result T (CommandError IndexError)) where
  -- an attempt ends as its request does
  pub of_request : (request : Request) → Ask words request → EndsFor given request old new f g result
      → Attempts words given old new f g result
  of_request request asked =
      Ends-weaker (λ bytes gives. (request, asked, gives)) (λ cause. (request, asked, cause)) (λ none. absurd none) old new f g
      (status_of result)

  -- a command ends as its attempt does
  pub of_attempt : Attempts words given old new f g result → EndsBy words given old new f g (status_of result)
  of_attempt =
      Ends-weaker (λ bytes gives. gives)
      (λ cause. let error = err_from_is_err_and result cause.2 in (cause.0, cause.1, (error.0, error.2))) (λ none. none)
      old new f g (status_of result)
