-- How an attempt ends, and for which cause, from what is known of its run.
use Rattle.std.proofs.Common.{◌≡◌, ◌+◌, ℕ, inl, inr, refl, List, Option, Some}
use Rattle.std.specs.Io.KnownBytes.{Keeps}
use Rattle.daachorse_model.specs.Program.{pattern_lines}
use Rattle.daachorse.specs.bytewise.Building.{IsBuildRefusal}
use Rattle.daachorse.specs.DaachorseError.{DaachorseError}
use Rattle.daachorse.specs.Replaced.{AppendsBeginning}
use Rattle.daacfind_command.specs.declared.mode.Mode.{Mode}
use Rattle.daacfind_command.specs.declared.run.RunError.{RunError}
use Rattle.daacfind_command.specs.declared.run.RunError.TheVariants.{Build, Write}
use Rattle.daacfind_command.specs.declared.status.CommandError.TheVariants.{Run}
use Rattle.daacfind_command.specs.Commands.{Tells}
use Rattle.daacfind_command.specs.FindCommands.{Ask, EndsBy, IsAsked, IsCause, IsRefused}
use Rattle.daacfind_command.specs.Modes.{kind_of_mode, text_of_mode}
use Rattle.daacfind_command.specs.Runs.{IfBuild, OnWrite, value_gives}

module _ (words : List (Option (List ℕ))) (given : Option (List ℕ → Option (List ℕ))) (mode : Mode) (p h patterns haystack : List ℕ)
    (asked : Ask words mode p h) (has_patterns : Tells given p (Some patterns)) (has_haystack : Tells given h (Some haystack)) where
  is_asked : IsAsked words given (text_of_mode mode patterns haystack)
  is_asked = record {
    mode = mode;
    patterns_name = p;
    haystack_name = h;
    asked = asked;
    patterns = patterns;
    haystack = haystack;
    has_patterns = has_patterns;
    has_haystack = has_haystack;
    is = refl;
  }

  is_refused : (refusal : DaachorseError) → IsBuildRefusal value_gives (kind_of_mode mode) (pattern_lines patterns) refusal
      → IsRefused words given refusal
  is_refused refusal refused = record {
    mode = mode;
    patterns_name = p;
    haystack_name = h;
    asked = asked;
    refused = record { patterns = patterns; has_patterns = has_patterns; refused = refused };
  }

  pub run_failed : (old new : Option (List ℕ)) (f g : ℕ) (e : RunError)
      → IfBuild e (IsBuildRefusal value_gives (kind_of_mode mode) (pattern_lines patterns))
      → IfBuild e (λ _. Keeps old new) → IfBuild e (λ _. g ≡ f)
      → OnWrite e (AppendsBeginning old new (text_of_mode mode patterns haystack)) → OnWrite e (g ≡ f + 1)
      → EndsBy words given old new f g 1
  run_failed old new f g (Build e) refused kept same beginning failed = inl (inr (e, is_refused e refused), kept, same)
  run_failed old new f g Write refused kept same beginning failed = inr (text_of_mode mode patterns haystack, is_asked, beginning, failed)

  pub run_cause : (e : RunError) → IfBuild e (IsBuildRefusal value_gives (kind_of_mode mode) (pattern_lines patterns))
      → IsCause words given (Run e)
  run_cause (Build e) refused = is_refused e refused
  run_cause Write refused = (text_of_mode mode patterns haystack, is_asked)
