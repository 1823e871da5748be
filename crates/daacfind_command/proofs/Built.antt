-- An automaton that was built of the lines holds the dictionary of the numbered lines.
use Rattle.std.proofs.Common.{◌≡◌, ℕ, ◌+◌, false, List, [], ◌∷◌, refl, ap, ◌∙◌}
use Rattle.daachorse_model.specs.declared.MatchKind.{MatchKind}
use Rattle.daachorse_model.specs.Dictionary.{dictionary}
use Rattle.daachorse_model.specs.Folding.{as_read}
use Rattle.daachorse_model.specs.Program.{with_numbers, pattern_lines, match_text}
use Rattle.daachorse.specs.bytewise.Automata.{Automaton, dictionary_of}
use Rattle.daachorse.specs.bytewise.Building.{IsBuiltOf}
use Rattle.daachorse.specs.Patterns.{AreIndexed}
use Rattle.daacfind_command.specs.declared.mode.Mode.{Mode}
use Rattle.daacfind_command.specs.Modes.{found_by, kind_of_mode, text_of_mode}
use Rattle.daacfind_command.specs.Runs.{value_gives}

pub numbered_of : (i : ℕ) (texts : List (List ℕ)) (rs : List (List ℕ × ℕ)) → AreIndexed value_gives i texts rs → rs ≡ with_numbers i texts
numbered_of i [] [] h = refl
numbered_of i [] ((u, v) ∷ rs) h = absurd h
numbered_of i (t ∷ ts) [] h = absurd h
numbered_of i (t ∷ ts) ((u, v) ∷ rs) h = let first = h.1.1 in let rest = numbered_of (i + 1) ts rs h.2 in cc (first, rest, h.0)

dictionary_of_built : (kind : MatchKind) (texts : List (List ℕ)) (a : Automaton ℕ) → IsBuiltOf value_gives kind false texts a
    → dictionary_of a ≡ dictionary kind (with_numbers 0 texts)
dictionary_of_built kind texts a h =
    let held : dictionary_of a ≡ dictionary kind h.0 = λ i w. h.2.holds w i in
    held ∙ ap (dictionary kind) (numbered_of 0 texts h.0 h.1)

-- so what a mode writes is the text that the pattern file asks for
pub text_of_built : (mode : Mode) (patterns haystack : List ℕ) (a : Automaton ℕ) (kind : MatchKind) → kind ≡ kind_of_mode mode
    → IsBuiltOf value_gives kind false (pattern_lines patterns) a
    → match_text (found_by mode (dictionary_of a) (as_read a.folds haystack)) ≡ text_of_mode mode patterns haystack
text_of_built mode patterns haystack a kind is h =
    ap (λ b. match_text (found_by mode (dictionary_of a) (as_read b haystack))) h.2.folds
    ∙ ap (λ K. match_text (found_by mode K haystack))
    (dictionary_of_built kind (pattern_lines patterns) a h ∙ ap (λ k. dictionary k (with_numbers 0 (pattern_lines patterns))) is)
