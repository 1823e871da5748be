-- The first match ends with one character more, or none does.
use Rattle.std.proofs.Common.{◌≡◌, ℕ, ◌≤◌, ◌^◌, List, ◌∷◌, ◌++◌, [], None, true, false, rules, refl, sym, ap, ◌∙◌, subst, inl, inr, arith}
use Rattle.std.proofs.iter.Next.{Yields-more}
use Rattle.std.proofs.lemmas.List.Elements.{All-nil}
use Rattle.std.specs.Iterator.Runs.{SomeRun}
use Rattle.std.specs.Prelude.{All, is_some}
use Rattle.daachorse_core.specs.CharForms.{char_wide}
use Rattle.daachorse_core.specs.FoldedForms.{char_as_wide}
use Rattle.daachorse_model.specs.Folding.{as_read}
use Rattle.daachorse_model.specs.Matches.{standard}
use Rattle.daachorse_model.specs.Units.{char_width, size}
use Rattle.daachorse_model.proofs.FoldLaws.{size-as_read}
use Rattle.daachorse_model.proofs.Suffixes.{size-push}
use Rattle.daachorse.specs.charwise.Automata.{dictionary_of, states_of}
use Rattle.daachorse_uses.specs.Found.{IsFirstGiven, IsFirstMatch}
use Rattle.daachorse_uses.proofs.Growing.{all-far, first_given, looked_none, none-more, some-first, some-more, told}
use Rattle.daachorse_uses.proofs.Marks.{some_run, whole_run}
use Rattle.daachorse_uses.proofs.Readings.{read_on}
use Rattle.daachorse_uses.proofs.stream.first_in_characters.Goals as goal

pub returns-then-is_some : goal.returns-then-is_some
returns-then-is_some g c =
    let words = c.args.words.now in let K = dictionary_of words in let begins = c.find_stepper-stepper in
    let is =
    told char_width (λ p. dictionary_of (record words { parts = p })) begins.result.automaton (states_of words) begins.result.read []
    c.matches.result c.matches.ensures begins.ensures.automaton begins.ensures.read in
    let again =
    told char_width (λ p. dictionary_of (record words { parts = p })) begins.result.automaton (states_of words) begins.result.read []
    c.matches-then-is_some.result c.matches-then-is_some.ensures begins.ensures.automaton begins.ensures.read in
    first_given g.I.Iterator.next_gives c.args.source (λ text. standard char_width K (as_read words.folds text))
    c.matches-then-is_some.result c.is_some.result (c.is_some.ensures ∙ ap is_some (is ∙ sym again)) c.if-is_some.true
    (λ m some.
    some_run g.I.Iterator.next_gives c.args.source c.args.source []
    (λ xs. IsFirstMatch char_width (λ text. standard char_width K (as_read words.folds text)) xs m) refl
    (some-first char_width char_wide char_as_wide K words.folds m (some ∙ again)))

pub returns-then-place-len_utf8 : goal.returns-then-place-len_utf8
returns-then-place-len_utf8 g c =
    let words = c.args.words.now in let K = dictionary_of words in let l = c.loop-character in
    let text = l.yielded ++ c.in-Some.character ∷ [] in
    let far : 2 ^ 64 ≤ size char_width text =
    omega (
      arith,
      c.if-place-len_utf8.true,
      c.place.ensures,
      c.len_utf8.ensures.value,
      ap (size char_width) l.invariant.read,
      size-as_read char_width char_as_wide words.folds l.yielded,
      size-push char_width l.yielded c.in-Some.character,
    ) in
    let ends : All (λ m. 2 ^ 64 ≤ m.end) (standard char_width K (as_read words.folds text)) =
    all-far char_width char_wide char_as_wide K words.folds l.yielded c.in-Some.character l.invariant.none (2 ^ 64) far in
    let P : List ℕ → Type 0 =
    λ xs. All (λ m. 2 ^ 64 ≤ m.end) (standard char_width K (as_read words.folds xs)) × (2 ^ 64 ≤ size char_width xs) in
    let steps = g.I.Iterator.next_gives in
    let run =
    subst (λ s. SomeRun steps s (λ p. P p.items)) c.into_iter-character-iterator.ensures.into_iter_gives
    (some_run steps c.into_iter-character-iterator.result c.next.new.self text P
    (Yields-more steps c.into_iter-character-iterator.result l.yielded l.character-iterator c.in-Some.character c.next.new.self l.yielded_by
    c.in-Some.ensures.steps) (ends, far)) in
    (run.0, run.1, (run.2.0, inr run.2.1))

pub returns-then-is_some-2 : goal.returns-then-is_some-2
returns-then-is_some-2 g c =
    let words = c.args.words.now in let K = dictionary_of words in let l = c.loop-character in
    let text = l.yielded ++ c.in-Some.character ∷ [] in let now = c.consume.new.self in
    let steps = g.I.Iterator.next_gives in
    let read =
    read_on words.folds l.stepper.folds l.yielded (c.in-Some.character ∷ []) l.stepper.read now.read l.invariant.folds l.invariant.read
    c.consume.ensures.read in
    let is =
    told char_width (λ p. dictionary_of (record words { parts = p })) now.automaton (states_of words) now.read (as_read words.folds text)
    c.matches-in-loop-character.result c.matches-in-loop-character.ensures (c.consume.ensures.automaton ∙ l.invariant.automaton) read in
    let again =
    told char_width (λ p. dictionary_of (record words { parts = p })) now.automaton (states_of words) now.read (as_read words.folds text)
    c.matches-then-is_some-2.result c.matches-then-is_some-2.ensures (c.consume.ensures.automaton ∙ l.invariant.automaton) read in
    first_given steps c.args.source (λ text. standard char_width K (as_read words.folds text))
    c.matches-then-is_some-2.result c.is_some-in-loop-character.result (c.is_some-in-loop-character.ensures ∙ ap is_some (is ∙ sym again))
    c.if-is_some-2.true
    (λ m some.
    let P : List ℕ → Type 0 = λ xs. IsFirstMatch char_width (λ text. standard char_width K (as_read words.folds text)) xs m in
    subst (λ s. SomeRun steps s (λ p. P p.items)) c.into_iter-character-iterator.ensures.into_iter_gives
    (some_run steps c.into_iter-character-iterator.result c.next.new.self text P
    (Yields-more steps c.into_iter-character-iterator.result l.yielded l.character-iterator c.in-Some.character c.next.new.self l.yielded_by
    c.in-Some.ensures.steps)
    (some-more char_width char_wide char_as_wide K words.folds l.yielded c.in-Some.character l.invariant.none m (some ∙ again))))

pub loop-character-preserved : goal.loop-character-preserved
loop-character-preserved g c =
    let words = c.args.words.now in let K = dictionary_of words in let l = c.loop-character in
    let text = l.yielded ++ c.in-Some.character ∷ [] in let now = c.consume.new.self in
    let read =
    read_on words.folds l.stepper.folds l.yielded (c.in-Some.character ∷ []) l.stepper.read now.read l.invariant.folds l.invariant.read
    c.consume.ensures.read in
    let is =
    told char_width (λ p. dictionary_of (record words { parts = p })) now.automaton (states_of words) now.read (as_read words.folds text)
    c.matches-in-loop-character.result c.matches-in-loop-character.ensures (c.consume.ensures.automaton ∙ l.invariant.automaton) read in
    record {
      can = search rules;
      is_finite = search rules;
      automaton = c.consume.ensures.automaton ∙ l.invariant.automaton;
      folds = c.consume.ensures.folds ∙ l.invariant.folds;
      read = read;
      none = none-more char_width char_wide char_as_wide K words.folds l.yielded c.in-Some.character l.invariant.none
          (looked_none c.matches-in-loop-character.result c.is_some-in-loop-character.result c.is_some-in-loop-character.ensures
          c.if-is_some-2.false ∙ is);
    }

pub returns : goal.returns
returns g c =
    let words = c.args.words.now in let K = dictionary_of words in let l = c.loop-character in let steps = g.I.Iterator.next_gives in
    let matches = λ (text : List ℕ). standard char_width K (as_read words.folds text) in
    let run =
    whole_run steps c.into_iter-character-iterator.result l.character-iterator c.next.new.self l.yielded (λ xs. matches xs ≡ [])
    l.yielded_by c.in-None.ensures.steps l.invariant.none in
    subst (λ s. IsFirstGiven steps s matches None) c.into_iter-character-iterator.ensures.into_iter_gives
    (run.0, run.1, (subst (All (λ m. 2 ^ 64 ≤ m.end)) (sym run.3) (All-nil (λ m. 2 ^ 64 ≤ m.end)), inl run.2))
