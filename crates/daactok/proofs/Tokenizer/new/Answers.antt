-- The first match in the empty text tells whether the empty text is a key.
use Rattle.std.proofs.Common.{refl, subst, Option}
use Rattle.daachorse_model.specs.declared.Match.{Match}
use Rattle.daachorse_model.specs.Units.{char_width}
use Rattle.daachorse.specs.charwise.Automata.{dictionary_of}
use Rattle.daachorse.specs.LeftmostSearches.{StandsBehind}
use Rattle.daachorse.specs.Matches.{GivesFirst}
use Rattle.daactok.proofs.EmptyText.{empty_key, no_empty_key}
use Rattle.daactok.proofs.Tokenizer.new.Goals as goal

pub invariant_of-result : goal.invariant_of-result
invariant_of-result g c =
    let P : Option (Match g.row.V.Denot) → Type 0 = λ o. GivesFirst (StandsBehind char_width) c.leftmost_find_iter.result o c.next.new.self in
    let end = subst P c.in-None.is c.next.ensures.steps in
    (c.requires, no_empty_key c.args.words.now.folds (dictionary_of c.args.words.now) _ c.leftmost_find_iter.ensures.begins.left end.none)

pub returns : goal.returns
returns g c =
    let P : Option (Match g.row.V.Denot) → Type 0 = λ o. GivesFirst (StandsBehind char_width) c.leftmost_find_iter.result o c.next.new.self in
    let end = subst P c.in-None.is c.next.ensures.steps in
    (no_empty_key c.args.words.now.folds (dictionary_of c.args.words.now) _ c.leftmost_find_iter.ensures.begins.left end.none, refl)

pub returns-in-Some : goal.returns-in-Some
returns-in-Some g c =
    let P : Option (Match g.row.V.Denot) → Type 0 = λ o. GivesFirst (StandsBehind char_width) c.leftmost_find_iter.result o c.next.new.self in
    let step = subst P c.in-Some.is c.next.ensures.steps in
    empty_key c.args.words.now.folds (dictionary_of c.args.words.now) _ c.leftmost_find_iter.ensures.begins.left c.in-Some.field-0 _ step.first
