-- The reader's units are those of the source, and its matches those of the automaton.
use Rattle.std.proofs.Common.{ℕ, Bool, List, refl, sym, ap, ◌∙◌, subst}
use Rattle.std.proofs.lemmas.Result.{err_from_is_err_and}
use Rattle.std.specs.Io.Buffered.{reader_remaining}
use Rattle.daachorse_model.specs.declared.Match.{Match}
use Rattle.daachorse_model.specs.declared.MatchKind.{MatchKind}
use Rattle.daachorse_model.specs.Dictionary.{Dictionary}
use Rattle.daachorse_model.specs.Folding.{as_read}
use Rattle.daachorse_model.specs.Matches.{standard}
use Rattle.daachorse_streams.specs.ByKind.{non_overlapping}
use Rattle.daachorse_streams.specs.Streams.{HasNoLonger, IsLongest}
use Rattle.daachorse_streams.proofs.ReadLaws.{longest-least, non_overlapping_apart, read-nothing, replaces-read}
use Rattle.daachorse.proofs.automaton.AhoCorasick.replace_standard.Goals as goal

pub returns-in_err-longest : goal.returns-in_err-longest
returns-in_err-longest g c =
    let p = err_from_is_err_and c.from_residual.result c.from_residual.ensures.1 in
    let a = c.args.self.now in
    let s = g.S.Searched in
    let unit = g.S.Unit.FromReader in
    rw p.1 (read-nothing _ g.O.Write.contents _ unit.is_unit unit.encoded _ _ _ _ _ g.met.S.Unit.FromReader.silent (λ units. non_overlapping_apart (s.kind a) _ (s.dictionary a) (as_read (s.folds a) units)))

pub returns-in_err-in_blocks : goal.returns-in_err-in_blocks
returns-in_err-in_blocks g c =
    let p = err_from_is_err_and c.from_residual-in_err-in_blocks.result c.from_residual-in_err-in_blocks.ensures.1 in
    let a = c.args.self.now in
    let s = g.S.Searched in
    let unit = g.S.Unit.FromReader in
    rw p.1 (read-nothing _ g.O.Write.contents _ unit.is_unit unit.encoded _ _ _ _ _ g.met.S.Unit.FromReader.silent (λ units. non_overlapping_apart (s.kind a) _ (s.dictionary a) (as_read (s.folds a) units)))

pub replace_from-requires-clause-longest : goal.replace_from-requires-clause-longest
replace_from-requires-clause-longest g c =
    subst (λ K. HasNoLonger g.S.Unit.EdgeLabel.width K c.in_ok-longest.longest) (sym c.standard.ensures.content) c.in_ok-longest.ensures.ok.none_longer

pub returns : goal.returns
returns g c =
    let a = c.args.self.now in
    let s = g.S.Searched in
    let unit = g.S.Unit.FromReader in
    let laws = g.met.S.Unit.FromReader in
    let width = g.S.Unit.EdgeLabel.width in
    let K = s.dictionary a in
    let found : Dictionary g.row.S-Value.Denot → Bool → List ℕ → List (Match g.row.S-Value.Denot) = λ K folds units. standard width K (as_read folds units) in
    let by_kind : MatchKind → List ℕ → List (Match g.row.S-Value.Denot) = λ kind units. non_overlapping kind width K (as_read (s.folds a) units) in
    let folds = c.is_ascii_case_insensitive.result in
    let same = ap (λ K. found K folds) (c.standard.ensures.content ∙ ap s.dictionary c.self.view_is) ∙ ap (found K) c.is_ascii_case_insensitive.ensures
    ∙ ap by_kind (sym c.requires.kind) in
    let starts = ap unit.known c.from_reader-source.ensures.reads ∙ laws.starts c.in_ok-in_blocks.field-0 ∙ c.in_ok-in_blocks.ensures.reads.left in
    replaces-read _ g.O.Write.contents _ _ _ g.S.Unit.EdgeLabel.unit g.S.Unit.EdgeLabel.form unit.of_unit laws.covers unit.is_unit unit.encoded laws.spells
    unit.known laws.took laws.ends same c.from_reader-source.result _ starts _ _ _ _ (longest-least (subst (λ b. IsLongest width (s.dictionary b) c.in_ok-longest.longest) c.self.view_is c.in_ok-longest.ensures.ok)) c.replace_from.result c.replace_from.ensures.whole c.replace_from.ensures.beginning
