-- The reader's units are those of the source, and its matches those of the automaton.
use Rattle.std.proofs.Common.{◌≡◌, ◌≢◌, ℕ, Bool, List, refl, sym, ap, ◌∙◌, subst}
use Rattle.std.proofs.lemmas.Result.{err_from_is_err_and}
use Rattle.std.specs.Io.Buffered.{reader_remaining}
use Rattle.daachorse_model.specs.declared.Match.{Match}
use Rattle.daachorse_model.specs.declared.MatchKind.{MatchKind}
use Rattle.daachorse_model.specs.declared.MatchKind.TheVariants.{Standard, LeftmostLongest, LeftmostFirst}
use Rattle.daachorse_model.specs.Dictionary.{Dictionary}
use Rattle.daachorse_model.specs.Folding.{as_read}
use Rattle.daachorse_model.specs.Leftmost.{leftmost}
use Rattle.daachorse_haystack.specs.Filters.{IsSoundFor}
use Rattle.daachorse_search.specs.Views.{HasMarks}
use Rattle.daachorse_streams.specs.ByKind.{non_overlapping}
use Rattle.daachorse_streams.specs.Streams.{IsLongest}
use Rattle.daachorse_streams.proofs.ReadLaws.{longest-least, non_overlapping_apart, read-nothing, replaces-read}
use Rattle.daachorse.proofs.automaton.AhoCorasick.replace_leftmost.Goals as goal

by_kind : {V : Type 0} (width : ℕ → ℕ) (K : Dictionary V) (folds : Bool) (kind : MatchKind) → kind ≢ Standard
    → ◌≡◌ {A = List ℕ → List (Match V)} (λ units. leftmost width K (as_read folds units)) (λ units. non_overlapping kind width K (as_read folds units))
by_kind width K folds Standard other = absurd (other refl)
by_kind width K folds LeftmostLongest other = refl
by_kind width K folds LeftmostFirst other = refl

pub returns-in_err-marks : goal.returns-in_err-marks
returns-in_err-marks g c =
    let p = err_from_is_err_and c.from_residual.result c.from_residual.ensures.1 in
    let a = c.args.self.now in
    let s = g.S.Searched in
    let unit = g.S.Unit.FromReader in
    rw p.1 (read-nothing _ g.O.Write.contents _ unit.is_unit unit.encoded _ _ _ _ _ g.met.S.Unit.FromReader.silent (λ units. non_overlapping_apart (s.kind a) _ (s.dictionary a) (as_read (s.folds a) units)))

pub returns-in_err-in_blocks : goal.returns-in_err-in_blocks
returns-in_err-in_blocks g c =
    let p = err_from_is_err_and c.from_residual-in_err-in_blocks.result c.from_residual-in_err-in_blocks.ensures.1 in
    let a = c.args.self.now in
    let s = g.S.Searched in
    let unit = g.S.Unit.FromReader in
    rw p.1 (read-nothing _ g.O.Write.contents _ unit.is_unit unit.encoded _ _ _ _ _ g.met.S.Unit.FromReader.silent (λ units. non_overlapping_apart (s.kind a) _ (s.dictionary a) (as_read (s.folds a) units)))

pub replace_leftmost_skipping-requires-clause-marks : goal.replace_leftmost_skipping-requires-clause-marks
replace_leftmost_skipping-requires-clause-marks g c =
    let marks = c.in_ok-marks.marks in
    let lent = c.marked-states.ensures in
    record {
      children = lent.marks marks.children.items c.in_ok-marks.ensures.ok.children;
      longest =
          let same = g.met.S.Searched.view_content c.self.inside.searched ∙ sym lent.content in
          subst (λ K. IsLongest g.S.Unit.EdgeLabel.width K marks.longest) same c.in_ok-marks.ensures.ok.longest;
    }

pub replace_leftmost_skipping-requires-clause-sound : goal.replace_leftmost_skipping-requires-clause-sound
replace_leftmost_skipping-requires-clause-sound g c = subst (λ K. IsSoundFor (g.S.Unit.BlockUnit.passes c.skipping.result) K) (sym c.marked-states.ensures.content) c.skipping.ensures.sound

pub returns : goal.returns
returns g c =
    let a = c.args.self.now in
    let s = g.S.Searched in
    let unit = g.S.Unit.FromReader in
    let laws = g.met.S.Unit.FromReader in
    let width = g.S.Unit.EdgeLabel.width in
    let K = s.dictionary a in
    let found : Dictionary g.row.S-Value.Denot → Bool → List ℕ → List (Match g.row.S-Value.Denot) = λ K folds units. leftmost width K (as_read folds units) in
    let folds = c.is_ascii_case_insensitive.result in
    let same = ap (λ K. found K folds) (c.marked-states.ensures.content ∙ ap s.dictionary c.self.view_is) ∙ ap (found K) c.is_ascii_case_insensitive.ensures
    ∙ by_kind width K (s.folds a) (s.kind a) c.requires.kind in
    let starts = ap unit.known c.from_reader-source.ensures.reads ∙ laws.starts c.in_ok-in_blocks.field-0 ∙ c.in_ok-in_blocks.ensures.reads.left in
    replaces-read _ g.O.Write.contents _ _ _ g.S.Unit.EdgeLabel.unit g.S.Unit.EdgeLabel.form unit.of_unit laws.covers unit.is_unit unit.encoded laws.spells
    unit.known laws.took laws.ends same c.from_reader-source.result _ starts _ _ _ _ (longest-least (subst (λ K. IsLongest width K c.in_ok-marks.marks.longest) (g.met.S.Searched.view_content c.self.inside.searched ∙ ap s.dictionary c.self.view_is) c.in_ok-marks.ensures.ok.longest)) c.replace_leftmost_skipping.result c.replace_leftmost_skipping.ensures.whole c.replace_leftmost_skipping.ensures.beginning
