-- The rows are those of the chosen states as they were written, so they are right, cover what the choice covers, and are closed where each
-- step from a chosen state ends at one.
use Rattle.std.proofs.Common.{◌≤◌, ℕ, List, length, map, sym, ap, ◌∙◌, arith}
use Rattle.std.proofs.lemmas.List.{length-map}
use Rattle.std.proofs.lemmas.Option.{none-some, MatchOption-at_none, MatchOption-at_some}
use Rattle.daachorse_search.specs.Views.{AutomatonView}
use Rattle.daachorse_rows.specs.Rows.{AreLabelled, AreLabels, RowTable, labelled, row_cells, stands_by}
use Rattle.daachorse_rows.proofs.MakingLaws.{HaveRows-chosen, Rows-made}
use Rattle.daachorse_rows.proofs.rows.Rows.new.Goals as goal

-- the labels are those that the maker has to have
labelled_by : {V A L : Type 0} (sees : A → AutomatonView V) (stands : A → L → ℕ → Type 0) (number : L → ℕ) (a : A) (labels : List L)
    → AreLabels (sees a).content (stands_by number (stands a)) (map number labels) → length labels ≤ 638
    → AreLabelled (labelled sees stands number (record { automaton = a; labels = map number labels; width = row_cells (length labels) }))
labelled_by sees stands number a labels named few = let size = length-map labels number in
    record { labels = named; few = omega (arith, size, few); width = ap row_cells (sym size) }

pub slots_of-requires : goal.slots_of-requires
slots_of-requires g c = c.requires.few

pub invariant_of-maker : goal.invariant_of-maker
invariant_of-maker g c = labelled_by g.A.Automaton.sees g.A.Automaton.labels g.A.Label.RowLabel.number c.args.automaton.now
    c.args.labels.now c.requires.labels c.requires.few

pub returns-in_default-clause-none : goal.returns-in_default-clause-none
returns-in_default-clause-none g c = λ _.
    MatchOption-at_none _ _ c.in_default.is c.in_ok-chosen.ensures

pub write-requires : goal.write-requires
write-requires g c = (MatchOption-at_some _ _ c.in-Some.chosen c.in-Some.is c.in_ok-chosen.ensures).chosen

pub cell-root-requires : goal.cell-root-requires
cell-root-requires g c =
    let chosen = (MatchOption-at_some _ _ c.in-Some.chosen c.in-Some.is c.in_ok-chosen.ensures).chosen in
    let named = labelled_by g.A.Automaton.sees g.A.Automaton.labels g.A.Label.RowLabel.number c.args.automaton.now c.args.labels.now
    c.requires.labels c.requires.few in
    record { rows = HaveRows-chosen _ _ _ named chosen; fits = chosen.fits c.root.result c.root.ensures.reached }

pub overflow_cast-count : goal.overflow_cast-count
overflow_cast-count g c =
    let chosen = (MatchOption-at_some _ _ c.in-Some.chosen c.in-Some.is c.in_ok-chosen.ensures).chosen in
    omega (arith, c.len-count.ensures, c.in-Some.chosen.order.ok.0, chosen.few, chosen.room)

pub returns : goal.returns
returns g c =
    let A = g.A.Automaton in let a = c.args.automaton.now in let number = g.A.Label.RowLabel.number in
    let order = c.in-Some.chosen.order.items in
    let width = row_cells (length c.args.labels.now) in
    let r : RowTable = record {
      classes = c.in_ok-classes.classes.items;
      top = c.in_ok-top.top.items;
      homes = c.in-Some.chosen.homes.items;
      count = c.len-count.result;
      width = width;
      root = c.cell-root.result;
    } in
    let seen = labelled A.sees A.labels number (record { automaton = a; labels = map number c.args.labels.now; width = width }) in
    let named = labelled_by A.sees A.labels number a c.args.labels.now c.requires.labels c.requires.few in
    let made = Rows-made g.A.Unit.EdgeLabel.width seen r order (c.len-count.ensures ∙ c.in-Some.chosen.order.ok.0) named c.in_ok-top.ensures
    c.in_ok-classes.ensures (MatchOption-at_some _ _ c.in-Some.chosen c.in-Some.is c.in_ok-chosen.ensures) c.root.result c.cell-root.ensures
    c.root.ensures.reached c.root.ensures.text g.A.Label.RowLabel.most in
    record { right = made.0; covered = made.1; closed = made.2; none = λ none. absurd (none-some _ (sym none)) }

pub overflow_cast-width : goal.overflow_cast-width
overflow_cast-width g c = omega (arith, c.requires.few)

pub overflow_add-width : goal.overflow_add-width
overflow_add-width g c = omega (arith, c.requires.few)
