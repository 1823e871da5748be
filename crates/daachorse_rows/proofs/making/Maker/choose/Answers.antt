-- Each of two rounds from the root gives rows to the ends of all steps from rows, so that rows cover the texts of at most two units; a round that finds no room shows that such states are too many.
use Rattle.std.proofs.Common.{◌≡◌, ◌≤◌, ℕ, List, [], ◌∷◌, inl, length, refl, subst, sym, ap, ◌∙◌, arith}
use Rattle.std.specs.Prelude.{slice_index}
use Rattle.daachorse_rows.specs.Rows.{AreCovered, AreLabelled, AreNear, Labelled, Listed, labelled, most_rows}
use Rattle.daachorse_rows.proofs.ShallowLaws.{AreCovered-next, AreCovered-on, AreNear-all, AreStepped-fewer, AreTooMany-weaker, IsShallow-none}
use Rattle.daachorse_rows.proofs.making.Maker.choose.Goals as goal

no_units : (w : List ℕ) → length w ≤ 0 → w ≡ []
no_units [] h = refl
no_units (u ∷ w) h = absurd (omega (arith, h))

-- the root alone has no units
module _ {V : Type 0} (seen : Labelled V) (order : List ℕ) (one : length order ≡ 1) (empty : seen.view.text (slice_index order 0) ≡ []) where
  root_near : AreNear seen 0 (length order) order
  root_near = AreNear-all seen 0 order (λ k below. let first : k ≡ 0 = omega (arith, below, one) in IsShallow-none seen.stands 0 _ (ap (λ i. seen.view.text (slice_index order i)) first ∙ empty))

  root_covered : AreCovered seen 0 order
  root_covered w begins shallow = (0, omega (arith, one), empty ∙ sym (no_units w shallow.short))

pub choose_next-requires : goal.choose_next-requires
choose_next-requires g c = let root = c.in_ok-chosen.ensures in record { chosen = root.0; root = (omega (arith, root.1), root.2) }

pub returns-then-not-branch : goal.returns-then-not-branch
returns-then-not-branch g c =
    let seen = labelled g.A.Automaton.sees g.A.Automaton.labels g.A.Label.RowLabel.number c.args.self.now in let root = c.in_ok-chosen.ensures in
    inl (AreTooMany-weaker seen.view seen.stands 1 2 (most_rows seen) (most_rows seen) (omega arith) (omega arith) (c.in_ok-choose_next.ensures.full c.if-not-branch.true 0 _ (omega arith) (root_near seen _ root.1 root.2)))

pub choose_next-requires-2 : goal.choose_next-requires-2
choose_next-requires-2 g c = let round = c.in_ok-choose_next.ensures in record { chosen = round.added.chosen; root = (round.stepped c.if-not-branch.false).root }

pub returns-then-not-branch-2 : goal.returns-then-not-branch-2
returns-then-not-branch-2 g c =
    let seen = labelled g.A.Automaton.sees g.A.Automaton.labels g.A.Label.RowLabel.number c.args.self.now in let root = c.in_ok-chosen.ensures in
    let near = c.in_ok-choose_next.ensures.added.near 0 _ (omega arith) (root_near seen _ root.1 root.2) in
    inl (c.in_ok-choose_next-2.ensures.full c.if-not-branch-2.true 1 _ (omega arith) (AreNear-all seen 1 _ near.all))

pub choose_rest-requires : goal.choose_rest-requires
choose_rest-requires g c = record {
  from = omega (arith, c.len-near.ensures, c.choose_next.new.chosen.order.ok.0, c.in_ok-choose_next-2.ensures.added.on.more);
  stepped =
      let seen = labelled g.A.Automaton.sees g.A.Automaton.labels g.A.Label.RowLabel.number c.args.self.now in
      AreStepped-fewer seen c.len-near.result _ _ (omega (arith, c.len-near.ensures, c.choose_next.new.chosen.order.ok.0)) (c.in_ok-choose_next-2.ensures.stepped c.if-not-branch-2.false);
  chosen = c.in_ok-choose_next-2.ensures.added.chosen;
}

pub returns : goal.returns
returns g c =
    let seen = labelled g.A.Automaton.sees g.A.Automaton.labels g.A.Label.RowLabel.number c.args.self.now in
    let P : Listed g.row.A.Denot → Type 0 = λ p. AreLabelled (labelled g.A.Automaton.sees g.A.Automaton.labels g.A.Label.RowLabel.number p) in let named = subst P c.self.view_is c.self.invariant in
    let root = c.in_ok-chosen.ensures in let one = c.in_ok-choose_next.ensures in let two = c.in_ok-choose_next-2.ensures in let rest = c.in_ok-choose_rest.ensures in
    let covered = AreCovered-next seen named 0 _ _ one.added.on (one.stepped c.if-not-branch.false) (root_covered seen _ root.1 root.2) in
    let near = one.added.near 0 _ (omega arith) (root_near seen _ root.1 root.2) in
    record {
      chosen = rest.chosen.0;
      covered = AreCovered-on seen 2 _ _ rest.chosen.1 (AreCovered-next seen named 1 _ _ two.added.on (two.stepped c.if-not-branch-2.false) covered);
      ends = rest.ends 2 (two.added.near 1 _ (omega arith) (AreNear-all seen 1 _ near.all)).all;
    }
