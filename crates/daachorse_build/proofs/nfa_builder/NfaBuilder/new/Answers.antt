-- A root and a dead state hold no pattern.
use Rattle.std.proofs.Common.{◌≡◌, ◌∷◌, [], length, refl, sym, ap}
use Rattle.daachorse_build.specs.Tables.{edges_of, own_of}
use Rattle.daachorse_build.proofs.Empty.{empty_table, holds_none, kept_none}
use Rattle.daachorse_build.proofs.nfa_builder.NfaBuilder.new.Goals as goal

pub returns-clause-registered : goal.returns-clause-registered
returns-clause-registered g c =
    let states = c.push-2.new.self.items in
    let edges : edges_of states ≡ [] ∷ [] ∷ [] = rw (c.in_ok-push-2.ensures.items, c.in_ok-push.ensures.items, c.new-states.ensures.items, c.new.ensures.edges, c.new-2.ensures.edges) refl in
    let outputs : own_of states ≡ [] ∷ [] ∷ [] = rw (c.in_ok-push-2.ensures.items, c.in_ok-push.ensures.items, c.new-states.ensures.items, c.new.ensures.outputs, c.new-2.ensures.outputs) refl in
    record {
      holds = holds_none g.L.Ord.cmp g.L.EdgeLabel.unit g.L.EdgeLabel.width c.args.kind states edges outputs;
      count = sym (ap length (kept_none {V = g.row.V.Denot} c.args.kind));
    }

pub invariant_of-result : goal.invariant_of-result
invariant_of-result g c =
    let states = c.push-2.new.self.items in
    let edges : edges_of states ≡ [] ∷ [] ∷ [] = rw (c.in_ok-push-2.ensures.items, c.in_ok-push.ensures.items, c.new-states.ensures.items, c.new.ensures.edges, c.new-2.ensures.edges) refl in
    rw edges (empty_table g.L.Ord.cmp)
