-- The step by a listed label ends where the links lead.
use Rattle.std.proofs.Common.{ℕ, subst, sym}
use Rattle.std.proofs.lemmas.List.{get_or_read}
use Rattle.daachorse_search.specs.Views.{Steps}
use Rattle.daachorse_rows.proofs.MakingLaws.{stands_read}
use Rattle.daachorse_rows.proofs.making.Maker.step.Goals as goal

pub follow-requires : goal.follow-requires
follow-requires g c =
    let number = g.A.Label.RowLabel.number in let s = c.self.inside in
    let listed = rw (← c.self.view_is) at c.requires.k in
    let same = get_or_read c.args.chosen.now.order.items c.args.row c.index-state.result.now c.requires.row c.index-state.ensures 0 in
    let some = c.self.invariant.labels.none_idle c.args.k listed in
    let P : ℕ → Type 0 = λ x. (g.A.Automaton.sees s.automaton.now).reached x in
    record {
      reached = subst P (sym same) (rw (← c.self.view_is) at (c.requires.chosen.states c.args.row c.requires.row));
      unit = (some.0, stands_read number g.met.A.Label.RowLabel.exact (g.A.Automaton.labels s.automaton.now) s.labels.now c.args.k c.index-self-k.result listed some.0 some.1);
    }

pub returns : goal.returns
returns g c =
    let number = g.A.Label.RowLabel.number in let s = c.self.inside in
    let listed = rw (← c.self.view_is) at c.requires.k in
    let same = get_or_read c.args.chosen.now.order.items c.args.row c.index-state.result.now c.requires.row c.index-state.ensures 0 in
    rw (← c.self.view_is) (record {
      leads = record {
        is_state = c.follow.ensures.reached;
        ends = λ unit coded.
            let P : ℕ → Type 0 = λ x. Steps (g.A.Automaton.sees s.automaton.now) x unit c.follow.result.0 in
            subst P same (c.follow.ensures.ends unit (stands_read number g.met.A.Label.RowLabel.exact (g.A.Automaton.labels s.automaton.now) s.labels.now c.args.k c.index-self-k.result listed unit coded));
      };
      output = c.follow.ensures.output;
    })
