-- A search begins with its filter as it came, at the beginning of its haystack.
use Rattle.std.proofs.Common.{inl, [], ap, sym, ◌∙◌, subst, arith}
use Rattle.daachorse_model.specs.Units.{size}
use Rattle.daachorse_haystack.specs.Filters.{IsSoundFor}
use Rattle.daachorse_search.proofs.leftmost.LeftmostMatches.with_filter.Goals as goal

pub invariant_of-result : goal.invariant_of-result
invariant_of-result g c =
    let F = g.F.Filter in
    let S : g.row.F.Denot → Type 0 = λ f. IsSoundFor (F.passes f) (g.A.Automaton.sees c.args.automaton).content in
    let O : g.row.F.Denot → Type 0 = λ f. F.opened f in (
      λ w. ap (λ f. F.passes f w) (sym c.of.ensures),
      record {
        kind = c.requires.kind;
        sound = subst S (sym c.of.ensures) c.requires.sound;
        passed = [];
        parts = ap g.H.Haystack.rest c.of-2.ensures;
        here = omega (arith, c.left-size.ensures);
        fits = omega (arith, c.requires.fits, ap (λ h. size g.A.Unit.EdgeLabel.width (g.H.Haystack.rest h)) c.of-2.ensures);
        ended = λ e. absurd (cc);
        most = λ m bound. omega (arith, c.new.ensures);
        least = omega arith;
        idle = λ was_open none. (c.new.ensures, inl (subst O c.of.ensures was_open));
      },
      c.left-size.ensures ∙ ap (λ h. size g.A.Unit.EdgeLabel.width (g.H.Haystack.rest h)) (sym c.of-2.ensures),
    )
