-- Each end is looked at in turn.
use Rattle.std.proofs.Common.{◌<◌, length, refl, sym, subst, arith}
use Rattle.std.proofs.lemmas.Bool.{false≢true}
use Rattle.std.proofs.lemmas.List.{drop_all}
use Rattle.daachorse_c.specs.Patterns.{AreEnds}
use Rattle.daachorse_c.proofs.Registrations.{ends_next, ends_from_next}
use Rattle.daachorse_c.proofs.replacing.Texts.are_right.Goals as goal
use Rattle.daachorse_c.proofs.replacing.Texts.are_right.Goals.{then-end-start-via-then-end-start, then-end-start-via-else-end-start+then-self-end}

pub loop-end-init : goal.loop-end-init
loop-end-init c = record { left = (λ are. are, λ are. are) }

pub returns-then-end-start : goal.returns-then-end-start
returns-then-end-start c =
    let here : c.loop-end.end-index < length c.args.self.ends.now = omega (arith, c.loop-end-test.true) in (
      λ is. absurd (false≢true is),
      λ are.
          let next = ends_next c.args.self.ends.now c.loop-end.start (length c.args.self.bytes.now) c.loop-end.end-index here (c.loop-end.invariant.left.1 are) in
          let wrong : ⊥ = elim c.then-end-start.branch [
            | then-end-start-via-then-end-start w ↦ omega (arith, w.if-end-start.true, next.0)
            | then-end-start-via-else-end-start+then-self-end w ↦ omega (arith, w.if-self-end.true, next.1)
          ] in absurd wrong,
    )

pub loop-end-preserved : goal.loop-end-preserved
loop-end-preserved c =
    let here : c.loop-end.end-index < length c.args.self.ends.now = omega (arith, c.loop-end-test.true) in
    let ends = c.args.self.ends.now in let size = length c.args.self.bytes.now in let left = c.loop-end.invariant.left in
    record {
      left = (
        λ are. left.0 (ends_from_next ends c.loop-end.start size c.loop-end.end-index here c.if-end-start.false c.if-self-end.false are),
        λ are. (ends_next ends c.loop-end.start size c.loop-end.end-index here (left.1 are)).2,
      );
    }

pub returns : goal.returns
returns c =
    let ended = drop_all c.loop-end.end-index c.args.self.ends.now (omega (arith, c.loop-end-test.false)) in
    (λ is. c.loop-end.invariant.left.0 (subst (AreEnds c.loop-end.start (length c.args.self.bytes.now)) (sym ended) tt), λ are. refl)
