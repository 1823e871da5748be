-- The lines at the front of the rest stand behind those so far.
use Rattle.std.proofs.Common.{false, true, refl, subst, arith}
use Rattle.std.proofs.lemmas.List.{drop-drop, take_rest}
use Rattle.daacgrep_command.specs.Ahead.{BeginsWithLine, IsFront}
use Rattle.daacgrep_command.specs.Sought.{sought_of}
use Rattle.daacgrep_command.proofs.Fronts.{clear_then, lines_fit}
use Rattle.daacgrep_command.proofs.ahead.next_with_match.Goals as goal

pub overflow_add-skip : goal.overflow_add-skip
overflow_add-skip g c =
    let s = sought_of c.args.searcher.now in
    let l = c.loop-skip in
    let text = c.args.text.now in
    let front = subst (λ t. IsFront s c.args.mark t c.read_front-front.result) (take_rest text l.skip) c.read_front-front.ensures in
    let clear = clear_then s c.args.mark l.skip c.read_front-front.result.clear text l.invariant.clear front.clear in
    omega (arith, lines_fit s c.args.mark false clear.0 _ text clear.1)

pub returns-in-Some : goal.returns-in-Some
returns-in-Some g c =
    let s = sought_of c.args.searcher.now in
    let l = c.loop-skip in
    let text = c.args.text.now in
    let front = subst (λ t. IsFront s c.args.mark t c.read_front-front.result) (take_rest text l.skip) c.read_front-front.ensures in
    let clear = clear_then s c.args.mark l.skip c.read_front-front.result.clear text l.invariant.clear front.clear in
    let found = rw c.in-Some.is at front.found in
    record {
      lines = clear.0;
      skipped = clear.1;
      next = subst (BeginsWithLine s c.args.mark true c.in-Some.len c.in-Some.end) (drop-drop c.read_front-front.result.clear l.skip text) found;
      clear = (0, refl);
    }

pub loop-skip-preserved : goal.loop-skip-preserved
loop-skip-preserved g c =
    let s = sought_of c.args.searcher.now in
    let l = c.loop-skip in
    let text = c.args.text.now in
    let front = subst (λ t. IsFront s c.args.mark t c.read_front-front.result) (take_rest text l.skip) c.read_front-front.ensures in
    let clear = clear_then s c.args.mark l.skip c.read_front-front.result.clear text l.invariant.clear front.clear in
    record { within = lines_fit s c.args.mark false clear.0 _ text clear.1; clear = clear }
