-- The next output of a chain stands earlier, so its run is known: behind the outputs of one length the chain goes on where it does behind the next one, if that has this length too, and else at it.
use Rattle.std.proofs.Common.{rules, ◌≡◌, ◌+◌, ◌++◌, ◌∷◌, [], length, sym, ap, ◌∙◌, subst, arith}
use Rattle.std.proofs.lemmas.List.{length_push}
use Rattle.std.proofs.lemmas.Grind.{common_steps}
use Rattle.daachorse_core.specs.Outputs.{length_of, parent_of}
use Rattle.daachorse_array.specs.Machines.{own_from}
use Rattle.daachorse_checker.specs.Runs.{AreRuns}
use Rattle.daachorse_checker.proofs.RunLaws.{runs_push}
use Rattle.daachorse_checker.proofs.runs.runs.Goals as goal

pub loop-number-preserved : goal.loop-number-preserved
loop-number-preserved g c =
    let outputs = c.args.outputs.now in
    let old = c.loop-number.runs.items in
    let run = c.rest_at-run.result in
    let o = c.output_at-output.result in
    let items : c.push.new.self.items ≡ old ++ run ∷ [] = search rules in
    let e : run ≡ (own_from outputs (parent_of o) (length_of o) (parent_of o)).1 =
    c.rest_at-run.ensures
    ∙ ap (λ n. (own_from outputs c.parent.result n c.parent.result).1) c.length.ensures
    ∙ ap (λ p. (own_from outputs p (length_of o) p).1) c.parent.ensures in
    record {
      each = ap length items ∙ length_push old run ∙ ap (λ n. n + 1) c.loop-number.invariant.each;
      runs = subst (AreRuns outputs) (sym items) (runs_push outputs old run c.loop-number.number o c.loop-number.invariant.runs c.requires.fall c.loop-number.invariant.each c.output_at-output.ensures e);
    }

pub rest_at-run-requires-clause-inside : goal.rest_at-run-requires-clause-inside
rest_at-run-requires-clause-inside g c = grind (arith, common_steps)
