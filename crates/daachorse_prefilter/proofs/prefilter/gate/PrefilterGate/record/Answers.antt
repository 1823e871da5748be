-- The run joins the last group, or makes it whole.
use Rattle.std.proofs.Common.{◌≡◌, ◌<◌, ◌≤◌, length, false, sym, ap, ◌∙◌, arith}
use Rattle.std.proofs.lemmas.Bool.{false≢true}
use Rattle.daachorse_prefilter.specs.Gates.{rest}
use Rattle.daachorse_prefilter.proofs.GateSteps.{joins, closes}
use Rattle.daachorse_prefilter.proofs.prefilter.gate.PrefilterGate.record.Goals as goal
use Rattle.daachorse_prefilter.proofs.prefilter.gate.PrefilterGate.record.Goals.{then-self-lt-MIN_SKIPPED, else-self-lt-MIN_SKIPPED}

pub returns-then-self : goal.returns-then-self
returns-then-self c gains recorded =
    let runs = recorded.runs in
    let skipped = recorded.skipped in
    let few : length (rest gains) < 63 = omega arith in
    let step = joins gains c.args.gain few in
    let more = step.runs in
    let bytes = step.skipped in
    record {
      runs = omega arith;
      skipped = omega arith;
      enabled = (λ t. step.onward (recorded.enabled.0 t), λ p. recorded.enabled.1 (step.back p));
    }

pub returns : goal.returns
returns c gains recorded =
    let runs = recorded.runs in
    let skipped = recorded.skipped in
    let many : 63 ≤ length (rest gains) = omega arith in
    let step = closes gains c.args.gain many in
    let bytes = step.skipped in
    record {
      runs = step.runs;
      skipped = omega arith;
      enabled = elim c.if-self-lt-MIN_SKIPPED.branch [
        | then-self-lt-MIN_SKIPPED w ↦ (
            let shut : c.if-self-lt-MIN_SKIPPED.self.is_enabled ≡ false = ap (λ s. s.is_enabled) w.self-is in
            (λ t. absurd (false≢true (sym shut ∙ t)), λ p. absurd (let enough = (step.back p).1 in omega arith)))
        | else-self-lt-MIN_SKIPPED w ↦ (
            let same : c.if-self-lt-MIN_SKIPPED.self.is_enabled ≡ c.args.self.now.is_enabled = ap (λ s. s.is_enabled) w.self-is in
            (λ t. step.onward (recorded.enabled.0 (sym same ∙ t)) (omega arith), λ p. same ∙ recorded.enabled.1 (step.back p).0))
      ];
    }
