-- The fields tell of what the view does.
use Rattle.std.proofs.Common.{◌≡◌, sym, ap, ◌∙◌, subst}
use Rattle.std.proofs.lemmas.Bool.{false≢true}
use Rattle.daachorse_prefilter.specs.Gates.{HasRecorded}
use Rattle.daachorse_prefilter.specs.declared.prefilter.gate.PrefilterGate.{PrefilterGate}
use Rattle.daachorse_prefilter.specs.Asked.{Asked}
use Rattle.daachorse_prefilter.proofs.skipping.Skipping.are_open.Goals as goal

pub returns-then-is_enabled : goal.returns-then-is_enabled
returns-then-is_enabled g c = λ gains recorded.
    let P : PrefilterGate → Type 0 = λ gate. HasRecorded gate gains in
    let is_open : c.is_open.result ≡ c.args.self.now.buckets_gate_is_open = c.is_open.ensures ∙ ap (λ (s : Asked). s.buckets_gate_is_open) c.self.view_is in
    let pays = (c.is_enabled.ensures gains (subst P (sym (ap (λ (s : Asked). s.gate) c.self.view_is)) recorded)).0 c.if-is_enabled.true in
    (λ yes. (pays, sym is_open ∙ yes), λ both. is_open ∙ both.1)

pub returns-else-is_enabled : goal.returns-else-is_enabled
returns-else-is_enabled g c = λ gains recorded.
    let P : PrefilterGate → Type 0 = λ gate. HasRecorded gate gains in
    let open_if = (c.is_enabled.ensures gains (subst P (sym (ap (λ (s : Asked). s.gate) c.self.view_is)) recorded)).1 in
    (λ yes. absurd (false≢true (sym c.if-is_enabled.false ∙ yes)), λ both. absurd (false≢true (sym c.if-is_enabled.false ∙ open_if both.0)))
