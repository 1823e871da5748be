-- One entry more is done.
use Rattle.std.proofs.Common.{◌≡◌, ℕ, ◌<◌, false, length, get_or, sym, ap, ◌∙◌}
use Rattle.std.proofs.lemmas.List.{get_or_default}
use Rattle.daachorse_prefilter.specs.declared.prefilter.window.Window.{Window}
use Rattle.daachorse_checker.proofs.FilterLaws.{next_admitted, next_pushed}
use Rattle.daachorse_checker.proofs.filters.next_level.Goals as goal
use Rattle.daachorse_checker.proofs.filters.next_level.Goals.{then-not-admits+else-has_own+in_ok-push_children, else-not-admits}

pub loop-number-preserved : goal.loop-number-preserved
loop-number-preserved g c =
    let level = c.args.level.now in
    let n = c.loop-number.number in
    let none : ℕ × Window = (0, record { len = 0; last = 0; passes = false }) in
    let lt : n < length level = c.loop-number-test.true in
    let so_far = c.loop-number.invariant.is in
    let here : (default : ℕ × Window) → get_or level n none ≡ get_or level n default = λ default. get_or_default level n none default lt in
    record {
      is = elim c.if-not-admits.branch [
        | then-not-admits+else-has_own+in_ok-push_children w ↦
            rw (ap (λ v. v.items) w.next-is)
            (next_pushed so_far here w.push_children.new.next.items lt (sym w.has_own.ensures ∙ w.if-has_own.false) w.in_ok-push_children.ensures.ok)
        | else-not-admits w ↦ rw (ap (λ v. v.items) w.next-is) (next_admitted so_far here (λ text was. sym (c.admits.ensures text was) ∙ w.if-not-admits.false))
      ];
    }
