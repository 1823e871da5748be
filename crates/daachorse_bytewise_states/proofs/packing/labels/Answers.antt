-- Each label is set, from 0 on.
use Rattle.std.proofs.Common.{◌≡◌, ℕ, List, length, refl, subst, sym, arith}
use Rattle.std.proofs.lemmas.List.{length-map}
use Rattle.std.proofs.lemmas.Result.{err_from_is_err_and}
use Rattle.daachorse_build.specs.Tables.{edge_map, edges_of}
use Rattle.daachorse_bytewise_states.specs.Writing.{AreLabelled}
use Rattle.daachorse_patterns.proofs.Written.{written_back}
use Rattle.daachorse_bytewise_states.proofs.packing.labels.Goals as goal

pub returns-in_err-labels : goal.returns-in_err-labels
returns-in_err-labels g c =
    let p = err_from_is_err_and c.from_residual.result c.from_residual.ensures.1 in
    rw (p.1, p.2) (record { ok = tt; err = refl })

pub returns : goal.returns
returns g c =
    let states = c.args.states.now in
    let old = c.in_ok-labels.labels.items in let new = c.label_states.new.labels in
    let P : List ℕ → Type 0 = λ ls. AreLabelled (edges_of states) ls in
    let len : c.in_ok-labels.labels.len ≡ length new = omega (arith, c.label_states.ensures.size, length-map states edge_map, c.in_ok-labels.ensures.len, c.in_ok-labels.labels.ok.0) in
    record { ok = subst P (sym (written_back new old c.in_ok-labels.labels.len len)) c.label_states.ensures; err = tt }
