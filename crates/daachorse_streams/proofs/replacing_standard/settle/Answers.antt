-- The bytes before the match went out, and then the call for it is made with those that are left.
use Rattle.std.proofs.Common.{◌≡◌, ℕ, ◌-◌, inr, take, drop, refl, ap, ◌∙◌, subst, arith}
use Rattle.std.proofs.lemmas.Result.{err_from_is_err_and}
use Rattle.std.specs.Io.KnownBytes.{Appends}
use Rattle.daachorse_streams.specs.Streams.{before_match}
use Rattle.daachorse_streams.proofs.Answered.{answered}
use Rattle.daachorse_streams.proofs.replacing_standard.settle.Given as given
use Rattle.daachorse_streams.proofs.replacing_standard.settle.Goals as goal

pub returns-in_err-put_out_settled-clause-stops : goal.returns-in_err-put_out_settled-clause-stops
returns-in_err-put_out_settled-clause-stops g c =
    let p = err_from_is_err_and c.from_residual.result c.from_residual.ensures.1 in
    let went = c.in_err-put_out_settled.ensures.part in
    rw p.1 (rw c.in_default.is went)

pub returns-in_err-write-clause-stops : goal.returns-in_err-write-clause-stops
returns-in_err-write-clause-stops g c =
    let p = err_from_is_err_and c.from_residual-in_err-write.result c.from_residual-in_err-write.ensures.1 in
    let held = c.args.held.now.items in let m = c.in-Some.found in
    let count : c.len.result - (m.end - m.start) ≡ before_match held m = omega (arith, c.len.ensures, c.args.held.now.ok.0) in
    let Went : ℕ → Type 0 = λ n. Appends (g.O.Write.contents c.args.out.now) (g.O.Write.contents c.put_out.new.out) (take n held) in
    let matched : c.deref.result.now ≡ drop (before_match held m) held = c.deref.ensures.value ∙ c.in_ok-put_out.ensures.held
    ∙ ap (λ n. drop n held) count in
    let call = answered (given.F-step g) p.2 c.in_err-write.ensures in
    rw p.1 (rw c.in-Some.is (inr (_, _, subst Went count c.in_ok-put_out.ensures.whole, (_, _, _, matched, refl, refl, call))))

pub returns-clause-whole : goal.returns-clause-whole
returns-clause-whole g c =
    let held = c.args.held.now.items in let m = c.in-Some.found in
    let count : c.len.result - (m.end - m.start) ≡ before_match held m = omega (arith, c.len.ensures, c.args.held.now.ok.0) in
    let Went : ℕ → Type 0 = λ n. Appends (g.O.Write.contents c.args.out.now) (g.O.Write.contents c.put_out.new.out) (take n held) in
    let matched : c.deref.result.now ≡ drop (before_match held m) held = c.deref.ensures.value ∙ c.in_ok-put_out.ensures.held
    ∙ ap (λ n. drop n held) count in
    rw c.in-Some.is
    (_, subst Went count c.in_ok-put_out.ensures.whole, (_, _, _, matched, refl, refl, c.in_ok-write.ensures), c.clear.ensures.items)
