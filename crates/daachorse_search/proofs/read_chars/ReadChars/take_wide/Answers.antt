-- The bytes after the first came one by one, up to the last or to where the source failed.
use Rattle.std.proofs.Common.{◌≡◌, [], ◌∷◌, refl, subst, arith}
use Rattle.daachorse_search.specs.Readers.{Reading}
use Rattle.daachorse_search.proofs.CharacterLaws.{Fails-after, Fails-here, IfNone-of, IfNone-weaker, encode-two, encode-three, encode-four, four_have, inside_begins, lead_needs, spelled, three_have, three_need, two_have, two_need}
use Rattle.daachorse_search.proofs.read_chars.ReadChars.take_wide.Goals as goal

pub returns-then-first-lt224-clause-some : goal.returns-then-first-lt224-clause-some
returns-then-first-lt224-clause-some g c =
    let one = c.in_ok-code.ensures.some in
    spelled g.R.Read.remaining c.args.first c.in_ok-code.code 128 (one.0 ∷ []) c.args.self.now c.take_inner.new.self c.checked.new.self c.checked.result (c.take_inner.new.self, one.1, refl)
    (λ least. encode-two c.args.first one.0 c.in_ok-code.code (omega (arith, c.if-first-lt192.false)) c.if-first-lt224.true one.2 one.3 (omega (arith, one.4, c.from-lead.ensures, c.if-first-lt192.false)) least) c.checked.ensures.some

pub returns-then-first-lt224-clause-none : goal.returns-then-first-lt224-clause-none
returns-then-first-lt224-clause-none g c =
    let one = c.in_ok-code.ensures.some in
    let a = c.args.first in let j = c.take_inner.new.self in
    let has = two_have a one.0 c.in_ok-code.code (omega (arith, c.if-first-lt192.false)) c.if-first-lt224.true
    (omega (arith, one.4, c.from-lead.ensures, c.if-first-lt192.false)) in
    IfNone-weaker c.checked.result
    (λ fails. Fails-after g.R.Read.remaining (a ∷ []) c.args.self.now j c.checked.new.self one.0 one.1 (fails (a ∷ one.0 ∷ []) has)) c.checked.ensures.none

pub returns-in_err-code-2-clause-none : goal.returns-in_err-code-2-clause-none
returns-in_err-code-2-clause-none g c =
    let one = c.in_ok-two.ensures.some in
    let a = c.args.first in
    IfNone-of _
    (Fails-after g.R.Read.remaining (a ∷ []) _ _ _ one.0 one.1 (c.in_err-code-2.ensures.none (a ∷ one.0 ∷ []) (two_need a one.0 (omega (arith, c.if-first-lt224.false)))))

pub returns-then-first-lt240-clause-some : goal.returns-then-first-lt240-clause-some
returns-then-first-lt240-clause-some g c =
    let one = c.in_ok-two.ensures.some in let two = c.in_ok-code-2.ensures.some in let j = c.take_inner-then-first-lt240.new.self in
    let k = c.take_inner-then-first-lt240-2.new.self in
    spelled g.R.Read.remaining c.args.first c.in_ok-code-2.code 2048 (one.0 ∷ two.0 ∷ []) c.args.self.now k c.checked-then-first-lt240.new.self c.checked-then-first-lt240.result (j, one.1, (k, two.1, refl))
    (λ least. encode-three c.args.first one.0 two.0 c.in_ok-code-2.code (omega (arith, c.if-first-lt224.false)) c.if-first-lt240.true one.2 one.3 two.2 two.3 (omega (arith, one.4, two.4, c.from-lead.ensures, c.if-first-lt224.false)) least) c.checked-then-first-lt240.ensures.some

pub returns-then-first-lt240-clause-none : goal.returns-then-first-lt240-clause-none
returns-then-first-lt240-clause-none g c =
    let known = g.R.Read.remaining in let one = c.in_ok-two.ensures.some in let two = c.in_ok-code-2.ensures.some in
    let j = c.take_inner-then-first-lt240.new.self in let k = c.take_inner-then-first-lt240-2.new.self in
    let a = c.args.first in
    let has = three_have a one.0 two.0 c.in_ok-code-2.code (omega (arith, c.if-first-lt224.false)) c.if-first-lt240.true
    (omega (arith, one.4, two.4, c.from-lead.ensures, c.if-first-lt224.false)) in
    IfNone-weaker c.checked-then-first-lt240.result
    (λ fails. Fails-after known (a ∷ []) c.args.self.now j _ one.0 one.1 (Fails-after known (a ∷ one.0 ∷ []) j k _ two.0 two.1 (fails (a ∷ one.0 ∷ two.0 ∷ []) has)))
    c.checked-then-first-lt240.ensures.none

pub returns-in_err-three-clause-none : goal.returns-in_err-three-clause-none
returns-in_err-three-clause-none g c =
    let one = c.in_ok-two-2.ensures.some in
    let a = c.args.first in
    IfNone-of _
    (Fails-after g.R.Read.remaining (a ∷ []) _ _ _ one.0 one.1 (c.in_err-three.ensures.none (a ∷ one.0 ∷ []) (two_need a one.0 (omega (arith, c.if-first-lt240.false)))))

pub returns-in_err-code-3-clause-none : goal.returns-in_err-code-3-clause-none
returns-in_err-code-3-clause-none g c =
    let known = g.R.Read.remaining in let one = c.in_ok-two-2.ensures.some in let two = c.in_ok-three.ensures.some in
    let a = c.args.first in
    IfNone-of _ (Fails-after known (a ∷ []) _ c.take_inner-2.new.self _ one.0 one.1 (Fails-after known (a ∷ one.0 ∷ []) _ _ _ two.0 two.1
    (c.in_err-code-3.ensures.none (a ∷ one.0 ∷ two.0 ∷ []) (three_need a one.0 two.0 (omega (arith, c.if-first-lt240.false))))))

pub returns-clause-some : goal.returns-clause-some
returns-clause-some g c =
    let one = c.in_ok-two-2.ensures.some in let two = c.in_ok-three.ensures.some in let three = c.in_ok-code-3.ensures.some in
    let j = c.take_inner-2.new.self in let k = c.take_inner-3.new.self in let l = c.take_inner-4.new.self in
    spelled g.R.Read.remaining c.args.first c.in_ok-code-3.code 65536 (one.0 ∷ two.0 ∷ three.0 ∷ []) c.args.self.now l c.checked-2.new.self c.checked-2.result (j, one.1, (k, two.1, (l, three.1, refl)))
    (λ least. encode-four c.args.first one.0 two.0 three.0 c.in_ok-code-3.code (omega (arith, c.if-first-lt240.false)) one.2 one.3 two.2 two.3 three.2 three.3 (omega (arith, one.4, two.4, three.4, c.from-lead.ensures, c.if-first-lt240.false)) least) c.checked-2.ensures.some

pub returns-clause-none : goal.returns-clause-none
returns-clause-none g c =
    let known = g.R.Read.remaining in let one = c.in_ok-two-2.ensures.some in let two = c.in_ok-three.ensures.some in
    let three = c.in_ok-code-3.ensures.some in let j = c.take_inner-2.new.self in let k = c.take_inner-3.new.self in
    let l = c.take_inner-4.new.self in
    let a = c.args.first in
    let has = four_have a one.0 two.0 three.0 c.in_ok-code-3.code (omega (arith, c.if-first-lt240.false))
    (omega (arith, one.4, two.4, three.4, c.from-lead.ensures, c.if-first-lt240.false)) in
    IfNone-weaker c.checked-2.result
    (λ fails. Fails-after known (a ∷ []) c.args.self.now j _ one.0 one.1 (Fails-after known (a ∷ one.0 ∷ []) j k _ two.0 two.1
    (Fails-after known (a ∷ one.0 ∷ two.0 ∷ []) k l _ three.0 three.1 (fails (a ∷ one.0 ∷ two.0 ∷ three.0 ∷ []) has)))) c.checked-2.ensures.none

pub returns-then-first-lt192-clause-none : goal.returns-then-first-lt192-clause-none
returns-then-first-lt192-clause-none g c =
    let P : Reading g.row.R.Denot → Type 0 = λ s. c.refuse_text.new.self ≡ record s { failure = c.refuse_text.new.self.failure } in
    Fails-here g.R.Read.remaining (c.args.first ∷ []) c.args.self.now c.refuse_text.new.self
    (subst P c.self.view_is c.refuse_text.ensures.same) c.refuse_text.ensures.failure
    (inside_begins c.args.first c.requires c.if-first-lt192.true)

pub returns-in_err-code-clause-none : goal.returns-in_err-code-clause-none
returns-in_err-code-clause-none g c =
    IfNone-of _ (c.in_err-code.ensures.none (c.args.first ∷ []) (lead_needs c.args.first (omega (arith, c.if-first-lt192.false))))

pub returns-in_err-two-clause-none : goal.returns-in_err-two-clause-none
returns-in_err-two-clause-none g c =
    IfNone-of _ (c.in_err-two.ensures.none (c.args.first ∷ []) (lead_needs c.args.first (omega (arith, c.if-first-lt224.false))))

pub returns-in_err-two-2-clause-none : goal.returns-in_err-two-2-clause-none
returns-in_err-two-2-clause-none g c =
    IfNone-of _ (c.in_err-two-2.ensures.none (c.args.first ∷ []) (lead_needs c.args.first (omega (arith, c.if-first-lt240.false))))
