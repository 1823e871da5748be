-- The place behind the character fits, since the source gave its bytes.
use Rattle.std.proofs.Common.{◌+◌, ℕ, Some, subst, sym, ap, arith}
use Rattle.std.specs.Iterator.{MakesProgress}
use Rattle.daachorse_haystack.specs.DecodedSources.{IsTextFrom-place}
use Rattle.daachorse_haystack.specs.TextSources.{Placed, IsTextFrom}
use Rattle.daachorse_haystack.proofs.DecodingLaws.{goes_placed}
use Rattle.daachorse_haystack.proofs.decoding.CharWithEndOffsetIteratorIterator.next.Goals as goal

pub overflow_add-self : goal.overflow_add-self
overflow_add-self g c =
    let P = g.P.Iterator in
    let From : Placed g.row.P.Denot → Type 0 = λ s. IsTextFrom P.can_next P.next_gives P.remaining s.source s.place in
    let text = subst From (sym c.self.view_is) c.requires in
    omega (arith, IsTextFrom-place P.can_next P.next_gives P.remaining _ c.in_ok-character.character c.next.new.self _ text c.in_ok-character.ensures.steps, c.len_utf8.ensures.value)

pub returns-clause-goes : goal.returns-clause-goes
returns-clause-goes g c =
    let P = g.P.Iterator in
    let place = c.self.inside.place in let later : ℕ = place + c.len_utf8.result in
    let From : Placed g.row.P.Denot → Type 0 = λ s. IsTextFrom P.can_next P.next_gives P.remaining s.source s.place in
    let Goes : Placed g.row.P.Denot → Type 0 = λ s. MakesProgress {A = ℕ × ℕ} From (λ x. P.remaining x.source) s (Some (later, c.in_ok-character.character)) (record { source = c.next.new.self; place = later }) in
    let text = subst From (sym c.self.view_is) c.requires in
    subst Goes c.self.view_is
    (goes_placed P.can_next P.next_gives P.remaining _ place c.in_ok-character.character c.next.new.self later later text c.in_ok-character.ensures.steps c.in_ok-character.ensures.goes (ap (λ n. place + n) c.len_utf8.ensures.value))
