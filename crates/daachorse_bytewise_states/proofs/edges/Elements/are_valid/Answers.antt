-- The array is sound exactly where the parts, whose elements may be looked at, are valid.
use Rattle.std.proofs.Common.{◌≡◌, ◌∙◌, ap}
use Rattle.daachorse_model.specs.Kinds.{is_leftmost}
use Rattle.daachorse_checker.proofs.SoundLaws.{sound_told, told_sound}
use Rattle.daachorse_bytewise_states.specs.Grouped.{IsGrouped}
use Rattle.daachorse_bytewise_states.specs.Parts.{Parts, machine}
use Rattle.daachorse_bytewise_states.proofs.ByteLaws.{child_inside}
use Rattle.daachorse_bytewise_states.proofs.EdgeLaws.{bases_tell}
use Rattle.daachorse_bytewise_states.proofs.edges.Elements.are_valid.Goals as goal

pub is_sound-requires-clause-edges : goal.is_sound-requires-clause-edges
is_sound-requires-clause-edges g c =
    let grouped : IsGrouped c.args.self.now = rw (← c.self.view_is) c.self.invariant.0 in
    record { inside = child_inside c.args.self.now; tell = bases_tell c.args.self.now grouped.bases }

pub returns-clause-ok : goal.returns-clause-ok
returns-clause-ok g c =
    let p = c.args.self.now in
    let grouped : IsGrouped p = rw (← c.self.view_is) c.self.invariant.0 in
    let kind : c.is_leftmost-leftmost.result ≡ is_leftmost p.kind = c.is_leftmost-leftmost.ensures ∙ ap (λ (q : Parts g.row.V.Denot). is_leftmost q.kind) c.self.view_is in
    let outputs : c.self.inside.outputs.now ≡ p.outputs = ap (λ (q : Parts g.row.V.Denot). q.outputs) c.self.view_is in
    let count : c.self.inside.num_states ≡ p.num_states = ap (λ (q : Parts g.row.V.Denot). q.num_states) c.self.view_is in
    let sound = c.in_ok-valid.ensures in (
      λ e. record { grouped = grouped; sound = told_sound (machine p) kind outputs count (sound.ok.0 e) },
      λ valid. sound.ok.1 (sound_told (machine p) kind outputs count valid.sound),
    )
