-- The array is sound exactly where the parts, whose elements may be looked at, are valid.
use Rattle.std.proofs.Common.{◌≡◌, ◌∙◌, ap}
use Rattle.daachorse_model.specs.Kinds.{is_leftmost}
use Rattle.daachorse_checker.proofs.SoundLaws.{sound_told, told_sound}
use Rattle.daachorse_charwise_states.specs.Edges.{IsLettered, Lettered}
use Rattle.daachorse_charwise_states.specs.Parts.{machine}
use Rattle.daachorse_charwise_states.proofs.CharLaws.{child_inside}
use Rattle.daachorse_charwise_states.proofs.EdgeLaws.{valid_tells}
use Rattle.daachorse_charwise_states.proofs.edges.Elements.are_valid.Goals as goal

pub is_sound-requires-clause-edges : goal.is_sound-requires-clause-edges
is_sound-requires-clause-edges g c =
    let lettered : IsLettered c.args.self.now = rw (← c.self.view_is) c.self.invariant in
    record { inside = child_inside c.args.self.now.parts; tell = valid_tells c.args.self.now lettered.letters }

pub returns-clause-ok : goal.returns-clause-ok
returns-clause-ok g c =
    let p = c.args.self.now.parts in
    let lettered : IsLettered c.args.self.now = rw (← c.self.view_is) c.self.invariant in
    let kind : c.is_leftmost-leftmost.result ≡ is_leftmost p.kind = c.is_leftmost-leftmost.ensures ∙ ap (λ (a : Lettered g.row.V.Denot). is_leftmost a.parts.kind) c.self.view_is in
    let outputs : c.self.inside.outputs.now ≡ p.outputs = ap (λ (a : Lettered g.row.V.Denot). a.parts.outputs) c.self.view_is in
    let count : c.self.inside.num_states ≡ p.num_states = ap (λ (a : Lettered g.row.V.Denot). a.parts.num_states) c.self.view_is in
    let sound = c.in_ok-valid.ensures in (
      λ e. record { grouped = c.requires; few = lettered.few; sound = told_sound (machine p) kind outputs count (sound.ok.0 e) },
      λ valid. sound.ok.1 (sound_told (machine p) kind outputs count valid.sound),
    )
