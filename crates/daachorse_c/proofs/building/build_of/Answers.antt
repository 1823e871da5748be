-- What is built over bytes is built of these patterns.
use Rattle.std.proofs.Common.{ℕ, List, sym, ap, ◌∙◌, subst}
use Rattle.std.proofs.lemmas.Simd.{map-map}
use Rattle.std.specs.Borrow.{Bor}
use Rattle.daachorse_model.specs.Dictionary.{registrations_of}
use Rattle.daachorse_model.specs.Folding.{all_as_read}
use Rattle.daachorse.specs.bytewise.Building.{kept_filter}
use Rattle.daachorse_c.specs.declared.unit.Unit.{Unit}
use Rattle.daachorse_c.specs.Automata.{Bytes}
use Rattle.daachorse_c.specs.Building.{IsBuiltOf}
use Rattle.daachorse_c.specs.Patterns.{texts_in}
use Rattle.daachorse_c.proofs.building.build_of.Goals as goal

pub returns-in_ok-automaton-in-Byte-clause-built : goal.returns-in_ok-automaton-in-Byte-clause-built
returns-in_ok-automaton-in-Byte-clause-built c =
    let s = c.args.settings in let patterns = c.args.patterns.now in let a = c.in_ok-automaton-in-Byte.automaton in let built = c.in_ok-automaton-in-Byte.ensures in
    subst (λ (unit : Unit). IsBuiltOf c.args.kind s.ascii_case_insensitive s.use_prefilter (texts_in unit (registrations_of patterns)) (Bytes a)) (sym c.in-Byte.is) (
      built.built,
      built.filter ∙ ap (λ (l : List (List ℕ)). kept_filter s.use_prefilter (all_as_read s.ascii_case_insensitive l)) (sym (map-map (λ (r : List ℕ × ℕ). r.0) (λ (p : Bor (List ℕ) × ℕ). (p.0.now, p.1)) patterns)),
    )
