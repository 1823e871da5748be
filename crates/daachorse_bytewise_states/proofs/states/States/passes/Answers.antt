-- What is stored is valid, so that its keys are the texts of the elements with own outputs, and a byte spells itself.
use Rattle.std.proofs.Common.{◌≡◌, ℕ, List, [], ◌∷◌, refl, sym, ap, subst}
use Rattle.std.specs.Prelude.{flat_map}
use Rattle.daachorse_checker.proofs.KeyLaws.{all_from_each, each_from_all}
use Rattle.daachorse_prefilter.specs.Filters.{PassesKeys}
use Rattle.daachorse_bytewise_states.specs.Parts.{Parts, content}
use Rattle.daachorse_bytewise_states.proofs.ByteLaws.{child_inside, valid_machine}
use Rattle.daachorse_bytewise_states.proofs.EdgeLaws.{valid_tells}
use Rattle.daachorse_bytewise_states.proofs.states.States.passes.Goals as goal

spells : (w : List ℕ) → flat_map (λ (byte : ℕ). byte ∷ []) w ≡ w
spells [] = refl
spells (byte ∷ w) = ap (λ v. byte ∷ v) (spells w)

pub passes_all-requires-clause-edges : goal.passes_all-requires-clause-edges
passes_all-requires-clause-edges g c =
    let p = c.elements-elements.result in
    record { inside = child_inside p; tell = valid_tells p c.elements-elements.ensures.valid }

pub returns-clause-ok : goal.returns-clause-ok
returns-clause-ok g c =
    let is = c.elements-elements.ensures in
    let machine = valid_machine c.elements-elements.result is.valid in
    let P : Parts g.row.V.Denot → Type 0 = λ p. PassesKeys (λ w. w) (content p) c.args.filter.now in
    let passes = c.in_ok-passes.ensures in (
      λ e. subst P is.parts (rw c.in-Some.is (each_from_all _ _ _ _ _ machine (λ byte. byte ∷ []) (λ w. w) spells c.in-Some.filter (passes.ok.0 e))),
      λ each.
          let here = subst P (sym is.parts) each in
          passes.ok.1 (all_from_each _ _ _ _ _ machine (λ byte. byte ∷ []) (λ w. w) spells c.in-Some.filter (rw c.in-Some.is at here)),
    )
