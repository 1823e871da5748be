-- What is kept is valid, so that its keys are the texts of the elements with own outputs, and a text is spelled by the UTF-8 of its characters.
use Rattle.std.proofs.Common.{◌≡◌, ℕ, List, [], ◌∷◌, ◌++◌, refl, sym, ap, subst}
use Rattle.std.specs.Prelude.{encode_utf8_all, flat_map}
use Rattle.std.specs.Char.{encode_utf8}
use Rattle.daachorse_checker.proofs.KeyLaws.{all_from_each, each_from_all}
use Rattle.daachorse_prefilter.specs.Filters.{PassesKeys}
use Rattle.daachorse_charwise_states.specs.Parts.{Parts, content}
use Rattle.daachorse_charwise_states.proofs.CharLaws.{child_inside, valid_machine}
use Rattle.daachorse_charwise_states.proofs.EdgeLaws.{valid_tells}
use Rattle.daachorse_charwise_states.proofs.states.States.passes.Goals as goal

spells : (w : List ℕ) → flat_map encode_utf8 w ≡ encode_utf8_all w
spells [] = refl
spells (character ∷ w) = ap (λ v. encode_utf8 character ++ v) (spells w)

pub passes_all-requires : goal.passes_all-requires
passes_all-requires g c = record {
  edges = record {
    inside = child_inside c.in_ok-elements.elements.parts;
    tell = valid_tells c.in_ok-elements.elements c.in_ok-elements.ensures.lettered.letters;
  };
  some = (valid_machine c.in_ok-elements.elements.parts c.in_ok-elements.ensures.valid).some;
  tree = let right = c.in_ok-elements.ensures.valid.sound.right in record { dead_no_child = right.dead_no_child; one_path = right.one_path };
}

pub returns-clause-ok : goal.returns-clause-ok
returns-clause-ok g c =
    let is = c.in_ok-elements.ensures in
    let machine = valid_machine c.in_ok-elements.elements.parts is.valid in
    let P : Parts g.row.V.Denot → Type 0 = λ p. PassesKeys encode_utf8_all (content p) c.args.filter.now in
    let passes = c.in_ok-passes.ensures in (
      λ e. subst P is.parts (rw c.in-Some.is (each_from_all _ _ _ _ _ machine encode_utf8 encode_utf8_all spells c.in-Some.filter (passes.ok.0 e))),
      λ each.
          let here = subst P (sym is.parts) each in
          passes.ok.1 (all_from_each _ _ _ _ _ machine encode_utf8 encode_utf8_all spells c.in-Some.filter (rw c.in-Some.is at here)),
    )
