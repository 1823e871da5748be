-- A walk starts with the root put aside.
use Rattle.std.proofs.Common.{◌≡◌, [], ◌∷◌, ◌++◌, refl, sym, ap, ◌∙◌, length, arith}
use Rattle.daachorse_array.specs.Texts.{text_of}
use Rattle.daachorse_array.specs.Listing.{own_end, patterns_of}
use Rattle.daachorse_array.specs.Trees.{elements_of, taken_from}
use Rattle.daachorse_array.proofs.WalkLaws.{root-text, walk-start, walked}
use Rattle.daachorse_array.proofs.texts.TextWalk.new.Goals as goal

pub invariant_of-result : goal.invariant_of-result
invariant_of-result g c =
    let aside : c.push.new.self.items ≡ (0, 0) ∷ [] = c.in_ok-push.ensures.items ∙ ap (λ l. l ++ (0, 0) ∷ []) c.new-aside.ensures.items in
    record {
      patterns = c.requires;
      groups_are = c.in_ok-groups.ensures.ok.are;
      each = c.in_ok-groups.ensures.ok.each;
      walk = λ some. ([], rw aside (walk-start c.requires.tree));
      entries = rw aside (omega arith, (sym (ap length (root-text c.requires.tree)), refl), tt);
      inside = omega arith;
    }

pub returns-clause-ok : goal.returns-clause-ok
returns-clause-ok g c =
    let child = (g.E.Array.sees c.args.elements).child in
    let n = (g.E.Array.sees c.args.elements).count in
    let m = (g.E.Array.sees c.args.elements).units in
    let aside : c.push.new.self.items ≡ (0, 0) ∷ [] = c.in_ok-push.ensures.items ∙ ap (λ l. l ++ (0, 0) ∷ []) c.new-aside.ensures.items in (
      taken_from child n m n (0 ∷ []),
      walked c.requires.tree n [] (0 ∷ []) (walk-start c.requires.tree) (omega arith),
      ap (λ l. patterns_of (text_of child m n) (g.E.Keys.outputs c.args.elements) (g.E.Array.sees c.args.elements).first (own_end
          (g.E.Array.sees c.args.elements).fail (g.E.Array.sees c.args.elements).first) (taken_from child n m n (elements_of l))) aside,
    )
