-- A state's first output is the best match of all that was read so far, and at the root nothing can better the mark any more, since no match that goes on starts as early.
use Rattle.std.proofs.Common.{◌≡◌, ◌≢◌, ℕ, ◌+◌, ◌<◌, length, List, [], ◌∷◌, ◌++◌, Option, Some, refl, sym, ap, ◌∙◌, subst, append_assoc, arith}
use Rattle.std.specs.Iterator.{YieldsFirstBy}
use Rattle.std.specs.declared.num.NonZeroU32.{NonZeroU32}
use Rattle.daachorse_core.specs.Outputs.{number}
use Rattle.daachorse_model.specs.Outputs.{IsChain}
use Rattle.daachorse_model.specs.Units.{size}
use Rattle.daachorse_search.specs.BestScans.{IsScanning}
use Rattle.daachorse_search.specs.Views.{HasFirst}
use Rattle.daachorse_search.proofs.BestScanLaws.{IsScanning-more, IsBehind-now, IsFound-new, IsFound-keeps, IsTheBest-stops, IsTheBest-ends, steady_of}
use Rattle.daachorse_search.proofs.best.scan_on.Goals as goal

-- the first match is pending
pub units-init : goal.units-init
units-init g c =
    let view = g.A.Automaton.sees c.args.automaton.now in let width = g.A.Unit.EdgeLabel.width in let rest = g.H.Haystack.rest in
    let text = rest c.args.haystack.now in let left = rest c.args.source in
    let same : rest c.after.result ≡ left = c.after.ensures [] left refl refl in
    record {
      reached = c.requires.reached;
      left = c.requires.left;
      behind = omega (arith, c.requires.left, ap (size width) same);
      scanning = λ before start.
          let P : List ℕ → Type 0 = λ x. IsScanning width view text left (view.text c.args.state) (Some (c.args.position.value, size width x)) before c.args.turns.now in
          subst P (sym same) start;
    }

-- the haystack ends
pub returns-in_default : goal.returns-in_default
returns-in_default g c =
    let view = g.A.Automaton.sees c.args.automaton.now in let width = g.A.Unit.EdgeLabel.width in let rest = g.H.Haystack.rest in
    let text = rest c.args.haystack.now in let mark = c.units.mark in
    let S = λ (r : Option g.row.A-Unit.Denot). YieldsFirstBy g.A.Unit.EdgeLabel.unit rest c.units.source r c.next.new.self in
    let over = subst S c.in_default.is (g.met.H.Haystack.gives c.units.source c.next.result c.next.new.self c.next.ensures.steps) in
    λ before start. IsTheBest-ends width view text (rest c.units.source) (view.text c.units.state) mark.position.value (size width (rest mark.behind)) c.found_at.result before c.units.turns
    (c.units.invariant.scanning before start) (ap (λ p. p.value) c.found_at.ensures.position) c.found_at.ensures.end over.0

-- the root was come to
pub returns-then-is_root : goal.returns-then-is_root
returns-then-is_root g c =
    let view = g.A.Automaton.sees c.args.automaton.now in let width = g.A.Unit.EdgeLabel.width in let rest = g.H.Haystack.rest in
    let text = rest c.args.haystack.now in let u : ℕ = g.A.Unit.EdgeLabel.unit c.in-Some.unit in
    let mark = c.units.mark in let found = c.found_at-then-is_root in
    λ before start.
    let was = c.units.invariant.scanning before start in
    IsTheBest-stops width view text (rest c.units.source) (view.text c.units.state) mark.position.value (size width (rest mark.behind)) found.result before c.units.turns u (rest c.next.new.self) (view.text c.step-next.result.0) c.step-next.new.turns
    was (ap (λ p. p.value) found.ensures.position) found.ensures.end (g.met.H.Haystack.gives _ _ _ c.in-Some.ensures.steps) (c.step-next.ensures.leftmost c.requires.kind was.seen was.steady) (c.if-is_root.ensures.0 refl) c.step-next.ensures.most c.step-next.ensures.least

-- one more unit, and a match that is better
pub units-preserved-in-Some-position : goal.units-preserved-in-Some-position
units-preserved-in-Some-position g c =
    let view = g.A.Automaton.sees c.args.automaton.now in let width = g.A.Unit.EdgeLabel.width in let rest = g.H.Haystack.rest in
    let text = rest c.args.haystack.now in let u : ℕ = g.A.Unit.EdgeLabel.unit c.in-Some.unit in let t = view.text c.step-next.result.0 in
    let old = c.units.mark in let left = rest c.next.new.self in let behind = c.after-behind.result in let p : ℕ = c.in-Some-position.position.value in
    let F : Option NonZeroU32 → Type 0 = λ p. HasFirst width view c.step-next.result.0 p in
    let o = subst F c.in-Some-position.is c.step-next.ensures.output in
    let next : rest c.units.source ≡ u ∷ left = g.met.H.Haystack.gives _ _ _ c.in-Some.ensures.steps in
    let same : rest behind ≡ left = c.after-behind.ensures [] left refl refl in
    let not_root : t ≢ [] = λ e. let bad = c.if-is_root.ensures.1 e in cc in
    record {
      reached = c.step-next.ensures.reached;
      left = omega (arith, c.units.invariant.left, ap (size width) next);
      behind = omega (arith, c.units.invariant.left, ap (size width) next, ap (size width) same);
      scanning = λ before start.
          let was = c.units.invariant.scanning before start in
          let steady = steady_of view.content was.seen t u (c.step-next.ensures.leftmost c.requires.kind was.seen was.steady) not_root in
          let parts : text ≡ (was.seen ++ u ∷ []) ++ left = was.parts ∙ (ap (λ x. was.seen ++ x) next ∙ sym (append_assoc was.seen (u ∷ []) left)) in
          let past : size width text ≡ size width (was.seen ++ u ∷ []) + size width (rest behind) =
          IsBehind-now width view text (was.seen ++ u ∷ []) left parts ∙ ap (λ x. size width (was.seen ++ u ∷ []) + size width x) (sym same) in
          IsScanning-more width view text (rest c.units.source) (view.text c.units.state) (Some (old.position.value, size width (rest old.behind))) before c.units.turns u left t (Some (p, size width (rest behind))) c.step-next.new.turns
          was next c.step-next.ensures.most c.step-next.ensures.least steady
          (IsFound-new width view text c.requires.kind (was.seen ++ u ∷ []) t p (size width (rest behind)) steady o.chain o.some o.place past);
    }

-- one more unit with no output
pub units-preserved : goal.units-preserved
units-preserved g c =
    let view = g.A.Automaton.sees c.args.automaton.now in let width = g.A.Unit.EdgeLabel.width in let rest = g.H.Haystack.rest in
    let text = rest c.args.haystack.now in let u : ℕ = g.A.Unit.EdgeLabel.unit c.in-Some.unit in let t = view.text c.step-next.result.0 in
    let mark = c.units.mark in let left = rest c.next.new.self in let best : Option (ℕ × ℕ) = Some (mark.position.value, size width (rest mark.behind)) in
    let next : rest c.units.source ≡ u ∷ left = g.met.H.Haystack.gives _ _ _ c.in-Some.ensures.steps in
    let not_root : t ≢ [] = λ e. let bad = c.if-is_root.ensures.1 e in cc in
    let C : List (g.row.V.Denot × ℕ) → Type 0 = λ l. IsChain width view.content view.dead t l in
    let chain : C [] = subst C (ap (λ p. view.outputs (number p)) c.in_default-position.is ∙ (g.met.A.Automaton.no_output c.args.automaton.now).1) c.step-next.ensures.output.chain in
    record {
      reached = c.step-next.ensures.reached;
      left = omega (arith, c.units.invariant.left, ap (size width) next);
      behind = c.units.invariant.behind;
      scanning = λ before start.
          let was = c.units.invariant.scanning before start in
          let steady = steady_of view.content was.seen t u (c.step-next.ensures.leftmost c.requires.kind was.seen was.steady) not_root in
          IsScanning-more width view text (rest c.units.source) (view.text c.units.state) best before c.units.turns u left t best c.step-next.new.turns
          was next c.step-next.ensures.most c.step-next.ensures.least steady
          (IsFound-keeps width view text c.requires.kind was.seen t u best steady chain was.found);
    }

shorter : (xs ys : List ℕ) (x : ℕ) → xs ≡ x ∷ ys → length ys < length xs
shorter xs ys x is = omega (arith, ap length is)

pub units-smaller : goal.units-smaller
units-smaller g c =
    let rest = g.H.Haystack.rest in
    shorter (rest c.units.source) (rest c.next.new.self) (g.A.Unit.EdgeLabel.unit c.in-Some.unit) (g.met.H.Haystack.gives _ _ _ c.in-Some.ensures.steps)

pub units-smaller-in-Some-position : goal.units-smaller-in-Some-position
units-smaller-in-Some-position g c =
    let rest = g.H.Haystack.rest in
    shorter (rest c.units.source) (rest c.next.new.self) (g.A.Unit.EdgeLabel.unit c.in-Some.unit) (g.met.H.Haystack.gives _ _ _ c.in-Some.ensures.steps)
