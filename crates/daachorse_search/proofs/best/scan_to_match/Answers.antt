-- While no state has an output, nothing occurs in what was read, so the first output is that of the best so far, and at the root, where no key that began goes on, the scan may stop.
use Rattle.std.proofs.Common.{◌≡◌, ◌≢◌, ℕ, ◌+◌, ◌-◌, ◌<◌, length, Bool, List, [], ◌∷◌, ◌++◌, Option, Some, None, refl, sym, ap, ◌∙◌, subst, append_assoc, arith}
use Rattle.std.specs.Iterator.{YieldsFirstBy}
use Rattle.std.specs.declared.num.NonZeroU32.{NonZeroU32}
use Rattle.daachorse_core.specs.Outputs.{number}
use Rattle.daachorse_model.specs.Outputs.{IsChain}
use Rattle.daachorse_model.specs.Best.{IsSteady}
use Rattle.daachorse_model.specs.Units.{size}
use Rattle.daachorse_model.proofs.BestLaws.{IsSteady-nil}
use Rattle.daachorse_model.proofs.Suffixes.{size-append}
use Rattle.daachorse_search.specs.BestScans.{IsClear, PendsBefore}
use Rattle.daachorse_search.specs.Views.{HasFirst}
use Rattle.daachorse_search.proofs.BestScanLaws.{IsScanning-first, IsScanning-more, IsBehind-now, IsFound-new, IsFound-none, IsFound-keeps, IsClear-ends, IsClear-stops, PendsBefore-more, steady_so_far}
use Rattle.daachorse_search.proofs.best.scan_to_match.Goals as goal
use Rattle.daachorse_search.proofs.best.scan_to_match.Goals.{else-may_stop-via-then-may_stop+else-is_root, else-may_stop-via-else-may_stop}

-- the empty key is found at once
pub returns-in-Some-clause-scans : goal.returns-in-Some-clause-scans
returns-in-Some-clause-scans g c =
    let view = g.A.Automaton.sees c.args.automaton.now in let width = g.A.Unit.EdgeLabel.width in let rest = g.H.Haystack.rest in
    let text = rest c.args.source.now in let t = view.text c.args.state.now in let p : ℕ = c.in-Some.position.value in
    let F : Option NonZeroU32 → Type 0 = λ p. HasFirst width view c.args.state.now p in
    let o = subst F c.in-Some.is c.output_pos.ensures in
    let Q : List ℕ → Type 0 = λ w. IsSteady view.content [] w in
    record {
      fewer = omega arith;
      some =
          IsScanning-first width view text text t (Some (p, size width text)) c.args.turns.now refl c.requires.root
          (IsFound-new width view text c.requires.kind [] t p (size width text) (subst Q (sym c.requires.root) (IsSteady-nil view.content)) o.chain o.some o.place
          (IsBehind-now width view text [] text refl));
      none = λ e. absurd (let is : Some c.in-Some.position ≡ None = e in cc);
    }

-- nothing occurs at the root
pub units-init : goal.units-init
units-init g c =
    let view = g.A.Automaton.sees c.args.automaton.now in let width = g.A.Unit.EdgeLabel.width in let rest = g.H.Haystack.rest in
    let text = rest c.args.source.now in let t = view.text c.args.state.now in
    let C : List (g.row.V.Denot × ℕ) → Type 0 = λ l. IsChain width view.content view.dead t l in
    record {
      reached = c.requires.reached;
      scanning = IsScanning-first width view text text t None c.args.turns.now refl c.requires.root
          (IsFound-none width view text c.requires.kind t c.requires.root
          (subst C (ap (λ o. view.outputs (number o)) c.in_default.is ∙ (g.met.A.Automaton.no_output c.args.automaton.now).1) c.output_pos.ensures.chain));
      pends = λ may k some below. absurd (omega (arith, some, below));
    }

-- the haystack ends
pub returns-in_default-next-clause-scans : goal.returns-in_default-next-clause-scans
returns-in_default-next-clause-scans g c =
    let view = g.A.Automaton.sees c.args.automaton.now in let width = g.A.Unit.EdgeLabel.width in let rest = g.H.Haystack.rest in
    let text = rest c.args.source.now in
    let S = λ (r : Option g.row.A-Unit.Denot). YieldsFirstBy g.A.Unit.EdgeLabel.unit rest c.units.source r c.next.new.self in
    let over = subst S c.in_default-next.is (g.met.H.Haystack.gives c.units.source c.next.result c.next.new.self c.next.ensures.steps) in
    record {
      fewer = omega (arith, ap (size width) over.1);
      some = tt;
      none = λ _ end ended.
          IsClear-ends width view text (rest c.units.source) (view.text c.units.state) c.args.may_stop end c.args.turns.now c.units.turns c.units.invariant.scanning
          (omega (arith, ended, ap (size width) over.1)) over.0 c.units.invariant.pends;
    }

-- a match ends
pub returns-in-Some-position-clause-scans : goal.returns-in-Some-position-clause-scans
returns-in-Some-position-clause-scans g c =
    let view = g.A.Automaton.sees c.args.automaton.now in let width = g.A.Unit.EdgeLabel.width in let rest = g.H.Haystack.rest in
    let text = rest c.args.source.now in let u : ℕ = g.A.Unit.EdgeLabel.unit c.in-Some-next.unit in let t = view.text c.step-next.result.0 in
    let was = c.units.invariant.scanning in let left = rest c.next.new.self in let p : ℕ = c.in-Some-position.position.value in
    let F : Option NonZeroU32 → Type 0 = λ p. HasFirst width view c.step-next.result.0 p in
    let o = subst F c.in-Some-position.is c.step-next.ensures.output in
    let next : rest c.units.source ≡ u ∷ left = g.met.H.Haystack.gives _ _ _ c.in-Some-next.ensures.steps in
    let steady = steady_so_far view.content was.seen t u (c.step-next.ensures.leftmost c.requires.kind was.seen was.steady) was.found in
    let parts : text ≡ (was.seen ++ u ∷ []) ++ left = was.parts ∙ (ap (λ x. was.seen ++ x) next ∙ sym (append_assoc was.seen (u ∷ []) left)) in
    record {
      fewer = omega (arith, ap (size width) was.parts, size-append width was.seen (rest c.units.source), ap (size width) next);
      some =
          IsScanning-more width view text (rest c.units.source) (view.text c.units.state) None c.args.turns.now c.units.turns u left t (Some (p, size width left)) c.step-next.new.turns
          was next c.step-next.ensures.most c.step-next.ensures.least steady
          (IsFound-new width view text c.requires.kind (was.seen ++ u ∷ []) t p (size width left) steady o.chain o.some o.place
          (IsBehind-now width view text (was.seen ++ u ∷ []) left parts));
      none = λ e. absurd (let is : Some c.in-Some-position.position ≡ None = e in cc);
    }

-- the root was come to
pub returns-then-is_root-clause-scans : goal.returns-then-is_root-clause-scans
returns-then-is_root-clause-scans g c =
    let view = g.A.Automaton.sees c.args.automaton.now in let width = g.A.Unit.EdgeLabel.width in let rest = g.H.Haystack.rest in
    let text = rest c.args.source.now in let u : ℕ = g.A.Unit.EdgeLabel.unit c.in-Some-next.unit in
    let was = c.units.invariant.scanning in
    let next : rest c.units.source ≡ u ∷ rest c.next.new.self = g.met.H.Haystack.gives _ _ _ c.in-Some-next.ensures.steps in
    record {
      fewer = omega (arith, ap (size width) was.parts, size-append width was.seen (rest c.units.source), ap (size width) next);
      some = tt;
      none = λ _ end ended.
          let B : Bool → Type 0 = λ b. IsClear width view text b end c.args.turns.now c.step-next.new.turns in
          subst B (sym c.if-may_stop.true) (IsClear-stops width view text (rest c.units.source) (view.text c.units.state) end c.args.turns.now c.units.turns u (rest c.next.new.self) (view.text c.step-next.result.0) c.step-next.new.turns
          was ended next (c.step-next.ensures.leftmost c.requires.kind was.seen was.steady) (c.if-is_root.ensures.0 refl) c.step-next.ensures.most c.step-next.ensures.least (c.units.invariant.pends c.if-may_stop.true));
    }

-- one more unit, and nothing occurs so far
pub units-preserved : goal.units-preserved
units-preserved g c =
    let view = g.A.Automaton.sees c.args.automaton.now in let width = g.A.Unit.EdgeLabel.width in let rest = g.H.Haystack.rest in
    let text = rest c.args.source.now in let u : ℕ = g.A.Unit.EdgeLabel.unit c.in-Some-next.unit in let t = view.text c.step-next.result.0 in
    let was = c.units.invariant.scanning in
    let steady = steady_so_far view.content was.seen t u (c.step-next.ensures.leftmost c.requires.kind was.seen was.steady) was.found in
    let C : List (g.row.V.Denot × ℕ) → Type 0 = λ l. IsChain width view.content view.dead t l in
    let chain : C [] = subst C (ap (λ p. view.outputs (number p)) c.in_default-position.is ∙ (g.met.A.Automaton.no_output c.args.automaton.now).1) c.step-next.ensures.output.chain in
    record {
      reached = c.step-next.ensures.reached;
      scanning = IsScanning-more width view text (rest c.units.source) (view.text c.units.state) None c.args.turns.now c.units.turns u (rest c.next.new.self) t None c.step-next.new.turns
          was (g.met.H.Haystack.gives _ _ _ c.in-Some-next.ensures.steps) c.step-next.ensures.most c.step-next.ensures.least steady
          (IsFound-keeps width view text c.requires.kind was.seen t u None steady chain was.found);
      pends = λ may.
          let more = rest c.next.new.self in
          let next : rest c.units.source ≡ u ∷ more = g.met.H.Haystack.gives _ _ _ c.in-Some-next.ensures.steps in
          let parts : text ≡ (was.seen ++ u ∷ []) ++ more = was.parts ∙ (ap (λ x. was.seen ++ x) next ∙ sym (append_assoc was.seen (u ∷ []) more)) in
          let P : ℕ → Type 0 = λ n. PendsBefore view.content (1 + (length text - n)) text in
          let going : t ≢ [] = elim c.else-may_stop.branch [
            | else-may_stop-via-then-may_stop+else-is_root w ↦ λ empty. let at_root = w.if-is_root.ensures.1 empty in cc
            | else-may_stop-via-else-may_stop w ↦ let not = w.if-may_stop.false in cc
          ] in
          PendsBefore-more view.content text was.seen more t u parts (c.step-next.ensures.cut c.requires.kind was.seen was.steady) going (subst P (ap length next) (c.units.invariant.pends may));
    }

shorter : (xs ys : List ℕ) (x : ℕ) → xs ≡ x ∷ ys → length ys < length xs
shorter xs ys x is = omega (arith, ap length is)

pub units-smaller : goal.units-smaller
units-smaller g c =
    let rest = g.H.Haystack.rest in
    shorter (rest c.units.source) (rest c.next.new.self) (g.A.Unit.EdgeLabel.unit c.in-Some-next.unit) (g.met.H.Haystack.gives _ _ _ c.in-Some-next.ensures.steps)
