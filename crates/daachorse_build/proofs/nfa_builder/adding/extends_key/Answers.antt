-- A state that stops is met; else what is met is met after the next label.
use Rattle.std.proofs.Common.{rules, ◌≡◌, ◌+◌, ◌<◌, ◌∷◌, [], ◌++◌, ◌||◌, ℕ, Bool, true, false, List, Option, Some, None, length, take, drop, sym, ap, ◌∙◌, unwrap_or}
use Rattle.std.specs.Prelude.{option_map}
use Rattle.std.proofs.lemmas.Bool.{or_left}
use Rattle.std.proofs.lemmas.List.{take_more, drop_more, at_drop_all}
use Rattle.daachorse_model.proofs.Paths.{walk-push}
use Rattle.daachorse_build.specs.Tables.{child_of, stops_of}
use Rattle.daachorse_build.specs.Left.{meets_early}
use Rattle.daachorse_build.proofs.States.{leads_low}
use Rattle.daachorse_build.proofs.nfa_builder.adding.extends_key.Goals as goal

pub stops-requires : goal.stops-requires
stops-requires g c = (leads_low g.L.Ord.cmp c.args.states.now c.requires _ c.loop-label.id c.loop-label.invariant.here).0

pub child-requires : goal.child-requires
child-requires g c = (leads_low g.L.Ord.cmp c.args.states.now c.requires _ c.loop-label.id c.loop-label.invariant.here).0

module _ {A : Type 0} (child : ℕ → A → Option ℕ) (stops : ℕ → Bool) where
  at_stop : (s : ℕ) (x : A) (w : List A) → stops s ≡ true → meets_early child stops s (x ∷ w) ≡ true
  at_stop s x w h = or_left (stops s) _ h

  at_child : (s t : ℕ) (x : A) (w : List A) → stops s ≡ false → child s x ≡ Some t → meets_early child stops s (x ∷ w) ≡ meets_early child stops t w
  at_child s t x w h e = ap (λ b. b || unwrap_or (option_map (λ u. meets_early child stops u w) (child s x)) false) h ∙ ap (λ o. unwrap_or (option_map (λ u. meets_early child stops u w) o) false) e

  at_none : (s : ℕ) (x : A) (w : List A) → stops s ≡ false → child s x ≡ None → meets_early child stops s (x ∷ w) ≡ false
  at_none s x w h e = ap (λ b. b || unwrap_or (option_map (λ u. meets_early child stops u w) (child s x)) false) h ∙ ap (λ o. unwrap_or (option_map (λ u. meets_early child stops u w) o) false) e

pub returns-then-stops : goal.returns-then-stops
returns-then-stops g c =
    let states = c.args.states.now in
    let pattern = c.args.pattern.now in
    let i = c.loop-label.label-index in
    let x = c.label-item.result in
    let low : i < length pattern = c.loop-label-test.true in
    let stop : stops_of true states c.loop-label.id ≡ true = search rules in
    let rest : drop i pattern ≡ x ∷ drop (i + 1) pattern = drop_more pattern i x low ∙ ap (λ y. y ∷ drop (i + 1) pattern) (sym c.label-item.is) in
    sym (c.loop-label.invariant.same ∙ ap (meets_early (child_of g.L.Ord.cmp states) (stops_of true states) c.loop-label.id) rest ∙ at_stop (child_of g.L.Ord.cmp states) (stops_of true states) c.loop-label.id x (drop (i + 1) pattern) stop)

pub returns-in_default : goal.returns-in_default
returns-in_default g c =
    let states = c.args.states.now in
    let pattern = c.args.pattern.now in
    let i = c.loop-label.label-index in
    let x = c.label-item.result in
    let low : i < length pattern = c.loop-label-test.true in
    let goes : stops_of true states c.loop-label.id ≡ false = search rules in
    let none : child_of g.L.Ord.cmp states c.loop-label.id x ≡ None = search rules in
    let rest : drop i pattern ≡ x ∷ drop (i + 1) pattern = drop_more pattern i x low ∙ ap (λ y. y ∷ drop (i + 1) pattern) (sym c.label-item.is) in
    sym (c.loop-label.invariant.same ∙ ap (meets_early (child_of g.L.Ord.cmp states) (stops_of true states) c.loop-label.id) rest ∙ at_none (child_of g.L.Ord.cmp states) (stops_of true states) c.loop-label.id x (drop (i + 1) pattern) goes none)

pub loop-label-preserved : goal.loop-label-preserved
loop-label-preserved g c =
    let states = c.args.states.now in
    let pattern = c.args.pattern.now in
    let i = c.loop-label.label-index in
    let x = c.label-item.result in
    let low : i < length pattern = c.loop-label-test.true in
    let goes : stops_of true states c.loop-label.id ≡ false = search rules in
    let some : child_of g.L.Ord.cmp states c.loop-label.id x ≡ Some c.in-Some.next = search rules in
    let rest : drop i pattern ≡ x ∷ drop (i + 1) pattern = drop_more pattern i x low ∙ ap (λ y. y ∷ drop (i + 1) pattern) (sym c.label-item.is) in
    let front : take (i + 1) pattern ≡ take i pattern ++ x ∷ [] = take_more pattern i x low ∙ ap (λ y. take i pattern ++ y ∷ []) (sym c.label-item.is) in
    record {
      here = rw front (walk-push (child_of g.L.Ord.cmp states) 0 (take i pattern) x c.loop-label.id c.loop-label.invariant.here ∙ some);
      same = c.loop-label.invariant.same ∙ ap (meets_early (child_of g.L.Ord.cmp states) (stops_of true states) c.loop-label.id) rest ∙ at_child (child_of g.L.Ord.cmp states) (stops_of true states) c.loop-label.id c.in-Some.next x (drop (i + 1) pattern) goes some;
    }

pub returns : goal.returns
returns g c =
    let states = c.args.states.now in
    sym (c.loop-label.invariant.same ∙ at_drop_all (meets_early (child_of g.L.Ord.cmp states) (stops_of true states) c.loop-label.id) c.args.pattern.now c.loop-label.label-index c.loop-label-test.false)
