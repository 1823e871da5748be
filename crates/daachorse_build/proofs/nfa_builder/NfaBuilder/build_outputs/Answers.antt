-- Each state that a text leads to stands in the order, so its list has the outputs of the text and its suffixes, as far as the links go.
use Rattle.std.proofs.Common.{◌≡◌, ℕ, Bool, true, false, List, length, drop, refl, sym, ap, ◌∙◌, subst, inl, inr, arith}
use Rattle.std.proofs.lemmas.List.{take_at}
use Rattle.std.proofs.lemmas.Result.{on_ok_weaker}
use Rattle.std.proofs.lemmas.Grind.{common_steps, elements}
use Rattle.std.specs.declared.cmp.Ordering.{Ordering}
use Rattle.std.specs.declared.cmp.Ordering.TheVariants.{Equal}
use Rattle.std.specs.Cmp.{IsTotalOrder}
use Rattle.daachorse_core.specs.declared.outputs.Output.{Output}
use Rattle.daachorse_model.specs.Paths.{Leads}
use Rattle.daachorse_model.specs.Dictionary.{dictionary}
use Rattle.daachorse_build.specs.declared.nfa_builder.NfaBuilderState.{NfaBuilderState}
use Rattle.daachorse_build.specs.Builders.{Builder}
use Rattle.daachorse_build.specs.Tables.{child_of, edges_of, fails_of, stops_of, HoldTrie}
use Rattle.daachorse_build.specs.Orders.{IsKnown, HoldLinks, HoldLeftLinks}
use Rattle.daachorse_build.specs.Lists.{HaveLists}
use Rattle.daachorse_build.specs.Steps.{HoldEitherLinks, HasOutputsOf}
use Rattle.daachorse_build.proofs.Labels.{label_exact}
use Rattle.daachorse_build.proofs.Queue.{left_of_linked}
use Rattle.daachorse_build.proofs.OutputLists.{known_of_leads, suffix_outputs-held, left_outputs-never}
use Rattle.daachorse_build.proofs.LeftChains.{chain-left}
use Rattle.daachorse_build.specs.Growth.{HasTrieOf}
use Rattle.daachorse_build.specs.Holds.{in_units}
use Rattle.daachorse_build.proofs.nfa_builder.NfaBuilder.build_outputs.Goals as goal

-- standard links are the leftmost ones where no state stops
module _ {L V A : Type 0} (cmp : L → L → Ordering) (total : IsTotalOrder cmp) (states : List (NfaBuilderState L V A)) (table : HoldTrie cmp states) (order : List ℕ) where
  never : HoldLinks cmp states order → HoldLeftLinks cmp false states order
  never links = left_of_linked cmp total (edges_of states) table (stops_of false states) (λ s. refl) (fails_of states) order links

  either : HoldEitherLinks cmp states order → (leftmost : Bool) × HoldLeftLinks cmp leftmost states order
  either (inl links) = (false, never links)
  either (inr links) = (true, links)

-- the lists of states are those of their builder
outputs-built : {L V A : Type 0} (cmp : L → L → Ordering) (total : IsTotalOrder cmp) (exact : (x y : L) → cmp x y ≡ Equal → x ≡ y) (unit : L → ℕ) (width : ℕ → ℕ) (b : Builder L V A) (new : List (NfaBuilderState L V A)) (outputs : List (Output V)) (order : List ℕ)
    → HoldTrie cmp b.states → HoldEitherLinks cmp b.states order → HaveLists cmp b.states new order outputs → HasOutputsOf cmp unit width b (record b { states = new; outputs = outputs }) order
outputs-built {L} {V} cmp total exact unit width b new outputs order table linked made =
    let links = either cmp total b.states table order linked in
    let known : (leftmost : Bool) → HoldLeftLinks cmp leftmost b.states order → (w : List L) (t : ℕ) → Leads (child_of cmp b.states) w t → IsKnown order t =
    λ leftmost left w t h. known_of_leads cmp total exact (stops_of leftmost b.states) b.states table order (fails_of b.states) left w t h in
    record {
      positions = λ w t h. made.positions t (known links.0 links.1 w t h);
      lists = λ standard rs reg w t h.
          let left = never cmp total b.states table order standard in
          made.lists false left t (known false left w t h) w h
          ∙ left_outputs-never cmp (stops_of false b.states) (λ s. refl) b.states w
          ∙ suffix_outputs-held cmp unit width b.kind b.states rs reg.holds w;
      chains = λ left rs reg w t h.
          let K = dictionary b.kind (in_units unit rs) in
          rw (made.lists true left t (known true left w t h) w h) (chain-left cmp total exact unit width b.kind b.states rs reg.holds w);
      follows = λ w t h. made.chained links.0 links.1 t (known links.0 links.1 w t h);
      bound = made.bound;
      few = made.few;
      all_kept = λ rs reg. made.whole reg.holds.dead ∙ reg.holds.count ∙ sym reg.count;
    }

pub put_lists-requires-clause-links : goal.put_lists-requires-clause-links
put_lists-requires-clause-links g c =
    rw c.deref_mut.ensures.value (either g.L.Ord.cmp g.met.L.Ord.total c.self.inside.states.items c.self.invariant c.args.order.now (rw (← c.self.view_is) at c.requires))

pub returns-clause-outputs : goal.returns-clause-outputs
returns-clause-outputs g c =
    let b = c.self.inside in
    let new = c.put_lists.new.states in
    let outputs = c.put_lists.new.outputs.items in
    let order = c.args.order.now in
    let cmp = g.L.Ord.cmp in
    let exact = label_exact g.L.EdgeLabel.unit cmp g.met.L.EdgeLabel.exact g.met.L.EdgeLabel.by_unit in
    let same_len : length new ≡ b.states.len = omega (arith, c.put_lists.auto.states, c.deref_mut.ensures.len) in
    let P : List (NfaBuilderState g.row.L.Denot g.row.V.Denot g.row.A.Denot) → Type 0 = λ ss. HaveLists cmp ss new order outputs in
    rw (← c.self.view_is, take_at new (drop (length new) b.states.items) b.states.len same_len) (on_ok_weaker c.put_lists.result
    (λ made. outputs-built cmp g.met.L.Ord.total exact g.L.EdgeLabel.unit g.L.EdgeLabel.width (record { states = b.states.items; outputs = b.outputs.items; count = b.len; kind = b.kind }) new outputs order c.self.invariant (rw (← c.self.view_is) at c.requires) (subst P c.deref_mut.ensures.value made))
    c.put_lists.ensures.lists)

pub returns-clause-kept : goal.returns-clause-kept
returns-clause-kept g c =
    let new = c.put_lists.new.states in
    let same_len : length new ≡ c.self.inside.states.len = omega (arith, c.put_lists.auto.states, c.deref_mut.ensures.len) in
    let P : List (NfaBuilderState g.row.L.Denot g.row.V.Denot g.row.A.Denot) → Type 0 = λ ss. HasTrieOf ss new in
    rw (← c.self.view_is, take_at new (drop (length new) c.self.inside.states.items) c.self.inside.states.len same_len) (record { kind = refl; patterns = refl; kept = subst P c.deref_mut.ensures.value c.put_lists.ensures.kept })

pub returns-clause-links : goal.returns-clause-links
returns-clause-links g c =
    let new = c.put_lists.new.states in
    let same_len : length new ≡ c.self.inside.states.len = omega (arith, c.put_lists.auto.states, c.deref_mut.ensures.len) in
    rw (← c.self.view_is, take_at new (drop (length new) c.self.inside.states.items) c.self.inside.states.len same_len) (c.put_lists.ensures.fails ∙ ap fails_of c.deref_mut.ensures.value)

pub invariant_of-self : goal.invariant_of-self
invariant_of-self g c = grind (arith, common_steps)

pub returns-clause-err : goal.returns-clause-err
returns-clause-err g c = grind (arith, elements)
