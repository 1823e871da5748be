-- Where no state stops, the leftmost links are the standard ones; where those with own outputs do, they are the leftmost ones of the dictionary.
use Rattle.std.proofs.Common.{◌≡◌, ℕ, Bool, false, List, length, drop, refl, sym, ap, ◌∙◌, subst, arith}
use Rattle.std.proofs.lemmas.List.{length-map, take_at}
use Rattle.std.proofs.lemmas.Result.{IfOk-weaker}
use Rattle.std.specs.declared.cmp.Ordering.{Ordering}
use Rattle.std.specs.Cmp.{IsTotalOrder}
use Rattle.daachorse_build.specs.declared.nfa_builder.NfaBuilderState.{NfaBuilderState}
use Rattle.daachorse_build.specs.Builders.{Builder}
use Rattle.daachorse_build.specs.Growth.{HasTrieOf}
use Rattle.daachorse_build.specs.Orders.{HaveLinks, HoldLinks, HoldLeftLinks}
use Rattle.daachorse_build.specs.Steps.{HasLinksOf}
use Rattle.daachorse_build.specs.Tables.{edges_of, fails_of, stops_of, HoldTrie, IsTable}
use Rattle.daachorse_build.proofs.Leftmost.{links_standard_built, links_left_built}
use Rattle.daachorse_build.proofs.Queue.{linked_of_left}
use Rattle.daachorse_build.proofs.nfa_builder.NfaBuilder.find_links.Goals as goal

-- the links of states are those of their builder
links-built : {L V A : Type 0} (cmp : L → L → Ordering) (total : IsTotalOrder cmp) (unit : L → ℕ) (width : ℕ → ℕ) (b : Builder L V A) (new : List (NfaBuilderState L V A)) (order : List ℕ) (leftmost : Bool)
    → HoldTrie cmp b.states → HasTrieOf b.states new → HaveLinks cmp leftmost new order → HasLinksOf cmp unit width leftmost b (record b { states = new }) order
links-built {L} cmp total unit width b new order leftmost table kept linked =
    let E : List (List (L × ℕ)) → Type 0 = λ es. IsTable cmp es in
    let P : Bool → Type 0 = λ k. HoldLeftLinks cmp k new order in
    let back : leftmost ≡ false → HoldLinks cmp new order = λ is. linked_of_left cmp total (edges_of new) (subst E (sym kept.edges) table) (stops_of false new) (λ s. refl) (fails_of new) order
    (λ t h. (let at = linked.within t h in (at.0, omega (arith, at.1, length-map new (λ s. s.edges))))) (subst P is linked.links) in
    record {
      standard = back;
      leftmost = λ is. subst P is linked.links;
      standard_links = λ is rs reg w t some h. links_standard_built cmp total b.states new table kept order linked.links.first (back is) unit width b.kind rs reg.holds w t some h;
      left = λ is rs reg w t some h. links_left_built cmp total b.states new table kept order linked.links.first (subst P is linked.links) unit width b.kind rs reg.holds w t some h;
      root = linked.root;
    }

pub returns-clause-links : goal.returns-clause-links
returns-clause-links g c =
    let b = c.self.inside in
    let new = c.link_states.new.states in
    let same_len : length new ≡ b.states.len = omega (arith, c.link_states.auto.states, c.deref_mut.ensures.len) in
    let P : List (NfaBuilderState g.row.L.Denot g.row.V.Denot g.row.A.Denot) → Type 0 = λ ss. HasTrieOf ss new in
    rw (← c.self.view_is, take_at new (drop (length new) b.states.items) b.states.len same_len) (IfOk-weaker c.link_states.result _ _
    (λ order linked. links-built g.L.Ord.cmp g.met.L.Ord.total g.L.EdgeLabel.unit g.L.EdgeLabel.width (record { states = b.states.items; outputs = b.outputs.items; count = b.len; kind = b.kind }) new order.items c.args.leftmost c.self.invariant (subst P c.deref_mut.ensures.value c.link_states.ensures.kept) linked) c.link_states.ensures.links)

pub returns-clause-kept : goal.returns-clause-kept
returns-clause-kept g c =
    let new = c.link_states.new.states in
    let same_len : length new ≡ c.self.inside.states.len = omega (arith, c.link_states.auto.states, c.deref_mut.ensures.len) in
    let P : List (NfaBuilderState g.row.L.Denot g.row.V.Denot g.row.A.Denot) → Type 0 = λ ss. HasTrieOf ss new in
    rw (← c.self.view_is, take_at new (drop (length new) c.self.inside.states.items) c.self.inside.states.len same_len) (record { kind = refl; patterns = refl; kept = subst P c.deref_mut.ensures.value c.link_states.ensures.kept })

pub invariant_of-self : goal.invariant_of-self
invariant_of-self g c =
    let new = c.link_states.new.states in
    let same_len : length new ≡ c.self.inside.states.len = omega (arith, c.link_states.auto.states, c.deref_mut.ensures.len) in
    let edges : edges_of c.self.inside.states.items ≡ edges_of new = ap edges_of (sym c.deref_mut.ensures.value) ∙ sym c.link_states.ensures.kept.edges in
    let P : List (List (g.row.L.Denot × ℕ)) → Type 0 = λ es. IsTable g.L.Ord.cmp es in
    rw (take_at new (drop (length new) c.self.inside.states.items) c.self.inside.states.len same_len) (subst P edges c.self.invariant)
