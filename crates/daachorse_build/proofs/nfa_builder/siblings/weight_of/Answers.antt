-- A child is a state, and so it has a count.
use Rattle.std.proofs.Common.{Bor, Option, ◌≡◌, ◌+◌, ◌-◌, ◌^◌, ◌<◌, min, ℕ, List, [], ◌∷◌, ◌++◌, length, map, get_or, sum_by, Contains, Some, refl, sym, ap, ◌∙◌, subst, inl, inr, arith}
use Rattle.std.proofs.lemmas.List.{length-map, map-append, get_or_default}
use Rattle.std.proofs.lemmas.List.Sums.{sum_by_push}
use Rattle.std.proofs.lemmas.Bool.{false≢true}
use Rattle.std.proofs.lemmas.Map.Iter.{iter_turn, iter_end}
use Rattle.std.proofs.lemmas.Option.{get_or_from_slice_get, slice_get_within}
use Rattle.std.proofs.lemmas.Grind.{common_steps}
use Rattle.std.specs.Map.{values_of}
use Rattle.std.specs.Iterator.{Yields}
use Rattle.std.specs.Map.Iter.{TakesFirst, deref}
use Rattle.std.specs.declared.cmp.Ordering.{Ordering}
use Rattle.std.specs.Cmp.{IsTotalOrder}
use Rattle.daachorse_build.specs.declared.nfa_builder.NfaBuilderState.{NfaBuilderState}
use Rattle.daachorse_build.specs.Tables.{edges_of, HoldTrie}
use Rattle.daachorse_build.specs.Orders.{children}
use Rattle.daachorse_build.specs.Groups.{if_counted}
use Rattle.daachorse_build.proofs.Queue.{bounds_of_listed}
use Rattle.daachorse_build.proofs.EdgeTurns.{edges_read}
use Rattle.daachorse_build.proofs.Families.{if_counted-none}
use Rattle.daachorse_build.proofs.nfa_builder.siblings.weight_of.Goals as goal

module _ {L V A : Type 0} (cmp : L → L → Ordering) (total : IsTotalOrder cmp) (states : List (NfaBuilderState L V A)) (table : HoldTrie cmp states) (s : ℕ) (x : NfaBuilderState L V A) (es : List (L × ℕ)) (low : s < length states) (is : x ≡ get_or states s x) (read : es ≡ x.edges) where
  children_here : children (edges_of states) s ≡ values_of es
  children_here = ap values_of (edges_read states s x low is ∙ sym read)

  -- a child that is read is a state
  child_low : (yielded : List (Bor ℕ)) (start now next : List ℕ) (r : Option (Bor ℕ)) → start ≡ values_of es → Yields (TakesFirst deref) start yielded now → (id : Bor ℕ) → r ≡ Some id → TakesFirst deref now r next → id.now < length states
  child_low yielded start now next r begun calls id given steps =
      let at = (iter_turn deref (values_of es) yielded start now next r begun calls id given steps).1 in
      let in' : Contains (values_of es) id.now = (length yielded, slice_get_within (values_of es) _ id.now at, get_or_from_slice_get (values_of es) _ id.now id.now at) in
      let b = bounds_of_listed cmp total (edges_of states) table s id.now (subst (λ ts. Contains ts id.now) (sym children_here) in') in
      omega (arith, b.1, length-map states (λ y. y.edges))

weight_start : (p w : ℕ) → w ≡ p → w < 2 ^ 64 → w ≡ min (p + 0) (2 ^ 64 - 1)
weight_start p w e fits = omega arith

weight_step : (p s v w r : ℕ) → w ≡ min (p + s) (2 ^ 64 - 1) → r ≡ min (w + v) (2 ^ 64 - 1) → r ≡ min (p + (s + v)) (2 ^ 64 - 1)
weight_step p s v w r e f = omega arith

if_counted-some : (xs : List ℕ) (n : ℕ) → (xs ≡ [] → ⊥) → if_counted xs n ≡ n
if_counted-some [] n ne = absurd (ne refl)
if_counted-some (x ∷ xs) n ne = refl

pub index-requires : goal.index-requires
index-requires g c =
    let low = child_low g.L.Ord.cmp g.met.L.Ord.total c.args.states.now c.requires.trie c.args.parent c.index-states-parent.result c.edges.result.now c.requires.parent c.index-states-parent.is c.edges.ensures
    c.loop-id.yielded c.into_iter-id-iterator.result c.loop-id.id-iterator c.next.new.self c.next.result (cc) c.loop-id.yielded_by c.in-Some.id c.in-Some.is c.next.ensures.steps in
    elim c.requires.profile [
      | inl none ↦ absurd (false≢true (c.if-is_empty.ensures.1 none))
      | inr both ↦ omega (arith, low, both.0)
    ]

pub loop-id-init : goal.loop-id-init
loop-id-init g c =
    let probes = c.args.profile.now.probes.items in
    let w = c.index-weight.result.now in
    elim c.requires.profile [
      | inl none ↦ absurd (false≢true (c.if-is_empty.ensures.1 none))
      | inr both ↦
          let low : c.args.parent < length probes = omega (arith, c.requires.parent, both.1) in
          weight_start (get_or probes c.args.parent 0) w (c.index-weight.ensures ∙ get_or_default probes c.args.parent w 0 low) c.type_inv.weight.fits
    ]

pub loop-id-preserved : goal.loop-id-preserved
loop-id-preserved g c =
    let probes = c.args.profile.now.probes.items in
    let visits = c.args.profile.now.visits.items in
    let low = child_low g.L.Ord.cmp g.met.L.Ord.total c.args.states.now c.requires.trie c.args.parent c.index-states-parent.result c.edges.result.now c.requires.parent c.index-states-parent.is c.edges.ensures
    c.loop-id.yielded c.into_iter-id-iterator.result c.loop-id.id-iterator c.next.new.self c.next.result (cc) c.loop-id.yielded_by c.in-Some.id c.in-Some.is c.next.ensures.steps in
    let f : ℕ → ℕ = λ t. get_or visits t 0 in
    let done = map deref c.loop-id.yielded in
    let v = c.index.result.now in
    let more : sum_by f (map deref (c.loop-id.yielded ++ c.in-Some.id ∷ [])) ≡ sum_by f done + f c.in-Some.id.now = ap (sum_by f) (map-append deref c.loop-id.yielded (c.in-Some.id ∷ [])) ∙ sum_by_push f done c.in-Some.id.now in
    elim c.requires.profile [
      | inl none ↦ absurd (false≢true (c.if-is_empty.ensures.1 none))
      | inr both ↦
          let in' : c.in-Some.id.now < length visits = omega (arith, low, both.0) in
          let read : v ≡ f c.in-Some.id.now = c.index.ensures ∙ get_or_default visits c.in-Some.id.now v 0 in' in
          weight_step (get_or probes c.args.parent 0) (sum_by f done) v c.loop-id.weight c.saturating_add-weight.result c.loop-id.invariant c.saturating_add-weight.ensures
          ∙ ap (λ n. min (get_or probes c.args.parent 0 + n) (2 ^ 64 - 1)) (ap (λ n. sum_by f done + n) read ∙ sym more)
    ]

pub returns : goal.returns
returns g c =
    let states = c.args.states.now in
    let probes = c.args.profile.now.probes.items in
    let visits = c.args.profile.now.visits.items in
    let f : ℕ → ℕ = λ t. get_or visits t 0 in
    let all = values_of c.edges.result.now in
    let begun : c.into_iter-id-iterator.result ≡ all = cc in
    let end = iter_end deref all c.loop-id.yielded c.into_iter-id-iterator.result c.loop-id.id-iterator c.next.new.self c.next.result begun c.loop-id.yielded_by c.in-None.is c.next.ensures.steps in
    let here = children_here g.L.Ord.cmp g.met.L.Ord.total c.args.states.now c.requires.trie c.args.parent c.index-states-parent.result c.edges.result.now c.requires.parent c.index-states-parent.is c.edges.ensures in
    let weight : ℕ → ℕ = λ n. min (get_or probes c.args.parent 0 + n) (2 ^ 64 - 1) in
    c.loop-id.invariant
    ∙ ap (λ xs. weight (sum_by f xs)) (end.0 ∙ sym here)
    ∙ sym (if_counted-some visits (weight (sum_by f (children (edges_of states) c.args.parent))) (λ none. false≢true (c.if-is_empty.ensures.1 none)))

pub returns-then-is_empty : goal.returns-then-is_empty
returns-then-is_empty g c = sym (if_counted-none c.args.profile.now.visits.items _ (c.if-is_empty.ensures.0 refl))

pub index-weight-requires : goal.index-weight-requires
index-weight-requires g c = grind (arith, common_steps)
