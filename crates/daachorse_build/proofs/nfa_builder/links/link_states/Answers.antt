-- The traversal has left each state in its queue, so the order is whole, and its links are written to the states.
use Rattle.std.proofs.Common.{◌≡◌, ◌<◌, ℕ, List, [], length, get_or, subst, sym, ap, ◌∙◌, arith}
use Rattle.std.specs.Prelude.{Bool, not, ◌&&◌, ◌==◌}
use Rattle.std.proofs.lemmas.List.{length-map}
use Rattle.std.specs.declared.cmp.Ordering.{Ordering}
use Rattle.daachorse_build.specs.Tables.{edges_of, fails_of, own_of, own_at, stops_of}
use Rattle.daachorse_build.specs.Orders.{IsLeftLinked}
use Rattle.daachorse_build.proofs.Queue.{length-order, traversal_end}
use Rattle.daachorse_build.proofs.nfa_builder.links.link_states.Goals as goal

pub loop-traversal-smaller : goal.loop-traversal-smaller
loop-traversal-smaller g c =
    let s = c.loop-traversal.traversal in
    let states = c.args.states.now in
    let bound = length-order g.L.Ord.cmp g.met.L.Ord.total (edges_of states) c.requires (stops_of s.leftmost states) s.links.items s.order.items [] s.next c.loop-traversal.invariant.traversal in
    let more : s.next < length s.order.items = omega arith in
    omega (arith, bound, length-map states (λ s. s.edges), more, c.in_ok-expand.ensures.next)

linked_same : {L V : Type 0} (cmp : L → L → Ordering) (kind kind' : Bool) (own own' : List (List (V × ℕ))) (edges edges' : List (List (L × ℕ))) (fails fails' order : List ℕ) → kind ≡ kind' → own ≡ own' → edges ≡ edges' → fails ≡ fails' → IsLeftLinked cmp (λ s. kind && not (length (own_at own s) == 0)) edges fails order → IsLeftLinked cmp (λ s. kind' && not (length (own_at own' s) == 0)) edges' fails' order
linked_same {L} {V} cmp kind kind' own own' edges edges' fails fails' order k o e f h =
    let O : Bool → Type 0 = λ b. IsLeftLinked cmp (λ s. b && not (length (own_at own s) == 0)) edges fails order in
    let N : List (List (V × ℕ)) → Type 0 = λ os. IsLeftLinked cmp (λ s. kind' && not (length (own_at os s) == 0)) edges fails order in
    let P : List (List (L × ℕ)) → Type 0 = λ es. IsLeftLinked cmp (λ s. kind' && not (length (own_at own' s) == 0)) es fails order in
    let Q : List ℕ → Type 0 = λ fs. IsLeftLinked cmp (λ s. kind' && not (length (own_at own' s) == 0)) edges' fs order in
    subst Q f (subst P e (subst N o (subst O k h)))

pub returns-clause-links : goal.returns-clause-links
returns-clause-links g c =
    let s = c.loop-traversal.traversal in
    let old = c.args.states.now in
    let new = c.set_links.new.states in
    let i = c.loop-traversal.invariant.traversal in
    let fails : s.links.items ≡ fails_of new = sym c.deref.ensures.value ∙ sym c.set_links.ensures.links in
    let done : s.order.items ≡ _ = traversal_end g.L.Ord.cmp g.met.L.Ord.total (edges_of old) c.requires (stops_of s.leftmost old) s.links.items s.order.items s.next i (omega arith) in
    record {
      links = linked_same g.L.Ord.cmp s.leftmost c.args.leftmost (own_of old) (own_of new) (edges_of old) (edges_of new) s.links.items (fails_of new) s.order.items c.loop-traversal.invariant.kind (sym c.set_links.ensures.kept.outputs) (sym c.set_links.ensures.kept.edges) fails
          (record { first = done; linked = i.linked; earlier = i.earlier; once = i.once });
      root = ap (λ fs. get_or fs 0 0) (sym fails) ∙ i.root;
      within = λ t h. (let b = i.states t h in (b.0, omega (arith, b.1, length-map old (λ s. s.edges), c.set_links.auto.states)));
    }

pub set_links-requires : goal.set_links-requires
set_links-requires g c =
    omega (arith, ap length c.deref.ensures.value, c.loop-traversal.invariant.traversal.one_each, length-map c.args.states.now (λ s. s.edges))
