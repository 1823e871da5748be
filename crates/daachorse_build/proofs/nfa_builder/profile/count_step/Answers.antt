-- A label leads to a state, and so does a link that isn't dead.
use Rattle.std.proofs.Common.{◌≡◌, ◌≢◌, ℕ, ◌<◌, List, Option, Some, None, IfSome, length, get_or, sym, ◌∙◌, arith}
use Rattle.std.proofs.lemmas.List.{length-map, get_or-map}
use Rattle.std.specs.declared.cmp.Ordering.{Ordering}
use Rattle.daachorse_build.specs.declared.nfa_builder.NfaBuilderState.{NfaBuilderState}
use Rattle.daachorse_build.specs.Tables.{child_of, edges_of, fails_of, HoldTrie}
use Rattle.daachorse_build.proofs.GrownCounts.{counted_same, counted_twice, counts_stay}
use Rattle.daachorse_build.proofs.LinksBack.{link-bounds, links-fewer}
use Rattle.daachorse_build.proofs.nfa_builder.profile.count_step.Goals as goal

module _ {L V A : Type 0} (cmp : L → L → Ordering) (states : List (NfaBuilderState L V A)) (table : HoldTrie cmp states) where
  same_length : length (edges_of states) ≡ length states
  same_length = length-map states (λ s. s.edges)

  -- a child is a state
  child_is_state : (s : ℕ) (c : L) (t : ℕ) → child_of cmp states s c ≡ Some t → (t < length states) × (t ≢ 1)
  child_is_state s c t h =
      let b = table.trie.bounds s c t h in
      (omega (arith, b.3, same_length), λ e. omega (arith, b.2, e))

  children_are_states : (s : ℕ) (c : L) (o : Option ℕ) → child_of cmp states s c ≡ o → IfSome o (λ t. t < length states)
  children_are_states s c None h = tt
  children_are_states s c (Some t) h = (child_is_state s c t h).0

  -- what is read of a link
  fail_read : (id : ℕ) (x : NfaBuilderState L V A) → id < length states → get_or (fails_of states) id 0 ≡ (get_or states id x).fail
  fail_read id x low = get_or-map (λ s. s.fail) states id x 0 low

pub loop-next-init : goal.loop-next-init
loop-next-init g c = record {
  counted = counted_same c.args.profile.now;
  state = c.requires.start;
  alive = c.requires.alive;
}

pub count_reads-requires-clause-counts : goal.count_reads-requires-clause-counts
count_reads-requires-clause-counts g c =
    counts_stay (length c.args.states.now) c.args.profile.now c.loop-next.profile c.requires.counts c.loop-next.invariant.counted

pub count_reads-requires-clause-next : goal.count_reads-requires-clause-next
count_reads-requires-clause-next g c =
    children_are_states g.L.Ord.cmp c.args.states.now c.requires.trie c.loop-next.id c.args.label c.child-next.result (sym c.child-next.ensures)

pub returns-in-Some : goal.returns-in-Some
returns-in-Some g c = record {
  counted = counted_twice c.args.profile.now c.loop-next.profile c.count_reads.new.profile c.loop-next.invariant.counted c.count_reads.ensures;
  state = (child_is_state g.L.Ord.cmp c.args.states.now c.requires.trie c.loop-next.id c.args.label c.in-Some.next (sym c.child-next.ensures ∙ c.in-Some.is)).0;
  alive = (child_is_state g.L.Ord.cmp c.args.states.now c.requires.trie c.loop-next.id c.args.label c.in-Some.next (sym c.child-next.ensures ∙ c.in-Some.is)).1;
}

pub returns-then-id-eq-ROOT_STATE_ID-clause-counted :
    goal.returns-then-id-eq-ROOT_STATE_ID-clause-counted
returns-then-id-eq-ROOT_STATE_ID-clause-counted g c =
    counted_twice c.args.profile.now c.loop-next.profile c.count_reads.new.profile c.loop-next.invariant.counted c.count_reads.ensures

pub returns-then-id-eq-DEAD_STATE_ID-clause-counted :
    goal.returns-then-id-eq-DEAD_STATE_ID-clause-counted
returns-then-id-eq-DEAD_STATE_ID-clause-counted g c =
    counted_twice c.args.profile.now c.loop-next.profile c.count_reads.new.profile c.loop-next.invariant.counted c.count_reads.ensures

pub loop-next-smaller : goal.loop-next-smaller
loop-next-smaller g c =
    let states = c.args.states.now in
    let cmp = g.L.Ord.cmp in
    let id = c.loop-next.id in
    let fail = fail_read cmp states c.requires.trie id c.index-states-id.result c.loop-next.invariant.state in
    let goes : get_or (fails_of states) id 0 ≢ 1 = λ e. c.if-id-eq-DEAD_STATE_ID.false (sym fail ∙ e) in
    rw (← fail) (links-fewer (child_of cmp states) (length (edges_of states)) c.requires.trie.trie (fails_of states) c.requires.links.each id (omega (arith, same_length cmp states c.requires.trie, c.loop-next.invariant.state)) c.if-id-eq-ROOT_STATE_ID.false c.loop-next.invariant.alive goes)

pub loop-next-preserved : goal.loop-next-preserved
loop-next-preserved g c =
    let states = c.args.states.now in
    let cmp = g.L.Ord.cmp in
    let id = c.loop-next.id in
    let fail = fail_read cmp states c.requires.trie id c.index-states-id.result c.loop-next.invariant.state in
    let goes : get_or (fails_of states) id 0 ≢ 1 = λ e. c.if-id-eq-DEAD_STATE_ID.false (sym fail ∙ e) in
    let bound = link-bounds (child_of cmp states) (length (edges_of states)) c.requires.trie.trie (fails_of states) c.requires.links.each id (omega (arith, same_length cmp states c.requires.trie, c.loop-next.invariant.state)) c.if-id-eq-ROOT_STATE_ID.false c.loop-next.invariant.alive goes in
    record {
      counted = counted_twice c.args.profile.now c.loop-next.profile c.count_reads.new.profile c.loop-next.invariant.counted c.count_reads.ensures;
      state = omega (arith, fail, bound, same_length cmp states c.requires.trie);
      alive = c.if-id-eq-DEAD_STATE_ID.false;
    }
