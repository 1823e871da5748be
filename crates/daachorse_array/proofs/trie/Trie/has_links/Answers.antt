-- The tour comes to each rank once, by way of its link, so the children of each are checked by what is near above it, and the links are
-- right just where all of these are.
use Rattle.std.proofs.Common.{rules, ◌≡◌, ℕ, ◌+◌, ◌<◌, ◌≤◌, length, sym, ap, ◌∙◌, refl, subst, get_or, replicate, arith}
use Rattle.std.proofs.lemmas.List.{get_or_read, get_or-replicate, length-replicate}
use Rattle.std.proofs.lemmas.Bool.{false≢true}
use Rattle.daachorse_array.specs.Ranks.{AreStarts, IsLabelled, IsTrieOfRanks}
use Rattle.daachorse_array.specs.Near.{up, top, above, AreNear, IsAbove, IsSaved}
use Rattle.daachorse_array.specs.Tours.{IsTouring}
use Rattle.daachorse_array.proofs.LinkLaws.{right_falls, right_checked, sound}
use Rattle.daachorse_array.proofs.TopLaws.{top_end}
use Rattle.daachorse_array.proofs.TouringLaws.{touring_start, touring_step, touring_end, next_in, next_above, same_other}
use Rattle.daachorse_array.proofs.trie.Trie.has_links.Goals as goal
use Rattle.daachorse_array.proofs.trie.Trie.has_links.Goals.{then-above-count, else-above-count}

pub returns-then-not-links_fall-clause-ok : goal.returns-then-not-links_fall-clause-ok
returns-then-not-links_fall-clause-ok g c =
    let t = c.args.self.now in (
      λ e. absurd (false≢true e),
      λ links. c.if-not-links_fall.ensures.1
          (right_falls t.parents.items t.labels.items t.stops.items t.fails.items c.args.alphabet c.requires.trie c.requires.each links),
    )

pub loop-k-init : goal.loop-k-init
loop-k-init g c =
    let t = c.args.self.now in
    let n = length t.fails.items in
    let tour = c.in_ok-tour.ensures.ok in
    let next = c.in_ok-tour.tour.items in
    let near' = c.in_ok-near.near.items in
    let saved = c.in_ok-saved.saved.items in
    let count : c.len-count.result ≡ n = c.len-count.ensures ∙ t.fails.ok.0 in
    let zeros : near' ≡ replicate c.args.alphabet 0 = search rules in
    let wide : length near' ≡ c.args.alphabet = ap length zeros ∙ length-replicate c.args.alphabet 0 in
    let at : (k : ℕ) → k < length near' → get_or near' k 0 ≡ 0 = λ k lt. ap (λ xs. get_or xs k 0) zeros
    ∙ get_or-replicate c.args.alphabet k 0 0 (omega (arith, lt, wide)) in
    let read : c.index-next.result.now ≡ get_or next c.len-count.result 0 = get_or_read next c.len-count.result c.index-next.result.now
    (omega (arith, tour.size, count)) c.index-next.ensures 0 in
    let first : c.index-next.result.now ≡ get_or next n 0 = read ∙ ap (λ i. get_or next i 0) count in
    let size : length saved ≡ length t.parents.items = search rules in
    record {
      wide = wide;
      size = size;
      touring = rw (count, first) (touring_start c.requires.trie c.requires.each next near' saved tour at);
    }

pub returns-then-not-enter-clause-ok : goal.returns-then-not-enter-clause-ok
returns-then-not-enter-clause-ok g c =
    let t = c.args.self.now in (
      λ e. absurd (false≢true e),
      λ links. c.if-not-enter.ensures.checked.1
          (right_checked t.parents.items t.labels.items t.stops.items t.fails.items c.args.alphabet c.requires.trie c.requires.each links
          c.loop-k.next),
    )

pub returns-clause-ok : goal.returns-clause-ok
returns-clause-ok g c =
    let t = c.args.self.now in
    let k = c.loop-k in (
      λ _. sound t.parents.items t.labels.items t.stops.items t.fails.items c.args.alphabet c.requires.trie c.requires.each
          (c.if-not-links_fall.ensures.0 refl)
          (touring_end c.requires.trie c.requires.each k.invariant.touring (omega (arith, c.loop-k-test.false, c.len-count.ensures))),
      λ _. refl,
    )

pub index-next-requires-in-loop-k : goal.index-next-requires-in-loop-k
index-next-requires-in-loop-k g c =
    let lt = next_in c.requires.trie c.requires.each c.loop-k.invariant.touring (omega (arith, c.loop-k-test.true, c.len-count.ensures)) in
    omega (arith, lt, c.in_ok-tour.ensures.ok.size)

pub loop-k-preserved : goal.loop-k-preserved
loop-k-preserved g c =
    let t = c.args.self.now in
    let k = c.loop-k in
    let fs = t.fails.items in
    let tour = c.in_ok-tour.ensures.ok in
    let next = c.in_ok-tour.tour.items in
    let count : c.len-count.result ≡ length fs = c.len-count.ensures ∙ t.fails.ok.0 in
    let more : k._k < length fs = omega (arith, c.loop-k-test.true, count) in
    let lt = next_in c.requires.trie c.requires.each k.invariant.touring more in
    let other : c.if-above-count.other ≡ top t.stops.items fs k.next =
    elim c.if-above-count.branch [
      | then-above-count w ↦ w.other-is ∙ w.root_value-other.ensures
          ∙ sym (top_end (up fs) t.stops.items (length fs) (length fs) k.next (sym c.above-above.ensures ∙ w.if-above-count.true ∙ count))
      | else-above-count w ↦
          w.other-is ∙ same_other c.requires.trie c.requires.each k.invariant.touring
          (c.if-not-links_fall.ensures.0 refl) more (λ z. w.if-above-count.false (c.above-above.ensures ∙ z ∙ sym count))
    ] in
    let read : c.index-next-in-loop-k.result.now ≡ get_or next k.next 0 =
    get_or_read next k.next c.index-next-in-loop-k.result.now (omega (arith, lt, tour.size)) c.index-next-in-loop-k.ensures 0 in
    let ens = c.if-not-enter.ensures in
    let step = touring_step c.requires.trie c.requires.each k.invariant.touring tour
    c.enter.new.near.items c.enter.new.saved.items c.if-above-count.other more (ens.checked.0 refl) (ens.near refl) (ens.saved refl)
    (ens.kept refl) other in
    record {
      wide = c.enter.ensures.same ∙ c.retreat.ensures.same ∙ k.invariant.wide;
      size = c.enter.ensures.size ∙ k.invariant.size;
      touring = subst (λ p. IsTouring t.parents.items t.labels.items t.stops.items fs next c.enter.new.near.items c.enter.new.saved.items
          (k._k + 1) k.next p c.if-above-count.other) (sym read) step;
    }

pub follows-requires : goal.follows-requires
follows-requires g c =
    let trie : IsLabelled c.args.self.now.parents.items c.args.self.now.labels.items = (c.args.alphabet, c.requires.trie) in
    assumption (
      c.if-not-links_fall.ensures.0 refl,
      subst (AreStarts c.args.self.now.parents.items)
          (sym c.deref.ensures.value) c.in_ok-starts.ensures.ok,
    )

pub above-above-requires : goal.above-above-requires
above-above-requires g c =
    let lt = next_in c.requires.trie c.requires.each c.loop-k.invariant.touring (omega (arith, c.loop-k-test.true, c.len-count.ensures)) in
    omega (arith, lt, c.requires.each, c.requires.few)

pub retreat-requires : goal.retreat-requires
retreat-requires g c =
    let t = c.args.self.now in
    let inv = c.loop-k.invariant in
    let over = next_above c.requires.trie c.requires.each inv.touring (omega (arith, c.loop-k-test.true, c.len-count.ensures)) in
    assumption (
      subst (λ q. IsAbove (up t.fails.items) q c.loop-k.here) (sym c.above-above.ensures) over,
      λ (j : ℕ). subst (λ xs. IsSaved t.parents.items t.labels.items t.fails.items xs (above (up t.fails.items) j c.loop-k.here))
          (sym c.deref-in-loop-k-2.ensures.value) (inv.touring.path j),
      subst (IsTrieOfRanks t.parents.items t.labels.items) (sym inv.wide) c.requires.trie,
      c.if-not-links_fall.ensures.0 refl,
      subst (AreStarts t.parents.items) (sym c.deref-in-loop-k.ensures.value) c.in_ok-starts.ensures.ok,
      subst (λ n. c.loop-k.here ≤ n) c.requires.each inv.touring.low,
      ap length c.deref-in-loop-k-2.ensures.value ∙ inv.size,
    )

pub enter-requires : goal.enter-requires
enter-requires g c =
    let t = c.args.self.now in
    let fs = t.fails.items in
    let k = c.loop-k in
    let more : k._k < length fs = omega (arith, c.loop-k-test.true, c.len-count.ensures) in
    let count : c.len-count.result ≡ length fs = c.len-count.ensures ∙ t.fails.ok.0 in
    let other : c.if-above-count.other ≡ top t.stops.items fs k.next = elim c.if-above-count.branch [
      | then-above-count w ↦ w.other-is ∙ w.root_value-other.ensures
          ∙ sym (top_end (up fs) t.stops.items (length fs) (length fs) k.next (sym c.above-above.ensures ∙ w.if-above-count.true ∙ count))
      | else-above-count w ↦
          w.other-is
          ∙ same_other c.requires.trie c.requires.each k.invariant.touring (c.if-not-links_fall.ensures.0 refl) more
          (λ z. w.if-above-count.false (c.above-above.ensures ∙ z ∙ sym count))
    ] in
    assumption (
      subst (λ n. k.next < n) c.requires.each (next_in c.requires.trie c.requires.each k.invariant.touring more),
      subst (IsTrieOfRanks t.parents.items t.labels.items) (sym (c.retreat.ensures.same ∙ k.invariant.wide)) c.requires.trie,
      c.if-not-links_fall.ensures.0 refl,
      subst (AreStarts t.parents.items) (sym c.deref-in-loop-k-3.ensures.value) c.in_ok-starts.ensures.ok,
      subst (AreNear t.parents.items t.labels.items fs c.retreat.new.near.items) c.above-above.ensures c.retreat.ensures.near,
    )
