-- A place that is remembered is behind a label, and within the document.
use Rattle.std.proofs.Common.{ℕ, ◌+◌, ◌<◌, ◌≤◌, Option, Some, None, IfSome, length, sym, ap, subst, arith}
use Rattle.std.proofs.lemmas.List.{length-map}
use Rattle.daachorse_build.proofs.GrownCounts.{counted_same, counted_twice, counts_stay, same_counts}
use Rattle.daachorse_build.proofs.nfa_builder.profile.count_run.Goals as goal
use Rattle.daachorse_build.proofs.nfa_builder.profile.count_run.Goals.{then-is_leftmost+then-is_match, else-is_leftmost}

abbrev IsBehind : ℕ → Option ℕ → Type 0
IsBehind p o = IfSome o (λ n. (0 < n) × (n ≤ p))

-- a place that was passed stays behind
behind_more : (p q : ℕ) (o : Option ℕ) → p ≤ q → IsBehind p o → IsBehind q o
behind_more p q None l h = tt
behind_more p q (Some n) l h = (h.0, omega (arith, h.1, l))

pub loop-place-init : goal.loop-place-init
loop-place-init g c = record {
  counted = counted_same c.args.profile.now;
  begun = λ _. same_counts c.args.profile.now;
  state = omega (arith, c.requires.trie.trie.two, length-map c.args.states.now (λ s. s.edges));
  alive = λ e. omega (arith, e);
  match = tt;
}

pub count_label-id-requires : goal.count_label-id-requires
count_label-id-requires g c = record {
  trie = c.requires.trie;
  links = c.requires.links;
  counts = counts_stay (length c.args.states.now) c.args.profile.now c.loop-place.profile c.requires.counts c.loop-place.invariant.counted;
  callable = c.requires.callable;
  start = c.loop-place.invariant.state;
  alive = c.loop-place.invariant.alive;
}

pub returns-then-is_some : goal.returns-then-is_some
returns-then-is_some g c = record {
  counted = counted_twice c.args.profile.now c.loop-place.profile c.count_label-id.new.profile c.loop-place.invariant.counted c.count_label-id.ensures.counted;
  -- a document with a label is not empty
  empty = λ none. absurd (omega (arith, ap length none));
  on = behind_more c.loop-place.place (length c.args.haystack.now) c.loop-place.match_end (omega arith) c.loop-place.invariant.match;
}

pub loop-place-preserved : goal.loop-place-preserved
loop-place-preserved g c =
    let P : Option ℕ → Type 0 = IsBehind (c.loop-place.place + 1) in
    record {
      counted = counted_twice c.args.profile.now c.loop-place.profile c.count_label-id.new.profile c.loop-place.invariant.counted c.count_label-id.ensures.counted;
      begun = λ e. absurd (omega (arith, e));
      state = c.count_label-id.ensures.state;
      alive = c.count_label-id.ensures.alive;
      match =
          elim c.if-is_leftmost.branch [
            | then-is_leftmost+then-is_match w ↦
                let now : P (Some (c.loop-place.place + 1)) = (omega arith, omega arith) in
                subst P (sym w.match_end-is) now
            | else-is_leftmost w ↦ subst P (sym w.match_end-is) (behind_more c.loop-place.place (c.loop-place.place + 1) c.loop-place.match_end (omega arith) c.loop-place.invariant.match)
          ];
    }

pub returns-clause-empty : goal.returns-clause-empty
returns-clause-empty g c = λ none. c.loop-place.invariant.begun (omega (arith, ap length none))
