-- Where all bases of a block are taken, so are its elements, since it has no more bases than elements.
use Rattle.std.proofs.Common.{◌≡◌, ◌+◌, ◌-◌, ◌*◌, ℕ, ◌∙◌, arith, true, subst, sym}
use Rattle.daachorse_placement.specs.FreeLists.{is_base}
use Rattle.daachorse_placement.proofs.FlagCounts.{none-vacant}
use Rattle.daachorse_placement.proofs.build_helper.least_unused.Goals as goal

pub returns-then-not-is_used_base-clause-found : goal.returns-then-not-is_used_base-clause-found
returns-then-not-is_used_base-clause-found g c =
    let els = c.args.elements.now in
    let start = c.args.block_idx * els.block_len in
    record {
      from = omega arith;
      to = omega arith;
      free = sym c.is_used_base.ensures ∙ c.if-not-is_used_base.true;
      least = λ k low less. let back : start + (k - start) ≡ k = omega arith in subst (λ (b : ℕ). is_base els b ≡ true) back (c.loop-offset.invariant (k - start) (omega arith));
    }

pub returns-clause-full : goal.returns-clause-full
returns-clause-full g c =
    let els = c.args.elements.now in
    none-vacant els.used_base.items els.used_index.items (c.args.block_idx * els.block_len) els.block_len (c.requires.full c.args.block_idx) (λ k lt. c.loop-offset.invariant k (omega arith))
