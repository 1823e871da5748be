-- Each entry is a copy of 255, all of whose bits are set.
use Rattle.std.proofs.Common.{◌≡◌, ◌<◌, refl, subst, sym, ap, ◌∙◌, arith}
use Rattle.daachorse_model.specs.Filter.{is_clear}
use Rattle.daachorse_prefilter.proofs.Counting.{counted_start}
use Rattle.daachorse_prefilter.proofs.ClearBits.{is_clear_ones}
use Rattle.daachorse_prefilter.proofs.Tables.{copies_at}
use Rattle.daachorse_prefilter.proofs.prefilter.builder.PrefilterBuilder.new.Goals as goal

pub returns-clause-added : goal.returns-clause-added
returns-clause-added g c =
    let table = c.in_ok-new.field-0 in
    record {
      none = refl;
      shortest = refl;
      marked = λ pair j h hj. (
          ap (λ e. is_clear e j) (copies_at (λ x y. y ≡ x) 255 table (λ y is. is) c.in_ok-new.ensures.full pair (subst (λ n. pair < n) (sym c.in_ok-new.ensures.sized) h))
          ∙ is_clear_ones j hj);
    }

pub invariant_of-result : goal.invariant_of-result
invariant_of-result g c =
    record {
      short = omega arith;
      sized = c.in_ok-new.ensures.sized;
      counted = counted_start c.in_ok-new.field-0 c.in_ok-new.ensures.full;
    }
