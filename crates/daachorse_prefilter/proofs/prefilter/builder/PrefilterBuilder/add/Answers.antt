-- Each pair of the first 9 bytes is let stand at its offset.
use Rattle.std.proofs.Common.{◌≡◌, ◌||◌, length, take, min, get_or, sym, ap, ◌∙◌, arith}
use Rattle.daachorse_model.specs.Filter.{is_clear, has_pair}
use Rattle.daachorse_prefilter.proofs.Tables.{window_is, is_nil-push, window_len-push, more_marked}
use Rattle.daachorse_prefilter.proofs.prefilter.builder.PrefilterBuilder.add.Goals as goal

pub returns : goal.returns
returns g c patterns added =
    let p = c.args.pattern.now in
    let table = c.args.self.now.table in
    let cut : take c.min-window_len.result p ≡ take 9 p = window_is p _ (let e = c.min-window_len.ensures in omega arith) in
    record {
      none = is_nil-push patterns p;
      shortest = c.min.ensures ∙ ap (λ n. min (length p) n) added.shortest ∙ sym (window_len-push patterns p);
      marked = more_marked table c.clear_pairs.new.table patterns p added.marked
          (λ pair j h hj. c.clear_pairs.ensures.marked pair j h hj
          ∙ ap (λ w. is_clear (get_or table pair 0) j || has_pair pair j w) cut);
    }

pub invariant_of-self : goal.invariant_of-self
invariant_of-self g c = record {
  short = (let e = c.min.ensures in omega arith);
  sized = c.clear_pairs.ensures.sized;
  counted = c.clear_pairs.ensures.counted;
}
