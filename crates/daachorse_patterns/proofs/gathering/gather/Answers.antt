-- The list has what the iterator gave, and the loop ends only where there is no more to give, so no item of the whole run is missing.
use Rattle.std.proofs.Common.{◌≡◌, true, List, length, Option, None, refl, ap, subst}
use Rattle.std.specs.Option.{option_map}
use Rattle.std.specs.List.{slice_get}
use Rattle.std.specs.Iterator.{Yields}
use Rattle.std.specs.Iterator.Runs.{WholeRun, Trigger, YieldsRun}
use Rattle.std.proofs.lemmas.Option.{slice_get-get_or}
use Rattle.daachorse_patterns.proofs.gathering.gather.Goals as goal

-- calls that gave xs, and then nothing, are a whole run
whole_run : {S X : Type 0} (steps : S → Option X → S → Type 0) (s t u : S) (xs all : List X) → Yields steps s xs t → steps t None u → all ≡ xs → WholeRun steps s (λ p. all ≡ p.items)
unfolding Trigger YieldsRun
whole_run steps s t u xs all calls end same = (
  record {
    from = s;
    items = xs;
    whole = true;
    len = length xs;
    at = slice_get xs;
    seen = tt;
    long = refl;
    reads = λ k d l. ap (option_map (λ y. y)) (slice_get-get_or xs k d l);
    gave = ((t, calls, λ _. (u, end)), λ k. refl);
  },
  refl,
  refl,
  same,
)

pub returns-clause-ok : goal.returns-clause-ok
returns-clause-ok g c =
    let started = c.into_iter-item-iterator.ensures.into_iter_gives in
    let P : g.row.I.Denot → Type 0 = λ s. WholeRun g.I.Iterator.next_gives s (λ p. c.loop-item.all.items ≡ p.items) in
    subst P started (whole_run g.I.Iterator.next_gives _ _ _ c.loop-item.yielded c.loop-item.all.items c.loop-item.yielded_by c.in-None.ensures.steps c.loop-item.invariant)
