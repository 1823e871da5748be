-- A stream goes on: what its stepper was fed and reported is what the stream takes and reports.
use Rattle.std.proofs.Common.{◌≡◌, ℕ, ◌+◌, ◌≤◌, ◌++◌, Bool, List, take, drop, sym, ap, ◌∙◌, subst, arith}
use Rattle.std.proofs.lemmas.List.{drop_at, take_at}
use Rattle.daachorse_model.specs.declared.Match.{Match}
use Rattle.daachorse_model.specs.declared.MatchKind.{MatchKind}
use Rattle.daachorse_model.specs.Dictionary.{Dictionary}
use Rattle.daachorse_model.specs.Folding.{as_read}
use Rattle.daachorse_search.specs.Views.{AutomatonView}
use Rattle.daachorse_c.specs.declared.feeding.Done.{Done}
use Rattle.daachorse_c.specs.declared.found.CMatch.{CMatch}
use Rattle.daachorse_c.specs.declared.stepper.Stepper.{Stepper}
use Rattle.daachorse_c.specs.declared.stream.Stream.{Stream}
use Rattle.daachorse_c.specs.declared.unit.Unit.{Unit}
use Rattle.daachorse_c.specs.Feeding.{Feeds}
use Rattle.daachorse_c.specs.Streams.{AreAllCertain, GoesOnOver, IsOver, ReportsBy, folds_in, kind_by, kind_in, read_by, read_in, reported_in}
use Rattle.daachorse_c.specs.Writes.{WritesAll}
use Rattle.daachorse_c.proofs.Saving.{Saves, dictionary_over, saved-certain, saved-so_far, saved-reported, saved-whole}
use Rattle.daachorse_c.proofs.Steppers.{moved}

module _ {P T U V W : Type 0} {which : Unit} {width : ℕ → ℕ} (wide : (u : ℕ) → 1 ≤ width u) {sees : P → AutomatonView ℕ} {p : P} {kind : MatchKind} {folded : Bool} {bytes : List ℕ} {s t : Stream ℕ} {before after : Stepper P P T U V W} {old new : List CMatch} {done : Done}
    (goes_on : GoesOnOver which width sees p kind folded s) (over : IsOver p p before) (folds : folds_in before ≡ folded) (search : kind_in before ≡ kind_by s.standing) (read : read_in before ≡ read_by s.standing)
    (feeds : Feeds which width sees sees bytes (reported_in width (sees p).content s) before after s.partial t.partial old new done)
    (saves : Saves width sees p folded (kind_by s.standing) t after (reported_in width (sees p).content s ++ feeds.reports.more)) (ended : t.ended ≡ s.ended) (counted : t.reported ≡ s.reported + done.written) where
  abbrev K : Dictionary ℕ
  K = (sees p).content

  abbrev reported : List (Match ℕ)
  reported = reported_in width K s

  reported_is : reported_in width K t ≡ reported ++ feeds.reports.more
  reported_is = saved-reported wide saves

  pub reports : ReportsBy which width K folded bytes s t old new done
  reports = record {
    search = saves.search ∙ saves.kind;
    ended = ended;
    within = feeds.within;
    units = feeds.units;
    spells = feeds.spells;
    read = saves.read ∙ feeds.read ∙ ap (λ l. l ++ as_read (folds_in before) feeds.units) read ∙ ap (λ b. read_by s.standing ++ as_read b feeds.units) folds;
    counted = counted;
    reported = ap (take s.reported) reported_is ∙ take_at reported feeds.reports.more s.reported goes_on.counted;
    writes = subst (λ l. WritesAll l old new done.written) (sym (ap (drop s.reported) reported_is ∙ drop_at reported feeds.reports.more s.reported goes_on.counted)) feeds.reports.writes;
    needed = λ n next.
        let w = feeds.needed n next in record {
          some = w.some;
          rest = w.rest;
          first = reported_is ∙ w.first;
          units = w.units;
          later = w.later;
          spells = w.spells;
          certain =
              subst (λ b. AreAllCertain width (kind_by s.standing) K (read_by s.standing ++ as_read b w.units) w.some) folds
              (moved (λ k D r. AreAllCertain width k D (r ++ as_read (folds_in before) w.units) w.some) search (dictionary_over width sees p before over) read w.certain);
          fewer = omega (arith, w.fewer, goes_on.counted);
        };
    full = feeds.full;
    certain = saved-certain wide saves;
    so_far = λ lt. saved-so_far wide saves (feeds.quiet lt);
    whole = λ lt. saved-whole wide saves (feeds.quiet lt);
  }
