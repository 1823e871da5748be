-- What the stepper was fed and reported is what the stream takes and reports.
use Rattle.std.proofs.Common.{ℕ, ◌+◌, ◌++◌, List, ◌∙◌, ap, arith, length, length-append, refl, subst}
use Rattle.daachorse_model.specs.declared.Match.{Match}
use Rattle.daachorse_model.specs.Units.{byte_width, size}
use Rattle.daachorse.specs.bytewise.Automata.{states_of}
use Rattle.daachorse_bytewise_states.specs.Valid.{sees}
use Rattle.daachorse_c.specs.declared.stream.Stream.{Stream}
use Rattle.daachorse_c.specs.declared.unit.Unit.TheVariants.{Byte}
use Rattle.daachorse_c.specs.Streams.{KnowsEnd, kind_by, reported_in}
use Rattle.daachorse_c.proofs.Behind.{wide}
use Rattle.daachorse_c.proofs.Ended.{none_later, still_open}
use Rattle.daachorse_c.specs.Feeding.{Feeds}
use Rattle.daachorse_c.proofs.Going.{reports}
use Rattle.daachorse_c.proofs.Saving.{Saves, saved-goes_on}
use Rattle.daachorse_c.proofs.byte_streams.consume_bytes.Goals as goal

pub feed-done-requires-clause-partial : goal.feed-done-requires-clause-partial
feed-done-requires-clause-partial c = c.requires.goes_on.partial

pub feed-done-requires-clause-unended : goal.feed-done-requires-clause-unended
feed-done-requires-clause-unended c some =
    subst (λ ended. KnowsEnd ended c.resume-stepper.result) (still_open c.args.stream.ended (length c.args.bytes.now) c.requires.unended some) c.resume-stepper.ensures.end

pub feed-done-requires-clause-fits : goal.feed-done-requires-clause-fits
feed-done-requires-clause-fits c = omega (arith, ap (size byte_width) c.resume-stepper.ensures.read, c.requires.bytes)

pub returns : goal.returns
returns c =
    let s = c.args.stream in let p = states_of c.args.automaton.now in let folds = c.args.automaton.now.folds in
    let goes_on = c.requires.goes_on in let resumed = c.resume-stepper.ensures in let feed = c.feed-done.ensures in let done = c.feed-done.result in let stood = c.into_standing.ensures in
    let reported : List (Match ℕ) = reported_in byte_width (sees p).content s in
    let fed : Feeds Byte byte_width sees sees c.args.bytes.now reported c.resume-stepper.result c.feed-done.new.self s.partial c.feed-done.new.partial c.args.out.now c.feed-done.new.out done =
    feed.feeds reported (resumed.reported reported goes_on.reported) in
    let saved : Stream ℕ = record { standing = c.into_standing.result; partial = c.feed-done.new.partial; marks = s.marks; reported = s.reported + done.written; ended = s.ended } in
    -- the stream saves the stepper, which has reported what was reported before and then what was written
    let saves : Saves byte_width sees p folds (kind_by s.standing) saved c.feed-done.new.self (reported ++ fed.reports.more) = record {
      count = omega (arith, length-append reported fed.reports.more, goes_on.counted, fed.reports.writes.count);
      over = feed.over p p resumed.over;
      folds = feed.folds ∙ resumed.folds;
      kind = feed.search ∙ resumed.search;
      end = feed.end s.ended resumed.end (still_open s.ended (length c.args.bytes.now) c.requires.unended);
      reports = fed.reports.reported;
      stands = stood.stands;
      search = stood.search;
      read = stood.read;
      unended = stood.unended;
      reported = stood.reported;
    } in
    record {
      goes_on = saved-goes_on (wide Byte) saves Byte _ goes_on.serves goes_on.marks feed.partial (λ ended. none_later c.args.bytes.now done.taken fed.spells (goes_on.whole ended) (c.requires.unended ended));
      reports = reports (wide Byte) goes_on resumed.over resumed.folds resumed.search resumed.read fed saves refl refl;
    }
