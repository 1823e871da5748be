-- One byte more is kept, or ends a unit that is consumed, or begins none.
use borrow.Rule.Slice.PartMut.{same_len_mid}
use Rattle.std.proofs.Common.{◌≡◌, ℕ, ◌+◌, ◌-◌, ◌<◌, ◌++◌, inl, inr, false, List, [], ◌∷◌, get_or, length, refl, sym, ap, ◌∙◌, subst, append-nil, length-append, arith}
use Rattle.std.proofs.lemmas.List.{length-drop, take_rest}
use Rattle.daachorse_model.specs.Folding.{as_read}
use Rattle.daachorse_model.specs.Units.{size}
use Rattle.daachorse_model.proofs.FoldLaws.{size-as_read}
use Rattle.daachorse_model.proofs.Suffixes.{size-append}
use Rattle.daachorse_c.specs.Streams.{KnowsEnd, folds_in, read_in}
use Rattle.daachorse_c.specs.Units.{spelled_in}
use Rattle.daachorse_c.proofs.Fed.{partial_none, fed-open, fed-whole, nothing_read, spells-nothing}
use Rattle.daachorse_c.proofs.stepper.Stepper.feed.Goals as goal
use Rattle.daachorse_c.proofs.stepper.Stepper.feed.Goals.{in-Open, in-Whole}

pub loop-written-init : goal.loop-written-init
loop-written-init g c =
    let reports = c.report-written.ensures in record {
      over = reports.over;
      folds = reports.folds;
      search = reports.search;
      dictionary = reports.dictionary;
      end = λ ended knows unended. reports.end ended knows;
      partial = c.requires.partial;
      within = omega arith;
      long = c.report-written.auto.out;
      room = reports.room;
      quiet = reports.quiet;
      sized = omega (arith, ap (size g.S.Unit.EdgeLabel.width) reports.read);
      fed = λ reported has. record {
        within = omega arith;
        units = [];
        spells = spells-nothing g.S.Unit.StreamUnit.which c.args.partial.now c.requires.partial;
        read = reports.read ∙ sym (append-nil _) ∙ ap (λ l. read_in c.args.self.now ++ l) (sym (nothing_read _));
        reports = reports.reported reported has;
        quiet = reports.quiet;
        needed = λ n none. absurd (omega (arith, none));
      };
    }

pub push-requires : goal.push-requires
push-requires g c = c.loop-written.invariant.partial

pub consume-requires-clause-quiet : goal.consume-requires-clause-quiet
consume-requires-clause-quiet g c = let i = c.loop-written.invariant in i.quiet (omega (arith, i.long, c.loop-written-test.true))

pub consume-requires-clause-unended : goal.consume-requires-clause-unended
consume-requires-clause-unended g c =
    let some : 0 < length c.args.bytes.now = omega (arith, c.if-taken-bytes.true) in
    c.loop-written.invariant.end false (c.requires.unended some) (λ _. refl)

-- the bytes of a unit are as many as it is wide
one_sized : (spelled : List ℕ → List ℕ) (width : ℕ → ℕ) → ((w : List ℕ) → length (spelled w) ≡ size width w) → (partial : List ℕ) (byte u : ℕ) → partial ++ byte ∷ [] ≡ spelled (u ∷ []) → length partial + 1 ≡ width u
one_sized spelled width sized partial byte u is = omega (arith, ap length is, sized (u ∷ []), length-append partial (byte ∷ []))

pub consume-requires-clause-fits : goal.consume-requires-clause-fits
consume-requires-clause-fits g c =
    let i = c.loop-written.invariant in
    let one = one_sized (spelled_in g.S.Unit.StreamUnit.which) g.S.Unit.EdgeLabel.width g.met.S.Unit.StreamUnit.sized c.loop-written.partial _ (g.S.Unit.EdgeLabel.unit c.in-Whole.unit) c.in-Whole.ensures in
    omega (arith, one, i.sized, c.requires.fits, c.if-taken-bytes.true)

pub overflow_add-written : goal.overflow_add-written
overflow_add-written g c =
    let i = c.loop-written.invariant in let n = c.loop-written.written in let out = c.loop-written.out in
    omega (arith, i.long, i.room, c.report-written-in-Whole.ensures.room, ap length (take_rest out n), length-drop n out, c.loop-written-test.true, c.loop-written.auto.written-fits, c.well_formed)

pub loop-written-preserved : goal.loop-written-preserved
loop-written-preserved g c =
    let i = c.loop-written.invariant in let width = g.S.Unit.EdgeLabel.width in let which = g.S.Unit.StreamUnit.which in
    let n = c.loop-written.written in let out = c.loop-written.out in let byte = get_or c.args.bytes.now c.loop-written.taken 0 in
    let room : n < length c.args.out.now = omega (arith, i.long, c.loop-written-test.true) in
    let some : 0 < length c.args.bytes.now = omega (arith, c.if-taken-bytes.true) in
    let unended = i.end false (c.requires.unended some) (λ _. refl) in
    elim c.match-push.branch [
      | in-Open w ↦
          let kept = w.in-Open.ensures in
          rw (w.self-is, w.partial-is, w.out-is, w.written-is)
          (record {
            over = i.over;
            folds = i.folds;
            search = i.search;
            dictionary = i.dictionary;
            end = i.end;
            partial = rw kept.0 kept.1;
            within = omega (arith, c.if-taken-bytes.true);
            long = i.long;
            room = i.room;
            quiet = i.quiet;
            sized = omega (arith, i.sized, ap length kept.0, length-append c.loop-written.partial (byte ∷ []));
            fed = λ reported has. fed-open (i.fed reported has) c.if-taken-bytes.true room unended i.search i.dictionary _ kept;
          })
      | in-Whole w ↦
          let consumed = w.consume.ensures in let reports = w.report-written-in-Whole.ensures in let u = g.S.Unit.EdgeLabel.unit w.in-Whole.unit in
          let rest = ap length (take_rest out n) ∙ length-drop n out in
          let one = one_sized (spelled_in which) width g.met.S.Unit.StreamUnit.sized c.loop-written.partial byte u w.in-Whole.ensures in
          let last = w.report-written-in-Whole.new.self in
          let long = same_len_mid n (length out - n) out w.report-written-in-Whole.new.out w.report-written-in-Whole.auto.out ∙ i.long in
          rw (w.self-is, w.partial-is, w.out-is, w.written-is)
          (record {
            over = λ a b first. reports.over a b (consumed.over a b (i.over a b first));
            folds = reports.folds ∙ consumed.folds ∙ i.folds;
            search = reports.search ∙ consumed.search ∙ i.search;
            dictionary = reports.dictionary ∙ consumed.dictionary ∙ i.dictionary;
            end = λ ended knows open_end. reports.end ended (subst (λ e. KnowsEnd e w.consume.new.self) (sym (open_end some)) consumed.unended);
            partial = rw w.none.ensures (partial_none which);
            within = omega (arith, c.if-taken-bytes.true);
            long = long;
            room = omega (arith, reports.room, rest, i.long, room);
            quiet = λ lt. reports.quiet (omega (arith, rest, i.long, lt));
            sized = omega (
              arith,
              i.sized,
              one,
              ap length w.none.ensures,
              ap (size width) (reports.read ∙ consumed.read),
              size-append width (read_in c.loop-written.self) (as_read (folds_in c.loop-written.self) (u ∷ [])),
              size-as_read width g.met.S.Unit.AsciiFold.as_wide (folds_in c.loop-written.self) (u ∷ []),
            );
            fed = λ reported has.
                let f = i.fed reported has in
                fed-whole f c.if-taken-bytes.true room unended i.search i.dictionary _ u w.consume.new.self last w.report-written-in-Whole.new.out w.report-written-in-Whole.result
                w.none.ensures w.in-Whole.ensures consumed.read i.folds reports.read (consumed.reported _ f.reports.reported) reports.reported reports.quiet i.long rest;
          })
    ]

pub returns-else-taken-bytes-clause-feeds : goal.returns-else-taken-bytes-clause-feeds
returns-else-taken-bytes-clause-feeds g c reported has =
    let f = c.loop-written.invariant.fed reported has in
    record { within = f.within; units = f.units; spells = f.spells; read = f.read; reports = f.reports; quiet = f.quiet; needed = f.needed; full = λ lt. absurd (omega (arith, lt, c.if-taken-bytes.false)) }

pub returns-after-loop-written-clause-feeds : goal.returns-after-loop-written-clause-feeds
returns-after-loop-written-clause-feeds g c reported has =
    let i = c.loop-written.invariant in let f = i.fed reported has in
    record { within = f.within; units = f.units; spells = f.spells; read = f.read; reports = f.reports; quiet = f.quiet; needed = f.needed; full = λ lt. inl (omega (arith, i.long, i.room, c.loop-written-test.false)) }

pub returns-in-Wrong-clause-feeds : goal.returns-in-Wrong-clause-feeds
returns-in-Wrong-clause-feeds g c reported has =
    let f = c.loop-written.invariant.fed reported has in
    record { within = f.within; units = f.units; spells = f.spells; read = f.read; reports = f.reports; quiet = f.quiet; needed = f.needed; full = λ lt. inr c.in-Wrong.ensures }
