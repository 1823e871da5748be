-- The match that ends with one byte more, if there is one, is marked.
use Rattle.std.proofs.Common.{◌≡◌, ◌<◌, ◌++◌, ◌∷◌, [], ℕ, true, false, cond, drop, get_or, length, arith, rules, sym, ap, ◌∙◌, subst}
use Rattle.std.proofs.lemmas.List.{take_at}
use Rattle.std.specs.Iterator.Runs.{WholeRun}
use Rattle.daachorse_model.specs.Folding.{as_read}
use Rattle.daachorse_model.specs.Matches.{standard}
use Rattle.daachorse_model.specs.Units.{byte_width}
use Rattle.daachorse_model.proofs.FoldLaws.{length-as_read}
use Rattle.daachorse_model.proofs.Suffixes.{size-bytes}
use Rattle.daachorse.specs.bytewise.Automata.{dictionary_of}
use Rattle.daachorse_uses.specs.Covered.{AreMarks, FitsIn, is_within}
use Rattle.daachorse_uses.proofs.Growing.{told}
use Rattle.daachorse_uses.proofs.Marks.{found_fits, longer, none_marked, some_marked, whole_run}
use Rattle.daachorse_uses.proofs.Readings.{read_on}
use Rattle.daachorse_uses.proofs.highlight.highlight.Goals as goal

pub consume-requires : goal.consume-requires
consume-requires g c =
    omega (
      arith,
      size-bytes c.loop-byte.stepper.read,
      ap length c.loop-byte.invariant.read,
      length-as_read c.args.words.now.folds c.loop-byte.yielded,
    )

pub mark-requires : goal.mark-requires
mark-requires g c =
    let folds = c.args.words.now.folds in
    let text = c.loop-byte.yielded ++ c.in-Some.byte ∷ [] in
    let read =
    read_on folds c.loop-byte.stepper.folds c.loop-byte.yielded
    (c.in-Some.byte ∷ []) c.loop-byte.stepper.read c.consume.new.self.read c.loop-byte.invariant.folds c.loop-byte.invariant.read
    c.consume.ensures.read in
    let is =
    sym c.in-Some-matches.is
    ∙ told byte_width
    (λ p. dictionary_of
    (record c.args.words.now { parts = p })) c.consume.new.self.automaton c.args.words.now.parts c.consume.new.self.read
    (as_read folds text) c.matches.result c.matches.ensures
    (c.consume.ensures.automaton ∙ c.loop-byte.invariant.automaton) read in
    let lent = c.deref_mut.ensures.value ∙ c.in_ok-push.ensures.items in
    let long =
    ap length lent
    ∙ longer (dictionary_of c.args.words.now) folds c.loop-byte.yielded c.in-Some.byte c.loop-byte.marks.items
    c.loop-byte.invariant.marks in
    subst (λ n. FitsIn n c.in-Some-matches.found) (sym long)
    (found_fits (dictionary_of c.args.words.now) folds c.loop-byte.yielded c.in-Some.byte c.in-Some-matches.found is)

pub loop-byte-preserved-in-Some-matches : goal.loop-byte-preserved-in-Some-matches
loop-byte-preserved-in-Some-matches g c =
    let K = dictionary_of c.args.words.now in
    let folds = c.args.words.now.folds in
    let text = c.loop-byte.yielded ++ c.in-Some.byte ∷ [] in
    let read =
    read_on folds c.loop-byte.stepper.folds c.loop-byte.yielded
    (c.in-Some.byte ∷ []) c.loop-byte.stepper.read c.consume.new.self.read c.loop-byte.invariant.folds c.loop-byte.invariant.read
    c.consume.ensures.read in
    let found = c.in-Some-matches.found in
    let is =
    sym c.in-Some-matches.is
    ∙ told byte_width
    (λ p. dictionary_of
    (record c.args.words.now { parts = p })) c.consume.new.self.automaton c.args.words.now.parts c.consume.new.self.read
    (as_read folds text) c.matches.result c.matches.ensures
    (c.consume.ensures.automaton ∙ c.loop-byte.invariant.automaton) read in
    let lent = c.deref_mut.ensures.value ∙ c.in_ok-push.ensures.items in
    let whole =
    take_at c.mark.new.marks (drop (length c.mark.new.marks) c.push.new.self.items) c.push.new.self.len
    (omega (arith, c.mark.auto.marks, c.deref_mut.ensures.len)) in
    let long : length c.mark.new.marks ≡ length (c.loop-byte.marks.items ++ false ∷ []) =
    omega (arith, c.mark.auto.marks, ap length lent) in
    let set = λ (i : ℕ) (inside : i < length (c.loop-byte.marks.items ++ false ∷ [])).
    c.mark.ensures i (omega (arith, inside, ap length lent))
    ∙ ap (λ l. cond (is_within found.start found.end i) true (get_or l i false)) lent in
    record {
      can = search rules;
      is_finite = search rules;
      automaton = search rules;
      folds = search rules;
      read = read;
      marks = subst (AreMarks (standard byte_width K (as_read folds text)) (length text)) (sym whole)
          (some_marked K folds c.loop-byte.yielded c.in-Some.byte c.loop-byte.marks.items c.loop-byte.invariant.marks found c.mark.new.marks
          is long set);
    }

pub loop-byte-preserved : goal.loop-byte-preserved
loop-byte-preserved g c =
    let K = dictionary_of c.args.words.now in
    let folds = c.args.words.now.folds in
    let text = c.loop-byte.yielded ++ c.in-Some.byte ∷ [] in
    let read =
    read_on folds c.loop-byte.stepper.folds c.loop-byte.yielded
    (c.in-Some.byte ∷ []) c.loop-byte.stepper.read c.consume.new.self.read c.loop-byte.invariant.folds c.loop-byte.invariant.read
    c.consume.ensures.read in
    let none =
    sym c.in_default.is
    ∙ told byte_width
    (λ p. dictionary_of
    (record c.args.words.now { parts = p })) c.consume.new.self.automaton c.args.words.now.parts c.consume.new.self.read
    (as_read folds text) c.matches.result c.matches.ensures
    (c.consume.ensures.automaton ∙ c.loop-byte.invariant.automaton) read in
    record {
      can = search rules;
      is_finite = search rules;
      automaton = search rules;
      folds = search rules;
      read = read;
      marks = subst (AreMarks (standard byte_width K (as_read folds text)) (length text)) (sym c.in_ok-push.ensures.items)
          (none_marked K folds c.loop-byte.yielded c.in-Some.byte c.loop-byte.marks.items c.loop-byte.invariant.marks none);
    }

pub returns : goal.returns
returns g c =
    let P : g.row.S.Denot → Type 0 =
    λ s. WholeRun g.S.Iterator.next_gives s
    (λ p. AreMarks (standard byte_width (dictionary_of c.args.words.now) (as_read c.args.words.now.folds p.items))
    (length p.items) c.loop-byte.marks.items) in
    subst P c.into_iter-byte-iterator.ensures.into_iter_gives
    (whole_run g.S.Iterator.next_gives _ _ _ c.loop-byte.yielded
    (λ xs. AreMarks (standard byte_width (dictionary_of c.args.words.now) (as_read c.args.words.now.folds xs))
    (length xs) c.loop-byte.marks.items) c.loop-byte.yielded_by c.in-None.ensures.steps c.loop-byte.invariant.marks)
