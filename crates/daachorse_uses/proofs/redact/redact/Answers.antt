-- One match more is within the text, and its part was filled with stars.
use Rattle.std.proofs.Common.{◌++◌, ◌∷◌, [], sym, ap, ◌∙◌, append_assoc, arith}
use Rattle.daachorse.specs.bytewise.Automata.{dictionary_of}
use Rattle.daachorse_uses.proofs.Covers.{filled_more, leftmost_fits}
use Rattle.daachorse_uses.proofs.redact.redact.Goals as goal

pub slice_bounds-fill-count : goal.slice_bounds-fill-count
slice_bounds-fill-count c = (leftmost_fits (dictionary_of c.args.words.now) c.args.words.now.folds c.args.text.now c.loop-found.yielded c.in-Some.found c.next.new.self.left (c.loop-found.invariant.parts ∙ ap (λ l. c.loop-found.yielded ++ l) c.in-Some.ensures.steps.first)).ordered

pub slice_bounds-fill-start : goal.slice_bounds-fill-start
slice_bounds-fill-start c = (leftmost_fits (dictionary_of c.args.words.now) c.args.words.now.folds c.args.text.now c.loop-found.yielded c.in-Some.found c.next.new.self.left (c.loop-found.invariant.parts ∙ ap (λ l. c.loop-found.yielded ++ l) c.in-Some.ensures.steps.first)).ordered

pub slice_bounds-fill-end : goal.slice_bounds-fill-end
slice_bounds-fill-end c =
    let fits = leftmost_fits (dictionary_of c.args.words.now) c.args.words.now.folds c.args.text.now c.loop-found.yielded c.in-Some.found c.next.new.self.left (c.loop-found.invariant.parts ∙ ap (λ l. c.loop-found.yielded ++ l) c.in-Some.ensures.steps.first) in
    omega (arith, fits.within)

pub loop-found-preserved : goal.loop-found-preserved
loop-found-preserved c =
    let given = c.loop-found.invariant.parts ∙ ap (λ l. c.loop-found.yielded ++ l) c.in-Some.ensures.steps.first in
    let fits = leftmost_fits (dictionary_of c.args.words.now) c.args.words.now.folds c.args.text.now c.loop-found.yielded c.in-Some.found c.next.new.self.left given in
    record {
      stars = filled_more c.loop-found.yielded c.in-Some.found c.args.text.now c.loop-found.out _ 42 0 fits (omega arith) (c.fill.ensures.after (λ y h. h)) c.loop-found.invariant.stars;
      parts = given ∙ sym (append_assoc c.loop-found.yielded (c.in-Some.found ∷ []) c.next.new.self.left);
    }
