-- To drop what was given and then a front is to drop both at once, and the front, as a part of what is to come, reaches no further than the slice.
use Rattle.std.proofs.Common.{◌≡◌, ◌+◌, ◌≤◌, ℕ, Bool, List, ◌++◌, length, drop, sym, ap, ◌∙◌, length-append, arith}
use Rattle.std.proofs.lemmas.List.{length-drop, drop-drop}
use Rattle.daachorse_model.specs.Folding.{as_read}
use Rattle.daachorse_model.specs.Units.{size, byte_width}
use Rattle.daachorse_model.proofs.FoldLaws.{length-as_read}
use Rattle.daachorse_model.proofs.Suffixes.{size-bytes}
use Rattle.daachorse_haystack.proofs.Cuts.{parts-as_read}
use Rattle.daachorse_haystack.proofs.haystack.BytesHaystackU8.after.Goals as goal

-- no more bytes are passed than there are
inside : (folds : Bool) (bytes front back : List ℕ) (given n : ℕ) → given ≤ length bytes → as_read folds (drop given bytes) ≡ front ++ back → n ≡ size byte_width front → given + n ≤ length bytes
inside folds bytes front back given n some parts sized =
    omega (arith, some, sized, size-bytes front, length-append front back, ap length parts, length-as_read folds (drop given bytes), length-drop given bytes)

pub overflow_add-result : goal.overflow_add-result
overflow_add-result c =
    let front = c.requires.0 in let back = c.requires.1 in
    let within = inside c.self.inside.folds c.self.inside.bytes.now front back c.self.inside.given c.args.bytes c.self.invariant (c.self.view_is ∙ c.requires.2) c.requires.3 in
    omega (arith, within, c.self.ranges)

pub invariant_of-result : goal.invariant_of-result
invariant_of-result c =
    let front = c.requires.0 in let back = c.requires.1 in
    inside c.self.inside.folds c.self.inside.bytes.now front back c.self.inside.given c.args.bytes c.self.invariant (c.self.view_is ∙ c.requires.2) c.requires.3

pub returns : goal.returns
returns c = λ front back parts sized.
    let folds = c.self.inside.folds in let w = drop c.self.inside.given c.self.inside.bytes.now in
    ap (as_read folds) (sym (drop-drop c.args.bytes c.self.inside.given c.self.inside.bytes.now) ∙ ap (λ n. drop n w) (sized ∙ size-bytes front))
    ∙ (parts-as_read folds w front back (c.self.view_is ∙ parts)).1
