-- The front is whole characters, so behind it is a boundary, and from there on the string is UTF-8 and has just the characters that follow the front.
use Rattle.std.proofs.Common.{◌≡◌, ℕ, ◌++◌, Bool, List, ◌≤◌, ◌+◌, length, take, drop, take-append-drop, sym, ap, ◌∙◌, arith}
use Rattle.std.specs.Str.{chars, IsUtf8}
use Rattle.daachorse_core.specs.FoldedForms.{char_as_wide}
use Rattle.daachorse_model.specs.Folding.{as_read}
use Rattle.daachorse_model.specs.Units.{size, char_width}
use Rattle.daachorse_haystack.proofs.Cuts.{front-size, parts-as_read}
use Rattle.daachorse_haystack.proofs.TextLaws.{IsFrom, past_front}
use Rattle.daachorse_haystack.proofs.text.TextHaystackChar.after.Goals as goal

-- behind a front of the text, as it is read
past_read : (folds : Bool) (bs front back : List ℕ) (given n : ℕ) → given ≤ length bs → IsUtf8 (drop given bs) → as_read folds (chars (drop given bs)) ≡ front ++ back → n ≡ size char_width front → IsFrom bs (given + n) (drop (length front) (chars (drop given bs)))
past_read folds bs front back given n h u parts sized =
    let w = chars (drop given bs) in
    past_front bs (take (length front) w) (drop (length front) w) given n h u (sym (take-append-drop (length front) w)) (front-size char_width char_as_wide folds w front back n parts sized)

pub overflow_add-result : goal.overflow_add-result
overflow_add-result c =
    let past = past_read c.self.inside.folds c.self.inside.text.now c.requires.0 c.requires.1 c.self.inside.given c.args.bytes c.self.invariant.0 c.self.invariant.1 (c.self.view_is ∙ c.requires.2) c.requires.3 in
    omega (arith, past.inside, c.self.told)

pub invariant_of-result : goal.invariant_of-result
invariant_of-result c =
    let past = past_read c.self.inside.folds c.self.inside.text.now c.requires.0 c.requires.1 c.self.inside.given c.args.bytes c.self.invariant.0 c.self.invariant.1 (c.self.view_is ∙ c.requires.2) c.requires.3 in
    (past.inside, past.utf8)

pub returns : goal.returns
returns c = λ front back parts sized.
    let folds = c.self.inside.folds in let whole = c.self.view_is ∙ parts in
    ap (as_read folds) (past_read folds c.self.inside.text.now front back c.self.inside.given c.args.bytes c.self.invariant.0 c.self.invariant.1 whole sized).rest
    ∙ (parts-as_read folds (chars (drop c.self.inside.given c.self.inside.text.now)) front back whole).1
