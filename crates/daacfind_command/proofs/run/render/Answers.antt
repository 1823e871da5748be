-- A number of 64 bits has 20 digits at most, and one of 32 bits has 10; so the parts of the line fit, and join.
use Rattle.std.proofs.Common.{◌≡◌, ℕ, ◌^◌, ◌<◌, ◌≤◌, List, [], ◌∷◌, ◌++◌, length, decimal, ap, ◌∙◌, append_assoc, arith, lit<}
use Rattle.std.proofs.Math.ListN.{drop_of_length-le}
use Rattle.std.proofs.lemmas.Fmt.{length-decimal-le}
use Rattle.daacfind_command.proofs.run.render.Goals as goal

place_fits : (n : ℕ) → n < 2 ^ 64 → length (decimal n) ≤ 20
place_fits n h = length-decimal-le 20 n (lit< tt) (omega arith) h

value_fits : (n : ℕ) → n < 2 ^ 32 → length (decimal n) ≤ 10
value_fits n h = length-decimal-le 10 n (lit< tt) (omega arith) (omega arith)

parts_join : (a b d d' x y z e : List ℕ) → x ≡ a ++ 32 ∷ y → y ≡ b ++ 32 ∷ z → z ≡ d ++ 10 ∷ e → d ≡ d' → e ≡ []
    → x ≡ a ++ 32 ∷ b ++ 32 ∷ d' ++ 10 ∷ []
parts_join a b d d' x y z e p q r t s = p
    ∙ ap (λ l. a ++ 32 ∷ l) (q ∙ ap (λ l. b ++ 32 ∷ l) (r ∙ ap (λ l. d ++ 10 ∷ l) s ∙ ap (λ l. l ++ 10 ∷ []) t)) ∙ simp append_assoc

pub render_number-at-requires-clause-room : goal.render_number-at-requires-clause-room
render_number-at-requires-clause-room c =
    let fits : length (decimal c.from.result) ≤ 10 = value_fits c.from.result (omega arith) in omega arith

pub render_number-at-requires-2-clause-room : goal.render_number-at-requires-2-clause-room
render_number-at-requires-2-clause-room c =
    let value : length (decimal c.from.result) ≤ 10 = value_fits c.from.result (omega arith) in
    let end : length (decimal c.args.found.end) ≤ 20 = place_fits c.args.found.end (omega arith) in omega arith

pub render_number-requires-clause-room : goal.render_number-requires-clause-room
render_number-requires-clause-room c =
    let value : length (decimal c.from.result) ≤ 10 = value_fits c.from.result (omega arith) in
    let end : length (decimal c.args.found.end) ≤ 20 = place_fits c.args.found.end (omega arith) in
    let start : length (decimal c.args.found.start) ≤ 20 = place_fits c.args.found.start (omega arith) in omega arith

pub returns-clause-written : goal.returns-clause-written
returns-clause-written c =
    parts_join _ _ _ _ _ _ _ _ c.render_number.ensures.written c.render_number-at-2.ensures.written
    c.render_number-at.ensures.written (ap decimal c.from.ensures)
    (drop_of_length-le c.args.line.now {i = 53} (omega arith))
