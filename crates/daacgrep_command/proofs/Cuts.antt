-- The first line of a text, and the lines behind it.
use Rattle.std.proofs.Common.{◌≡◌, ℕ, ◌+◌, ◌<◌, ◌≤◌, ◌==◌, ◌⊎◌, inl, inr, Bool, true, false, not, nat_lt, cond, Some, None, List, [], ◌∷◌, length, take, drop, refl, ap, sym, ◌∙◌, arith}
use Rattle.std.proofs.lemmas.List.{drop_all, length-take-le, take_all}
use Rattle.std.proofs.lemmas.List.Splits.{length-slice_split, slice_split_first, slice_split_none}
use Rattle.std.proofs.lemmas.List.Sums.{fails_before_first, prefix_len-le-length}
use Rattle.std.proofs.lemmas.Bool.Decides.{nat_tests}
use Rattle.std.specs.List.{position, position_or_len, slice_split}
use Rattle.daachorse_model.specs.Program.{without_empty_end}
use Rattle.daacgrep_command.specs.Lines.{lines_from, pieces_of}

-- a piece before another stays
pub first_stays : (piece : List ℕ) (pieces : List (List ℕ)) → 0 < length pieces → without_empty_end (piece ∷ pieces) ≡ piece ∷ without_empty_end pieces
first_stays piece [] h = absurd (omega arith)
first_stays [] (q ∷ qs) h = refl
first_stays (b ∷ piece) (q ∷ qs) h = refl

cut_within : (mark : ℕ) (text : List ℕ) → position_or_len (λ b. b == mark) text < length text
    → pieces_of mark text ≡ take (position_or_len (λ b. b == mark) text) text ∷ pieces_of mark (drop (position_or_len (λ b. b == mark) text + 1) text)
cut_within mark text h =
    let behind = drop (position_or_len (λ b. b == mark) text + 1) text in
    ap without_empty_end (slice_split_first (λ b. b == mark) text 0 h)
    ∙ first_stays _ (slice_split (λ b. b == mark) behind) (omega (arith, length-slice_split (λ b. b == mark) behind))

only_piece : (text : List ℕ) → 0 < length text → without_empty_end (text ∷ []) ≡ text ∷ []
only_piece [] h = absurd (omega arith)
only_piece (b ∷ text) h = refl

cut_at_end : (mark : ℕ) (text : List ℕ) → 0 < length text → length text ≤ position_or_len (λ b. b == mark) text → pieces_of mark text ≡ text ∷ []
cut_at_end mark text some h =
    ap without_empty_end (slice_split_none (λ b. b == mark) text (λ k d lt. fails_before_first (λ b. b == mark) text k d (omega arith))) ∙ only_piece text some

-- the first line is the text up to a line feed, or all of it
pub lines_first : (mark given start : ℕ) (text : List ℕ) (len end : ℕ) → len ≡ position_or_len (λ b. b == mark) text → 0 < length text
    → ((len < length text) × (end ≡ len + 1)) ⊎ ((length text ≤ len) × (end ≡ len))
    → lines_from given start (pieces_of mark text) ≡ record { number = given + 1; start = start; bytes = take len text } ∷ lines_from (given + 1) (start + end) (pieces_of mark (drop end text))
lines_first mark given start text len end is some (inl h) =
    let within : position_or_len (λ b. b == mark) text < length text = omega arith in
    let sized : length (take len text) ≡ len = length-take-le len text (omega arith) in
    let next : start + length (take len text) + 1 ≡ start + end = omega arith in
    let cut : pieces_of mark text ≡ take len text ∷ pieces_of mark (drop (len + 1) text) = rw is (cut_within mark text within) in
    ap (lines_from given start) cut
    ∙ ap (λ n. record { number = given + 1; start = start; bytes = take len text } ∷ lines_from (given + 1) n (pieces_of mark (drop (len + 1) text))) next
    ∙ ap (λ n. record { number = given + 1; start = start; bytes = take len text } ∷ lines_from (given + 1) (start + end) (pieces_of mark (drop n text))) (sym h.1)
lines_first mark given start text len end is some (inr h) =
    let none : drop end text ≡ [] = drop_all end text (omega arith) in
    let all : take len text ≡ text = take_all len text (omega arith) in
    ap (lines_from given start) (cut_at_end mark text some (omega arith))
    ∙ rw (all, none) refl

by_test : (b : Bool) (m n : ℕ) → Some m ≡ cond b (Some n) None → m ≡ n
by_test true m n h = cc
by_test false m n h = cc

by_none : (m n : ℕ) → (b : Bool) → b ≡ nat_lt m n → None ≡ cond b (Some m) None → n ≤ m
by_none m n true e h = cc
by_none m n false e h = grind (arith, nat_tests)

-- what `position` says of the first place
pub place_found : (p : ℕ → Bool) (text : List ℕ) (n : ℕ) → Some n ≡ position p text → n ≡ position_or_len p text
place_found p text n h = by_test (nat_lt (position_or_len p text) (length text)) n (position_or_len p text) h

pub place_missing : (p : ℕ → Bool) (text : List ℕ) → None ≡ position p text → length text ≡ position_or_len p text
place_missing p text h =
    let above : length text ≤ position_or_len p text = by_none (position_or_len p text) (length text) _ refl h in
    omega (arith, prefix_len-le-length (λ x. not (p x)) text)

-- the place behind the first line and its mark, or the end
pub behind_mark : (p : ℕ → Bool) (text : List ℕ) (len end : ℕ) → len ≡ position_or_len p text → ((len < length text) × (end ≡ len + 1)) ⊎ ((length text ≤ len) × (end ≡ len)) → drop end text ≡ drop (position_or_len p text + 1) text
behind_mark p text len end is (inl h) = ap (λ n. drop n text) (h.1 ∙ ap (λ n. n + 1) is)
behind_mark p text len end is (inr h) = drop_all end text (omega arith) ∙ sym (drop_all (position_or_len p text + 1) text (omega arith))
