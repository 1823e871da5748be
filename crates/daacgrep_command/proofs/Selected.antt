-- What is left of a text that is written item by item; a match lies within its line; and a text has no more lines than bytes.
use Rattle.std.proofs.Common.{◌≡◌, ℕ, suc, ◌+◌, ◌<◌, ◌≤◌, ◌==◌, ◌⊎◌, inl, inr, Bool, true, false, IsTrue, ◌↔◌, ◌≢◌, cond, nat_lt, zero-add, ◌||◌, List, [], ◌∷◌, ◌++◌, length, length-append, refl, sym, ap, ◌∙◌, subst, append_assoc, append-nil, arith}
use Rattle.std.proofs.lemmas.List.Splits.{length-slice_split}
use Rattle.std.proofs.lemmas.Bool.{lt-ltb}
use Rattle.std.proofs.lemmas.List.Sums.{sum_by-cons}
use Rattle.std.specs.List.{All, count_by, flat_map, list_any, onto_first, slice_split}
use Rattle.daachorse_model.specs.declared.Match.{Match}
use Rattle.daachorse_model.specs.Dictionary.{Dictionary}
use Rattle.daachorse_model.specs.Folding.{as_read}
use Rattle.daachorse_model.specs.Laws.{IsOccurrence}
use Rattle.daachorse_model.specs.declared.MatchKind.{MatchKind}
use Rattle.daachorse_model.specs.declared.MatchKind.TheVariants.{Standard, LeftmostLongest, LeftmostFirst}
use Rattle.daachorse_model.specs.Leftmost.{leftmost}
use Rattle.daachorse_model.specs.Program.{without_empty_end}
use Rattle.daachorse_model.specs.Units.{byte_width}
use Rattle.daachorse_model.proofs.Find.{leftmost_occur}
use Rattle.daachorse_model.proofs.FoldLaws.{length-as_read}
use Rattle.daachorse_model.proofs.Occur.{overlapping_occur}
use Rattle.daachorse_model.proofs.Suffixes.{size-bytes}
use Rattle.daacgrep_command.specs.Lines.{lines_from, pieces_of}
use Rattle.daacgrep_command.specs.Printed.{has_any}
use Rattle.daacgrep_command.specs.Sought.{Sought, matches_by, matches_in}
use Rattle.daacgrep_command.proofs.Cuts.{first_stays}

module _ {X : Type 0} (f : X → List ℕ) where
  -- what comes next of what is left
  pub text_next : (all sent : List ℕ) (x : X) (left later : List X) → all ≡ sent ++ flat_map f left → left ≡ x ∷ later → all ≡ sent ++ (f x ++ flat_map f later)
  text_next all sent x left later e is = e ∙ ap (λ l. sent ++ flat_map f l) is

  pub text_sent : (all sent : List ℕ) (x : X) (left later : List X) → all ≡ sent ++ flat_map f left → left ≡ x ∷ later → all ≡ (sent ++ f x) ++ flat_map f later
  text_sent all sent x left later e is = text_next all sent x left later e is ∙ sym (append_assoc sent (f x) (flat_map f later))

  -- nothing is left
  pub text_whole : (all sent : List ℕ) (left : List X) → all ≡ sent ++ flat_map f left → left ≡ [] → all ≡ sent
  text_whole all sent left e is = e ∙ ap (λ l. sent ++ flat_map f l) is ∙ append-nil sent

-- a match lies within its line
pub record Fits (line : List ℕ) (m : Match ℕ) : Type 0 where
  pub ordered : m.start ≤ m.end
  pub within : m.end ≤ length line

occurrence_fits : (K : Dictionary ℕ) (h : List ℕ) (m : Match ℕ) → IsOccurrence byte_width K h m → Fits h m
occurrence_fits K h m o =
    let before = size-bytes o.before in
    let key = size-bytes o.key in
    let inner = length-append o.key o.after in
    let outer = ap length o.splits ∙ length-append o.before _ in
    record { ordered = omega (arith, o.starts, o.ends); within = omega (arith, o.starts, o.ends, before, key, inner, outer) }

at_split : (P : Match ℕ → Type 0) (xs : List (Match ℕ)) (m : Match ℕ) (ms : List (Match ℕ)) → All P (xs ++ m ∷ ms) → P m
at_split P [] m ms all = all 0 m (omega arith)
at_split P (x ∷ xs) m ms all = at_split P xs m ms (λ k d lt. all (suc k) d (omega arith))

-- leftmost matches are those of each kind that has them
pub leftmost_named : (asked kind : MatchKind) (K : Dictionary ℕ) (h : List ℕ) → (asked ≡ LeftmostLongest) ⊎ (asked ≡ LeftmostFirst) → asked ≡ kind → leftmost byte_width K h ≡ matches_by kind K h
leftmost_named asked kind K h (inl is) same = ap (λ k. matches_by k K h) (sym is ∙ same)
leftmost_named asked kind K h (inr is) same = ap (λ k. matches_by k K h) (sym is ∙ same)

pub matches_occur : (kind : MatchKind) (K : Dictionary ℕ) (h : List ℕ) → All (IsOccurrence byte_width K h) (matches_by kind K h)
matches_occur Standard K h = overlapping_occur byte_width K h
matches_occur LeftmostLongest K h = leftmost_occur byte_width K h
matches_occur LeftmostFirst K h = leftmost_occur byte_width K h

pub match_fits : (s : Sought) (line : List ℕ) (xs : List (Match ℕ)) (m : Match ℕ) (ms : List (Match ℕ)) → matches_in s line ≡ xs ++ m ∷ ms → Fits line m
match_fits s line xs m ms is =
    let P = IsOccurrence byte_width s.dictionary (as_read s.folds line) in
    let occurs = at_split P xs m ms (subst (All P) is (matches_occur s.kind s.dictionary (as_read s.folds line))) in
    let fits = occurrence_fits s.dictionary (as_read s.folds line) m occurs in
    record { ordered = fits.ordered; within = omega (arith, fits.within, length-as_read s.folds line) }

length-lines_from : (before start : ℕ) (pieces : List (List ℕ)) → length (lines_from before start pieces) ≡ length pieces
length-lines_from before start [] = refl
length-lines_from before start (p ∷ ps) = ap suc (length-lines_from (before + 1) (start + length p + 1) ps)

-- one byte more makes at most one piece more
one_more : (x : ℕ) (pieces : List (List ℕ)) → 0 < length pieces → length (without_empty_end (onto_first x pieces)) ≤ 1 + length (without_empty_end pieces)
one_more x [] h = absurd (omega arith)
one_more x (p ∷ []) h = omega arith
one_more x (p ∷ q ∷ qs) h = omega (arith, ap length (first_stays p (q ∷ qs) (omega arith)))

by_byte : (c : Bool) (x n : ℕ) (pieces : List (List ℕ)) → 0 < length pieces → length (without_empty_end pieces) ≤ n → length (without_empty_end (cond c ([] ∷ pieces) (onto_first x pieces))) ≤ suc n
by_byte true x n pieces some few = omega (arith, ap length (first_stays [] pieces some))
by_byte false x n pieces some few = omega (arith, one_more x pieces some)

few_pieces : (mark : ℕ) (text : List ℕ) → length (without_empty_end (slice_split (λ b. b == mark) text)) ≤ length text
few_pieces mark [] = omega arith
few_pieces mark (x ∷ text) =
    let pieces = slice_split (λ b. b == mark) text in
    by_byte (x == mark) x (length text) pieces (omega (arith, length-slice_split (λ b. b == mark) text)) (few_pieces mark text)

-- a text has no more lines than bytes
pub lines_few : (mark before start : ℕ) (text : List ℕ) → length (lines_from before start (pieces_of mark text)) ≤ length text
lines_few mark before start text = omega (arith, length-lines_from before start (pieces_of mark text), few_pieces mark text)

one_counted : (b : Bool) (n : ℕ) (r : Bool) → nat_lt 0 n ≡ r → nat_lt 0 (cond b 1 0 + n) ≡ (b || r)
one_counted true n r h = lt-ltb 0 (1 + n) (omega arith)
one_counted false n r h = ap (nat_lt 0) (zero-add n) ∙ h

-- a count is above 0 where something is counted
pub count_some : {X : Type 0} (p : X → Bool) (xs : List X) → nat_lt 0 (count_by p xs) ≡ list_any p xs
count_some p [] = refl
count_some p (x ∷ xs) = ap (nat_lt 0) (sum_by-cons (λ y. cond (p y) 1 0) x xs) ∙ one_counted (p x) (count_by p xs) (list_any p xs) (count_some p xs)

-- a search says whether a pattern occurs
pub occurs_so : {X : Type 0} (b : Bool) (xs : List X) → (IsTrue b ↔ (xs ≢ [])) → b ≡ has_any xs
occurs_so true [] h = absurd (h.0 refl refl)
occurs_so true (x ∷ xs) h = refl
occurs_so false [] h = refl
occurs_so false (x ∷ xs) h = let found : IsTrue false = h.1 (λ e. cc) in cc
