-- The lines of a text that is read part by part.
use Rattle.std.proofs.Common.{◌≡◌, ℕ, zero, suc, ◌+◌, ◌-◌, ◌<◌, ◌≤◌, ◌==◌, ◌⊎◌, inl, inr, Bool, true, false, nat_lt, cond, List, [], ◌∷◌}
use Rattle.std.proofs.Common.{◌++◌, length, length-append, take, drop, map, Some, None, Option, Result, Ok, Err, refl, ap, sym, ◌∙◌, subst}
use Rattle.std.proofs.Common.{append_assoc, append-nil, zero-add, add-zero, arith}
use Rattle.std.specs.List.{count_by, filter, flat_map}
use Rattle.std.specs.Prelude.{slice_index}
use Rattle.std.specs.Io.KnownBytes.{Consumes, IsAtEnd}
use Rattle.std.specs.Prelude.{IfOk}
use Rattle.std.proofs.lemmas.Bool.{cases_lt, lt-ltb}
use Rattle.std.proofs.lemmas.List.{drop-append-le, drop_all, get_or_append_left, length-drop, take-append-drop, take-append-le}
use Rattle.std.proofs.lemmas.List.Sums.{fails_before_first, passes_at_first, position_or_len_is, sum_by-append, sum_by-take-drop}
use Rattle.std.proofs.lemmas.Grind.{flat_map-append}
use Rattle.std.proofs.Math.Seq.{get_or-append_seam}
use Rattle.daacgrep_command.specs.declared.reading.Progress.{Progress}
use Rattle.daacgrep_command.specs.declared.search.Report.{Report}
use Rattle.daacgrep_command.specs.declared.search.Report.TheVariants.{Lines, Matches, Count, Name, Nothing}
use Rattle.daacgrep_command.specs.Ahead.{first_end, first_len}
use Rattle.daacgrep_command.specs.FileSystems.{Has}
use Rattle.daacgrep_command.specs.Jobs.{Wanted}
use Rattle.daacgrep_command.specs.Lines.{TextLine, lines_from, lines_of, numbered, pieces_of}
use Rattle.daacgrep_command.specs.Printed.{end_of, file_text, has_selected, is_selected, line_text, lines_text, part_of_line}
use Rattle.daacgrep_command.specs.Printed.{selected_count}
use Rattle.daacgrep_command.specs.Reading.{IsClosed, IsFileSearched, IsWithin, asks_for_one}
use Rattle.daacgrep_command.specs.declared.files.Outcome.{Outcome}
use Rattle.daacgrep_command.specs.declared.printing.Labels.{Labels}
use Rattle.daacgrep_command.proofs.Selected.{count_some}
use Rattle.daacgrep_command.proofs.Writing.{HasSent, fails_after, sent_then, written_then}
use Rattle.daacgrep_command.specs.Sending.{IsWritten, Sent}
use Rattle.daacgrep_command.specs.Sought.{Sought}
use Rattle.daacgrep_command.specs.Windows.{IsReadOn}
use Rattle.daacgrep_command.proofs.Cuts.{lines_first}
use Rattle.daacgrep_command.proofs.Fronts.{before_mark, first_end-fits, first_end-is}
use Rattle.daacgrep_command.proofs.Passing.{counted_filtered, lines_written, one_mark, unnumbered}

module _ (s : Sought) (mark : ℕ) where
  pub closed_append : (a b : List ℕ) → IsClosed mark a → IsClosed mark b → IsClosed mark (a ++ b)
  closed_append a b p (inl none) = subst (IsClosed mark) (sym (ap (λ t. a ++ t) none ∙ append-nil a)) p
  closed_append a b p (inr (front, is)) = inr (a ++ front, ap (λ t. a ++ t) is ∙ sym (append_assoc a front (mark ∷ [])))

  -- a mark before a place ends the text up to it
  pub closed_to : (len : ℕ) (text : List ℕ) → len ≤ length text → (len ≡ 0) ⊎ ((0 < len) × (slice_index text (len - 1) ≡ mark))
      → IsClosed mark (take len text)
  closed_to zero text fits at = inl refl
  closed_to (suc len) text fits (inl none) = absurd (omega (arith, none))
  closed_to (suc len) text fits (inr (some, is)) = inr (
    take len text,
    last len text (omega arith) (ap (slice_index text) (omega arith) ∙ is),
  )
    where
      last : (len : ℕ) (text : List ℕ) → len < length text → slice_index text len ≡ mark → take (suc len) text ≡ take len text ++ mark ∷ []
      last len [] less is = absurd (omega arith)
      last zero (x ∷ text) less is = ap (λ y. y ∷ []) is
      last (suc len) (x ∷ text) less is = ap (λ t. x ∷ t) (last len text (omega arith) is)

  mark_in : (a : List ℕ) → IsClosed mark a → 0 < length a → first_len mark a < length a
  mark_in a (inl none) some = absurd (omega (arith, some, ap length none))
  mark_in a (inr (front, is)) some =
      let here : slice_index a (length front) ≡ mark = ap (λ t. slice_index t (length front)) is ∙ get_or-append_seam front mark [] 0 in
      omega (arith, before_mark mark a (length front) here, ap length is, length-append front (mark ∷ []))

  closed_after : (k : ℕ) (a : List ℕ) → IsClosed mark a → k ≤ length a → IsClosed mark (drop k a)
  closed_after k a (inl none) le = inl (ap (drop k) none ∙ drop_all k [] (omega arith))
  closed_after k a (inr (front, is)) le = elim (by k (length front)) [
    | inl fits ↦ inr (drop k front, ap (drop k) is ∙ drop-append-le k front (mark ∷ []) fits)
    | inr over ↦ inl (drop_all k a (omega (arith, over, ap length is, length-append front (mark ∷ []))))
  ]
    where
      by : (k n : ℕ) → (k ≤ n) ⊎ (n < k)
      by k n = elim (cases_lt n k) [ inl less ↦ inr less | inr le ↦ inl le ]

  first_len-append : (a b : List ℕ) → first_len mark a < length a → first_len mark (a ++ b) ≡ first_len mark a
  first_len-append a b less =
      let P : ℕ → Bool = λ x. x == mark in
      let i = first_len mark a in
      position_or_len_is P (a ++ b) i 0 (omega (arith, less, length-append a b))
      (λ k before. ap P (get_or_append_left a b 0 k (omega (arith, before, less))) ∙ fails_before_first P a k 0 before)
      (λ within. ap P (get_or_append_left a b 0 i less) ∙ passes_at_first P a 0 less)

  -- the lines of a text are those of a part that a mark ends, and those after it
  split_by : (fuel g p : ℕ) (a b : List ℕ) → length a ≤ fuel → IsClosed mark a
      → lines_from g p (pieces_of mark (a ++ b)) ≡ lines_from g p (pieces_of mark a)
      ++ lines_from (g + count_by (λ x. x == mark) a) (p + length a) (pieces_of mark b)
  split_by fuel g p [] b le closed = ap (λ n. lines_from n p (pieces_of mark b)) (sym (add-zero g))
      ∙ ap (λ n. lines_from (g + 0) n (pieces_of mark b)) (sym (add-zero p))
  split_by zero g p (x ∷ a) b le closed = absurd (omega arith)
  split_by (suc fuel) g p (x ∷ rest) b le closed =
      let a = x ∷ rest in
      let P : ℕ → Bool = λ y. y == mark in
      let less = mark_in a closed (omega arith) in
      let len = first_len mark a in
      let e = first_end mark a in
      let end : (len < length a) × (e ≡ len + 1) = elim (first_end-is mark a) [ inl h ↦ h | inr h ↦ absurd (omega (arith, less, h.0)) ] in
      let fits = first_end-fits mark a in
      let whole = lines_first mark g p (a ++ b) len e (sym (first_len-append a b less)) (omega (arith, length-append a b))
      (inl (omega (arith, less, length-append a b), end.1)) in
      let own = lines_first mark g p a len e refl (omega arith) (inl end) in
      let later = split_by fuel (g + 1) (p + e) (drop e a) b (omega (arith, le, length-drop e a, end.1, fits))
      (closed_after e a closed fits) in
      let counted : count_by P a ≡ 1 + count_by P (drop e a) = sym (sum_by-take-drop (λ y. cond (P y) 1 0) a e)
      ∙ ap (λ n. n + count_by P (drop e a)) (one_mark s mark a less) in
      let line : List ℕ → TextLine = λ bytes. record { number = g + 1; start = p; bytes = bytes } in
      whole
      ∙ ap (λ t. line t ∷ lines_from (g + 1) (p + e) (pieces_of mark (drop e (a ++ b)))) (take-append-le len a b (omega (arith, less)))
      ∙ ap (λ t. line (take len a) ∷ lines_from (g + 1) (p + e) (pieces_of mark t)) (drop-append-le e a b fits)
      ∙ ap (λ ls. line (take len a) ∷ ls) later
      ∙ ap (λ n. line (take len a) ∷ (lines_from (g + 1) (p + e) (pieces_of mark (drop e a))
      ++ lines_from n (p + e + length (drop e a)) (pieces_of mark b))) (omega (arith, counted))
      ∙ ap (λ n. line (take len a) ∷ (lines_from (g + 1) (p + e) (pieces_of mark (drop e a))
      ++ lines_from (g + count_by P a) n (pieces_of mark b))) (omega (arith, length-drop e a, fits))
      ∙ ap (λ ls. ls ++ lines_from (g + count_by P a) (p + length a) (pieces_of mark b)) (sym own)

  pub lines_split : (a b : List ℕ) → IsClosed mark a → lines_of mark (a ++ b) ≡ lines_of mark a
      ++ lines_from (count_by (λ x. x == mark) a) (length a) (pieces_of mark b)
  lines_split a b closed =
      split_by (length a) 0 0 a b (omega arith) closed
      ∙ ap (λ n. lines_of mark a ++ lines_from n (0 + length a) (pieces_of mark b)) (zero-add (count_by (λ x. x == mark) a))
      ∙ ap (λ n. lines_of mark a ++ lines_from (count_by (λ x. x == mark) a) n (pieces_of mark b)) (zero-add (length a))

-- ---- numbers that are not asked for

module _ (j : Wanted) (name : List ℕ) where
  pub text_from : (g h start : ℕ) (pieces : List (List ℕ)) → (j.task.labels.numbers ≡ true → g ≡ h)
      → lines_text j name (lines_from g start pieces) ≡ lines_text j name (lines_from h start pieces)
  text_from g h start pieces same = by j.task.labels.numbers refl
    where
      text : List TextLine → List ℕ
      text lines = lines_text j name lines

      selects : TextLine → Bool
      selects line = is_selected j.sought j.task.inverts line.bytes

      by : (b : Bool) → j.task.labels.numbers ≡ b → text (lines_from g start pieces) ≡ text (lines_from h start pieces)
      by true asked = ap (λ n. text (lines_from n start pieces)) (same asked)
      by false not_asked =
          lines_written j name (lines_from g start pieces)
          ∙ ap (flat_map (line_text j name j.task.report))
          (subst (λ b. map (numbered b) (filter selects (lines_from g start pieces))
          ≡ map (numbered b) (filter selects (lines_from h start pieces))) (sym not_asked)
          (unnumbered selects (λ l m e. ap (is_selected j.sought j.task.inverts) e) g h start pieces))
          ∙ sym (lines_written j name (lines_from h start pieces))

  pub count_from : (g h start : ℕ) (pieces : List (List ℕ)) → selected_count j.sought j.task.inverts (lines_from g start pieces)
      ≡ selected_count j.sought j.task.inverts (lines_from h start pieces)
  count_from g h start pieces =
      let selects : TextLine → Bool = λ line. is_selected j.sought j.task.inverts line.bytes in
      counted_filtered (numbered false) selects (lines_from g start pieces)
      ∙ ap length (unnumbered selects (λ l m e. ap (is_selected j.sought j.task.inverts) e) g h start pieces)
      ∙ sym (counted_filtered (numbered false) selects (lines_from h start pieces))

-- ---- a file up to a place

-- the lines before the place were counted
pub record IsSearchedTo (j : Wanted) (before : List ℕ) (start : ℕ) (p : Progress) : Type 0 where
  pub closed : IsClosed j.task.labels.end before
  pub start_is : start ≡ length before
  pub within : IsWithin p start
  pub lines : j.task.labels.numbers ≡ true → p.lines ≡ count_by (λ b. b == j.task.labels.end) before
  pub selected : p.selected ≡ selected_count j.sought j.task.inverts (lines_of j.task.labels.end before)

module _ (j : Wanted) (name : List ℕ) (before : List ℕ) (start : ℕ) (p : Progress) (is : IsSearchedTo j before start p) where
  abbrev mark : ℕ
  mark = j.task.labels.end

  abbrev text : List TextLine → List ℕ
  text lines = lines_text j name lines

  abbrev count : List TextLine → ℕ
  count lines = selected_count j.sought j.task.inverts lines

  -- the lines after the place
  abbrev later : List ℕ → List TextLine
  later held = lines_from p.lines start (pieces_of mark held)

  numbered_so : (held : List ℕ) → text (lines_from (count_by (λ b. b == mark) before) (length before) (pieces_of mark held))
      ≡ text (later held)
  numbered_so held =
      text_from j name (count_by (λ b. b == mark) before) p.lines (length before) (pieces_of mark held) (λ asked. sym (is.lines asked))
      ∙ ap (λ n. text (lines_from p.lines n (pieces_of mark held))) (sym is.start_is)

  pub text_so : (held : List ℕ) → text (lines_of mark (before ++ held)) ≡ text (lines_of mark before) ++ text (later held)
  text_so held =
      ap text (lines_split j.sought mark before held is.closed)
      ∙ flat_map-append (part_of_line j name) (lines_of mark before) (lines_from (count_by (λ b. b == mark) before) (length before)
      (pieces_of mark held))
      ∙ ap (λ t. text (lines_of mark before) ++ t) (numbered_so held)

  pub count_so : (held : List ℕ) → count (lines_of mark (before ++ held)) ≡ p.selected + count (later held)
  count_so held =
      ap count (lines_split j.sought mark before held is.closed)
      ∙ sum_by-append (λ (line : TextLine). cond (is_selected j.sought j.task.inverts line.bytes) 1 0) (lines_of mark before)
      (lines_from (count_by (λ b. b == mark) before) (length before) (pieces_of mark held))
      ∙ ap (λ n. n + count (lines_from (count_by (λ b. b == mark) before) (length before) (pieces_of mark held))) (sym is.selected)
      ∙ ap (λ n. p.selected + n) (count_from j name (count_by (λ b. b == mark) before) p.lines (length before) (pieces_of mark held)
      ∙ ap (λ n. count (lines_from p.lines n (pieces_of mark held))) (sym is.start_is))

  -- lines more were searched
  pub searched_on : (block : List ℕ) (q : Progress) → IsClosed mark block → IsWithin q (start + length block) → q.lines
      ≡ p.lines + cond j.task.labels.numbers (count_by (λ b. b == mark) block) 0 → q.selected ≡ p.selected + count (later block)
      → IsSearchedTo j (before ++ block) (start + length block) q
  searched_on block q closed within lines selected = record {
    closed = closed_append j.sought mark before block is.closed closed;
    start_is = omega (arith, is.start_is, length-append before block);
    within = within;
    lines = λ asked.
        lines ∙ ap (λ b. p.lines + cond b (count_by (λ b. b == mark) block) 0) asked
        ∙ ap (λ n. n + count_by (λ b. b == mark) block) (is.lines asked)
        ∙ sym (sum_by-append (λ b. cond (b == mark) 1 0) before block);
    selected = selected ∙ sym (count_so block);
  }

  -- what they are was written after the lines before the place
  pub sent_on : (a b c : Sent) (block : List ℕ) → HasSent a b (text (lines_of mark before)) → HasSent b c (text (later block))
      → HasSent a c (text (lines_of mark (before ++ block)))
  sent_on a b c block sent more =
      subst (HasSent a c) (sym (text_so block)) (sent_then a b c (text (lines_of mark before)) (text (later block)) sent more)

-- ---- what is known of a file that was read to its end, or up to a place

pub has_all : (left rest : Option (List ℕ)) (bytes : List ℕ) → Consumes left rest bytes → IsAtEnd rest → Has false left bytes
has_all None rest bytes read end = tt
has_all (Some xs) None bytes read end = absurd read
has_all (Some xs) (Some ys) bytes read end = read ∙ ap (λ t. bytes ++ t) end ∙ append-nil bytes

pub has_some : (left rest : Option (List ℕ)) (bytes : List ℕ) → Consumes left rest bytes → Has true left bytes
has_some None rest bytes read = tt
has_some (Some xs) None bytes read = absurd read
has_some (Some xs) (Some ys) bytes read = (ys, read)

pub has_front : (left : Option (List ℕ)) (front back : List ℕ) → Has true left (front ++ back) → Has true left front
has_front None front back has = tt
has_front (Some xs) front back has = (back ++ has.0, has.1 ∙ append_assoc front back has.0)

-- what is left of a file, as far as it is known
abbrev pub rest_of : Option (List ℕ) → List ℕ
rest_of None = []
rest_of (Some xs) = xs

has_rest : (left rest : Option (List ℕ)) (before held : List ℕ) → Consumes left rest (before ++ held)
    → Has false left (before ++ (held ++ rest_of rest))
has_rest None rest before held read = tt
has_rest (Some xs) None before held read = absurd read
has_rest (Some xs) (Some ys) before held read = read ∙ append_assoc before held ys

-- more was read, and joins what is held
pub read_more : (left mid rest : Option (List ℕ)) (before held more new : List ℕ) → Consumes left mid (before ++ held)
    → Consumes mid rest more → new ≡ held ++ more → Consumes left rest (before ++ new)
read_more None mid rest before held more new p q is = tt
read_more (Some xs) None rest before held more new p q is = absurd p
read_more (Some xs) (Some ys) None before held more new p q is = absurd q
read_more (Some xs) (Some ys) (Some zs) before held more new p q is =
    p ∙ ap (λ t. (before ++ held) ++ t) q ∙ sym (append_assoc (before ++ held) more zs)
    ∙ ap (λ t. t ++ zs) (append_assoc before held more ∙ ap (λ t. before ++ t) (sym is))

-- the first bytes that are held were passed over
pub passed_on : (before held : List ℕ) (len : ℕ) → (before ++ take len held) ++ drop len held ≡ before ++ held
passed_on before held len = append_assoc before (take len held) (drop len held) ∙ ap (λ t. before ++ t) (take-append-drop len held)

-- ---- where only one line is asked for

ends_alike : (report : Report) (labels : Labels) (name : List ℕ) (m n : ℕ) → asks_for_one report ≡ true → 0 < m → 0 < n
    → end_of report labels name m ≡ end_of report labels name n
ends_alike Name labels name m n one a b = ap (λ x. cond x (name ++ 10 ∷ []) []) (lt-ltb 0 m a ∙ sym (lt-ltb 0 n b))
ends_alike Nothing labels name m n one a b = refl
ends_alike Lines labels name m n one a b = cc
ends_alike Matches labels name m n one a b = cc
ends_alike Count labels name m n one a b = cc

module _ (j : Wanted) (name : List ℕ) where
  line_silent : (report : Report) (line : TextLine) → asks_for_one report ≡ true → line_text j name report line ≡ []
  line_silent Name line one = refl
  line_silent Nothing line one = refl
  line_silent Lines line one = cc
  line_silent Matches line one = cc
  line_silent Count line one = cc

  silent : (lines : List TextLine) → asks_for_one j.task.report ≡ true → lines_text j name lines ≡ []
  silent [] one = refl
  silent (line ∷ lines) one = ap (λ t. t ++ lines_text j name lines) (by (is_selected j.sought j.task.inverts line.bytes))
      ∙ silent lines one
    where
      by : (b : Bool) → cond b (line_text j name j.task.report line) [] ≡ []
      by true = line_silent j.task.report line one
      by false = refl

-- ---- a file of which bytes are held

-- the lines before the place were counted, and these bytes of the file follow
pub record IsHeldAt (j : Wanted) (left rest : Option (List ℕ)) (before : List ℕ) (start : ℕ) (held : List ℕ) (p : Progress) : Type 0 where
  pub searched : IsSearchedTo j before start p
  pub read : Consumes left rest (before ++ held)

module _ (j : Wanted) (left : Option (List ℕ)) (before : List ℕ) (start here : ℕ) (held new : List ℕ) (p : Progress) (same : here ≡ start)
  where
    searched_here : IsSearchedTo j before start p → IsSearchedTo j before here p
    searched_here is = subst (λ n. IsSearchedTo j before n p) (sym same) is

    -- more was read, or nothing
    pub held_more : (mid rest : Option (List ℕ)) (n : ℕ) → IsHeldAt j left mid before start held p → IsReadOn mid rest held new n
        → IsHeldAt j left rest before here new p
    held_more mid rest n at on = record {
      searched = searched_here at.searched;
      read = read_more left mid rest before held on.read new at.read on.consumed on.held;
    }

    pub held_still : (rest : Option (List ℕ)) → IsHeldAt j left rest before start held p → new ≡ held
        → IsHeldAt j left rest before here new p
    held_still rest at kept = record {
      searched = searched_here at.searched;
      read = subst (λ h. Consumes left rest (before ++ h)) (sym kept) at.read;
    }

module _ (j : Wanted) (name : List ℕ) (left rest : Option (List ℕ)) (before : List ℕ) (start : ℕ) (held : List ℕ) (p : Progress)
    (at : IsHeldAt j left rest before start held p) (a b c : Sent)
    (sent : HasSent a b (lines_text j name (lines_of j.task.labels.end before))) where
  abbrev ending : ℕ → List ℕ
  ending n = end_of j.task.report j.task.labels name n

  abbrev written_at : List ℕ → List ℕ
  written_at bytes = lines_text j name (lines_from p.lines start (pieces_of j.task.labels.end bytes))

  abbrev counted_at : List ℕ → ℕ
  counted_at bytes = p.selected + selected_count j.sought j.task.inverts (lines_from p.lines start (pieces_of j.task.labels.end bytes))

  abbrev all_written : List ℕ → List ℕ
  all_written bytes = lines_text j name (lines_of j.task.labels.end bytes)

  selected_in : {E : Type 0} (r : Result Outcome E) (bytes : List ℕ) → IfOk r (λ o. o.selected ≡ nat_lt 0 (counted_at bytes))
      → IfOk r (λ o. o.selected ≡ has_selected j.sought j.task.inverts (lines_of j.task.labels.end (before ++ bytes)))
  selected_in (Ok o) bytes e =
      e ∙ ap (nat_lt 0) (sym (count_so j name before start p at.searched bytes))
      ∙ count_some (λ (line : TextLine). is_selected j.sought j.task.inverts line.bytes) (lines_of j.task.labels.end (before ++ bytes))
  selected_in (Err x) bytes e = tt

  -- writing failed within the first of the lines after the place
  pub cut_off : {E : Type 0} (len : ℕ) (x : E) → IsWritten {T = Progress} b c (Err x) (written_at (take len held))
      → IsFileSearched j name left a c (Err x)
  cut_off len x fails =
      let block = take len held in
      let more = ending (selected_count j.sought j.task.inverts (lines_of j.task.labels.end (before ++ block))) in
      let all =
      ap (λ t. t ++ more) (text_so j name before start p at.searched block) ∙ append_assoc (all_written before) (written_at block) more in
      record {
        bytes = before ++ block;
        cut = true;
        has = has_front left (before ++ block) (drop len held)
            (has_some left rest _ (subst (Consumes left rest) (sym (passed_on before held len)) at.read));
        written = fails_after a b c _ (all_written before) (written_at block) more x all sent fails;
        selected = tt;
        trouble = tt;
      }

  module _ {E : Type 0} (r : Result Outcome E) (ends : IsWritten b c r (written_at held ++ ending (counted_at held)))
      (selected : IfOk r (λ o. o.selected ≡ nat_lt 0 (counted_at held))) where
    -- all of the file was searched that was read
    pub done : (cut : Bool) → Has cut left (before ++ held) → IfOk r (λ o. o.trouble ≡ cut) → IsFileSearched j name left a c r
    done cut has trouble = record {
      bytes = before ++ held;
      cut = cut;
      has = has;
      written = subst (IsWritten a c r) (sym whole) (written_then a b c (all_written before) _ r sent ends);
      selected = selected_in r held selected;
      trouble = trouble;
    }
      where
        whole : file_text j name (before ++ held) ≡ all_written before ++ (written_at held ++ ending (counted_at held))
        whole =
            ap (λ n. all_written (before ++ held) ++ ending n) (count_so j name before start p at.searched held)
            ∙ ap (λ t. t ++ ending (counted_at held)) (text_so j name before start p at.searched held)
            ∙ append_assoc (all_written before) (written_at held) _

    -- the rest makes no difference
    pub settled : asks_for_one j.task.report ≡ true → 0 < p.selected → IfOk r (λ o. o.trouble ≡ false) → IsFileSearched j name left a c r
    settled one some trouble =
        let all = held ++ rest_of rest in
        let mark = j.task.labels.end in
        let whole : file_text j name (before ++ all) ≡ all_written before ++ (written_at held ++ ending (counted_at held)) =
        ap (λ n. all_written (before ++ all) ++ ending n) (count_so j name before start p at.searched all)
        ∙ ap (λ t. t ++ ending (counted_at all)) (silent j name (lines_of mark (before ++ all)) one)
        ∙ ends_alike j.task.report j.task.labels name (counted_at all) (counted_at held) one (omega (arith, some)) (omega (arith, some))
        ∙ ap (λ t. t ++ ending (counted_at held)) (sym (silent j name (lines_from p.lines start (pieces_of mark held)) one))
        ∙ ap (λ t. t ++ (written_at held ++ ending (counted_at held))) (sym (silent j name (lines_of mark before) one)) in
        record {
          bytes = before ++ all;
          cut = false;
          has = has_rest left rest before held at.read;
          written = subst (IsWritten a c r) (sym whole) (written_then a b c (all_written before) _ r sent ends);
          selected = selected_in r all (still r selected);
          trouble = trouble;
        }
      where
        still : (r : Result Outcome E) → IfOk r (λ o. o.selected ≡ nat_lt 0 (counted_at held))
            → IfOk r (λ o. o.selected ≡ nat_lt 0 (counted_at (held ++ rest_of rest)))
        still (Ok o) e = e ∙ lt-ltb 0 (counted_at held) (omega (arith, some)) ∙ sym
            (lt-ltb 0 (counted_at (held ++ rest_of rest)) (omega (arith, some)))
        still (Err x) e = tt
