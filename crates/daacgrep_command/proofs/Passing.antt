-- What is left of the selected lines of a text where lines are passed over.
use Rattle.std.proofs.Common.{◌≡◌, ℕ, zero, suc, ◌+◌, ◌-◌, ◌<◌, ◌≤◌, ◌==◌, inl, inr, Bool, true, false, not, cond, None, List, [], ◌∷◌}
use Rattle.std.proofs.Common.{◌++◌, length, map, take, drop, add-zero, refl, ap, sym, ◌∙◌, arith}
use Rattle.std.specs.List.{count_by, filter, flat_map}
use Rattle.std.specs.Prelude.{slice_range}
use Rattle.std.proofs.lemmas.List.{drop-drop, drop-take, drop_all, length-drop, length-map, length-take-le, take-append-drop, take-take}
use Rattle.std.proofs.lemmas.List.Sums.{count_by-le-length, count_by_more_no, count_by_more_yes, fails_before_first, length-filter}
use Rattle.std.proofs.lemmas.List.Sums.{passes_at_first, sum_by-append}
use Rattle.daacgrep_command.specs.Ahead.{BeginsWithLine, BeginsWithLines, IsAhead, IsNext, first_end, first_len}
use Rattle.daacgrep_command.specs.declared.ahead.Ahead.{Ahead}
use Rattle.daachorse_model.specs.declared.Match.{Match}
use Rattle.daacgrep_command.specs.declared.printing.Labels.{Labels}
use Rattle.daacgrep_command.specs.declared.search.Report.{Report}
use Rattle.daacgrep_command.specs.declared.search.Report.TheVariants.{Lines, Matches, Count, Name, Nothing}
use Rattle.daacgrep_command.specs.Fields.{entry, name_field, number_field}
use Rattle.daacgrep_command.specs.Jobs.{Wanted}
use Rattle.daacgrep_command.specs.Rules.{first_value, match_value}
use Rattle.daacgrep_command.specs.Lines.{TextLine, lines_from, numbered, pieces_of}
use Rattle.daacgrep_command.specs.Printed.{is_selected, line_text, lines_text, match_text, occurs}
use Rattle.daacgrep_command.specs.Sought.{Sought, matches_in}
use Rattle.daacgrep_command.proofs.Cuts.{lines_first}
use Rattle.daacgrep_command.proofs.Fronts.{first_end-fits, first_end-is, first_end-some}

module _ (s : Sought) (mark : ℕ) where
  -- ---- the selected lines

  module _ (inverts : Bool) where
    abbrev pub selects : TextLine → Bool
    selects line = is_selected s inverts line.bytes

    unselected : (line : List ℕ) → occurs s line ≡ inverts → is_selected s inverts line ≡ false
    unselected line has = by inverts (occurs s line) has
      where
        by : (inverts has : Bool) → has ≡ inverts → cond inverts (not has) has ≡ false
        by true has e = rw e refl
        by false has e = e

    selected : (line : List ℕ) → occurs s line ≡ not inverts → is_selected s inverts line ≡ true
    selected line has = by inverts (occurs s line) has
      where
        by : (inverts has : Bool) → has ≡ not inverts → cond inverts (not has) has ≡ true
        by true has e = rw e refl
        by false has e = e

    first_of : (has : Bool) (given start len end : ℕ) (text : List ℕ) → BeginsWithLine s mark has len end text
        → lines_from given start (pieces_of mark text) ≡ record { number = given + 1; start = start; bytes = take len text } ∷ lines_from
        (given + 1) (start + end) (pieces_of mark (drop end text))
    first_of has given start len end text line =
        lines_first mark given start text len end line.len_is line.some
        (elim (first_end-is mark text) [
          | inl h ↦ inl (omega (arith, h.0, line.len_is), omega (arith, h.1, line.len_is, line.end_is))
          | inr h ↦ inr (omega (arith, h.0, line.len_is), omega (arith, h.1, line.len_is, line.end_is))
        ])

    -- lines that are not selected
    pub passed : (lines n given start : ℕ) (text : List ℕ) → BeginsWithLines s mark inverts lines n text
        → filter selects (lines_from given start (pieces_of mark text)) ≡ filter selects
        (lines_from (given + lines) (start + n) (pieces_of mark (drop n text)))
    passed zero n given start text none =
        ap (λ g. filter selects (lines_from g start (pieces_of mark text))) (sym (add-zero given))
        ∙ ap (λ p. filter selects (lines_from (given + 0) p (pieces_of mark text))) (sym (add-zero start))
        ∙ ap (λ m. filter selects (lines_from (given + 0) (start + m) (pieces_of mark (drop m text)))) (sym none)
    passed (suc lines) n given start text (line, le, rest) =
        let e = first_end mark text in
        let len = first_len mark text in
        let later = lines_from (given + 1) (start + e) (pieces_of mark (drop e text)) in
        ap (filter selects) (first_of inverts given start len e text line)
        ∙ ap (λ b. cond b (record { number = given + 1; start = start; bytes = take len text } ∷ filter selects later)
        (filter selects later)) (unselected (take len text) line.has_is)
        ∙ passed lines (n - e) (given + 1) (start + e) (drop e text) rest
        ∙ ap (λ g. filter selects (lines_from g (start + e + (n - e)) (pieces_of mark (drop (n - e) (drop e text))))) (omega arith)
        ∙ ap (λ m. filter selects (lines_from (given + suc lines) m (pieces_of mark (drop (n - e) (drop e text))))) (omega (arith, le))
        ∙ ap (λ t. filter selects (lines_from (given + suc lines) (start + n) (pieces_of mark t)))
        (drop-drop (n - e) e text ∙ ap (λ k. drop k text) (omega (arith, le)))

    -- a line that is selected
    pub taken : (given start len end : ℕ) (text : List ℕ) → BeginsWithLine s mark (not inverts) len end text
        → filter selects (lines_from given start (pieces_of mark text))
        ≡ record { number = given + 1; start = start; bytes = take len text } ∷ filter selects
        (lines_from (given + 1) (start + end) (pieces_of mark (drop end text)))
    taken given start len end text line =
        let later = lines_from (given + 1) (start + end) (pieces_of mark (drop end text)) in
        ap (filter selects) (first_of (not inverts) given start len end text line)
        ∙ ap (λ b. cond b (record { number = given + 1; start = start; bytes = take len text } ∷ filter selects later)
        (filter selects later)) (selected (take len text) line.has_is)

  -- ---- the marks after lines

  none_before : (text : List ℕ) (i : ℕ) → i ≤ first_len mark text → i ≤ length text → count_by (λ b. b == mark) (take i text) ≡ 0
  none_before text zero le fits = refl
  none_before text (suc i) le fits =
      ap (λ k. count_by (λ b. b == mark) (take k text)) {x = suc i} {y = i + 1} (omega arith)
      ∙ count_by_more_no (λ b. b == mark) text i 0 (omega arith) (fails_before_first (λ b. b == mark) text i 0 (omega arith))
      ∙ none_before text i (omega arith) (omega arith)

  pub one_mark : (text : List ℕ) → first_len mark text < length text → count_by (λ b. b == mark) (take (first_end mark text) text) ≡ 1
  one_mark text less = elim (first_end-is mark text) [
    | inl h ↦
        ap (λ n. count_by (λ b. b == mark) (take n text)) h.1
        ∙ count_by_more_yes (λ b. b == mark) text (first_len mark text) 0 h.0 (passes_at_first (λ b. b == mark) text 0 h.0)
        ∙ ap (λ n. n + 1) (none_before text (first_len mark text) (omega arith) (omega (arith, h.0)))
    | inr h ↦ absurd (omega (arith, less, h.0))
  ]

  mark_within : (text : List ℕ) → first_end mark text < length text → first_len mark text < length text
  mark_within text less = elim (first_end-is mark text) [ inl h ↦ h.0 | inr h ↦ absurd (omega (arith, less, h.0, h.1)) ]

  -- each line before another has its mark
  pub lines_counted : (has : Bool) (lines n : ℕ) (text : List ℕ) → BeginsWithLines s mark has lines n text → n < length text
      → count_by (λ b. b == mark) (take n text) ≡ lines
  lines_counted has zero n text none less = ap (λ m. count_by (λ b. b == mark) (take m text)) none
  lines_counted has (suc lines) n text (line, le, rest) less =
      let e = first_end mark text in
      let P : ℕ → Bool = λ b. b == mark in
      let splits : take n text ≡ take e text ++ take (n - e) (drop e text) =
      sym (take-append-drop e (take n text)) ∙ ap (λ t. t ++ drop e (take n text)) (take-take e n text le)
      ∙ ap (λ t. take e text ++ t) (ap (λ m. drop e (take m text)) (omega (arith, le)) ∙ drop-take e (n - e) text) in
      ap (count_by P) splits ∙ sum_by-append (λ b. cond (P b) 1 0) (take e text) (take (n - e) (drop e text))
      ∙ ap (λ k. k + count_by P (take (n - e) (drop e text))) (one_mark text (mark_within text (omega (arith, le, less))))
      ∙ ap (λ k. 1 + k) (lines_counted has lines (n - e) (drop e text) rest (omega (arith, less, le, length-drop e text))) ∙ omega arith

-- lines without their numbers are the same from any number on
pub unnumbered : (p : TextLine → Bool) → ((l m : TextLine) → l.bytes ≡ m.bytes → p l ≡ p m) → (g h start : ℕ) (pieces : List (List ℕ))
    → map (numbered false) (filter p (lines_from g start pieces)) ≡ map (numbered false) (filter p (lines_from h start pieces))
unnumbered p same g h start [] = refl
unnumbered p same g h start (piece ∷ pieces) =
    let first : ℕ → TextLine = λ n. record { number = n + 1; start = start; bytes = piece } in
    let later : ℕ → List TextLine = λ n. filter p (lines_from (n + 1) (start + length piece + 1) pieces) in
    by (first g) (first h) (later g) (later h) (p (first g)) (p (first h)) (same (first g) (first h) refl) refl
    (unnumbered p same (g + 1) (h + 1) (start + length piece + 1) pieces)
  where
    by : (l m : TextLine) (ls ms : List TextLine) (b c : Bool) → b ≡ c → numbered false l ≡ numbered false m → map (numbered false) ls
        ≡ map (numbered false) ms
        → map (numbered false) (cond b (l ∷ ls) ls) ≡ map (numbered false) (cond c (m ∷ ms) ms)
    by l m ls ms true true e first rest = ap (λ x. x ∷ map (numbered false) ls) first ∙ ap (λ xs. numbered false m ∷ xs) rest
    by l m ls ms false false e first rest = rest
    by l m ls ms true false e first rest = cc
    by l m ls ms false true e first rest = cc

module _ (s : Sought) (mark : ℕ) (inverts : Bool) where
  -- the selected lines of what is left
  abbrev pub left : Bool → ℕ → ℕ → List ℕ → List TextLine
  left asked given start text = map (numbered asked) (filter (selects s mark inverts) (lines_from given start (pieces_of mark text)))

  pub none_left : (asked : Bool) (given start : ℕ) (text : List ℕ) → IsNext s mark inverts text None → left asked given start text ≡ []
  none_left asked given start text (lines, none) =
      ap (map (numbered asked)) (passed s mark inverts lines (length text) given start text none
      ∙ ap (λ t. filter (selects s mark inverts) (lines_from (given + lines) (start + length text) (pieces_of mark t)))
      (drop_all (length text) text (omega arith)))

  pub next_left : (asked : Bool) (given start number : ℕ) (text : List ℕ) (a : Ahead) → IsAhead s mark inverts text a → number
      ≡ cond asked (given + count_by (λ b. b == mark) (take a.skip text) + 1) 0
      → left asked given start text ≡ record { number = number; start = start + a.skip; bytes = take a.len (drop a.skip text) } ∷ left asked
      number (start + (a.skip + a.end)) (drop a.end (drop a.skip text))
  next_left asked given start number text a is e =
      let rest = drop a.skip text in
      let g = given + is.lines in
      let less : a.skip < length text = omega (arith, is.next.some, length-drop a.skip text) in
      let all = passed s mark inverts is.lines a.skip given start text is.skipped
      ∙ taken s mark inverts g (start + a.skip) a.len a.end rest is.next in
      ap (map (numbered asked)) all
      ∙ ap (λ n. numbered asked (record { number = g + 1; start = start + a.skip; bytes = take a.len rest }) ∷ left asked (g + 1) n
      (drop a.end rest)) (omega arith)
      ∙ by asked (e ∙ ap (λ k. cond asked (given + k + 1) 0) (lines_counted s mark inverts is.lines a.skip text is.skipped less))
    where
      by : (asked : Bool) → number ≡ cond asked (given + is.lines + 1) 0
          → numbered asked (record { number = given + is.lines + 1; start = start + a.skip; bytes = take a.len (drop a.skip text) }) ∷ left
          asked (given + is.lines + 1) (start + (a.skip + a.end)) (drop a.end (drop a.skip text))
          ≡ record { number = number; start = start + a.skip; bytes = take a.len (drop a.skip text) } ∷ left asked number
          (start + (a.skip + a.end)) (drop a.end (drop a.skip text))
      by true e = ap (λ n. record { number = n; start = start + a.skip; bytes = take a.len (drop a.skip text) } ∷ left true n
          (start + (a.skip + a.end)) (drop a.end (drop a.skip text))) (sym e)
      by false e =
          ap (λ ls. record { number = 0; start = start + a.skip; bytes = take a.len (drop a.skip text) } ∷ ls)
          (unnumbered (selects s mark inverts) (λ l m same. ap (is_selected s inverts) same) (given + is.lines + 1) number
          (start + (a.skip + a.end)) (pieces_of mark (drop a.end (drop a.skip text))))
          ∙ ap (λ n. record { number = n; start = start + a.skip; bytes = take a.len (drop a.skip text) } ∷ left false number
          (start + (a.skip + a.end)) (drop a.end (drop a.skip text))) (sym e)

  -- it stands within the text, and its number fits
  pub next_fits : (asked : Bool) (given start number : ℕ) (text : List ℕ) (a : Ahead) → IsAhead s mark inverts text a → number
      ≡ cond asked (given + count_by (λ b. b == mark) (take a.skip text) + 1) 0 → given ≤ start
      → (a.skip + a.end ≤ length text) × (a.end ≤ length (drop a.skip text)) × (number ≤ start + (a.skip + a.end))
  next_fits asked given start number text a is e le =
      let rest = drop a.skip text in
      let fits = first_end-fits mark rest in
      let some = first_end-some mark rest is.next.some in
      let sized = length-take-le a.skip text (omega (arith, is.next.some, length-drop a.skip text)) in
      let few = count_by-le-length (λ b. b == mark) (take a.skip text) in (
        omega (arith, is.next.end_is, fits, length-drop a.skip text, is.next.some),
        omega (arith, is.next.end_is, fits),
        by asked e (omega (arith, few, sized, is.next.end_is, some, le)),
      )
    where
      by : (asked : Bool) → number ≡ cond asked (given + count_by (λ b. b == mark) (take a.skip text) + 1) 0
          → given + count_by (λ b. b == mark) (take a.skip text) + 1 ≤ start + (a.skip + a.end) → number ≤ start + (a.skip + a.end)
      by true e less = omega (arith, e, less)
      by false e less = omega (arith, e)

-- ---- what is written of the selected lines

pub counted_filtered : {X Y : Type 0} (f : X → Y) (p : X → Bool) (xs : List X) → count_by p xs ≡ length (map f (filter p xs))
counted_filtered f p xs = sym (length-map (filter p xs) f ∙ length-filter p xs)

number_asked : (asked : Bool) (n : ℕ) → number_field asked (cond asked n 0) ≡ number_field asked n
number_asked true n = refl
number_asked false n = refl

numbered_entry : (labels : Labels) (name : List ℕ) (number place : ℕ) (value text : List ℕ)
    → entry labels name (cond labels.numbers number 0) place value text ≡ entry labels name number place value text
numbered_entry labels name number place value text =
    ap (λ field. name_field labels.names name ++ (field ++ (number_field labels.places place
    ++ (name_field labels.values value ++ (text ++ labels.end ∷ []))))) (number_asked labels.numbers number)

module _ (j : Wanted) (name : List ℕ) where
  -- a number that is not asked for may be any
  line_numbered : (report : Report) (line : TextLine) → line_text j name report (numbered j.task.labels.numbers line)
      ≡ line_text j name report line
  line_numbered Lines line = numbered_entry j.task.labels name line.number line.start (first_value j.rules (matches_in j.sought line.bytes))
      line.bytes
  line_numbered Matches line = by (matches_in j.sought line.bytes)
    where
      by : (ms : List (Match ℕ)) → flat_map (match_text j.rules j.task.labels name (numbered j.task.labels.numbers line)) ms
          ≡ flat_map (match_text j.rules j.task.labels name line) ms
      by [] = refl
      by (m ∷ ms) =
          ap (λ t. cond (m.start == m.end) [] t ++ flat_map (match_text j.rules j.task.labels name (numbered j.task.labels.numbers line))
          ms)
          (numbered_entry j.task.labels name line.number (line.start + m.start) (match_value j.rules m)
          (slice_range line.bytes m.start m.end))
          ∙ ap (λ t. match_text j.rules j.task.labels name line m ++ t) (by ms)
  line_numbered Count line = refl
  line_numbered Name line = refl
  line_numbered Nothing line = refl

  pub lines_written : (lines : List TextLine) → lines_text j name lines ≡ flat_map (line_text j name j.task.report)
      (map (numbered j.task.labels.numbers) (filter (λ line. is_selected j.sought j.task.inverts line.bytes) lines))
  lines_written [] = refl
  lines_written (line ∷ lines) = by (is_selected j.sought j.task.inverts line.bytes)
      (filter (λ l. is_selected j.sought j.task.inverts l.bytes) lines) (lines_text j name lines) (lines_written lines)
    where
      text : TextLine → List ℕ
      text l = line_text j name j.task.report l

      by : (b : Bool) (later : List TextLine) (rest : List ℕ) → rest ≡ flat_map text (map (numbered j.task.labels.numbers) later)
          → cond b (text line) [] ++ rest ≡ flat_map text (map (numbered j.task.labels.numbers) (cond b (line ∷ later) later))
      by true later rest e = ap (λ t. t ++ rest) (sym (line_numbered j.task.report line))
          ∙ ap (λ t. text (numbered j.task.labels.numbers line) ++ t) e
      by false later rest e = e
