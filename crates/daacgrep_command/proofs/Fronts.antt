-- Lines without a match: those that end before any occurrence does.
use Rattle.std.proofs.Common.{◌≡◌, ℕ, zero, suc, ◌+◌, ◌-◌, ◌<◌, ◌≤◌, ◌==◌, ◌⊎◌, inl, inr, Bool, true, false, nat_lt, cond, List, [], ◌∷◌, ◌++◌, length, length-append, take, drop, Some, None, refl, ap, sym, ◌∙◌, subst, append_assoc, append-nil, arith}
use Rattle.std.specs.Prelude.{All, Contains, slice_index}
use Rattle.std.proofs.lemmas.Bool.{cases_lt}
use Rattle.std.proofs.lemmas.Bool.Decides.{nat_tests}
use Rattle.std.proofs.lemmas.List.{drop-drop, get_or-drop, get_or-take, length-drop, length-take-le, take-append-drop}
use Rattle.std.proofs.lemmas.List.Elements.{All-head}
use Rattle.std.proofs.lemmas.List.Sums.{fails_before_first, prefix_len-le-length}
use Rattle.daachorse_model.specs.declared.Match.{Match}
use Rattle.daachorse_model.specs.Folding.{as_read}
use Rattle.daachorse_model.specs.Laws.{IsOccurrence}
use Rattle.daachorse_model.specs.Matches.{overlapping}
use Rattle.daachorse_model.specs.Units.{byte_width, size}
use Rattle.daachorse_model.proofs.Complete.{overlapping_complete}
use Rattle.daachorse_model.proofs.FoldLaws.{as_read-append, length-as_read}
use Rattle.daachorse_model.proofs.Occur.{overlapping_occur}
use Rattle.daachorse_model.proofs.Occurrences.{split_after}
use Rattle.daachorse_model.proofs.Suffixes.{size-append, size-bytes}
use Rattle.daacgrep_command.specs.Ahead.{AreClear, BeginsWithLine, BeginsWithLines, IsFront, first_end, first_len}
use Rattle.daacgrep_command.specs.Printed.{has_any, occurs}
use Rattle.daacgrep_command.specs.Sought.{Sought, matches_in}
use Rattle.daacgrep_command.proofs.FirstMatch.{BeginsBy, first_begins}
use Rattle.daacgrep_command.proofs.Selected.{matches_occur}

-- ---- the first line

module _ (mark : ℕ) (text : List ℕ) where
  pub first_len-fits : first_len mark text ≤ length text
  first_len-fits = prefix_len-le-length _ text

  -- it ends behind its mark, or with the text
  pub first_end-is : ((first_len mark text < length text) × (first_end mark text ≡ first_len mark text + 1)) ⊎ ((length text ≤ first_len mark text) × (first_end mark text ≡ first_len mark text))
  first_end-is = by (nat_lt (first_len mark text) (length text)) refl
    where
      by : (b : Bool) → nat_lt (first_len mark text) (length text) ≡ b
          → ((first_len mark text < length text) × (cond b (first_len mark text + 1) (first_len mark text) ≡ first_len mark text + 1)) ⊎ ((length text ≤ first_len mark text) × (cond b (first_len mark text + 1) (first_len mark text) ≡ first_len mark text))
      by true e = inl (grind (arith, nat_tests), refl)
      by false e = inr (grind (arith, nat_tests), refl)

  pub first_end-fits : first_end mark text ≤ length text
  first_end-fits = elim first_end-is [ inl h ↦ omega (arith, h.0, h.1) | inr h ↦ omega (arith, h.1, first_len-fits) ]

  pub first_end-some : 0 < length text → 0 < first_end mark text
  first_end-some some = elim first_end-is [ inl h ↦ omega (arith, h.1) | inr h ↦ omega (arith, h.0, h.1, some) ]

  -- a mark stands behind the first line or further on
  pub before_mark : (i : ℕ) → slice_index text i ≡ mark → first_len mark text ≤ i
  before_mark i is = elim (cases_lt i (first_len mark text)) [
    | inl less ↦ let fails = fails_before_first (λ b. b == mark) text i 0 less in absurd (grind (arith, nat_tests, fails, is))
    | inr above ↦ above
  ]

-- ---- occurrences in a line and in its text

module _ (s : Sought) where
  abbrev pub Occurs : List ℕ → Match ℕ → Type 0
  Occurs text o = IsOccurrence byte_width s.dictionary (as_read s.folds text) o

  abbrev pub behind : ℕ → Match ℕ → Match ℕ
  behind k o = record { start = k + o.start; end = k + o.end; value = o.value }

  size-front : (p x : List ℕ) → size byte_width (as_read s.folds p ++ x) ≡ length p + size byte_width x
  size-front p x = size-append byte_width (as_read s.folds p) x ∙ ap (λ n. n + size byte_width x) (size-bytes (as_read s.folds p) ∙ length-as_read s.folds p)

  -- what occurs in a part of a text occurs in the text
  pub occurs_around : (p line q : List ℕ) (o : Match ℕ) → Occurs line o → Occurs (p ++ (line ++ q)) (behind (length p) o)
  occurs_around p line q o is =
      let R = as_read s.folds in
      record {
        before = R p ++ is.before;
        key = is.key;
        after = is.after ++ R q;
        splits =
            as_read-append s.folds p (line ++ q)
            ∙ ap (λ x. R p ++ x) (as_read-append s.folds line q ∙ ap (λ x. x ++ R q) is.splits ∙ append_assoc is.before (is.key ++ is.after) (R q) ∙ ap (λ x. is.before ++ x) (append_assoc is.key is.after (R q)))
            ∙ sym (append_assoc (R p) is.before (is.key ++ (is.after ++ R q)));
        starts = ap (λ n. length p + n) is.starts ∙ sym (size-front p is.before);
        ends = omega (arith, is.ends, size-front p is.before);
        has = is.has;
      }

  -- what occurs in a text within a part of it occurs in the part
  pub occurs_within : (p line q : List ℕ) (o : Match ℕ) → Occurs (p ++ (line ++ q)) o → length p ≤ o.start → o.end ≤ length p + length line → Occurs line (record { start = o.start - length p; end = o.end - length p; value = o.value })
  occurs_within p line q o is low high =
      let R = as_read s.folds in
      let same = sym (as_read-append s.folds p (line ++ q)) ∙ is.splits in
      let front = split_after (R p) (R (line ++ q)) is.before (is.key ++ is.after) same (omega (arith, low, is.starts, size-bytes is.before, length-as_read s.folds p)) in
      let d = front.0 in
      let shorter = ap length front.1 ∙ length-append (R p) d in
      let joined : (d ++ is.key) ++ is.after ≡ R line ++ R q = append_assoc d is.key is.after ∙ sym front.2 ∙ as_read-append s.folds line q in
      let back = split_after (d ++ is.key) is.after (R line) (R q) joined (omega (arith, high, is.starts, is.ends, size-bytes is.before, size-bytes is.key, shorter, length-append d is.key, length-as_read s.folds p, length-as_read s.folds line)) in
      record {
        before = d;
        key = is.key;
        after = back.0;
        splits = back.1 ∙ append_assoc d is.key back.0;
        starts = omega (arith, is.starts, size-bytes is.before, size-bytes d, shorter, length-as_read s.folds p);
        ends = omega (arith, is.starts, is.ends, size-bytes is.before, size-bytes d, shorter, length-as_read s.folds p);
        has = is.has;
      }

  -- a pattern occurs in a line exactly where the line has an occurrence
  pub none_occurs : (line : List ℕ) → ((o : Match ℕ) → Occurs line o → ⊥) → occurs s line ≡ false
  none_occurs line none = by (overlapping byte_width s.dictionary (as_read s.folds line)) (overlapping_occur byte_width s.dictionary (as_read s.folds line))
    where
      by : (ms : List (Match ℕ)) → All (Occurs line) ms → has_any ms ≡ false
      by [] all = refl
      by (m ∷ ms) all = absurd (none m (All-head (Occurs line) m ms all))

  pub some_occurs : (line : List ℕ) (o : Match ℕ) → Occurs line o → occurs s line ≡ true
  some_occurs line o is = by (overlapping byte_width s.dictionary (as_read s.folds line)) (overlapping_complete byte_width s.dictionary (as_read s.folds line) o is)
    where
      by : (ms : List (Match ℕ)) → Contains ms o → has_any ms ≡ true
      by [] has = absurd (omega (arith, has.1))
      by (m ∷ ms) has = refl

  -- each occurrence in the text ends at n or behind
  abbrev pub IsFreeTo : ℕ → List ℕ → Type 0
  IsFreeTo n text = (o : Match ℕ) → Occurs text o → n ≤ o.end

  occurs_at_front : (k : ℕ) (text : List ℕ) (o : Match ℕ) → Occurs (take k text) o → Occurs text (behind 0 o)
  occurs_at_front k text o is = subst (λ t. Occurs t (behind 0 o)) (take-append-drop k text) (occurs_around [] (take k text) (drop k text) o is)

  occurs_at_back : (k : ℕ) (text : List ℕ) (o : Match ℕ) → k ≤ length text → Occurs (drop k text) o → Occurs text (behind k o)
  occurs_at_back k text o fits is =
      let whole : take k text ++ (drop k text ++ []) ≡ text = ap (λ t. take k text ++ t) (append-nil (drop k text)) ∙ take-append-drop k text in
      subst (λ t. Occurs t (behind k o)) whole (subst (λ n. Occurs (take k text ++ (drop k text ++ [])) (behind n o)) (length-take-le k text fits) (occurs_around (take k text) (drop k text) [] o is))

  occurrence_ends : (line : List ℕ) (o : Match ℕ) → Occurs line o → o.end ≤ length line
  occurrence_ends line o is =
      omega (arith, is.ends, size-bytes is.before, size-bytes is.key, length-append is.key is.after, ap length is.splits ∙ length-append is.before (is.key ++ is.after), length-as_read s.folds line)

  -- a line at the front has no match where it ends before each occurrence does
  free_front : (k n : ℕ) (text : List ℕ) → k ≤ length text → k < n → IsFreeTo n text → occurs s (take k text) ≡ false
  free_front k n text fits less free =
      none_occurs (take k text) (λ o is. omega (arith, less, free (behind 0 o) (occurs_at_front k text o is), occurrence_ends (take k text) o is, length-take-le k text fits))

  free_back : (k n : ℕ) (text : List ℕ) → k ≤ length text → IsFreeTo n text → IsFreeTo (n - k) (drop k text)
  free_back k n text fits free o is = omega (arith, free (behind k o) (occurs_at_back k text o fits is))

  -- what `first_line` returns is the first line
  pub line_at : (mark : ℕ) (has : Bool) (len end : ℕ) (text : List ℕ) → 0 < length text → len ≡ first_len mark text → ((len < length text) × (end ≡ len + 1)) ⊎ ((length text ≤ len) × (end ≡ len)) → occurs s (take len text) ≡ has → BeginsWithLine s mark has len end text
  line_at mark has len end text some is ends has_is = record {
    some = some;
    len_is = is;
    end_is = elim ends [
      | inl h ↦ elim (first_end-is mark text) [ inl k ↦ omega (arith, h.1, k.1, is) | inr k ↦ absurd (omega (arith, h.0, k.0, is)) ]
      | inr h ↦ elim (first_end-is mark text) [ inl k ↦ absurd (omega (arith, h.0, k.0, is)) | inr k ↦ omega (arith, h.1, k.1, is) ]
    ];
    has_is = has_is;
  }

  -- ---- lines behind lines

  module _ (mark : ℕ) where
    pub lines_then : (has : Bool) (lines n more m : ℕ) (text : List ℕ) → BeginsWithLines s mark has lines n text → BeginsWithLines s mark has more m (drop n text) → BeginsWithLines s mark has (lines + more) (n + m) text
    lines_then has zero n more m text none later =
        let count : more ≡ 0 + more = omega arith in
        let bytes : m ≡ n + m = omega (arith, none) in
        subst (λ k. BeginsWithLines s mark has k (n + m) text) count (subst (λ k. BeginsWithLines s mark has more k text) bytes (subst (λ k. BeginsWithLines s mark has more m (drop k text)) none later))
    lines_then has (suc lines) n more m text (line, le, rest) later =
        let e = first_end mark text in
        let behind : drop n text ≡ drop (n - e) (drop e text) = ap (λ k. drop k text) (omega (arith, le)) ∙ sym (drop-drop (n - e) e text) in
        let bytes : (n - e) + m ≡ (n + m) - e = omega (arith, le) in
        let count : suc (lines + more) ≡ suc lines + more = omega arith in
        let whole = lines_then has lines (n - e) more m (drop e text) rest (subst (BeginsWithLines s mark has more m) behind later) in
        subst (λ k. BeginsWithLines s mark has k (n + m) text) count (line, omega (arith, le), subst (λ k. BeginsWithLines s mark has (lines + more) k (drop e text)) bytes whole)

    pub lines_fit : (has : Bool) (lines n : ℕ) (text : List ℕ) → BeginsWithLines s mark has lines n text → n ≤ length text
    lines_fit has zero n text none = omega (arith, none)
    lines_fit has (suc lines) n text (line, le, rest) = omega (arith, le, lines_fit has lines (n - first_end mark text) (drop (first_end mark text) text) rest, length-drop (first_end mark text) text, first_end-fits mark text)

    pub clear_then : (n m : ℕ) (text : List ℕ) → AreClear s mark n text → AreClear s mark m (drop n text) → AreClear s mark (n + m) text
    clear_then n m text before behind = (before.0 + behind.0, lines_then false before.0 n behind.0 m text before.1 behind.1)

    -- one line
    pub line_alone : (has : Bool) (len end : ℕ) (text : List ℕ) → BeginsWithLine s mark has len end text → BeginsWithLines s mark has 1 end text
    line_alone has len end text line =
        (record { some = line.some; len_is = refl; end_is = refl; has_is = ap (λ n. occurs s (take n text)) (sym line.len_is) ∙ line.has_is }, omega (arith, line.end_is), omega (arith, line.end_is))

    -- the first of some lines, and those behind it
    pub first_taken : (has : Bool) (n len end : ℕ) (text : List ℕ) → (lines : ℕ) × BeginsWithLines s mark has lines n text → 0 < n → len ≡ first_len mark text → ((len < length text) × (end ≡ len + 1)) ⊎ ((length text ≤ len) × (end ≡ len))
        → (end ≤ n) × BeginsWithLine s mark has len end text × ((lines : ℕ) × BeginsWithLines s mark has lines (n - end) (drop end text))
    first_taken has n len end text (zero, none) some is ends = absurd (omega (arith, none, some))
    first_taken has n len end text (suc lines, (line, le, rest)) some is ends =
        let first = line_at mark has len end text line.some is ends (ap (λ k. occurs s (take k text)) is ∙ line.has_is) in
        (omega (arith, le, first.end_is), first, (lines, subst (λ e. BeginsWithLines s mark has lines (n - e) (drop e text)) (sym first.end_is) rest))

  -- ---- lines without a match up to a place

  module _ (mark : ℕ) where
    -- the place is n and a line begins there, or it is the end and each occurrence would have to end behind it
    pub record IsPlace (n place : ℕ) (text : List ℕ) : Type 0 where
      pub fits : place ≤ length text
      pub is : ((n ≡ place) × ((place ≡ 0) ⊎ ((0 < place) × (slice_index text (place - 1) ≡ mark)))) ⊎ ((place ≡ length text) × (place < n))

    -- the first line ends before the place
    first_before : (n place : ℕ) (text : List ℕ) → IsPlace n place text → 0 < place → (first_len mark text < n) × (first_end mark text ≤ place)
    first_before n place text p some = elim p.is [
      | inl h ↦ elim h.1 [
        | inl none ↦ absurd (omega (arith, none, some))
        | inr marked ↦
            let before = before_mark mark text (place - 1) marked.1 in
            elim (first_end-is mark text) [
              | inl e ↦ (omega (arith, before, some, h.0), omega (arith, before, some, e.1))
              | inr e ↦ (omega (arith, before, some, h.0), omega (arith, before, some, e.1))
            ]
      ]
      | inr h ↦ (omega (arith, first_len-fits mark text, h.0, h.1), omega (arith, first_end-fits mark text, h.0))
    ]

    place_behind : (n place k : ℕ) (text : List ℕ) → IsPlace n place text → k ≤ place → IsPlace (n - k) (place - k) (drop k text)
    place_behind n place k text p le = record {
      fits = omega (arith, p.fits, length-drop k text);
      is = elim p.is [
        | inl h ↦ inl (
          ap (λ m. m - k) h.0,
          elim (cases_lt k place) [
            | inl less ↦ elim h.1 [
              | inl none ↦ absurd (omega (arith, none, less))
              | inr marked ↦ inr (omega (arith, less), get_or-drop k text (place - k - 1) 0 ∙ ap (λ i. slice_index text i) (omega (arith, less)) ∙ marked.1)
            ]
            | inr above ↦ inl (omega (arith, above, le))
          ],
        )
        | inr h ↦ inr (omega (arith, h.0, length-drop k text), omega (arith, h.1, le))
      ];
    }

    clear_by : (fuel n place : ℕ) (text : List ℕ) → place ≤ fuel → IsFreeTo n text → IsPlace n place text → AreClear s mark place text
    clear_by zero n place text le free p = (0, omega (arith, le))
    clear_by (suc fuel) n zero text le free p = (0, refl)
    clear_by (suc fuel) n (suc place) text le free p =
        let e = first_end mark text in
        let some : 0 < length text = omega (arith, p.fits) in
        let before = first_before n (suc place) text p (omega arith) in
        let later = clear_by fuel (n - e) (suc place - e) (drop e text) (omega (arith, le, before.1, first_end-some mark text some)) (free_back e n text (first_end-fits mark text) free) (place_behind n (suc place) e text p before.1) in
        let line : BeginsWithLine s mark false (first_len mark text) e text = record { some = some; len_is = refl; end_is = refl; has_is = free_front (first_len mark text) n text (first_len-fits mark text) before.0 free } in
        (suc later.0, (line, before.1, later.1))

    pub clear_until : (n place : ℕ) (text : List ℕ) → IsFreeTo n text → IsPlace n place text → AreClear s mark place text
    clear_until n place text free p = clear_by place n place text (omega arith) free p

    -- ---- up to the first match

    pub clear_all : (text : List ℕ) → matches_in s text ≡ [] → AreClear s mark (length text) text
    clear_all text none =
        clear_until (length text + 1) (length text) text (λ o is. absurd (subst (BeginsBy o.end) none (first_begins s.kind s.dictionary (as_read s.folds text) o is)))
        (record { fits = omega arith; is = inr (refl, omega arith) })

    module _ (text : List ℕ) (m : Match ℕ) (ms : List (Match ℕ)) (is : matches_in s text ≡ m ∷ ms) where
      first_free : IsFreeTo m.start text
      first_free o occurs = subst (BeginsBy o.end) is (first_begins s.kind s.dictionary (as_read s.folds text) o occurs)

      first_occurs : Occurs text m
      first_occurs = All-head (Occurs text) m ms (subst (All (Occurs text)) is (matches_occur s.kind s.dictionary (as_read s.folds text)))

      -- an empty match at the end would have had one at the beginning ahead of it
      pub first_within : 0 < length text → m.start < length text
      first_within some = elim (cases_lt m.start (length text)) [
        | inl less ↦ less
        | inr above ↦
            let o = first_occurs in
            let sizes = ap length o.splits ∙ length-append o.before (o.key ++ o.after) in
            let empty : o.key ≡ [] = no_length o.key (omega (arith, above, o.starts, sizes, size-bytes o.before, length-append o.key o.after, length-as_read s.folds text)) in
            let first : Occurs text (record { start = 0; end = 0; value = m.value }) =
            record { before = []; key = []; after = as_read s.folds text; splits = refl; starts = refl; ends = refl; has = subst (λ k. Contains (s.dictionary k) m.value) empty o.has } in
            absurd (omega (arith, above, some, first_free _ first))
      ]
        where
          no_length : (k : List ℕ) → length k ≤ 0 → k ≡ []
          no_length [] le = refl
          no_length (x ∷ k) le = absurd (omega arith)

      -- the lines before the one in which it begins
      pub clear_before : (start : ℕ) → start ≤ m.start → start ≤ length text → (start ≡ 0) ⊎ ((0 < start) × (slice_index (take m.start text) (start - 1) ≡ mark)) → AreClear s mark start text
      clear_before start before fits at =
          clear_until start start text (λ o occurs. omega (arith, before, first_free o occurs))
          (record {
            fits = fits;
            is = inl (
              refl,
              elim at [
                | inl none ↦ inl none
                | inr marked ↦ inr (marked.0, sym (get_or-take m.start text (start - 1) 0 (omega (arith, before, marked.0))) ∙ marked.1)
              ],
            );
          })

      -- it lies within a line
      pub first_in_line : (start len : ℕ) → start ≤ length text → start ≤ m.start → len ≤ length (drop start text) → m.end ≤ start + len → occurs s (take len (drop start text)) ≡ true
      first_in_line start len fits before shorter ends =
          let rest = drop start text in
          let whole : take start text ++ (take len rest ++ drop len rest) ≡ text = ap (λ t. take start text ++ t) (take-append-drop len rest) ∙ take-append-drop start text in
          let front = length-take-le start text fits in
          some_occurs (take len rest) _
          (occurs_within (take start text) (take len rest) (drop len rest) m (subst (λ t. Occurs t m) (sym whole) first_occurs) (omega (arith, front, before)) (omega (arith, front, ends, length-take-le len rest shorter)))

      -- the first line that may have a match
      module _ (start len end : ℕ) (within : start ≤ length (take m.start text)) (at : (start ≡ 0) ⊎ ((0 < start) × (slice_index (take m.start text) (start - 1) ≡ mark))) (some : 0 < length text)
          (len_is : len ≡ first_len mark (drop start text)) (ends : ((len < length (drop start text)) × (end ≡ len + 1)) ⊎ ((length (drop start text) ≤ len) × (end ≡ len))) where
        before : (start ≤ m.start) × (start < length text)
        before =
            let less = first_within some in
            let sized = length-take-le m.start text (omega (arith, less)) in
            (omega (arith, within, sized), omega (arith, within, sized, less))

        front_line : (has : Bool) → occurs s (take len (drop start text)) ≡ has → AreClear s mark start text × BeginsWithLine s mark has len end (drop start text)
        front_line has is =
            (clear_before start before.0 (omega (arith, before.1)) at, line_at mark has len end (drop start text) (omega (arith, before.1, length-drop start text)) len_is ends is)

        pub front_found : (m.end ≤ start + len) ⊎ (occurs s (take len (drop start text)) ≡ true) → IsFront s mark text (record { clear = start; found = Some (len, end) })
        front_found so =
            let l = front_line true (elim so [
              | inl ends ↦ first_in_line start len (omega (arith, before.1)) before.0 (omega (arith, len_is, first_len-fits mark (drop start text))) ends
              | inr is ↦ is
            ]) in
            record { clear = l.0; found = l.1; some = λ none. absurd (cc) }

        pub front_passed : occurs s (take len (drop start text)) ≡ false → IsFront s mark text (record { clear = start + end; found = None })
        front_passed is =
            let l = front_line false is in
            record {
              clear = clear_then mark start end text l.0 (1, line_alone mark false len end (drop start text) l.1);
              found = tt;
              some = λ none. omega (arith, l.1.end_is, first_end-some mark (drop start text) l.1.some);
            }
