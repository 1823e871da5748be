-- What is left of a search after what it found.
use Rattle.std.proofs.Common.{
  ◌≡◌,
  ◌≢◌,
  ℕ,
  ◌+◌,
  ◌<◌,
  ◌≤◌,
  inl,
  inr,
  Bool,
  true,
  false,
  cond,
  List,
  [],
  ◌∷◌,
  ◌++◌,
  map,
  drop,
  length,
  Option,
  None,
  Some,
  refl,
  sym,
  ap,
  ◌∙◌,
  add-zero,
  add_assoc,
  subst,
  arith,
}
use Rattle.std.specs.Prelude.{IfNone, slice_get}
use Rattle.std.proofs.lemmas.Bool.{cases_lt}
use Rattle.std.proofs.lemmas.List.{drop-drop, length-drop}
use Rattle.daachorse_model.specs.declared.Match.{Match}
use Rattle.daachorse_model.specs.declared.MatchKind.{MatchKind}
use Rattle.daachorse_model.specs.declared.MatchKind.TheVariants.{Standard, LeftmostLongest, LeftmostFirst}
use Rattle.daachorse_model.specs.Dictionary.{Dictionary}
use Rattle.daachorse_model.specs.Leftmost.{leftmost_from}
use Rattle.daachorse_model.specs.Matches.{standard, shifted}
use Rattle.daachorse_model.specs.Units.{byte_width, char_width, size}
use Rattle.daachorse_model.proofs.Shifts.{leftmost_from-shifted}
use Rattle.daachorse_streams.specs.ByKind.{non_overlapping}
use Rattle.daachorse_streams.specs.Replaced.{AreParts}
use Rattle.daachorse_streams.proofs.Cuts.{bytes_cut, parts_of, text_cut}
use Rattle.daachorse_c.specs.declared.place.Place.{Place}
use Rattle.daachorse_c.specs.Automata.{Automaton, Bytes, Characters, Reads, dictionary_of, folds_of, kind_of, text_read, unit_of, width_of}
use Rattle.daachorse_c.specs.Units.{IsTextIn, units_in}
use Rattle.daachorse_c.specs.Places.{IsPlaceIn, IsStep, StandsBehind, afresh, found_from, left_of}
use Rattle.daachorse_search.proofs.AfreshLaws.{shifted-none, shifted-twice}
use Rattle.daachorse_c.proofs.Behind.{behind_front, first_read, size-read, wide}
use Rattle.daachorse_c.proofs.Heads.{no_match}
use Rattle.daachorse_c.proofs.LeftmostOn.{IsAfter, after_nonempty, behind}
use Rattle.daachorse_c.proofs.StandardOn.{follows_first}

-- the first of a list is there, or the list is empty
pub none_first : (l : List (Match ℕ)) → None ≡ slice_get l 0 → l ≡ []
none_first [] e = refl
none_first (m ∷ ms) e = cc

pub some_first : (l : List (Match ℕ)) (m : Match ℕ) → Some m ≡ slice_get l 0 → (ms : List (Match ℕ)) × (l ≡ m ∷ ms)
some_first [] m e = cc
some_first (x ∷ xs) m e = let same : x ≡ m = cc in (xs, ap (λ y. y ∷ xs) same)

-- what follows where there is none
pub none_weaker : {A : Type 0} (o : Option A) (P Q : Type 0) → (P → Q) → IfNone o P → IfNone o Q
none_weaker None P Q f h = f h
none_weaker (Some x) P Q f h = tt

module _ (width : ℕ → ℕ) (broad : (u : ℕ) → 0 < width u) (K : Dictionary ℕ) where
  -- what is found from a place on is what is found that begins there, so much further on
  from_place : (kind : MatchKind) (at : ℕ) (w : List ℕ)
      → found_from width K kind at false w ≡ map (shifted at) (non_overlapping kind width K w)
  from_place Standard at w = refl
  from_place LeftmostLongest at w =
      ap (λ n. leftmost_from width K n 0 false w) (sym (add-zero at)) ∙ leftmost_from-shifted width K at 0 0 false w
  from_place LeftmostFirst at w =
      ap (λ n. leftmost_from width K n 0 false w) (sym (add-zero at)) ∙ leftmost_from-shifted width K at 0 0 false w

  -- m was found first in w, which begins at the place, and then these: what it ends, and what follows it
  pub record Continues (kind : MatchKind) (at : ℕ) (w : List ℕ) (m : Match ℕ) (ms : List (Match ℕ)) : Type 0 where
    pub passed : List ℕ
    pub rest : List ℕ
    pub splits : w ≡ passed ++ rest
    pub order : m.start ≤ m.end
    pub end : m.end ≡ at + size width passed
    pub nonempty : m.start < m.end → ms ≡ found_from width K kind m.end true rest
    pub empty : m.end ≤ m.start → (u : ℕ) (more : List ℕ) → rest ≡ u ∷ more → ms ≡ found_from width K kind (m.end + width u) false more
    pub last : m.end ≤ m.start → rest ≡ [] → ms ≡ []

  standard_continues : (at : ℕ) (w : List ℕ) (m : Match ℕ) (ms : List (Match ℕ)) → standard width K w ≡ m ∷ ms
      → Continues Standard at w (shifted at m) (map (shifted at) ms)
  standard_continues at w m ms e =
      let b = follows_first width broad K w m ms e in
      record {
        passed = b.passed;
        rest = b.rest;
        splits = b.splits;
        order = omega (arith, b.order);
        end = ap (λ n. at + n) b.end;
        nonempty = λ lt. ap (map (shifted at)) (b.nonempty (omega (arith, lt))) ∙ shifted-twice at m.end (standard width K b.rest);
        empty = λ le u more is.
            ap (map (shifted at)) (b.empty (omega (arith, le)) u more is) ∙ shifted-twice at (m.end + width u) (standard width K more)
            ∙ ap (λ n. map (shifted n) (standard width K more)) (sym (add_assoc at m.end (width u)));
        last = λ le is. ap (map (shifted at)) (b.last (omega (arith, le)) is);
      }

  continues : (kind : MatchKind) (at : ℕ) (w : List ℕ) (m : Match ℕ) (ms : List (Match ℕ)) → non_overlapping kind width K w ≡ m ∷ ms
      → Continues kind at w (shifted at m) (map (shifted at) ms)
  continues Standard at w m ms e = standard_continues at w m ms e
  continues LeftmostLongest at w m ms e =
      let b = behind width broad K at false w (shifted at m) (map (shifted at) ms)
      (from_place LeftmostLongest at w ∙ ap (map (shifted at)) e) in
      record {
        passed = b.passed;
        rest = b.rest;
        splits = b.splits;
        order = b.order;
        end = b.end;
        nonempty = b.nonempty;
        empty = b.empty;
        last = b.last;
      }
  continues LeftmostFirst at w m ms e =
      let b = behind width broad K at false w (shifted at m) (map (shifted at) ms)
      (from_place LeftmostFirst at w ∙ ap (map (shifted at)) e) in
      record {
        passed = b.passed;
        rest = b.rest;
        splits = b.splits;
        order = b.order;
        end = b.end;
        nonempty = b.nonempty;
        empty = b.empty;
        last = b.last;
      }

-- m is the first match that the automaton finds from the place on, and then it finds these
pub record IsFirst (a : Automaton) (h : List ℕ) (at : ℕ) (m : Match ℕ) (ms : List (Match ℕ)) : Type 0 where
  pub order : m.start ≤ m.end
  pub after : at ≤ m.end
  pub place : IsPlaceIn a h m.end
  pub nonempty : m.start < m.end → ms ≡ found_from (width_of a) (dictionary_of a) (kind_of a) m.end true (text_read a (drop m.end h))
  pub empty : m.end ≤ m.start → (u : ℕ) (more : List ℕ) → text_read a (drop m.end h) ≡ u ∷ more
      → IsPlaceIn a h (m.end + width_of a u)
      × (ms ≡ found_from (width_of a) (dictionary_of a) (kind_of a) (m.end + width_of a u) false
      (text_read a (drop (m.end + width_of a u) h)))
  pub last : m.end ≤ m.start → text_read a (drop m.end h) ≡ [] → ms ≡ []

module _ (a : Automaton) (h : List ℕ) where
  abbrev pub found : List ℕ → List (Match ℕ)
  found = non_overlapping (kind_of a) (width_of a) (dictionary_of a)

  -- a place further on, after units that were read
  further : (at : ℕ) (front rest : List ℕ) → IsPlaceIn a h at → text_read a (drop at h) ≡ front ++ rest
      → IsPlaceIn a h (at + size (width_of a) front) × (text_read a (drop (at + size (width_of a) front) h) ≡ rest)
  further at front rest p is =
      let b = behind_front (unit_of a) (folds_of a) (drop at h) front rest p.reads is in
      let far = drop-drop (size (width_of a) front) at h in (
        record { within = omega (arith, p.within, b.within, length-drop at h); reads = subst (λ l. IsTextIn (unit_of a) l) far b.text },
        ap (text_read a) (sym far) ∙ b.reads,
      )

  pub is_first : (at : ℕ) → IsPlaceIn a h at → (m : Match ℕ) (ms : List (Match ℕ)) → found (text_read a (drop at h)) ≡ m ∷ ms
      → IsFirst a h at (shifted at m) (map (shifted at) ms)
  is_first at p m ms e =
      let b = continues (width_of a) (wide (unit_of a)) (dictionary_of a) (kind_of a) at (text_read a (drop at h)) m ms e in
      let end : at + m.end ≡ at + size (width_of a) b.passed = b.end in
      let on = further at b.passed b.rest p b.splits in
      let place : IsPlaceIn a h (at + m.end) = subst (IsPlaceIn a h) (sym end) on.0 in
      let rest : text_read a (drop (at + m.end) h) ≡ b.rest = ap (λ n. text_read a (drop n h)) end ∙ on.1 in
      record {
        order = b.order;
        after = omega arith;
        place = place;
        nonempty = λ lt. b.nonempty lt ∙ ap (found_from (width_of a) (dictionary_of a) (kind_of a) (at + m.end) true) (sym rest);
        empty = λ le u more is.
            let next = further (at + m.end) (u ∷ []) more place is in
            let one : (at + m.end) + size (width_of a) (u ∷ []) ≡ (at + m.end) + width_of a u = omega arith in (
              subst (IsPlaceIn a h) one next.0,
              b.empty le u more (sym rest ∙ is)
                  ∙ ap (found_from (width_of a) (dictionary_of a) (kind_of a) (at + m.end + width_of a u) false)
                  (sym (ap (λ n. text_read a (drop n h)) (sym one) ∙ next.1)),
            );
        last = λ le is. b.last le (sym rest ∙ is);
      }

module _ (a : Automaton) (h : List ℕ) (p : Place) where
  pub pass_none : p.over ≡ false → found a h (text_read a (drop p.at h)) ≡ [] → left_of a h (afresh p) ≡ []
  pass_none is none =
      ap (λ b. cond b [] (found_from (width_of a) (dictionary_of a) (kind_of a) p.at false (text_read a (drop p.at h)))) is
      ∙ from_place (width_of a) (wide (unit_of a)) (dictionary_of a) (kind_of a) p.at (text_read a (drop p.at h))
      ∙ ap (map (shifted p.at)) none

  pub pass_over : p.over ≡ true → left_of a h p ≡ []
  pass_over is = ap (λ b. cond b [] (found_from (width_of a) (dictionary_of a) (kind_of a) p.at p.after (text_read a (drop p.at h)))) is

  -- a place moves after the first match, within the haystack
  pub step_within : (m : Match ℕ) (ms : List (Match ℕ)) (step : ℕ) → IsFirst a h p.at m ms → IsStep a h m.end step → m.end ≤ m.start
      → m.end < length h → m.end + step ≤ length h
  step_within m ms step f is le lt = by (text_read a (drop m.end h)) refl
    where
      by : (w : List ℕ) → text_read a (drop m.end h) ≡ w → m.end + step ≤ length h
      by [] none =
          absurd (omega (
            arith,
            lt,
            length-drop m.end h,
            sym (size-read (unit_of a) (folds_of a) (drop m.end h) f.place.reads) ∙ ap (size (width_of a)) none,
          ))
      by (u ∷ more) some =
          let first = first_read (unit_of a) (folds_of a) (units_in (unit_of a) (drop m.end h)) u more some in
          omega (arith, (f.empty le u more some).0.within, is first.0 first.1 first.2, first.3)

  behind_is : (m : Match ℕ) (ms : List (Match ℕ)) (step : ℕ) (q : Place) → IsFirst a h p.at m ms → IsStep a h m.end step
      → StandsBehind m step (length h) q → IsPlaceIn a h q.at × (ms ≡ left_of a h q)
  behind_is m ms step q f is s = elim (cases_lt m.start m.end) [
    | inl lt ↦ let here = s.nonempty lt in
        (subst (λ n. IsPlaceIn a h n) (sym (ap (λ (x : Place). x.at) here)) f.place, f.nonempty lt ∙ ap (left_of a h) (sym here))
    | inr le ↦ by le (text_read a (drop m.end h)) refl
  ]
    where
      by : m.end ≤ m.start → (w : List ℕ) → text_read a (drop m.end h) ≡ w → IsPlaceIn a h q.at × (ms ≡ left_of a h q)
      by le [] none =
          let short = sym (size-read (unit_of a) (folds_of a) (drop m.end h) f.place.reads) ∙ ap (size (width_of a)) none in
          let here = s.last le (omega (arith, short, length-drop m.end h, f.place.within)) in
          (subst (λ n. IsPlaceIn a h n) (sym (ap (λ (x : Place). x.at) here)) f.place, f.last le none ∙ ap (left_of a h) (sym here))
      by le (u ∷ more) some =
          let first = first_read (unit_of a) (folds_of a) (units_in (unit_of a) (drop m.end h)) u more some in
          let next = f.empty le u more some in
          let far : m.end + step ≡ m.end + width_of a u = ap (λ n. m.end + n) (is first.0 first.1 first.2 ∙ sym first.3) in
          let long = sym (size-read (unit_of a) (folds_of a) (drop m.end h) f.place.reads) ∙ ap (size (width_of a)) some in
          let here = s.empty le (omega (arith, long, length-drop m.end h, wide (unit_of a) u)) in
          let there : q ≡ record { at = m.end + width_of a u; after = false; over = false } = here
          ∙ ap (λ n. record { at = n; after = false; over = false }) far in
          (subst (λ n. IsPlaceIn a h n) (sym (ap (λ (x : Place). x.at) there)) next.0, next.1 ∙ ap (left_of a h) (sym there))

  -- what is found at the place is what is left, and the place moves after its first match
  pub pass_some : p.over ≡ false → (m : Match ℕ) (ms : List (Match ℕ)) → found a h (text_read a (drop p.at h)) ≡ m ∷ ms
      → IsFirst a h p.at (shifted p.at m) (map (shifted p.at) ms)
      → (step : ℕ) (q : Place) → IsStep a h (p.at + m.end) step → StandsBehind (shifted p.at m) step (length h) q
      → IsPlaceIn a h q.at × (left_of a h (afresh p) ≡ shifted p.at m ∷ left_of a h q)
  pass_some is m ms e f step q wide_step s =
      let b = behind_is (shifted p.at m) (map (shifted p.at) ms) step q f wide_step s in (
        b.0,
        ap (λ b. cond b [] (found_from (width_of a) (dictionary_of a) (kind_of a) p.at false (text_read a (drop p.at h)))) is
            ∙ from_place (width_of a) (wide (unit_of a)) (dictionary_of a) (kind_of a) p.at (text_read a (drop p.at h))
            ∙ ap (map (shifted p.at)) e
            ∙ ap (λ l. shifted p.at m ∷ l) b.1,
      )

  -- ---- right after a nonempty match

  abbrev text : List ℕ
  text = text_read a (drop p.at h)

  abbrev leftmost_at : Bool → List (Match ℕ)
  leftmost_at after = leftmost_from (width_of a) (dictionary_of a) p.at 0 after text

  abbrev left_by : MatchKind → Bool → Bool → List (Match ℕ)
  left_by k over after = cond over [] (found_from (width_of a) (dictionary_of a) k p.at after text)

  after_by : (over : Bool) → IsAfter p.at (cond over [] (leftmost_at false)) (cond over [] (leftmost_at true))
  after_by true = record { none = λ e. refl; empty = λ m ms e at. absurd (no_match m ms e); later = λ m ms e lt. absurd (no_match m ms e) }
  after_by false = after_nonempty (width_of a) (wide (unit_of a)) (dictionary_of a) p.at text

  none_by : (k : MatchKind) (after : Bool) → left_by k p.over false ≡ [] → left_by k p.over after ≡ []
  none_by Standard after e = e
  none_by LeftmostLongest false e = e
  none_by LeftmostLongest true e = (after_by p.over).none e
  none_by LeftmostFirst false e = e
  none_by LeftmostFirst true e = (after_by p.over).none e

  empty_by : (k : MatchKind) → k ≢ Standard → (m : Match ℕ) (ms : List (Match ℕ)) → left_by k p.over false ≡ m ∷ ms → m.end ≡ p.at
      → left_by k p.over true ≡ ms
  empty_by Standard not m ms e at = absurd (not refl)
  empty_by LeftmostLongest not m ms e at = (after_by p.over).empty m ms e at
  empty_by LeftmostFirst not m ms e at = (after_by p.over).empty m ms e at

  later_by : (k : MatchKind) (after : Bool) (m : Match ℕ) (ms : List (Match ℕ)) → left_by k p.over false ≡ m ∷ ms → p.at < m.end
      → left_by k p.over after ≡ m ∷ ms
  later_by Standard after m ms e lt = e
  later_by LeftmostLongest false m ms e lt = e
  later_by LeftmostLongest true m ms e lt = (after_by p.over).later m ms e lt
  later_by LeftmostFirst false m ms e lt = e
  later_by LeftmostFirst true m ms e lt = (after_by p.over).later m ms e lt

  kept_by : (k : MatchKind) (after : Bool) (m : Match ℕ) (ms : List (Match ℕ)) → left_by k p.over false ≡ m ∷ ms
      → ((after ≡ true) × (k ≢ Standard) → ⊥) → left_by k p.over after ≡ m ∷ ms
  kept_by Standard after m ms e never = e
  kept_by LeftmostLongest false m ms e never = e
  kept_by LeftmostLongest true m ms e never = absurd (never (refl, λ is. cc))
  kept_by LeftmostFirst false m ms e never = e
  kept_by LeftmostFirst true m ms e never = absurd (never (refl, λ is. cc))

  pub left_none : left_of a h (afresh p) ≡ [] → left_of a h p ≡ []
  left_none = none_by (kind_of a) p.after

  left_empty : p.after ≡ true → kind_of a ≢ Standard → (m : Match ℕ) (ms : List (Match ℕ)) → left_of a h (afresh p) ≡ m ∷ ms → m.end ≡ p.at
      → left_of a h p ≡ ms
  left_empty is not m ms e at = ap (left_by (kind_of a) p.over) is ∙ empty_by (kind_of a) not m ms e at

  -- a match that is no empty leftmost one at the end of a nonempty one
  pub left_kept : (m : Match ℕ) (ms : List (Match ℕ)) → left_of a h (afresh p) ≡ m ∷ ms → p.at ≤ m.end
      → ((p.after ≡ true) × (m.end ≡ p.at) × (kind_of a ≢ Standard) → ⊥) → left_of a h p ≡ m ∷ ms
  left_kept m ms e le never = elim (cases_lt p.at m.end) [
    | inl lt ↦ later_by (kind_of a) p.after m ms e lt
    | inr ge ↦ kept_by (kind_of a) p.after m ms e (λ q. never (q.0, omega (arith, le, ge), q.1))
  ]

  left_same : p.after ≡ false → left_of a h p ≡ left_of a h (afresh p)
  left_same is = ap (left_by (kind_of a) p.over) is

-- what is left past an empty match at the end of a nonempty one
pub left_past : (a : Automaton) (h : List ℕ) (p q : Place) → p.after ≡ true → kind_of a ≢ Standard → (m : Match ℕ)
    → left_of a h (afresh p) ≡ m ∷ left_of a h q → m.end ≡ p.at
    → (m.end ≡ p.at → q.after ≡ false) → left_of a h p ≡ left_of a h (afresh q)
left_past a h p q is not m e at clear = left_empty a h p is not m (left_of a h q) e at ∙ left_same a h q (clear at)

-- at the beginning all is left
pub left_whole : (a : Automaton) (h : List ℕ)
    → left_of a h (record { at = 0; after = false; over = false }) ≡ non_overlapping (kind_of a) (width_of a) (dictionary_of a)
    (text_read a h)
left_whole a h =
    from_place (width_of a) (wide (unit_of a)) (dictionary_of a) (kind_of a) 0 (text_read a h)
    ∙ shifted-none (non_overlapping (kind_of a) (width_of a) (dictionary_of a) (text_read a h))

pub begins : (a : Automaton) (h : List ℕ) → Reads a h → IsPlaceIn a h 0
begins a h reads = record { within = omega arith; reads = reads }

-- the matches from the beginning are parts of the haystack
pub left_parts : (a : Automaton) (h : List ℕ) → Reads a h
    → AreParts (λ i. i ≤ length h) 0 (left_of a h (record { at = 0; after = false; over = false }))
left_parts (Bytes a) h reads =
    parts_of byte_width (dictionary_of (Bytes a)) (λ i. i ≤ length h) (text_read (Bytes a) h) (bytes_cut (folds_of (Bytes a)) h)
    (kind_of (Bytes a)) _ (left_whole (Bytes a) h)
left_parts (Characters a) h reads =
    parts_of char_width (dictionary_of (Characters a)) (λ i. i ≤ length h) (text_read (Characters a) h)
    (λ front back splits. (text_cut (folds_of (Characters a)) h reads front back splits).0) (kind_of (Characters a)) _
    (left_whole (Characters a) h)
