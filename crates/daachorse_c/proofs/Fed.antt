-- What a stepper has done with the bytes so far, and what one more byte adds.
use borrow.Rule.Slice.PartMut.{mid_of, put_mid}
use Rattle.std.proofs.Common.{◌≡◌, ℕ, ◌+◌, ◌-◌, ◌<◌, ◌≤◌, Bool, true, false, List, [], ◌∷◌, ◌++◌, take, length, get_or, refl, sym, ap, ◌∙◌, subst, append_assoc, append-nil, length-append, arith}
use Rattle.std.proofs.lemmas.List.{take_more}
use Rattle.daachorse_model.specs.declared.Match.{Match}
use Rattle.daachorse_model.specs.Folding.{as_read}
use Rattle.daachorse_model.proofs.FoldLaws.{as_read-append}
use Rattle.daachorse_search.specs.Views.{AutomatonView}
use Rattle.daachorse_c.specs.declared.found.CMatch.{CMatch}
use Rattle.daachorse_c.specs.declared.stepper.Stepper.{Stepper}
use Rattle.daachorse_c.specs.declared.unit.Unit.{Unit}
use Rattle.daachorse_c.specs.declared.unit.Unit.TheVariants.{Byte, Character}
use Rattle.daachorse_c.specs.Streams.{AreAllCertain, HasReported, IsQuiet, KnowsEnd, Spells, ReportsMore, WasNeeded, dictionary_in, folds_in, kind_in, read_in}
use Rattle.std.specs.Str.Lossy.{utf8_error_len}
use Rattle.daachorse_c.specs.Units.{IsOpenIn, spelled_in}
use Rattle.daachorse_c.proofs.Steppers.{moved, reported-certain}
use Rattle.daachorse_c.proofs.Reporting.{written_more}
use Rattle.std.proofs.lemmas.Str.{encodes-append}

-- units after others are spelled after them
pub spelled-more : (which : Unit) (v w : List ℕ) → spelled_in which (v ++ w) ≡ spelled_in which v ++ spelled_in which w
spelled-more Byte v w = refl
spelled-more Character v w = encodes-append v w

pub nothing_read : (folds : Bool) → as_read folds [] ≡ []
nothing_read true = refl
nothing_read false = refl

-- no unit may have partial
pub partial_none : (which : Unit) → IsOpenIn which []
unfolding utf8_error_len
partial_none Byte = refl
partial_none Character = record { short = omega arith; none = λ n some le. absurd (omega (arith, some, le)); more = refl }

-- at the beginning nothing is spelled
pub spells-nothing : (which : Unit) (partial : List ℕ) → IsOpenIn which partial → Spells which partial [] [] partial
spells-nothing Byte partial is = record { splits = append-nil partial; begins = is }
spells-nothing Character partial is = record { splits = append-nil partial; begins = is }

module _ {which : Unit} {partial front units later : List ℕ} (s : Spells which partial front units later) (byte : ℕ) where
  longer : partial ++ (front ++ byte ∷ []) ≡ spelled_in which units ++ (later ++ byte ∷ [])
  longer = sym (append_assoc partial front (byte ∷ [])) ∙ ap (λ l. l ++ byte ∷ []) s.splits ∙ append_assoc (spelled_in which units) later (byte ∷ [])

  -- a byte more is kept
  pub spells-open : (more : List ℕ) → (more ≡ later ++ byte ∷ []) × IsOpenIn which (later ++ byte ∷ []) → Spells which partial (front ++ byte ∷ []) units more
  spells-open more is = record {
    splits = longer ∙ ap (λ l. spelled_in which units ++ l) (sym is.0);
    begins = subst (IsOpenIn which) (sym is.0) is.1;
  }

  -- a byte more ends a unit
  pub spells-whole : (u : ℕ) (none : List ℕ) → none ≡ [] → IsOpenIn which [] → later ++ byte ∷ [] ≡ spelled_in which (u ∷ []) → Spells which partial (front ++ byte ∷ []) (units ++ u ∷ []) none
  spells-whole u none is may spelt = record {
    splits = longer ∙ ap (λ l. spelled_in which units ++ l) spelt ∙ sym (spelled-more which units (u ∷ [])) ∙ sym (append-nil (spelled_in which (units ++ u ∷ []))) ∙ ap (λ l. spelled_in which (units ++ u ∷ []) ++ l) (sym is);
    begins = subst (IsOpenIn which) (sym is) may;
  }

-- So many bytes were consumed so far, and so many matches written, from s, which reported these, to t.
pub record Fed {S L T U V W : Type 0} (which : Unit) (width : ℕ → ℕ) (standard : S → AutomatonView ℕ) (leftmost : L → AutomatonView ℕ) (bytes : List ℕ) (reported : List (Match ℕ)) (s t : Stepper S L T U V W) (partial later : List ℕ) (old new : List CMatch) (taken written : ℕ) : Type 0 where
  pub within : taken ≤ length bytes
  pub units : List ℕ
  pub spells : Spells which partial (take taken bytes) units later
  pub read : read_in t ≡ read_in s ++ as_read (folds_in s) units
  pub reports : ReportsMore (HasReported width standard leftmost t) reported old new written
  pub quiet : written < length old → IsQuiet width standard leftmost t
  pub needed : (n : ℕ) → taken ≡ n + 1 → WasNeeded which width (kind_in s) (dictionary_in width standard leftmost s) (folds_in s) partial bytes (read_in s) (length reported + length old) n (reported ++ reports.more)

module _ {S L T U V W : Type 0} {which : Unit} {width : ℕ → ℕ} {standard : S → AutomatonView ℕ} {leftmost : L → AutomatonView ℕ} {bytes : List ℕ} {reported : List (Match ℕ)} {s t : Stepper S L T U V W} {partial later : List ℕ} {old new : List CMatch} {taken written : ℕ}
    (f : Fed which width standard leftmost bytes reported s t partial later old new taken written)
    (there : taken < length bytes) (room : written < length old) (unended : KnowsEnd false t) (search : kind_in t ≡ kind_in s) (same : dictionary_in width standard leftmost t ≡ dictionary_in width standard leftmost s) where
  abbrev byte : ℕ
  byte = get_or bytes taken 0

  next : take (taken + 1) bytes ≡ take taken bytes ++ byte ∷ []
  next = take_more bytes taken 0 there

  -- before the next byte all that is certain was reported
  needs : (more : List (Match ℕ)) (n : ℕ) → taken + 1 ≡ n + 1 → WasNeeded which width (kind_in s) (dictionary_in width standard leftmost s) (folds_in s) partial bytes (read_in s) (length reported + length old) n (reported ++ (f.reports.more ++ more))
  needs more n is =
      let same_place : taken ≡ n = omega (arith, is) in
      record {
        some = reported ++ f.reports.more;
        rest = more;
        first = sym (append_assoc reported f.reports.more more);
        units = f.units;
        later = later;
        spells = subst (λ k. Spells which partial (take k bytes) f.units later) same_place f.spells;
        certain = moved (λ k K text. AreAllCertain width k K text (reported ++ f.reports.more)) search same f.read (reported-certain width standard leftmost t (reported ++ f.reports.more) f.reports.reported (f.quiet room) unended);
        fewer = omega (arith, length-append reported f.reports.more, f.reports.writes.count, room);
      }

  pub fed-open : (kept : List ℕ) → (kept ≡ later ++ byte ∷ []) × IsOpenIn which (later ++ byte ∷ []) → Fed which width standard leftmost bytes reported s t partial kept old new (taken + 1) written
  fed-open kept is = record {
    within = omega (arith, there);
    units = f.units;
    spells = subst (λ l. Spells which partial l f.units kept) (sym next) (spells-open f.spells byte kept is);
    read = f.read;
    reports = f.reports;
    quiet = f.quiet;
    needed = λ n at. subst (λ l. WasNeeded which width (kind_in s) (dictionary_in width standard leftmost s) (folds_in s) partial bytes (read_in s) (length reported + length old) n (reported ++ l)) (append-nil f.reports.more) (needs [] n at);
  }

  -- the unit was consumed, and more was reported
  pub fed-whole : (none : List ℕ) (u : ℕ) (v w : Stepper S L T U V W) (last : List CMatch) (k : ℕ) → none ≡ [] → later ++ byte ∷ [] ≡ spelled_in which (u ∷ [])
      → read_in v ≡ read_in t ++ as_read (folds_in t) (u ∷ []) → folds_in t ≡ folds_in s → read_in w ≡ read_in v
      → HasReported width standard leftmost v (reported ++ f.reports.more)
      → ((ms : List (Match ℕ)) → HasReported width standard leftmost v ms → ReportsMore (HasReported width standard leftmost w) ms (mid_of written (length new - written) new) last k)
      → (k < length (mid_of written (length new - written) new) → IsQuiet width standard leftmost w)
      → length new ≡ length old → length (mid_of written (length new - written) new) ≡ length new - written
      → Fed which width standard leftmost bytes reported s w partial none old (put_mid written (length new - written) new last) (taken + 1) (written + k)
  fed-whole none u v w last k is spelt read folds stays consumed more quiet long rest =
      let then = more (reported ++ f.reports.more) consumed in
      let h = read_in s in let us = f.units in
      record {
        within = omega (arith, there);
        units = us ++ u ∷ [];
        spells = subst (λ l. Spells which partial l (us ++ u ∷ []) none) (sym next) (spells-whole f.spells byte u none is (partial_none which) spelt);
        read =
            stays ∙ read ∙ ap (λ b. read_in t ++ as_read b (u ∷ [])) folds ∙ ap (λ l. l ++ as_read (folds_in s) (u ∷ [])) f.read
            ∙ append_assoc h (as_read (folds_in s) us) (as_read (folds_in s) (u ∷ []))
            ∙ ap (λ l. h ++ l) (sym (as_read-append (folds_in s) us (u ∷ [])));
        reports = record {
          more = f.reports.more ++ then.more;
          reported = subst (HasReported width standard leftmost w) (append_assoc reported f.reports.more then.more) then.reported;
          writes = written_more written k f.reports.writes then.writes;
        };
        quiet = λ lt. quiet (omega (arith, lt, long, rest));
        needed = λ n at. needs then.more n at;
      }
