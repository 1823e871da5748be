-- A pattern after the others.
use Rattle.std.proofs.Common.{◌≡◌, ℕ, ◌+◌, ◌-◌, ◌≤◌, List, [], ◌∷◌, ◌++◌, length, drop, take, slice_range, refl, ap, ◌∙◌, length-append, arith}
use Rattle.std.proofs.lemmas.List.{drop-append-le, drop_at, length-drop, length_push, map-append, take-append-le, take_all}
use Rattle.std.specs.Str.{chars}
use Rattle.daachorse_c.specs.declared.listing.Listing.{Listing}
use Rattle.daachorse_c.specs.declared.listing.Room.{Room}
use Rattle.daachorse_c.specs.Listing.{Arrays, AreWhole, IsKeptWithin, arrays, arrays_of, entries, last_pattern_end, one_more}
use Rattle.daachorse_c.specs.declared.unit.Unit.{Unit}
use Rattle.daachorse_c.specs.declared.unit.Unit.TheVariants.{Byte, Character}
use Rattle.daachorse_c.specs.Patterns.{AreEnds, registrations, texts_in}
use Rattle.daachorse_c.specs.Units.{units_in}

module _ (bytes w : List ℕ) where
  before : (start e : ℕ) → start ≤ e → e ≤ length bytes → slice_range (bytes ++ w) start e ≡ slice_range bytes start e
  before start e up fits =
      let in_front : start ≤ length bytes = omega (arith, up, fits) in
      let enough : e - start ≤ length (drop start bytes) = omega (arith, length-drop start bytes, fits) in
      ap (take (e - start)) (drop-append-le start bytes w in_front) ∙ take-append-le (e - start) (drop start bytes) w enough

  behind : slice_range (bytes ++ w) (length bytes) (length (bytes ++ w)) ≡ w
  behind =
      let enough : length w ≤ length (bytes ++ w) - length bytes = omega (arith, length-append bytes w) in
      ap (take (length (bytes ++ w) - length bytes)) (drop_at bytes w (length bytes) refl) ∙ take_all (length (bytes ++ w) - length bytes) w enough

  more_entries : (v start : ℕ) (ends values : List ℕ) → AreEnds start (length bytes) ends → length ends ≡ length values → last_pattern_end start ends ≡ length bytes
      → registrations (bytes ++ w) start (ends ++ length (bytes ++ w) ∷ []) (values ++ v ∷ []) ≡ registrations bytes start ends values ++ (w, v) ∷ []
  more_entries v start [] [] are same last =
      ap (λ s. (slice_range (bytes ++ w) s (length (bytes ++ w)), v) ∷ []) last ∙ ap (λ (t : List ℕ). (t, v) ∷ []) behind
  more_entries v start (e ∷ ends) [] are same last = let no : ⊥ = omega (arith, same) in absurd no
  more_entries v start [] (u ∷ values) are same last = let no : ⊥ = omega (arith, same) in absurd no
  more_entries v start (e ∷ ends) (u ∷ values) are same last =
      let rest = more_entries v e ends values are.2 (omega (arith, same)) last in
      ap (λ t. (t, u) ∷ registrations (bytes ++ w) e (ends ++ length (bytes ++ w) ∷ []) (values ++ v ∷ [])) (before start e are.0 are.1)
      ∙ ap (λ l. (slice_range bytes start e, u) ∷ l) rest

  more_ends : (start : ℕ) (ends : List ℕ) → AreEnds start (length bytes) ends → last_pattern_end start ends ≡ length bytes
      → AreEnds start (length (bytes ++ w)) (ends ++ length (bytes ++ w) ∷ [])
  more_ends start [] are last = (omega (arith, last, length-append bytes w), omega arith, tt)
  more_ends start (e ∷ ends) are last = (are.0, omega (arith, are.1, length-append bytes w), more_ends e ends are.2 last)

last_of_more : (start : ℕ) (ends : List ℕ) (e : ℕ) → last_pattern_end start (ends ++ e ∷ []) ≡ e
last_of_more start [] e = refl
last_of_more start (d ∷ ends) e = last_of_more d ends e

module _ (p : Arrays) (w : List ℕ) (v : ℕ) (are : AreWhole p) where
  pub entries-more : entries (one_more p w v) ≡ entries p ++ (w, v) ∷ []
  entries-more = more_entries p.bytes w v 0 p.ends p.values are.right.in_order are.right.one_each are.whole

  pub whole-more : AreWhole (one_more p w v)
  whole-more = record {
    right = record {
      in_order = more_ends p.bytes w 0 p.ends are.right.in_order are.whole;
      one_each = omega (arith, length_push p.ends (length (p.bytes ++ w)), length_push p.values v, are.right.one_each);
    };
    whole = last_of_more 0 p.ends (length (p.bytes ++ w));
  }

module _ (p : Arrays) (w : List ℕ) (v : ℕ) where
  pub one-wider : length (one_more p w v).bytes ≡ length p.bytes + length w
  one-wider = length-append p.bytes w

  pub one-longer : length (one_more p w v).ends ≡ length p.ends + 1
  one-longer = length_push p.ends (length (p.bytes ++ w))

-- ---- patterns as texts

pub texts_of_more : (unit : Unit) (rs : List (List ℕ × ℕ)) (r : List ℕ × ℕ) → texts_in unit (rs ++ r ∷ []) ≡ texts_in unit rs ++ (units_in unit r.0, r.1) ∷ []
texts_of_more Byte rs r = refl
texts_of_more Character rs r = map-append (λ (x : List ℕ × ℕ). (chars x.0, x.1)) rs (r ∷ [])

-- ---- what is kept

-- of no patterns nothing is kept
pub kept_none : (l : Listing) (room : Room) → arrays_of l ≡ arrays [] [] [] → IsKeptWithin l room
kept_none l room none =
    let bytes = ap (λ (p : Arrays). length p.bytes) none in
    let ends = ap (λ (p : Arrays). length p.ends) none in
    let values = ap (λ (p : Arrays). length p.values) none in
    record {
      counted_bytes = omega (arith, bytes);
      counted_ends = omega (arith, ends);
      counted_values = omega (arith, values);
      bytes = omega (arith, bytes);
      ends = omega (arith, ends);
      values = omega (arith, values);
    }
