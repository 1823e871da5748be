-- The first place that passes in what is still to come is where a search goes on, in bytes and in characters.
use Rattle.std.proofs.Common.{◌≡◌, ℕ, ◌+◌, ◌-◌, ◌<◌, ◌≤◌, inl, inr, true, false, Bool, List, [], ◌∷◌, ◌++◌, length, take, drop, Option, Some, None, refl, sym, ap, ◌∙◌, subst, length-append, length-drop, take-append-drop, arith}
use Rattle.std.proofs.lemmas.Bool.{cases_lt, false≢true}
use Rattle.std.proofs.lemmas.List.{drop_at, drop_all, length-take-le, nil_from_length}
use Rattle.std.proofs.lemmas.Str.{chars-nil, chars-append, encodes-chars, IsUtf8-take, IsUtf8-drop}
use Rattle.std.proofs.Math.Utf8.{encodes}
use Rattle.std.specs.Option.{is_some}
use Rattle.std.specs.Prelude.{IsSome, option_map}
use Rattle.std.specs.Str.{chars, IsUtf8, IsCharBoundary}
use Rattle.daachorse_core.specs.CharForms.{char_wide}
use Rattle.daachorse_model.specs.Folding.{as_read}
use Rattle.daachorse_model.specs.Units.{size, byte_width, char_width}
use Rattle.daachorse_model.proofs.FoldLaws.{IsUtf8-folded, chars-folded}
use Rattle.daachorse_model.proofs.Occurrences.{split_after}
use Rattle.daachorse_model.proofs.Suffixes.{size-append, size-bytes}
use Rattle.daachorse_prefilter.specs.Filters.{Filter}
use Rattle.daachorse_prefilter.specs.Gates.{HasRecorded}
use Rattle.daachorse_prefilter.specs.declared.prefilter.gate.PrefilterGate.{PrefilterGate}
use Rattle.daachorse_haystack.specs.Filters.{IsNextPassing}
use Rattle.daachorse_prefilter.specs.Asked.{run_of}
use Rattle.daachorse_prefilter.specs.Places.{IsFirstBoundary, IsFirstPlace}
use Rattle.daachorse_haystack.proofs.TextLaws.{seam, size-chars}

dropped : (h a b : List ℕ) → h ≡ a ++ b → drop (length a) h ≡ b
dropped h a b parts = ap (drop (length a)) parts ∙ drop_at a b (length a) refl

-- a text that is folded is one too, and its characters are folded
pub IsUtf8-as_read : (folds : Bool) (bs : List ℕ) → IsUtf8 bs → IsUtf8 (as_read folds bs)
IsUtf8-as_read true bs u = IsUtf8-folded bs u
IsUtf8-as_read false bs u = u

pub chars-as_read : (folds : Bool) (bs : List ℕ) → IsUtf8 bs → chars (as_read folds bs) ≡ as_read folds (chars bs)
chars-as_read true bs u = chars-folded bs u
chars-as_read false bs u = refl

-- where a text is cut at a boundary, its characters are
pub chars_cut : (bs : List ℕ) (r : ℕ) → IsUtf8 bs → IsCharBoundary bs r → chars bs ≡ chars (take r bs) ++ chars (drop r bs)
chars_cut bs r u boundary = ap chars (sym (take-append-drop r bs)) ∙ chars-append (take r bs) (drop r bs) (IsUtf8-take bs r u boundary)

pub chars_sized : (bs : List ℕ) (r : ℕ) → IsUtf8 bs → IsCharBoundary bs r → r ≡ size char_width (chars (take r bs))
chars_sized bs r u boundary = omega (arith, size-chars (take r bs) (IsUtf8-take bs r u boundary), length-take-le r bs boundary.0)

pub still_some : {A B : Type 0} (f : A → B) (o : Option A) → IsSome o → IsSome (option_map f o)
still_some f None h = absurd (false≢true h)
still_some f (Some x) h = refl

-- a gain that is the size of what was passed over is recorded as the run that skipped it
pub recorded_skip : (width : ℕ → ℕ) (gate : PrefilterGate) (filter : Option Filter) (f : Filter) (front units later gains : List ℕ) (gain : ℕ) → filter ≡ Some f → units ≡ front ++ later → gain ≡ size width front → HasRecorded gate (gains ++ gain ∷ []) → HasRecorded gate (gains ++ run_of filter (size width units - size width later))
recorded_skip width gate filter f front units later gains gain shown parts sized recorded =
    let n : ℕ = size width units - size width later in
    let same : gain ≡ n = omega (arith, sized, ap (size width) parts, size-append width front later) in
    let run : gain ∷ [] ≡ run_of filter n = ap (λ k. k ∷ []) same ∙ ap (λ o. run_of o n) (sym shown) in
    let P : List ℕ → Type 0 = λ runs. HasRecorded gate (gains ++ runs) in
    subst P run recorded

pub bytes_sized : (h : List ℕ) (r : ℕ) → r ≤ length h → r ≡ size byte_width (take r h)
bytes_sized h r inside = omega (arith, size-bytes (take r h), length-take-le r h inside)

module _ (passes : List ℕ → Bool) where
  pub skipped_bytes : (h later : List ℕ) (r : ℕ) → IsFirstPlace passes h 0 r → later ≡ drop r h → IsNextPassing passes h later
  skipped_bytes h later r next rest =
      let P : List ℕ → Type 0 = λ w. passes w ≡ false in
      let Q : List ℕ → Type 0 = λ w. passes w ≡ true in
      let sized : length later + r ≡ length h = omega (arith, next.inside, ap length rest, length-drop r h) in
      record {
        front = take r h;
        parts = sym (take-append-drop r h) ∙ ap (λ w. take r h ++ w) (sym rest);
        none = λ a b parts less. subst P (dropped h a b parts) (next.first (length a) (omega arith) (omega (arith, less, sized, ap length parts, length-append a b)) tt);
        here = elim (cases_lt r (length h)) [
          | inl before ↦ inr (subst Q (sym rest) (next.found before).1)
          | inr past ↦ inl (nil_from_length later (omega (arith, sized, past)))
        ];
      }

  bytes_of : (bs : List ℕ) (n : ℕ) (w : List ℕ) → IsUtf8 (drop n bs) → chars (drop n bs) ≡ w → drop n bs ≡ encodes w
  bytes_of bs n w u is = sym (encodes-chars (drop n bs) u) ∙ ap encodes is

  no_units : (w : List ℕ) → size char_width w ≤ 0 → length w ≡ 0
  no_units [] none = refl
  no_units (u ∷ w) none = absurd (omega (arith, none, char_wide u))

  pub skipped_chars : (bs later : List ℕ) (r : ℕ) → IsUtf8 bs → IsFirstBoundary passes bs 0 r → later ≡ chars (drop r bs) → IsNextPassing (λ w. passes (encodes w)) (chars bs) later
  skipped_chars bs later r u next rest =
      let Q : List ℕ → Type 0 = λ w. passes w ≡ true in
      record {
        front = front;
        parts = cut;
        none = none;
        here = elim (cases_lt r (length bs)) [
          | inl before ↦ inr (subst Q (bytes_of bs r later behind (sym rest)) (next.found before).1)
          | inr past ↦ inl (rest ∙ (ap chars (drop_all r bs (omega (arith, past))) ∙ chars-nil))
        ];
      }
    where
      front : List ℕ
      front = chars (take r bs)

      behind : IsUtf8 (drop r bs)
      behind = IsUtf8-drop bs r u next.told

      cut : chars bs ≡ front ++ later
      cut = chars_cut bs r u next.told ∙ ap (λ w. front ++ w) (sym rest)

      sized : r ≡ size char_width front
      sized = chars_sized bs r u next.told

      -- a place with more to come stands before the one that is found
      before_found : (a b : List ℕ) → chars bs ≡ a ++ b → length later < length b → size char_width a < r
      before_found a b parts less =
          let shorter : length a < length front = omega (arith, less, ap length parts, ap length cut, length-append a b, length-append front later) in
          let d = split_after a b front later (sym parts ∙ cut) (omega (arith, shorter)) in
          elim (cases_lt (size char_width a) r) [
            | inl before ↦ before
            | inr past ↦ absurd (omega (arith, shorter, past, sized, ap (size char_width) d.1, size-append char_width a d.0, ap length d.1, length-append a d.0, no_units d.0 (omega (arith, past, sized, ap (size char_width) d.1, size-append char_width a d.0))))
          ]

      none : (a b : List ℕ) → chars bs ≡ a ++ b → length later < length b → passes (encodes b) ≡ false
      none a b parts less =
          let at : ℕ = size char_width a in
          let here = seam bs a b at u parts refl in
          let P : List ℕ → Type 0 = λ w. passes w ≡ false in
          subst P (bytes_of bs at b (IsUtf8-drop bs at u here.boundary) here.rest) (next.first at (omega arith) (before_found a b parts less) here.boundary)

-- nothing is there where what is seen of it is nothing
pub is_some-mapped : {A B : Type 0} (f : A → B) (o : Option A) → option_map f o ≡ None → is_some o ≡ false
is_some-mapped f None none = refl
is_some-mapped f (Some x) none = cc
