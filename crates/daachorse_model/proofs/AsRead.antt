-- What the laws say of all texts they say of texts as they are read: folding keeps cuts, and the UTF-8 of a folded text is that of the text, folded.
use Rattle.std.proofs.Common.{◌≡◌, ℕ, Bool, true, false, List, [], ◌∷◌, ◌++◌, length, take, drop, refl, sym, ap, ◌∙◌, subst, take-append-drop, inl, inr}
use Rattle.std.specs.Prelude.{All, Contains, encode_utf8_all}
use Rattle.std.proofs.lemmas.List.{take_at, drop_at}
use Rattle.std.proofs.lemmas.List.Elements.{All-nil, All-cons, All-tail, All-map, All-weaker, All-contains, All-contains_itself, All-head, Contains-append_right}
use Rattle.std.proofs.lemmas.Slice.Eq.{bytes_eq-Decides}
use Rattle.std.specs.List.{list_any}
use Rattle.daachorse_model.specs.declared.Match.{Match}
use Rattle.daachorse_model.specs.declared.MatchKind.{MatchKind}
use Rattle.daachorse_model.specs.declared.MatchKind.TheVariants.{Standard, LeftmostLongest, LeftmostFirst}
use Rattle.daachorse_model.specs.Units.{same_text}
use Rattle.daachorse_model.specs.Folding.{folded, as_read, texts_as_read}
use Rattle.daachorse_model.specs.Dictionary.{Dictionary, is_proper_prefix, without_extensions, kept_registrations, values_of, in_bytes, dictionary}
use Rattle.daachorse_model.specs.Laws.{IsOccurrence, IsReadOccurrence, IsRegistered}
use Rattle.daachorse_model.proofs.Booleans.{either}
use Rattle.daachorse_model.proofs.FoldLaws.{folded-cut, encodes-folded}

-- where a text is cut as it is read, so is the text
as_read-cut : (folds : Bool) (w front back : List ℕ) → as_read folds w ≡ front ++ back
    → (as_read folds (take (length front) w) ≡ front) × (as_read folds (drop (length front) w) ≡ back)
as_read-cut true w front back parts = folded-cut w front back parts
as_read-cut false w front back parts =
    (ap (take (length front)) parts ∙ take_at front back (length front) refl, ap (drop (length front)) parts ∙ drop_at front back (length front) refl)

-- an occurrence in a text as it is read is a part of the text
pub all_read : {V : Type 0} (folds : Bool) (width : ℕ → ℕ) (K : Dictionary V) (h : List ℕ) (ms : List (Match V))
    → All (IsOccurrence width K (as_read folds h)) ms → All (IsReadOccurrence folds width K h) ms
all_read folds width K h ms all = All-weaker (IsOccurrence width K (as_read folds h)) (IsReadOccurrence folds width K h) read ms all
  where
    read : (m : Match _) → IsOccurrence width K (as_read folds h) m → IsReadOccurrence folds width K h m
    read m o =
        let first = as_read-cut folds h o.before (o.key ++ o.after) o.splits in
        let rest = drop (length o.before) h in
        record {
          occurs = o;
          before = take (length o.before) h;
          part = take (length o.key) rest;
          after = drop (length o.key) rest;
          splits = sym (take-append-drop (length o.before) h) ∙ ap (λ r. take (length o.before) h ++ r) (sym (take-append-drop (length o.key) rest));
          front = first.0;
          key = (as_read-cut folds rest o.key o.after first.1).0;
        }

module _ {V : Type 0} where
  first : (r : List ℕ × V) (rs : List (List ℕ × V)) → Contains (r ∷ rs) r
  first r rs = All-head (Contains (r ∷ rs)) r rs (All-contains_itself (r ∷ rs))

  later : (r : List ℕ × V) (rs : List (List ℕ × V)) (x : List ℕ × V) → Contains rs x → Contains (r ∷ rs) x
  later r rs x has = Contains-append_right (r ∷ []) rs x has

  -- the values of a text are those of its registrations
  values_given : (rs : List (List ℕ × V)) (w : List ℕ) → All (λ v. Contains rs (w, v)) (values_of rs w)
  values_given [] w = All-nil (λ v. Contains [] (w, v))
  values_given (r ∷ rs) w =
      let rest : All (λ v. Contains (r ∷ rs) (w, v)) (values_of rs w) =
      All-weaker (λ v. Contains rs (w, v)) (λ v. Contains (r ∷ rs) (w, v)) (λ v. later r rs (w, v)) (values_of rs w) (values_given rs w) in
      elim (either (same_text r.0 w)) [
        | inl same ↦
            let is : r.0 ≡ w = (bytes_eq-Decides r.0 w).0 same in
            rw same (All-cons (λ v. Contains (r ∷ rs) (w, v)) r.1 (values_of rs w) (subst (λ t. Contains (r ∷ rs) (t, r.1)) is (first r rs)) rest)
        | inr other ↦ rw other rest
      ]

  without_extensions-all : (P : List ℕ × V → Type 0) (before : List (List ℕ)) (rs : List (List ℕ × V)) → All P rs → All P (without_extensions before rs)
  without_extensions-all P before [] all = all
  without_extensions-all P before (r ∷ rs) all =
      let rest = without_extensions-all P (r.0 ∷ before) rs (All-tail P r rs all) in
      elim (either (list_any (λ p. is_proper_prefix p r.0) before)) [
        | inl drops ↦ rw drops rest
        | inr stays ↦ rw stays (All-cons P r (without_extensions (r.0 ∷ before) rs) (All-head P r rs all) rest)
      ]

  -- what is kept was registered
  kept_given : (kind : MatchKind) (rs : List (List ℕ × V)) → All (Contains rs) (kept_registrations kind rs)
  kept_given Standard rs = All-contains_itself rs
  kept_given LeftmostLongest rs = All-contains_itself rs
  kept_given LeftmostFirst rs = without_extensions-all (Contains rs) [] rs (All-contains_itself rs)

  -- what is read was given
  read_given : (folds : Bool) (rs : List (List ℕ × V)) → All (λ r. IsRegistered folds rs r.0 r.1) (texts_as_read folds rs)
  read_given true rs =
      All-map (λ r. IsRegistered true rs r.0 r.1) (λ r. (folded r.0, r.1)) rs
      (All-weaker (Contains rs) (λ r. IsRegistered true rs (folded r.0) r.1) (λ r has. record { text = r.0; reads = refl; given = has }) rs (All-contains_itself rs))
  read_given false rs =
      All-weaker (Contains rs) (λ r. IsRegistered false rs r.0 r.1) (λ r has. record { text = r.0; reads = refl; given = has }) rs (All-contains_itself rs)

  pub values_registered : (folds : Bool) (kind : MatchKind) (rs : List (List ℕ × V)) (w : List ℕ)
      → All (IsRegistered folds rs w) (dictionary kind (texts_as_read folds rs) w)
  values_registered folds kind rs w =
      let read = texts_as_read folds rs in
      let kept = kept_registrations kind read in
      All-weaker (λ v. Contains kept (w, v)) (IsRegistered folds rs w)
      (λ v has. All-contains (λ r. IsRegistered folds rs r.0 r.1) read (w, v) (read_given folds rs) (All-contains (Contains read) kept (w, v) (kept_given kind read) has))
      (values_of kept w) (values_given kept w)

  texts_as_read-in_bytes : (folds : Bool) (rs : List (List ℕ × V)) → texts_as_read folds (in_bytes rs) ≡ in_bytes (texts_as_read folds rs)
  texts_as_read-in_bytes true [] = refl
  texts_as_read-in_bytes true (r ∷ rs) =
      ap (λ w. (w, r.1) ∷ texts_as_read true (in_bytes rs)) (sym (encodes-folded r.0))
      ∙ ap (λ l. (encode_utf8_all (folded r.0), r.1) ∷ l) (texts_as_read-in_bytes true rs)
  texts_as_read-in_bytes false rs = refl

as_read-encodes : (folds : Bool) (h : List ℕ) → as_read folds (encode_utf8_all h) ≡ encode_utf8_all (as_read folds h)
as_read-encodes true h = sym (encodes-folded h)
as_read-encodes false h = refl

-- two searches that agree on all texts, over bytes and over characters, agree on texts as they are read
pub read_texts_same : {V : Type 0} (by_bytes by_chars : Dictionary V → List ℕ → List (Match V)) (kind : MatchKind)
    → ((rs : List (List ℕ × V)) (h : List ℕ) → dictionary kind rs [] ≡ [] → by_bytes (dictionary kind (in_bytes rs)) (encode_utf8_all h) ≡ by_chars (dictionary kind rs) h)
    → (folds : Bool) (rs : List (List ℕ × V)) (h : List ℕ) → dictionary kind (texts_as_read folds rs) [] ≡ []
    → by_bytes (dictionary kind (texts_as_read folds (in_bytes rs))) (as_read folds (encode_utf8_all h)) ≡ by_chars (dictionary kind (texts_as_read folds rs)) (as_read folds h)
read_texts_same by_bytes by_chars kind same folds rs h no_empty =
    ap (λ l. by_bytes (dictionary kind l) (as_read folds (encode_utf8_all h))) (texts_as_read-in_bytes folds rs)
    ∙ ap (by_bytes (dictionary kind (in_bytes (texts_as_read folds rs)))) (as_read-encodes folds h)
    ∙ same (texts_as_read folds rs) (as_read folds h) no_empty
