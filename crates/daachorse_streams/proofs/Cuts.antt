-- The matches of a search by kind follow one another, where the haystack may be cut: bytes anywhere, a text behind any of its characters.
-- So they do in a haystack that is read folded, whose cuts are those of the haystack.
use Rattle.std.proofs.Common.{
  ◌≡◌,
  ℕ,
  Bool,
  suc,
  ◌+◌,
  ◌≤◌,
  true,
  false,
  List,
  [],
  ◌∷◌,
  ◌++◌,
  length,
  refl,
  sym,
  ap,
  ◌∙◌,
  subst,
  append_assoc,
  length-append,
  arith,
}
use Rattle.std.specs.List.{All}
use Rattle.std.specs.Str.{chars, IsUtf8, IsCharBoundary}
use Rattle.daachorse_model.specs.declared.Match.{Match}
use Rattle.daachorse_model.specs.declared.MatchKind.{MatchKind}
use Rattle.daachorse_model.specs.declared.MatchKind.TheVariants.{Standard, LeftmostLongest, LeftmostFirst}
use Rattle.daachorse_model.specs.Dictionary.{Dictionary}
use Rattle.daachorse_model.specs.Folding.{as_read, folded}
use Rattle.daachorse_model.specs.Laws.{Follows, IsOccurrence}
use Rattle.daachorse_model.specs.Units.{byte_width, char_width, size}
use Rattle.daachorse_model.proofs.Find.{standard_apart}
use Rattle.daachorse_model.proofs.FoldLaws.{chars-folded, IsCharBoundary-folded, IsUtf8-folded, length-as_read}
use Rattle.daachorse_model.proofs.Overlap.{leftmost_apart}
use Rattle.daachorse_model.proofs.SameOnText.{cut_at}
use Rattle.daachorse_model.proofs.Suffixes.{size-append, size-bytes}
use Rattle.daachorse_streams.specs.ByKind.{non_overlapping}
use Rattle.daachorse_streams.specs.Replaced.{AreParts}
use Rattle.daachorse_streams.proofs.FirstMatches.{by_kind_occur}

module _ {V : Type 0} where
  -- a match starts and ends where the haystack may be cut
  abbrev pub IsCut : (ℕ → Type 0) → Match V → Type 0
  IsCut may_cut m = may_cut m.start × may_cut m.end

  -- there the parts begin
  pub parts_here : (may_cut : ℕ → Type 0) (s : ℕ) (ms : List (Match V)) → AreParts may_cut s ms → may_cut s
  parts_here may_cut s [] h = h
  parts_here may_cut s (m ∷ ms) h = h.0

  parts_from : (may_cut : ℕ → Type 0) (s : ℕ) (ms : List (Match V)) → may_cut s → All (IsCut may_cut) ms → Follows s ms
      → AreParts may_cut s ms
  parts_from may_cut s [] here all follow = here
  parts_from may_cut s (m ∷ ms) here all follow =
      let cut = all 0 m (omega arith) in
      (here, follow.0, cut.0, follow.1, parts_from may_cut m.end ms cut.1 (λ k d lt. all (suc k) d (omega arith)) follow.2)

  module _ (width : ℕ → ℕ) (K : Dictionary V) where
    by_kind_apart : (kind : MatchKind) (h : List ℕ) → Follows 0 (non_overlapping kind width K h)
    by_kind_apart Standard h = standard_apart width K h
    by_kind_apart LeftmostLongest h = leftmost_apart width K h
    by_kind_apart LeftmostFirst h = leftmost_apart width K h

    module _ (may_cut : ℕ → Type 0) (h : List ℕ) (cuts : (front back : List ℕ) → h ≡ front ++ back → may_cut (size width front)) where
      occurrence_cut : (m : Match V) → IsOccurrence width K h m → IsCut may_cut m
      occurrence_cut m o = (
        subst may_cut (sym o.starts) (cuts o.before (o.key ++ o.after) o.splits),
        subst may_cut (size-append width o.before o.key ∙ sym o.ends)
            (cuts (o.before ++ o.key) o.after (o.splits ∙ sym (append_assoc o.before o.key o.after))),
      )

      -- the matches of a search by kind are parts of a haystack that may be cut behind any of its units
      pub parts_of : (kind : MatchKind) (ms : List (Match V)) → ms ≡ non_overlapping kind width K h → AreParts may_cut 0 ms
      parts_of kind ms is =
          subst (λ (l : List (Match V)). AreParts may_cut 0 l) (sym is)
          (parts_from may_cut 0 (non_overlapping kind width K h) (cuts [] h refl)
          (λ k d lt. occurrence_cut _ (by_kind_occur width K kind h k d lt)) (by_kind_apart kind h))

-- bytes may be cut anywhere
pub bytes_cut : (folds : Bool) (text front back : List ℕ) → as_read folds text ≡ front ++ back → size byte_width front ≤ length text
bytes_cut folds text front back splits =
    let whole = sym (length-as_read folds text) ∙ ap length splits ∙ length-append front back in
    omega (arith, size-bytes front, whole)

-- a text may be cut behind any of its characters, also where it is read folded
pub text_cut : (folds : Bool) (text : List ℕ) → IsUtf8 text → (front back : List ℕ) → as_read folds (chars text) ≡ front ++ back
    → IsCharBoundary text (size char_width front)
text_cut true text utf8 front back splits =
    (IsCharBoundary-folded text (size char_width front)).0
    (cut_at (folded text) front back (IsUtf8-folded text utf8) (chars-folded text utf8 ∙ splits))
text_cut false text utf8 front back splits = cut_at text front back utf8 splits
