-- Each match of an overlapping search is an occurrence, and leftmost matches do not overlap.
use Rattle.std.proofs.Common.{◌≡◌, ℕ, ◌+◌, List, [], ◌∷◌, ◌++◌, refl, sym, ◌∙◌, arith}
use Rattle.std.specs.Prelude.{All, Contains}
use Rattle.std.proofs.lemmas.List.{append_assoc}
use Rattle.std.proofs.lemmas.List.Elements.{All-map, All-append, All-weaker, All-contains_itself}
use Rattle.daachorse_model.specs.Units.{size}
use Rattle.daachorse_model.specs.Dictionary.{Dictionary}
use Rattle.daachorse_model.specs.Matches.{matches_of, ending_at, matches_after, at_each_end, overlapping}
use Rattle.daachorse_model.specs.Laws.{IsOccurrence}
use Rattle.daachorse_model.proofs.Suffixes.{size-append}

module _ {V : Type 0} (width : ℕ → ℕ) (K : Dictionary V) (h : List ℕ) where
  pub matches_occur : (before w after : List ℕ) (s e : ℕ) → h ≡ before ++ (w ++ after) → s ≡ size width before → e ≡ size width before + size width w
      → All (IsOccurrence width K h) (matches_of K s e w)
  matches_occur before w after s e cut from to =
      All-map (IsOccurrence width K h) (λ v. record { start = s; end = e; value = v }) (K w)
      (All-weaker (Contains (K w)) (λ v. IsOccurrence width K h (record { start = s; end = e; value = v }))
      (λ v has. record { before = before; key = w; after = after; splits = cut; starts = from; ends = to; has = has })
      (K w) (All-contains_itself (K w)))

  pub ending_occur : (before w after : List ℕ) (s e : ℕ) → h ≡ before ++ (w ++ after) → s ≡ size width before → e ≡ size width before + size width w
      → All (IsOccurrence width K h) (ending_at width K s e w)
  ending_occur before [] after s e cut from to = matches_occur before [] after s e cut from to
  ending_occur before (u ∷ w) after s e cut from to =
      All-append (IsOccurrence width K h) (matches_of K s e (u ∷ w)) (ending_at width K (s + width u) e w)
      (matches_occur before (u ∷ w) after s e cut from to)
      (ending_occur (before ++ u ∷ []) w after (s + width u) e (cut ∙ sym (append_assoc before (u ∷ []) (w ++ after)))
      (omega (arith, size-append width before (u ∷ []))) (omega (arith, size-append width before (u ∷ []))))

  each_end_occur : (t w : List ℕ) → h ≡ t ++ w → All (IsOccurrence width K h) (at_each_end (matches_after width K) t w)
  each_end_occur t [] cut = ending_occur [] t [] 0 (size width t) cut refl (omega arith)
  each_end_occur t (u ∷ w) cut =
      All-append (IsOccurrence width K h) (matches_after width K t) (at_each_end (matches_after width K) (t ++ u ∷ []) w)
      (ending_occur [] t (u ∷ w) 0 (size width t) cut refl (omega arith))
      (each_end_occur (t ++ u ∷ []) w (cut ∙ sym (append_assoc t (u ∷ []) w)))

  pub overlapping_occur : All (IsOccurrence width K h) (overlapping width K h)
  overlapping_occur = each_end_occur [] h refl
