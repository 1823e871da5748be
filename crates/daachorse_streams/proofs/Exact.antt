-- Where the replacement's contract names the bytes of each match, it names what comes out.
use Rattle.std.proofs.Common.{◌≡◌, ℕ, List, [], ◌∷◌, ◌++◌, length, map, refl, sym, ap, ◌∙◌, subst, append_assoc, append-nil, arith}
use Rattle.std.specs.Prelude.{Option, slice_range}
use Rattle.daachorse_model.specs.declared.Match.{Match}
use Rattle.daachorse_streams.specs.Replaced.{
  AppendsBeginning,
  AreGiven,
  OfReplaced,
  OfReplacedSoFar,
  with_pieces_from,
  with_replacements,
  with_replacements_from,
}

-- what a replacement gives for a match and the part of the haystack that it is has the bytes that `with` says of the match
abbrev pub Replaces : {V P : Type 0} → (P → List ℕ) → List ℕ → (Match V → P → P → Type 0) → (Match V → List ℕ) → Type 0
Replaces bytes haystack gives with =
    (m : Match _) (part given : _) → bytes part ≡ slice_range haystack m.start m.end → gives m part given → bytes given ≡ with m

module _ {V P : Type 0} (bytes : P → List ℕ) (haystack : List ℕ) (gives : Match V → P → P → Type 0) (with : Match V → List ℕ)
    (exact : Replaces bytes haystack gives with) where
  -- the pieces are what `with` says, and a match without a piece is what is left
  from_pieces : (s : ℕ) (ms : List (Match V)) (given : List P) → AreGiven bytes haystack gives ms given
      → (rest : List ℕ) × (with_replacements_from with haystack s ms ≡ with_pieces_from haystack s ms (map bytes given) ++ rest)
  from_pieces s [] [] are = ([], sym (append-nil _))
  from_pieces s [] (p ∷ given) are = absurd are
  from_pieces s (m ∷ ms) [] are = (with m ++ with_replacements_from with haystack m.end ms, refl)
  from_pieces s (m ∷ ms) (p ∷ given) are =
      let later = from_pieces m.end ms given are.1 in
      let one : bytes p ≡ with m = exact m are.0.0 p are.0.1 are.0.2 in (
        later.0,
        ap (λ l. slice_range haystack s m.start ++ (l ++ with_replacements_from with haystack m.end ms)) (sym one)
            ∙ ap (λ l. slice_range haystack s m.start ++ (bytes p ++ l)) later.1 ∙ simp append_assoc refl,
      )

  all_pieces : (s : ℕ) (ms : List (Match V)) (given : List P) → AreGiven bytes haystack gives ms given → length given ≡ length ms
      → with_pieces_from haystack s ms (map bytes given) ≡ with_replacements_from with haystack s ms
  all_pieces s [] [] are n = refl
  all_pieces s [] (p ∷ given) are n = absurd are
  all_pieces s (m ∷ ms) [] are n = absurd (omega (arith, n))
  all_pieces s (m ∷ ms) (p ∷ given) are n =
      let one : bytes p ≡ with m = exact m are.0.0 p are.0.1 are.0.2 in
      ap (λ l. slice_range haystack s m.start ++ (l ++ with_pieces_from haystack m.end ms (map bytes given))) one
      ∙ ap (λ l. slice_range haystack s m.start ++ (with m ++ l)) (all_pieces m.end ms given are.1 (omega (arith, n)))

  -- what comes out is the haystack with each match replaced by what `with` says of it
  pub OfReplaced-exact : (ms : List (Match V)) (Q : List ℕ → Type 0) → OfReplaced bytes haystack gives ms Q
      → Q (with_replacements with haystack ms)
  OfReplaced-exact ms Q (given, are, n, q) = subst Q (all_pieces 0 ms given are n) q

  -- and where the output refuses, a beginning of that
  pub OfReplacedSoFar-exact : (ms : List (Match V)) (old new : Option (List ℕ))
      → OfReplacedSoFar bytes haystack gives ms (AppendsBeginning old new) → AppendsBeginning old new (with_replacements with haystack ms)
  OfReplacedSoFar-exact ms old new (given, are, (part, rest, is, went)) =
      let whole = from_pieces 0 ms given are in
      (part, rest ++ whole.0, whole.1 ∙ ap (λ l. l ++ whole.0) is ∙ append_assoc part rest whole.0, went)
