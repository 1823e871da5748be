-- A byte after the bytes of a partial character.
use Rattle.std.proofs.Common.{◌≡◌, ◌≢◌, ℕ, ◌<◌, ◌≤◌, inl, inr, List, [], ◌∷◌, ◌++◌, None, Option, drop, take, length, sym, ap, ◌∙◌, subst, length-append, arith}
use Rattle.std.proofs.lemmas.Bool.{cases_lt}
use Rattle.std.proofs.lemmas.List.{take-append-le}
use Rattle.std.proofs.lemmas.Str.{IsCharBoundary-at_seam, IsUtf8-past_char, IsUtf8-take, len_utf8_bounds, length-encode}
use Rattle.std.proofs.Math.Utf8.{encode}
use Rattle.std.specs.Str.{IsErrorLen, IsUtf8, IsValidUpTo}
use Rattle.std.specs.Str.Lossy.{utf8_error_len}
use Rattle.daachorse_c.specs.Units.{IsOpenCharacter}

module _ (partial : List ℕ) (byte : ℕ) (has_begun : IsOpenCharacter partial) where
  abbrev pub pushed : List ℕ
  pushed = partial ++ byte ∷ []

  -- no beginning is text
  no_front : (n : ℕ) → 0 < n → n ≤ length partial → ¬ IsUtf8 (take n pushed)
  no_front n some le text = has_begun.none n some le (subst IsUtf8 (take-append-le n partial (byte ∷ []) le) text)

  pub whole : (c : ℕ) (rest : List ℕ) → IsUtf8 pushed → pushed ≡ encode c ++ rest → pushed ≡ encode c ++ []
  whole c [] text is = is
  whole c (r ∷ rest) text is =
      let long = ap length is ∙ length-append (encode c) (r ∷ rest) in
      let at = IsCharBoundary-at_seam pushed (encode c) (r ∷ rest) is (IsUtf8-past_char pushed (r ∷ rest) c text is) in
      absurd (no_front (length (encode c)) (omega (arith, length-encode c, (len_utf8_bounds c).0)) (omega (arith, long, length-append partial (byte ∷ []))) (IsUtf8-take pushed (length (encode c)) text at))

  -- the first byte is at fault
  pub from_none : (n : ℕ) → IsValidUpTo pushed n → n ≡ 0
  from_none n valid = elim (cases_lt 0 n) [
    | inl some ↦ absurd (no_front n some (omega (arith, valid.short, length-append partial (byte ∷ []))) valid.front)
    | inr none ↦ omega (arith, none)
  ]

  pub still_open : (n : ℕ) (len : Option ℕ) → IsValidUpTo pushed n → IsErrorLen pushed n len → len ≡ utf8_error_len (drop n pushed) → len ≡ None → IsOpenCharacter pushed
  still_open n len valid at fault none =
      let start = from_none n valid in record {
        short = omega (arith, start, subst (IsErrorLen pushed n) none at);
        none = λ m some le text. valid.longest m (omega (arith, start, some)) text;
        more = ap (λ k. utf8_error_len (drop k pushed)) (sym start) ∙ sym fault ∙ none;
      }

  pub wrong : (n : ℕ) (len : Option ℕ) → IsValidUpTo pushed n → len ≡ utf8_error_len (drop n pushed) → len ≢ None → utf8_error_len pushed ≢ None
  wrong n len valid fault some none = some (fault ∙ ap (λ k. utf8_error_len (drop k pushed)) (from_none n valid) ∙ none)
