-- The first ten characters of a text have the first ten bytes of its UTF-8, so that a bucket needs no more of it.
use Rattle.std.proofs.Common.{◌≡◌, ℕ, ◌<◌, ◌≤◌, ◌⊎◌, inl, inr, Bool, true, false, cond, List, [], ◌∷◌, ◌++◌, length, take, drop, sym, ap, ◌∙◌, arith}
use Rattle.std.proofs.Common.{length-append}
use Rattle.std.specs.Prelude.{◌+◌, ◌/◌, ltb}
use Rattle.std.specs.Str.{encode_utf8_all}
use lib.Utf8.{next}
use Rattle.std.specs.Char.{encode_utf8}
use Rattle.std.proofs.lemmas.Bool.{cases_lt}
use Rattle.std.proofs.lemmas.List.{length-take, take-append-drop, take_all}
use Rattle.std.proofs.lemmas.Str.{encodes-append}
use Rattle.daachorse_patterns.proofs.TextBuckets.{opens-first}
use Rattle.daachorse_prefilter.specs.Buckets.{opens}

-- a character has a byte
encode-some : (c : ℕ) → 0 < length (encode_utf8 c)
unfolding encode_utf8
encode-some c = by (ltb c 128) (ltb c 2048) (ltb c 65536)
  where
    by : (a b d : Bool) → 0 < length (cond a (c ∷ []) (cond b ((192 + c / 64) ∷ next c ∷ [])
        (cond d ((224 + c / 4096) ∷ next (c / 64) ∷ next c ∷ []) ((240 + c / 262144) ∷ next (c / 4096) ∷ next (c / 64) ∷ next c ∷ []))))
    by true b d = omega arith
    by false true d = omega arith
    by false false true = omega arith
    by false false false = omega arith

-- so a text has as many bytes as characters, or more
encodes-long : (w : List ℕ) → length w ≤ length (encode_utf8_all w)
encodes-long [] = omega arith
encodes-long (c ∷ w) = omega (arith, length-append (encode_utf8 c) (encode_utf8_all w), encode-some c, encodes-long w)

-- the first ten characters open what the text does
pub opens-ten : (w : List ℕ) (bucket y i : ℕ) → opens (encode_utf8_all (take 10 w)) bucket 8 y i ≡ opens (encode_utf8_all w) bucket 8 y i
opens-ten w bucket y i = elim (cases_lt (length w) 10) [
  | inl short ↦ ap (λ v. opens (encode_utf8_all v) bucket 8 y i) (take_all 10 w (omega (arith, short)))
  | inr long ↦ (
      let ten : length (take 10 w) ≡ 10 = omega (arith, long, length-take 10 w) in
      let many : 10 ≤ length (encode_utf8_all (take 10 w)) = omega (arith, ten, encodes-long (take 10 w)) in
      let joined : encode_utf8_all w ≡ encode_utf8_all (take 10 w) ++ encode_utf8_all (drop 10 w) =
      ap encode_utf8_all (sym (take-append-drop 10 w)) ∙ encodes-append (take 10 w) (drop 10 w) in
      sym (opens-first (encode_utf8_all (take 10 w)) (encode_utf8_all (drop 10 w)) bucket y i many) ∙ ap (λ bs. opens bs bucket 8 y i) (sym joined))
]
