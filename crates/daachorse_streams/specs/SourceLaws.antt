-- What the sources of bytes and characters give are bytes that their reader had.
use Rattle.std.proofs.Common.{◌≡◌, ℕ, inl, inr, List, [], ◌∷◌, ◌++◌, Option, None, refl, sym, ap, ◌∙◌, subst}
use Rattle.std.proofs.lemmas.Bool.{false≢true}
use Rattle.std.proofs.lemmas.List.{map-id}
use Rattle.std.proofs.lemmas.List.Elements.{All-cons, All-nil}
use Rattle.std.specs.Prelude.{All, IsSome, ⊤, flat_map, map}
use Rattle.std.specs.Char.{IsScalar, encode_utf8}
use Rattle.std.specs.Io.KnownBytes.{Consumes, IsAtEnd}
use Rattle.std.specs.Iterator.{Yields}
use Rattle.std.specs.Str.{encode_utf8_all}
use Rattle.std.proofs.KnownBytes.{Consumes-nil, Consumes-trans}
use Rattle.daachorse_search.specs.Readers.{GivesByte, GivesCharacter, Reading, to_give}

pub bytes_are : (units : List ℕ) → flat_map (λ b. b ∷ []) units ≡ units
bytes_are [] = refl
bytes_are (b ∷ units) = ap (λ l. b ∷ l) (bytes_are units)

pub characters_are : (units : List ℕ) → flat_map encode_utf8 units ≡ encode_utf8_all units
characters_are [] = refl
characters_are (c ∷ units) = ap (λ l. encode_utf8 c ++ l) (characters_are units)

pub bytes_spell : (units : List ℕ) → flat_map (λ b. b ∷ []) units ≡ map (λ b. b) units
bytes_spell units = bytes_are units ∙ sym (map-id units)

pub characters_spell : (units : List ℕ) → flat_map encode_utf8 units ≡ encode_utf8_all (map (λ c. c) units)
characters_spell units = characters_are units ∙ ap encode_utf8_all (sym (map-id units))

module _ {R : Type 0} (known : R → Option (List ℕ)) where
  byte_taken : (s : Reading R) (bytes : List ℕ) (t : Reading R) → Yields (GivesByte known) s bytes t → Consumes (to_give known s) (to_give known t) bytes
  byte_taken s [] t same = subst (λ (x : Reading R). Consumes (to_give known s) (to_give known x) []) same (Consumes-nil (to_give known s))
  byte_taken s (b ∷ bytes) t (j, gave, run) =
      Consumes-trans (to_give known s) (to_give known j) (to_give known t) (b ∷ []) bytes gave.0 (byte_taken j bytes t run)

  any : (units : List ℕ) → All (λ b. ⊤) units
  any units = λ k d inside. tt

  pub bytes_taken : (s : Reading R) (units : List ℕ) (t : Reading R) → Yields (GivesByte known) s units t
      → All (λ b. ⊤) (map (λ b. b) units) × Consumes (to_give known s) (to_give known t) (map (λ b. b) units)
  bytes_taken s units t run =
      (any (map (λ b. b) units), subst (λ us. Consumes (to_give known s) (to_give known t) us) (sym (map-id units)) (byte_taken s units t run))

  pub bytes_end : (s t : Reading R) → GivesByte known s None t → t.failure ≡ None → IsAtEnd (to_give known s)
  bytes_end s t gave whole = gave.3 whole

  spelled_taken : (s : Reading R) (units : List ℕ) (t : Reading R) → Yields (GivesCharacter known) s units t
      → All IsScalar units × Consumes (to_give known s) (to_give known t) (encode_utf8_all units)
  spelled_taken s [] t same =
      (All-nil IsScalar, subst (λ (x : Reading R). Consumes (to_give known s) (to_give known x) []) same (Consumes-nil (to_give known s)))
  spelled_taken s (c ∷ units) t (j, gave, run) =
      let later = spelled_taken j units t run in (
        All-cons IsScalar c units gave.0 later.0,
        Consumes-trans (to_give known s) (to_give known j) (to_give known t) (encode_utf8 c) (encode_utf8_all units)
            (byte_taken s (encode_utf8 c) j gave.1) later.1,
      )

  pub characters_taken : (s : Reading R) (units : List ℕ) (t : Reading R) → Yields (GivesCharacter known) s units t
      → All IsScalar (map (λ c. c) units) × Consumes (to_give known s) (to_give known t) (encode_utf8_all (map (λ c. c) units))
  characters_taken s units t run =
      subst (λ us. All IsScalar us × Consumes (to_give known s) (to_give known t) (encode_utf8_all us)) (sym (map-id units)) (spelled_taken s units t run)

  pub characters_end : (s t : Reading R) → GivesCharacter known s None t → t.failure ≡ None → IsAtEnd (to_give known s)
  characters_end s t (inl gave) whole = gave.3 whole
  characters_end s t (inr fails) whole = absurd (false≢true (subst IsSome whole fails.failed))
