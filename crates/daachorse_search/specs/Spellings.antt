-- Bytes that spell the beginning of a character, or of none.
use Rattle.std.specs.Prelude.{◌≡◌, ◌≢◌, ℕ, ◌<◌, ◌≤◌, List, ◌++◌, slice_get, IsSomeAnd}
use Rattle.std.specs.Char.{IsScalar, encode_utf8}

-- no character has just these bytes
abbrev pub SpellNone : List ℕ → Type 0
SpellNone bytes = (c : ℕ) → IsScalar c → encode_utf8 c ≢ bytes

-- no character begins with these bytes
abbrev pub BeginNone : List ℕ → Type 0
BeginNone bytes = (rest : List ℕ) → SpellNone (bytes ++ rest)

-- each character that begins with these bytes goes on with a byte inside it
abbrev pub NeedsMore : List ℕ → Type 0
NeedsMore bytes =
    (rest : List ℕ) (c : ℕ) → IsScalar c → encode_utf8 c ≡ bytes ++ rest → IsSomeAnd (slice_get rest 0) (λ b. (128 ≤ b) × (b < 192))

-- each character that begins with these bytes has this code, which is not less than `least`
abbrev pub HasCode : List ℕ → ℕ → ℕ → Type 0
HasCode bytes code least = (rest : List ℕ) (c : ℕ) → IsScalar c → encode_utf8 c ≡ bytes ++ rest → (c ≡ code) × (least ≤ c)
