-- What is held of a file that is read piece by piece.
use Rattle.std.specs.Prelude.{◌≡◌, ◌==◌, ℕ, List, ◌++◌, Option, count_by, length}
use Rattle.std.specs.Io.KnownBytes.{Consumes, IsAtEnd}

-- bytes, the place where they begin, and the byte that ends lines
pub record Held : Type 0 where
  pub start : ℕ
  pub bytes : List ℕ
  pub mark : ℕ

-- no byte ends a line, so no line is complete
abbrev pub HasNone : ℕ → List ℕ → Type 0
HasNone mark bytes = count_by (λ b. b == mark) bytes ≡ 0

-- n bytes more are held, which were read: none only at the end
pub record IsReadOn (left_old left_new : Option (List ℕ)) (old new : List ℕ) (n : ℕ) : Type 0 where
  pub read : List ℕ
  pub consumed : Consumes left_old left_new read
  pub held : new ≡ old ++ read
  pub count : length read ≡ n
  pub end : n ≡ 0 → IsAtEnd left_new
