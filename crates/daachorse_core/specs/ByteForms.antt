-- A byte as a label: its form is the byte itself.
use Rattle.std.specs.Prelude.{ℕ, ◌<◌, ◌≤◌, ◌^◌, ◌≡◌, List, [], ◌∷◌, ◌++◌, length}
use Rattle.std.specs.Ordering.{nat_cmp, ordering_then}
use Rattle.std.specs.Cmp.Lexicographic.{slice_cmp}
use Rattle.std.proofs.Common.{arith, refl}
use Rattle.std.specs.declared.cmp.Ordering.{Ordering}
use Rattle.std.specs.declared.cmp.Ordering.TheVariants.{Less, Equal, Greater}
use Rattle.daachorse_model.specs.Units.{byte_width}

pub byte_exact : (a b : ℕ) → a ≡ b → a ≡ b
byte_exact a b e = e

pub byte_by_unit : (a b : ℕ) → nat_cmp a b ≡ nat_cmp a b
byte_by_unit a b = refl

pub byte_wide : (u : ℕ) → 1 ≤ byte_width u
byte_wide u = omega arith

pub byte_sized : (a : ℕ) → a < 2 ^ 8 → length (a ∷ []) ≡ byte_width a
byte_sized a h = refl

pub byte_short : (a : ℕ) → a < 2 ^ 8 → (1 ≤ byte_width a) × (byte_width a ≤ 4)
byte_short a h = (omega arith, omega arith)

pub byte_apart : (a b : ℕ) (x y : List ℕ) → a < 2 ^ 8 → b < 2 ^ 8 → (a ∷ []) ++ x ≡ (b ∷ []) ++ y → a ≡ b
byte_apart a b x y ha hb e = cc

then_equal : (o : Ordering) → o ≡ ordering_then o Equal
then_equal Less = refl
then_equal Equal = refl
then_equal Greater = refl

pub byte_ordered : (a b : ℕ) → a < 2 ^ 8 → b < 2 ^ 8 → nat_cmp a b ≡ slice_cmp nat_cmp (a ∷ []) (b ∷ [])
byte_ordered a b ha hb = then_equal (nat_cmp a b)
