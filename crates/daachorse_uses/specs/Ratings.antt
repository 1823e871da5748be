-- The form of a rating: its weight as a number of 16 bits, and the byte of its level, from 1 to 3.
use Rattle.std.specs.Prelude.{◌≡◌, ℕ, ◌<◌, ◌^◌, ◌==◌, ◌||◌, if◌then◌else◌, Bool, true, List, ◌++◌, refl}
use Rattle.std.specs.Int.{w8, w16}
use Rattle.std.proofs.Common.{ap, arith}
use Rattle.daachorse_serializer.specs.Forms.{IsForm, Taken, number_form, over, take_if, take_number, take_pair}
use Rattle.daachorse_serializer.specs.Laws.{law_if, law_through, number_law, pair_law}
use Rattle.daachorse_uses.specs.declared.rating.Level.{Level}
use Rattle.daachorse_uses.specs.declared.rating.Level.TheVariants.{Mild, Strong, Severe}
use Rattle.daachorse_uses.specs.declared.rating.Rating.{Rating}

abbrev pub byte_of : Level → ℕ
byte_of Mild = 1
byte_of Strong = 2
byte_of Severe = 3

abbrev pub is_level : ℕ → Bool
is_level n = n == 1 || n == 2 || n == 3

abbrev pub level_of : ℕ → Level
level_of n = if n == 1 then Mild else if n == 2 then Strong else Severe

abbrev pub fields_of : Rating → ℕ × ℕ
fields_of r = (r.weight, byte_of r.level)

abbrev pub rating_from : ℕ × ℕ → Rating
rating_from p = record { weight = p.0; level = level_of p.1 }

abbrev pub IsRating : Rating → Type 0
IsRating r = r.weight < 2 ^ 16

abbrev pub rating_form : Rating → List ℕ
rating_form r = number_form w16 r.weight ++ number_form w8 (byte_of r.level)

abbrev pub take_rating : List ℕ → Taken Rating
take_rating bytes = over rating_from (take_if (λ p. is_level p.1) (take_pair (take_number w16) (take_number w8) bytes))

small : (l : Level) → byte_of l < 2 ^ 8
small Mild = omega arith
small Strong = omega arith
small Severe = omega arith

passes : (l : Level) → is_level (byte_of l) ≡ true
passes Mild = refl
passes Strong = refl
passes Severe = refl

back : (l : Level) → level_of (byte_of l) ≡ l
back Mild = refl
back Strong = refl
back Severe = refl

-- A rating is read back from its form.
pub rating_law : IsForm IsRating rating_form take_rating (λ _. 3)
rating_law =
    law_through rating_from fields_of IsRating (λ r h. (h, small r.level, passes r.level)) (λ r h. ap (λ l. record { weight = r.weight; level = l }) (back r.level))
    (law_if (λ p. is_level p.1) (λ p. (p.0 < 2 ^ 16) × (p.1 < 2 ^ 8) × (is_level p.1 ≡ true)) (λ p h. (h.0, h.1)) (λ p h. h.2) (pair_law (number_law w16) (number_law w8)))
