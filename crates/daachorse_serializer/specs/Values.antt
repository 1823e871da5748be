-- Written forms of truth values, characters, pairs and triples.
use Rattle.std.specs.Prelude.{◌⊎◌, ◌==◌, ◌++◌, ℕ, Bool, true, false, if◌then◌else◌, List, [], ◌∷◌, Some, None}
use Rattle.std.specs.Int.{w32}
use Rattle.std.proofs.Math.Utf8.{scalar}
use Rattle.daachorse_core.specs.declared.errors.DaachorseError.{DaachorseError}
use Rattle.daachorse_serializer.specs.Forms.{IsAfter, IsOfValue, Taken, number_form, over, take_if, take_number, take_pair}

-- a byte, 0 or 1
abbrev pub bool_form : Bool → List ℕ
bool_form false = 0 ∷ []
bool_form true = 1 ∷ []

abbrev pub take_bool : List ℕ → Taken Bool
take_bool [] = None
take_bool (flag ∷ rest) = if flag == 0 then Some (false, rest) else if flag == 1 then Some (true, rest) else None

-- the scalar value as a number of 32 bits
abbrev pub char_form : ℕ → List ℕ
char_form = number_form w32

abbrev pub take_char : List ℕ → Taken ℕ
take_char bytes = take_if scalar (take_number w32 bytes)

-- one value after the other
abbrev pub triple_form : {X Y Z : Type 0} → (X → List ℕ) → (Y → List ℕ) → (Z → List ℕ) → X × Y × Z → List ℕ
triple_form f g h p = f p.0 ++ (g p.1 ++ h p.2)

abbrev pub take_triple : {X Y Z : Type 0} → (List ℕ → Taken X) → (List ℕ → Taken Y) → (List ℕ → Taken Z) → List ℕ → Taken (X × Y × Z)
take_triple t u v bytes = over (λ p. (p.0, p.1.0, p.1.1)) (take_pair t (take_pair u v) bytes)

-- the first of two values is refused so, or the second
abbrev pub IsOfPair : {X Y : Type 0} → (List ℕ → Taken X) → (List ℕ → DaachorseError → Type 0) → (List ℕ → Taken Y) → (List ℕ → DaachorseError → Type 0) → List ℕ → DaachorseError → Type 0
IsOfPair t own u own' bytes e = IsOfValue t own bytes e ⊎ IsAfter t (λ _. IsOfValue u own') bytes e
