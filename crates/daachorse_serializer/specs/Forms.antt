-- Written forms, and what is taken off the front of bytes: nothing, or a value and the bytes behind it.
use Rattle.std.specs.Prelude.{ℕ, Bool, zero, suc, ◌+◌, ◌<◌, ◌≤◌, ◌≡◌, ◌==◌, nat_lt, if◌then◌else◌, ℤ, List, [], ◌∷◌, ◌++◌, length, take, drop, Option, Some, None, Result, Ok, Err}
use Rattle.std.specs.Borrow.{Bor}
use Rattle.std.specs.List.{flat_map}
use Rattle.std.specs.Int.{Width, w32, byte_len, to_le_bytes, from_le_bytes, cast_unsigned, cast_signed}
use Rattle.daachorse_core.specs.declared.errors.DaachorseError.{DaachorseError}
use Rattle.daachorse_core.specs.declared.errors.DaachorseError.TheVariants.{InvalidArgument, AutomatonScale, InvalidConversion, InvalidAutomaton, OutOfMemory}

-- nothing, or a value and the bytes behind it
abbrev pub Taken : Type 0 → Type 0
Taken X = Option (X × List ℕ)

-- the one list begins the other
abbrev pub Begins : List ℕ → List ℕ → Type 0
Begins xs ys = (zs : List ℕ) × (ys ≡ xs ++ zs)

-- the one list ends the other
abbrev pub Ends : List ℕ → List ℕ → Type 0
Ends zs ys = (xs : List ℕ) × (ys ≡ xs ++ zs)

-- The law of a type. What was written is taken back, whatever follows it; what is left is an end of the bytes; and no
-- form is longer than its most.
pub record IsForm {X : Type 0} (P : X → Type 0) (form : X → List ℕ) (taken : List ℕ → Taken X) (most : X → ℕ) : Type 0 where
  pub reads_back : (v : X) (rest : List ℕ) → P v → taken (form v ++ rest) ≡ Some (v, rest)
  pub leaves_end : (bytes : List ℕ) (v : X) (rest : List ℕ) → taken bytes ≡ Some (v, rest) → Ends rest bytes
  pub fits : (v : X) → P v → length (form v) ≤ most v

-- ---- what a read answers, where the bytes give `t`

-- it refuses for want of memory, or where the bytes give nothing
abbrev pub Refuses : {X : Type 0} → DaachorseError → Taken X → Type 0
Refuses (OutOfMemory _) t = Unit {0}
Refuses (InvalidArgument _) t = t ≡ None
Refuses (AutomatonScale _) t = t ≡ None
Refuses (InvalidConversion _) t = t ≡ None
Refuses (InvalidAutomaton _) t = t ≡ None

-- it answers what the bytes give, of which contracts see `view`
abbrev pub GivesView : {X Y : Type 0} → (X → Y) → Result (X × Bor (List ℕ)) DaachorseError → Taken Y → Type 0
GivesView view (Ok r) t = t ≡ Some (view r.0, r.1.now)
GivesView view (Err e) t = Refuses e t

abbrev pub Gives : {X : Type 0} → Result (X × Bor (List ℕ)) DaachorseError → Taken X → Type 0
Gives (Ok r) t = t ≡ Some (r.0, r.1.now)
Gives (Err e) t = Refuses e t

-- a read refuses bytes, for want of memory, or by what is the type's own
abbrev pub IsReadRefusal : (DaachorseError → Type 0) → DaachorseError → Type 0
IsReadRefusal own (InvalidAutomaton _) = Unit {0}
IsReadRefusal own (OutOfMemory _) = Unit {0}
IsReadRefusal own (InvalidArgument e) = own (InvalidArgument e)
IsReadRefusal own (AutomatonScale e) = own (AutomatonScale e)
IsReadRefusal own (InvalidConversion e) = own (InvalidConversion e)

-- ---- one after the other

-- the value that was taken, seen as another
abbrev pub over : {X Y : Type 0} → (X → Y) → Taken X → Taken Y
over f None = None
over f (Some p) = Some (f p.0, p.1)

-- from what is left, go on
abbrev pub then_take : {X Y : Type 0} → Taken X → (X → List ℕ → Taken Y) → Taken Y
then_take None next = None
then_take (Some p) next = next p.0 p.1

-- nothing, where the value fails the test
abbrev pub take_if : {X : Type 0} → (X → Bool) → Taken X → Taken X
take_if test None = None
take_if test (Some p) = if test p.0 then Some p else None

abbrev pub pair_form : {X Y : Type 0} → (X → List ℕ) → (Y → List ℕ) → X × Y → List ℕ
pair_form f g p = f p.0 ++ g p.1

abbrev pub take_pair : {X Y : Type 0} → (List ℕ → Taken X) → (List ℕ → Taken Y) → List ℕ → Taken (X × Y)
take_pair t u bytes = then_take (t bytes) (λ x rest. over (λ y. (x, y)) (u rest))

-- ---- numbers, little-endian

unfoldable pub number_form : Width → ℕ → List ℕ
number_form w n = to_le_bytes w n

abbrev pub take_number : Width → List ℕ → Taken ℕ
take_number w bytes =
    if nat_lt (length bytes) (byte_len w) then None else Some (from_le_bytes w (take (byte_len w) bytes), drop (byte_len w) bytes)

abbrev pub signed_form : Width → ℤ → List ℕ
signed_form w z = number_form w (cast_unsigned w z)

abbrev pub take_signed : Width → List ℕ → Taken ℤ
take_signed w bytes = over (cast_signed w) (take_number w bytes)

-- ---- options: a byte 0, or a byte 1 and the form of the value

abbrev pub option_form : {X : Type 0} → (X → List ℕ) → Option X → List ℕ
option_form f None = 0 ∷ []
option_form f (Some x) = 1 ∷ f x

abbrev pub take_option : {X : Type 0} → (List ℕ → Taken X) → List ℕ → Taken (Option X)
take_option t [] = None
take_option t (flag ∷ rest) = if flag == 0 then Some (None, rest) else if flag == 1 then over Some (t rest) else None

-- how long the form of an option is at most
abbrev pub option_most : {X : Type 0} → (X → ℕ) → Option X → ℕ
option_most most None = 1
option_most most (Some x) = most x + 1

-- what contracts see of an option
abbrev pub option_shape : {X Y : Type 0} → (X → Y) → Option X → Option Y
option_shape shape None = None
option_shape shape (Some x) = Some (shape x)

-- ---- lists: a count, then the items

-- so many items
unfoldable pub take_items : {X : Type 0} → (List ℕ → Taken X) → ℕ → List ℕ → Taken (List X)
take_items t zero bytes = Some ([], bytes)
take_items t (suc n) bytes = then_take (t bytes) (λ x rest. over (λ xs. x ∷ xs) (take_items t n rest))

abbrev pub list_form : {X : Type 0} → (X → List ℕ) → List X → List ℕ
list_form f xs = number_form w32 (length xs) ++ flat_map f xs

unfoldable pub take_list : {X : Type 0} → (List ℕ → Taken X) → List ℕ → Taken (List X)
take_list t bytes = then_take (take_number w32 bytes) (take_items t)

-- ---- errors of its own by which a read refuses bytes, from those of their parts

module _ {X : Type 0} (t : List ℕ → Taken X) where
  -- a value is taken, and what is left is refused so
  pub record IsAfter (own : X → List ℕ → DaachorseError → Type 0) (bytes : List ℕ) (e : DaachorseError) : Type 0 where
    pub value : X
    pub left : List ℕ
    pub taken : t bytes ≡ Some (value, left)
    pub refused : own value left e

  -- nothing is taken, and the read of a value refuses the bytes so
  abbrev pub IsOfValue : (List ℕ → DaachorseError → Type 0) → List ℕ → DaachorseError → Type 0
  IsOfValue own bytes e = (t bytes ≡ None) × own bytes e

module _ {X : Type 0} (t : List ℕ → Taken X) (own : List ℕ → DaachorseError → Type 0) where
  -- fewer than so many items are taken, and the next is refused so
  abbrev pub IsOfItem : ℕ → List ℕ → DaachorseError → Type 0
  IsOfItem n bytes e = (k : ℕ) × ((k < n) × IsAfter (take_items t k) (λ _. own) bytes e)

  -- an item of a list is refused so
  abbrev pub IsOfList : List ℕ → DaachorseError → Type 0
  IsOfList = IsAfter (take_number w32) IsOfItem

-- the value of an option is refused so
abbrev pub IsOfPayload : (List ℕ → DaachorseError → Type 0) → List ℕ → DaachorseError → Type 0
IsOfPayload own bytes e = (rest : List ℕ) × ((bytes ≡ 1 ∷ rest) × own rest e)
