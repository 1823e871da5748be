-- The law of each form from the laws of its parts: numbers by what their bytes are worth, pairs, options and lists by joining what each part takes back.
use Rattle.std.specs.Prelude.{ℕ, zero, suc, ◌+◌, ◌-◌, ◌*◌, ◌/◌, ◌%◌, ◌≤◌, ◌<◌, ◌^◌, ◌≡◌, ◌==◌, nat_lt, Bool, cond, FitsSigned, List, [], ◌∷◌, ◌++◌, length, take, drop, slice_index, Option, Some, None, IfSome, refl, false, true}
use Rattle.std.specs.List.{flat_map, All, AllByRecursion}
use Rattle.std.specs.Char.{IsScalar}
use Rattle.std.proofs.Math.Utf8.{scalar, scalar_fits}
use Rattle.std.specs.Int.{Width, w8, w16, w32, w64, w128, byte_len, byte_at, byte_worth, bytes_low_first, sum_through, from_le_bytes, cast_unsigned, cast_signed}
use Rattle.std.proofs.Common.{subst, ap, ◌∙◌, sym, arith, length-append, append_assoc, zero-add}
use Rattle.std.proofs.Math.Nat.{add-mul, div-div-eq-div-mul, div-eq_of_lt, mul_assoc, pow-suc}
use Rattle.std.proofs.lemmas.Bool.{le-ltb}
use Rattle.std.proofs.lemmas.Int.{to_z-of_z}
use Rattle.std.proofs.lemmas.List.{append-nil, take-append-drop}
use Rattle.std.proofs.lemmas.List.Elements.{recursion_from_All}
use mir.Val.{bits}
use mir.ValLaws.{of_z_fits}
use Rattle.daachorse_model.specs.declared.MatchKind.{MatchKind}
use Rattle.daachorse_model.specs.declared.MatchKind.TheVariants.{Standard, LeftmostLongest, LeftmostFirst}
use Rattle.daachorse_model.specs.Kinds.{byte_of_kind, kind_of_byte}
use Rattle.daachorse_core.specs.Outputs.{number}
use Rattle.std.specs.declared.num.NonZeroU32.{NonZeroU32}
use Rattle.daachorse_serializer.specs.Kinds.{kind_form, take_kind}
use Rattle.daachorse_serializer.specs.Modes.{byte_of_mode, mode_of_byte, mode_form, take_mode}
use Rattle.daachorse_serializer.specs.declared.mode.SearchMode.{SearchMode}
use Rattle.daachorse_serializer.specs.Outputs.{fields_of, output_from, IsOutput, output_form, take_output}
use Rattle.daachorse_serializer.specs.declared.intpack.U24nU8.{U24nU8}
use Rattle.daachorse_serializer.specs.Packed.{word_of, packed_of, packed_form, take_packed}
use Rattle.daachorse_serializer.specs.Positions.{position_from, position_back, position_form, take_position}
use Rattle.daachorse_serializer.specs.Values.{bool_form, take_bool, char_form, take_char, triple_form, take_triple}
use Rattle.daachorse_serializer.specs.Forms.{Taken, Ends, IsForm, over, then_take, take_if, pair_form, take_pair, number_form, take_number, signed_form, take_signed, option_form, option_most, take_option, take_items, list_form, take_list}

-- ---- numbers

-- the bytes of a number up to a place are worth the number, but for what stands above that place
bytes_worth : (n m : ℕ) (bytes : List ℕ) → ((i : ℕ) → i ≤ m → slice_index bytes i ≡ byte_at i n)
    → sum_through (λ i. byte_worth i (slice_index bytes i)) m + n / 256 ^ suc m * 256 ^ suc m ≡ n
bytes_worth n zero bytes h = let low = h 0 (omega arith) in omega (arith, low)
bytes_worth n (suc m) bytes h =
    let P : ℕ = 256 ^ suc m in
    let q : ℕ = n / P in
    let lower = bytes_worth n m bytes (λ i le. h i (omega arith)) in
    let next : n / (P * 256) ≡ q / 256 = sym (div-div-eq-div-mul n P 256) in
    let whole : q ≡ q % 256 + q / 256 * 256 = omega arith in
    let spread : q * P ≡ q % 256 * P + q / 256 * (256 * P) =
    ap (λ x. x * P) whole ∙ (add-mul (q % 256) (q / 256 * 256) P ∙ ap (λ x. q % 256 * P + x) (mul_assoc (q / 256) 256 P)) in
    rw (h (suc m) (omega arith), pow-suc 256 (suc m), next) (omega (arith, lower, spread))

-- each byte of the form stands in its place, whatever follows
bytes_stand : (i k n j : ℕ) (rest : List ℕ) → j < k → slice_index (bytes_low_first i k n ++ rest) j ≡ byte_at (i + j) n
bytes_stand i zero n j rest h = absurd (omega arith)
bytes_stand i (suc k) n zero rest h = ap (λ p. byte_at p n) (omega arith)
bytes_stand i (suc k) n (suc j) rest h =
    bytes_stand (suc i) k n j rest (omega arith) ∙ ap (λ p. byte_at p n) (omega arith)

-- how many bytes a width has, and what they hold
pub form_len : (w : Width) (n : ℕ) → length (number_form w n) ≡ byte_len w
unfolding number_form
form_len w8 n = refl
form_len w16 n = refl
form_len w32 n = refl
form_len w64 n = refl
form_len w128 n = refl

one_byte_more : (w : Width) → byte_len w ≡ suc (byte_len w - 1)
one_byte_more w8 = refl
one_byte_more w16 = refl
one_byte_more w32 = refl
one_byte_more w64 = refl
one_byte_more w128 = refl

nothing_above : (w : Width) (n : ℕ) → n < 2 ^ bits w → n < 256 ^ suc (byte_len w - 1)
nothing_above w8 n h = h
nothing_above w16 n h = h
nothing_above w32 n h = h
nothing_above w64 n h = h
nothing_above w128 n h = h

taken_front : {X : Type 0} (k : ℕ) (xs ys : List X) → length xs ≡ k → (take k (xs ++ ys) ≡ xs) × (drop k (xs ++ ys) ≡ ys)
taken_front zero [] ys e = (refl, refl)
taken_front zero (x ∷ xs) ys e = absurd (omega arith)
taken_front (suc k) [] ys e = absurd (omega arith)
taken_front (suc k) (x ∷ xs) ys e = let ih = taken_front k xs ys (omega arith) in (ap (λ zs. x ∷ zs) ih.0, ih.1)

-- the bytes of a number are worth the number
number_value : (w : Width) (n : ℕ) → n < 2 ^ bits w → from_le_bytes w (number_form w n) ≡ n
unfolding number_form
number_value w n h =
    let k : ℕ = byte_len w - 1 in
    let read : (i : ℕ) → i ≤ k → slice_index (number_form w n) i ≡ byte_at i n =
    λ i le. let small : i < byte_len w = omega (arith, one_byte_more w) in ap (λ bs. slice_index bs i) (sym (append-nil (number_form w n))) ∙ bytes_stand 0 (byte_len w) n i [] small ∙ ap (λ p. byte_at p n) (zero-add i) in
    let worth = bytes_worth n k (number_form w n) read in
    let none : n / 256 ^ suc k ≡ 0 = div-eq_of_lt (nothing_above w n h) in
    sym (ap (λ q. from_le_bytes w (number_form w n) + q * 256 ^ suc k) none ∙ omega arith) ∙ worth

-- what is left, if something was taken
abbrev rest_of : {X : Type 0} → Taken X → List ℕ
rest_of None = []
rest_of (Some p) = p.1

ends_if_given : {X : Type 0} (short : Bool) (bytes after rest : List ℕ) (x v : X)
    → cond {A = Taken X} short None (Some (x, after)) ≡ Some (v, rest) → Ends after bytes → Ends rest bytes
ends_if_given true bytes after rest x v e h = cc
ends_if_given false bytes after rest x v e h = let same : after ≡ rest = ap rest_of e in let P : List ℕ → Type 0 = λ zs. Ends zs bytes in subst P same h

pub number_law : (w : Width) → IsForm (λ n. n < 2 ^ bits w) (number_form w) (take_number w) (λ _. byte_len w)
number_law w = record {
  reads_back = λ n rest h.
      let front = taken_front (byte_len w) (number_form w n) rest (form_len w n) in
      let enough : nat_lt (length (number_form w n ++ rest)) (byte_len w) ≡ false = le-ltb _ _ (omega (arith, length-append (number_form w n) rest, form_len w n)) in
      rw (enough, front.0, front.1) (ap (λ m. Some (m, rest)) (number_value w n h));
  leaves_end = λ bytes n rest e.
      ends_if_given (nat_lt (length bytes) (byte_len w)) bytes _ rest _ n e (take (byte_len w) bytes, sym (take-append-drop (byte_len w) bytes));
  fits = λ n h. omega (arith, form_len w n);
}

-- ---- one form for another, and one after the other

pub over_is_some : {X Y : Type 0} (f : X → Y) (t : Taken X) (y : Y) (rest : List ℕ) → over f t ≡ Some (y, rest) → (x : X) × (t ≡ Some (x, rest))
over_is_some f None y rest e = cc
over_is_some f (Some p) y rest e = let same : p.1 ≡ rest = ap rest_of e in (p.0, ap (λ zs. Some (p.0, zs)) same)

pub then_take_is_some : {X Y : Type 0} (t : Taken X) (next : X → List ℕ → Taken Y) (y : Y) (rest : List ℕ) → then_take t next ≡ Some (y, rest)
    → (x : X) × ((mid : List ℕ) × ((t ≡ Some (x, mid)) × (next x mid ≡ Some (y, rest))))
then_take_is_some None next y rest e = cc
then_take_is_some (Some p) next y rest e = (p.0, (p.1, (refl, e)))

passed : {X : Type 0} (yes : Bool) (p : X × List ℕ) (x : X) (rest : List ℕ) → cond {A = Taken X} yes (Some p) None ≡ Some (x, rest) → Some p ≡ Some (x, rest)
passed true p x rest e = e
passed false p x rest e = cc

take_if_is_some : {X : Type 0} (test : X → Bool) (t : Taken X) (x : X) (rest : List ℕ) → take_if test t ≡ Some (x, rest) → t ≡ Some (x, rest)
take_if_is_some test None x rest e = e
take_if_is_some test (Some p) x rest e = passed (test p.0) p x rest e

pub ends_through : (xs ys zs : List ℕ) → Ends zs ys → Ends ys xs → Ends zs xs
ends_through xs ys zs a b = (b.0 ++ a.0, b.1 ∙ (ap (λ w. b.0 ++ w) a.1 ∙ sym (append_assoc b.0 a.0 zs)))

module _ {X : Type 0} {P : X → Type 0} {form : X → List ℕ} {taken : List ℕ → Taken X} {most : X → ℕ} where
  -- A value that is taken only where it passes a test.
  pub law_if : (test : X → Bool) (Q : X → Type 0) → ((x : X) → Q x → P x) → ((x : X) → Q x → test x ≡ true)
      → IsForm P form taken most → IsForm Q form (λ bytes. take_if test (taken bytes)) most
  law_if test Q of passes law = record {
    reads_back = λ x rest h. rw (law.reads_back x rest (of x h), passes x h) refl;
    leaves_end = λ bytes x rest e. law.leaves_end bytes x rest (take_if_is_some test (taken bytes) x rest e);
    fits = λ x h. law.fits x (of x h);
  }

module _ {X Y : Type 0} {P : X → Type 0} {form : X → List ℕ} {taken : List ℕ → Taken X} {most : X → ℕ} where
  -- A value that has the form of another: `parts` is the other, and `make` goes back.
  pub law_through : (make : X → Y) (parts : Y → X) (Q : Y → Type 0) → ((y : Y) → Q y → P (parts y)) → ((y : Y) → Q y → make (parts y) ≡ y)
      → IsForm P form taken most → IsForm Q (λ y. form (parts y)) (λ bytes. over make (taken bytes)) (λ y. most (parts y))
  law_through make parts Q of back law = record {
    reads_back = λ y rest h. ap (over make) (law.reads_back (parts y) rest (of y h)) ∙ ap (λ z. Some (z, rest)) (back y h);
    leaves_end = λ bytes y rest e. let was = over_is_some make (taken bytes) y rest e in law.leaves_end bytes was.0 rest was.1;
    fits = λ y h. law.fits (parts y) (of y h);
  }

  -- One form after another.
  pub pair_law : {Q : Y → Type 0} {form' : Y → List ℕ} {taken' : List ℕ → Taken Y} {most' : Y → ℕ}
      → IsForm P form taken most → IsForm Q form' taken' most'
      → IsForm (λ p. P p.0 × Q p.1) (pair_form form form') (take_pair taken taken') (λ p. most p.0 + most' p.1)
  pair_law {Q} {form'} {taken'} {most'} law law' = record {
    reads_back = λ p rest h.
        rw (append_assoc (form p.0) (form' p.1) rest, law.reads_back p.0 (form' p.1 ++ rest) h.0, law'.reads_back p.1 rest h.1) refl;
    leaves_end = λ bytes p rest e.
        let first = then_take_is_some (taken bytes) (λ x mid. over (λ y. (x, y)) (taken' mid)) p rest e in
        let second = over_is_some (λ y. (first.0, y)) (taken' first.1.0) p rest first.1.1.1 in
        ends_through bytes first.1.0 rest (law'.leaves_end first.1.0 second.0 rest second.1) (law.leaves_end bytes first.0 first.1.0 first.1.1.0);
    fits = λ p h. omega (arith, length-append (form p.0) (form' p.1), law.fits p.0 h.0, law'.fits p.1 h.1);
  }

pub signed_law : (w : Width) → IsForm (FitsSigned w) (signed_form w) (take_signed w) (λ _. byte_len w)
signed_law w = law_through (cast_signed w) (cast_unsigned w) (FitsSigned w) (λ z h. (of_z_fits w z h).fits) (to_z-of_z w) (number_law w)

-- ---- options

module _ {X : Type 0} {P : X → Type 0} {form : X → List ℕ} {taken : List ℕ → Taken X} {most : X → ℕ} where
  option_reads_back : IsForm P form taken most → (v : Option X) (rest : List ℕ) → IfSome v P → take_option taken (option_form form v ++ rest) ≡ Some (v, rest)
  option_reads_back law None rest h = refl
  option_reads_back law (Some x) rest h = ap (over Some) (law.reads_back x rest h)

  flagged_leaves_end : (zero_flag one_flag : Bool) (bytes : List ℕ) (v : Option X) (rest : List ℕ) → IsForm P form taken most
      → cond {A = Taken (Option X)} zero_flag (Some (None, bytes)) (cond one_flag (over Some (taken bytes)) None) ≡ Some (v, rest) → Ends rest bytes
  flagged_leaves_end true one_flag bytes v rest law e = let same : bytes ≡ rest = ap rest_of e in ([], same)
  flagged_leaves_end false true bytes v rest law e = let was = over_is_some Some (taken bytes) v rest e in law.leaves_end bytes was.0 rest was.1
  flagged_leaves_end false false bytes v rest law e = cc

  option_leaves_end : IsForm P form taken most → (bytes : List ℕ) (v : Option X) (rest : List ℕ) → take_option taken bytes ≡ Some (v, rest) → Ends rest bytes
  option_leaves_end law [] v rest e = cc
  option_leaves_end law (flag ∷ bytes) v rest e =
      ends_through (flag ∷ bytes) bytes rest (flagged_leaves_end (flag == 0) (flag == 1) bytes v rest law e) (flag ∷ [], refl)

option_fits : {X : Type 0} (P : X → Type 0) (form : X → List ℕ) (most : X → ℕ) → ((v : X) → P v → length (form v) ≤ most v)
    → (v : Option X) → IfSome v P → length (option_form form v) ≤ option_most most v
option_fits P form most fits None h = omega arith
option_fits P form most fits (Some x) h = omega (arith, fits x h)

most_is_one_more : {X : Type 0} (n : ℕ) (v : Option X) → option_most (λ (_ : X). n) v ≤ n + 1
most_is_one_more n None = omega arith
most_is_one_more n (Some x) = omega arith

-- the law of an option, from that of its value
pub option_law : {X : Type 0} {P : X → Type 0} {form : X → List ℕ} {taken : List ℕ → Taken X} {n : ℕ}
    → IsForm P form taken (λ _. n) → IsForm (λ v. IfSome v P) (option_form form) (take_option taken) (λ _. n + 1)
option_law {X} {P} {form} {taken} {n} law = record {
  reads_back = option_reads_back law;
  leaves_end = option_leaves_end law;
  fits = λ v h. omega (arith, option_fits P form (λ _. n) law.fits v h, most_is_one_more n v);
}

both : {X : Type 0} (P Q : X → Type 0) (v : Option X) → IfSome v P × IfSome v Q → IfSome v (λ x. P x × Q x)
both P Q None h = tt
both P Q (Some x) h = h

-- the same, where how long a form is goes by the value
pub option_vec_law : {X : Type 0} {P Q : X → Type 0} {form : X → List ℕ} {taken : List ℕ → Taken X} {most : X → ℕ}
    → IsForm (λ x. P x × Q x) form taken most → IsForm (λ v. IfSome v P × IfSome v Q) (option_form form) (take_option taken) (option_most most)
option_vec_law {X} {P} {Q} {form} {taken} {most} law = record {
  reads_back = λ v rest h. option_reads_back law v rest (both P Q v h);
  leaves_end = option_leaves_end law;
  fits = λ v h. option_fits (λ x. P x × Q x) form most law.fits v (both P Q v h);
}

-- ---- lists

module _ {X : Type 0} {P : X → Type 0} {form : X → List ℕ} {taken : List ℕ → Taken X} {n : ℕ} (law : IsForm P form taken (λ _. n)) where
  items_read_back : (xs : List X) (rest : List ℕ) → AllByRecursion P xs → take_items taken (length xs) (flat_map form xs ++ rest) ≡ Some (xs, rest)
  unfolding take_items
  items_read_back [] rest h = refl
  items_read_back (x ∷ xs) rest h =
      rw (append_assoc (form x) (flat_map form xs) rest, law.reads_back x (flat_map form xs ++ rest) h.0, items_read_back xs rest h.1) refl

  items_leave_end : (count : ℕ) (bytes : List ℕ) (xs : List X) (rest : List ℕ) → take_items taken count bytes ≡ Some (xs, rest) → Ends rest bytes
  unfolding take_items
  items_leave_end zero bytes xs rest e = let same : bytes ≡ rest = ap rest_of e in ([], same)
  items_leave_end (suc count) bytes xs rest e =
      let first = then_take_is_some (taken bytes) (λ x mid. over (λ ys. x ∷ ys) (take_items taken count mid)) xs rest e in
      let later = over_is_some (λ ys. first.0 ∷ ys) (take_items taken count first.1.0) xs rest first.1.1.1 in
      ends_through bytes first.1.0 rest (items_leave_end count first.1.0 later.0 rest later.1) (law.leaves_end bytes first.0 first.1.0 first.1.1.0)

  items_fit : (xs : List X) → AllByRecursion P xs → length (flat_map form xs) ≤ n * length xs
  items_fit [] h = omega arith
  items_fit (x ∷ xs) h = omega (arith, length-append (form x) (flat_map form xs), law.fits x h.0, items_fit xs h.1)

  -- The law of so many items without a count, from that of an item.
  pub table_law : (count : ℕ) → IsForm (λ xs. Unit {0} × ((length xs ≡ count) × All P xs)) (flat_map form) (take_items taken count) (λ xs. n * count)
  table_law count = record {
    reads_back = λ xs rest h.
        subst (λ k. take_items taken k (flat_map form xs ++ rest) ≡ Some (xs, rest)) h.1.0 (items_read_back xs rest (recursion_from_All P xs h.1.1));
    leaves_end = items_leave_end count;
    fits = λ xs h. subst (λ k. length (flat_map form xs) ≤ n * k) h.1.0 (items_fit xs (recursion_from_All P xs h.1.1));
  }

  -- The law of a list, from that of an item.
  pub list_law : IsForm (λ xs. (length xs < 2 ^ 32) × All P xs) (list_form form) (take_list taken) (λ xs. n * length xs + 4)
  unfolding take_list
  list_law = record {
    reads_back = λ xs rest h.
        rw (append_assoc (number_form w32 (length xs)) (flat_map form xs) rest, (number_law w32).reads_back (length xs) (flat_map form xs ++ rest) h.0)
        (items_read_back xs rest (recursion_from_All P xs h.1));
    leaves_end = λ bytes xs rest e.
        let first = then_take_is_some (take_number w32 bytes) (take_items taken) xs rest e in
        ends_through bytes first.1.0 rest (items_leave_end first.0 first.1.0 xs rest first.1.1.1) ((number_law w32).leaves_end bytes first.0 first.1.0 first.1.1.0);
    fits = λ xs h. omega (arith, form_len w32 (length xs), length-append (number_form w32 (length xs)) (flat_map form xs), items_fit xs (recursion_from_All P xs h.1));
  }

-- ---- the types of this crate

pub empty_law : {X : Type 0} → (x : X) → ((y : X) → x ≡ y) → IsForm (λ (y : X). Unit {0}) (λ _. []) (λ bytes. Some (x, bytes)) (λ _. 0)
empty_law x only = record {
  reads_back = λ y rest h. ap (λ z. Some (z, rest)) (only y);
  leaves_end = λ bytes y rest e. ([], ap rest_of e);
  fits = λ y h. omega arith;
}

pub kind_law : IsForm (λ (k : MatchKind). Unit {0}) kind_form take_kind (λ _. 1)
unfolding number_form
kind_law = record { reads_back = reads_back; leaves_end = through.leaves_end; fits = λ k h. omega arith }
  where
    small : (k : MatchKind) → byte_of_kind k < 2 ^ 8
    small Standard = omega arith
    small LeftmostLongest = omega arith
    small LeftmostFirst = omega arith

    back : (k : MatchKind) → kind_of_byte (byte_of_kind k) ≡ k
    back Standard = refl
    back LeftmostLongest = refl
    back LeftmostFirst = refl

    through : IsForm (λ (k : MatchKind). Unit {0}) (λ k. number_form w8 (byte_of_kind k)) take_kind (λ _. 1)
    through = law_through kind_of_byte byte_of_kind (λ k. Unit {0}) (λ k h. small k) (λ k h. back k) (number_law w8)

    reads_back : (k : MatchKind) (rest : List ℕ) → Unit {0} → take_kind (kind_form k ++ rest) ≡ Some (k, rest)
    reads_back Standard rest h = through.reads_back Standard rest tt
    reads_back LeftmostLongest rest h = through.reads_back LeftmostLongest rest tt
    reads_back LeftmostFirst rest h = through.reads_back LeftmostFirst rest tt

pub mode_law : IsForm (λ (m : SearchMode). Unit {0}) mode_form take_mode (λ _. 1)
unfolding number_form
mode_law = record { reads_back = reads_back; leaves_end = through.leaves_end; fits = λ m h. omega arith }
  where
    small : (kind : MatchKind) (folds : Bool) → byte_of_mode (record { kind = kind; folds = folds }) < 2 ^ 8
    small Standard false = omega arith
    small Standard true = omega arith
    small LeftmostLongest false = omega arith
    small LeftmostLongest true = omega arith
    small LeftmostFirst false = omega arith
    small LeftmostFirst true = omega arith

    back : (kind : MatchKind) (folds : Bool) → mode_of_byte (byte_of_mode (record { kind = kind; folds = folds })) ≡ record { kind = kind; folds = folds }
    back Standard false = refl
    back Standard true = refl
    back LeftmostLongest false = refl
    back LeftmostLongest true = refl
    back LeftmostFirst false = refl
    back LeftmostFirst true = refl

    through : IsForm (λ (m : SearchMode). Unit {0}) (λ m. number_form w8 (byte_of_mode m)) take_mode (λ _. 1)
    through = law_through mode_of_byte byte_of_mode (λ m. Unit {0}) (λ m h. small m.kind m.folds) (λ m h. back m.kind m.folds) (number_law w8)

    one_byte : (kind : MatchKind) (folds : Bool) → number_form w8 (byte_of_mode (record { kind = kind; folds = folds })) ≡ mode_form (record { kind = kind; folds = folds })
    one_byte Standard false = refl
    one_byte Standard true = refl
    one_byte LeftmostLongest false = refl
    one_byte LeftmostLongest true = refl
    one_byte LeftmostFirst false = refl
    one_byte LeftmostFirst true = refl

    reads_back : (m : SearchMode) (rest : List ℕ) → Unit {0} → take_mode (mode_form m ++ rest) ≡ Some (m, rest)
    reads_back m rest h = ap (λ bytes. take_mode (bytes ++ rest)) (sym (one_byte m.kind m.folds)) ∙ through.reads_back m rest tt

-- the law of an output, from that of its value
pub output_law : {V : Type 0} {P : V → Type 0} {form : V → List ℕ} {taken : List ℕ → Taken V} {n : ℕ} → IsForm P form taken (λ _. n)
    → IsForm (IsOutput P) (output_form form) (take_output taken) (λ _. n + 8)
output_law law =
    law_through output_from fields_of _ (λ o h. (h.0, (h.1, h.2))) (λ o h. refl) (pair_law law (pair_law (number_law w32) (number_law w32)))

-- the law of a position, by its number
pub position_law : IsForm (λ (v : Option NonZeroU32). number v < 2 ^ 32) position_form take_position (λ _. 4)
position_law = law_through position_from number _ (λ v h. h) (λ v h. position_back v) (number_law w32)

pub packed_law : IsForm (λ (p : U24nU8). word_of p < 2 ^ 32) packed_form take_packed (λ _. 4)
packed_law = law_through packed_of word_of _ (λ p h. h) (λ p h. refl) (number_law w32)

pub bool_law : IsForm (λ (b : Bool). Unit {0}) bool_form take_bool (λ _. 1)
bool_law = record { reads_back = reads_back; leaves_end = leaves_end; fits = fits }
  where
    reads_back : (b : Bool) (rest : List ℕ) → Unit {0} → take_bool (bool_form b ++ rest) ≡ Some (b, rest)
    reads_back false rest h = refl
    reads_back true rest h = refl

    flagged : (zero_flag one_flag : Bool) (bytes : List ℕ) (b : Bool) (rest : List ℕ)
        → cond {A = Taken Bool} zero_flag (Some (false, bytes)) (cond one_flag (Some (true, bytes)) None) ≡ Some (b, rest) → bytes ≡ rest
    flagged true one_flag bytes b rest e = ap rest_of e
    flagged false true bytes b rest e = ap rest_of e
    flagged false false bytes b rest e = cc

    leaves_end : (bytes : List ℕ) (b : Bool) (rest : List ℕ) → take_bool bytes ≡ Some (b, rest) → Ends rest bytes
    leaves_end [] b rest e = cc
    leaves_end (flag ∷ bytes) b rest e = (flag ∷ [], ap (λ zs. flag ∷ zs) (flagged (flag == 0) (flag == 1) bytes b rest e))

    fits : (b : Bool) → Unit {0} → length (bool_form b) ≤ 1
    fits false h = omega arith
    fits true h = omega arith

pub char_law : IsForm IsScalar char_form take_char (λ _. 4)
char_law = law_if scalar IsScalar scalar_fits (λ c h. h) (number_law w32)

-- the law of a triple, from those of its parts
pub triple_law : {X Y Z : Type 0} {P : X → Type 0} {Q : Y → Type 0} {R : Z → Type 0}
    {f : X → List ℕ} {g : Y → List ℕ} {h : Z → List ℕ} {t : List ℕ → Taken X} {u : List ℕ → Taken Y} {v : List ℕ → Taken Z} {l m n : ℕ}
    → IsForm P f t (λ _. l) → IsForm Q g u (λ _. m) → IsForm R h v (λ _. n)
    → IsForm (λ p. P p.0 × Q p.1 × R p.2) (triple_form f g h) (take_triple t u v) (λ _. l + (m + n))
triple_law first second third =
    law_through (λ p. (p.0, p.1.0, p.1.1)) (λ p. (p.0, (p.1, p.2))) _ (λ p h. (h.0, (h.1, h.2))) (λ p h. refl) (pair_law first (pair_law second third))
