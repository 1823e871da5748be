-- A table whose bits are those of the patterns is the list of their filter's entries, since a byte is known by its bits.
use Rattle.std.proofs.Common.{◌≡◌, ℕ, zero, suc, ◌+◌, ◌*◌, ◌/◌, ◌%◌, ◌^◌, ◌<◌, ◌≤◌, ◌⊎◌, Bool, true, false, cond, ◌||◌, List, [], ◌∷◌, ◌++◌}
use Rattle.std.proofs.Common.{length, get_or, take, refl, sym, ap, ◌∙◌, inl, inr, arith}
use Rattle.std.specs.Prelude.{◌==◌, min}
use Rattle.std.specs.Int.{bit_at}
use Rattle.std.specs.List.{list_any, AllClonesOf}
use Rattle.std.proofs.Math.Nat.{pow-suc}
use Rattle.std.proofs.lemmas.Nat.Bits.{bit_at-suc}
use Rattle.std.proofs.lemmas.List.FromFn.{fill_by_all}
use Rattle.std.proofs.lemmas.List.Folds.{list_any-append}
use Rattle.std.proofs.lemmas.List.{take_all}
use Rattle.std.proofs.lemmas.Bool.{eq-eqb, cases_lt}
use Rattle.daachorse_model.specs.Filter.{is_clear, has_pair, entry_from, filter_entry}
use Rattle.daachorse_model.proofs.Booleans.{or-none}
use Rattle.daachorse_prefilter.specs.Building.{first_entries, window_len}
use Rattle.daachorse_prefilter.specs.Builders.{AreMarked, is_nil}
use Rattle.daachorse_prefilter.proofs.ClearBits.{same_from_clear}

-- some pattern has the pair at offset j of its first 9 bytes
abbrev pub some_has : List (List ℕ) → ℕ → ℕ → Bool
some_has patterns pair j = list_any (λ p. has_pair pair j (take 9 p)) patterns

-- a number whose bit j is 0 where the test of offset j holds, from offset j on
packed : (ℕ → Bool) → ℕ → ℕ → ℕ
packed test j zero = 0
packed test j (suc n) = cond (test j) 0 1 + 2 * packed test (suc j) n

bit_is : (b : Bool) (rest : ℕ) → ((cond b 0 1 + 2 * rest) % 2 == 0) ≡ b
bit_is true rest = eq-eqb _ 0 (omega arith)
bit_is false rest = ap (λ n. n == 0) (let e : (1 + 2 * rest) % 2 ≡ 1 = omega arith in e)

half_is : (b : Bool) (rest : ℕ) → (cond b 0 1 + 2 * rest) / 2 ≡ rest
half_is true rest = omega arith
half_is false rest = omega arith

first_bit : (n : ℕ) → n / 2 ^ 0 % 2 ≡ n % 2
first_bit n = omega arith

packed_bits : (test : ℕ → Bool) (j n i k : ℕ) → i < n → j + i ≡ k → is_clear (packed test j n) i ≡ test k
unfolding packed
packed_bits test j zero i k h e = absurd (omega arith)
packed_bits test j (suc n) zero k h e =
    let same : j ≡ k = omega arith in
    ap (λ m. m == 0) (first_bit (cond (test j) 0 1 + 2 * packed test (suc j) n)) ∙ bit_is (test j) (packed test (suc j) n) ∙ ap test same
packed_bits test j (suc n) (suc i) k h e =
    ap (λ m. m == 0) (bit_at-suc (cond (test j) 0 1 + 2 * packed test (suc j) n) i
    ∙ ap (λ m. bit_at m i) (half_is (test j) (packed test (suc j) n)))
    ∙ packed_bits test (suc j) n i k (omega arith) (omega arith)

bit_small : (b : Bool) → cond b 0 1 ≤ 1
bit_small true = omega arith
bit_small false = omega arith

packed_below : (test : ℕ → Bool) (j n : ℕ) → packed test j n < 2 ^ n
unfolding packed
packed_below test j zero = omega arith
packed_below test j (suc n) =
    let rest = packed_below test (suc j) n in
    let bit = bit_small (test j) in
    omega (arith, pow-suc 2 n)

bit_scaled : (b : Bool) (p : ℕ) → cond b 0 p ≡ cond b 0 1 * p
bit_scaled true p = omega arith
bit_scaled false p = omega arith

scaled : (x y p q : ℕ) → q ≡ p * 2 → x * p + y * q ≡ (x + 2 * y) * p
scaled x y p q e = rw e (grind arith)

entry_packed : (patterns : List (List ℕ)) (pair j n : ℕ) → entry_from patterns pair j n ≡ packed (some_has patterns pair) j n * 2 ^ j
unfolding packed
entry_packed patterns pair j zero = omega arith
entry_packed patterns pair j (suc n) =
    ap (λ x. x + entry_from patterns pair (suc j) n) (bit_scaled (some_has patterns pair j) (2 ^ j))
    ∙ ap (λ y. cond (some_has patterns pair j) 0 1 * 2 ^ j + y) (entry_packed patterns pair (suc j) n)
    ∙ scaled (cond (some_has patterns pair j) 0 1) (packed (some_has patterns pair) (suc j) n) (2 ^ j) (2 ^ suc j) (pow-suc 2 j)

entry_whole : (patterns : List (List ℕ)) (pair : ℕ) → filter_entry patterns pair ≡ packed (some_has patterns pair) 0 8
entry_whole patterns pair =
    let e = entry_packed patterns pair 0 8 in
    e ∙ (let one : packed (some_has patterns pair) 0 8 * 2 ^ 0 ≡ packed (some_has patterns pair) 0 8 = omega arith in one)

pub entry_is : (patterns : List (List ℕ)) (pair e : ℕ) → e < 2 ^ 8 → ((j : ℕ) → j < 8 → is_clear e j ≡ some_has patterns pair j)
    → e ≡ filter_entry patterns pair
entry_is patterns pair e h bits =
    same_from_clear e (packed (some_has patterns pair) 0 8) h (packed_below (some_has patterns pair) 0 8)
    (λ j l. bits j l ∙ sym (packed_bits (some_has patterns pair) 0 8 j j l (omega arith)))
    ∙ sym (entry_whole patterns pair)

all_entries : (patterns : List (List ℕ)) (entries : List ℕ) (n : ℕ) → length entries ≡ n
    → ((k : ℕ) → k < n → get_or entries k 0 ≡ filter_entry patterns k) → entries ≡ first_entries patterns n
unfolding first_entries
all_entries patterns entries n e same = fill_by_all (filter_entry patterns) entries n 0 e same

pub entries_are : (patterns : List (List ℕ)) (entries : List ℕ) → length entries ≡ 65536 → ((k : ℕ) → get_or entries k 0 < 2 ^ 8)
    → AreMarked entries patterns → entries ≡ first_entries patterns 65536
entries_are patterns entries size bytes marked =
    all_entries patterns entries 65536 size (λ k h. entry_is patterns k (get_or entries k 0) (bytes k) (λ j l. marked k j h l))

-- of a table with no 0 at all
pub none_marked : (entries : List ℕ) → ((pair j : ℕ) → pair < 65536 → j < 8 → is_clear (get_or entries pair 0) j ≡ false)
    → AreMarked entries []
none_marked entries ones = ones

-- with one pattern more
pub more_marked : (before now : List ℕ) (patterns : List (List ℕ)) (p : List ℕ) → AreMarked before patterns
    → ((pair j : ℕ) → pair < 65536 → j < 8
    → is_clear (get_or now pair 0) j ≡ (is_clear (get_or before pair 0) j || has_pair pair j (take 9 p)))
    → AreMarked now (patterns ++ p ∷ [])
more_marked before now patterns p marked step pair j h hj =
    step pair j h hj
    ∙ ap (λ t. t || has_pair pair j (take 9 p)) (marked pair j h hj)
    ∙ ap (λ t. some_has patterns pair j || t) (sym (or-none (has_pair pair j (take 9 p))))
    ∙ sym (list_any-append (λ q. has_pair pair j (take 9 q)) patterns (p ∷ []))

pub copies_at : (clones : ℕ → ℕ → Type 0) (e : ℕ) (ys : List ℕ) → ((y : ℕ) → clones e y → y ≡ e) → AllClonesOf clones e ys → (k : ℕ)
    → k < length ys → get_or ys k 0 ≡ e
copies_at clones e [] same all k h = absurd (omega arith)
copies_at clones e (y ∷ ys) same all zero h = elim all.0 [ inl is ↦ is | inr clone ↦ same y clone ]
copies_at clones e (y ∷ ys) same all (suc k) h = copies_at clones e ys same all.1 k (omega arith)

-- the first 9 bytes, as the code cuts them
pub window_is : (p : List ℕ) (n : ℕ) → n ≡ min (length p) 9 → take n p ≡ take 9 p
window_is p n e = by (cases_lt (length p) 9)
  where
    by : (length p < 9) ⊎ (9 ≤ length p) → take n p ≡ take 9 p
    by (inl short) = take_all n p (omega arith) ∙ sym (take_all 9 p (omega arith))
    by (inr long) = ap (λ m. take m p) (let nine : n ≡ 9 = omega arith in nine)

pub is_nil-push : (patterns : List (List ℕ)) (p : List ℕ) → false ≡ is_nil (patterns ++ p ∷ [])
is_nil-push [] p = refl
is_nil-push (q ∷ patterns) p = refl

pub window_len-push : (patterns : List (List ℕ)) (p : List ℕ) → window_len (patterns ++ p ∷ []) ≡ min (length p) (window_len patterns)
window_len-push [] p = refl
window_len-push (q ∷ patterns) p = ap (λ n. min (length q) n) (window_len-push patterns p)
    ∙ min_turned (length q) (length p) (window_len patterns)
  where
    min_turned : (a b c : ℕ) → min a (min b c) ≡ min b (min a c)
    min_turned a b c = omega arith
