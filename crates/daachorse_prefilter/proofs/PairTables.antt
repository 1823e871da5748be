-- A pair whose bytes are transposed twice is the same pair, so a table that is transposed twice is the same table.
use Rattle.std.proofs.Common.{◌≡◌, ◌≢◌, ℕ, suc, ◌+◌, ◌-◌, ◌*◌, ◌^◌, ◌<◌, ◌≤◌, ◌⊎◌, List, [], ◌∷◌, ◌++◌, length, get_or, set, refl, sym, ap}
use Rattle.std.proofs.Common.{◌∙◌, subst, inl, inr, arith, append_assoc, get_or-set_other}
use Rattle.std.specs.Prelude.{nat_eq}
use Rattle.std.specs.Cmp.Lexicographic.{pointwise}
use Rattle.std.specs.List.{AllClonesOf}
use Rattle.std.proofs.lemmas.Bool.{cases_eq, cases_lt}
use Rattle.std.proofs.lemmas.Bool.Decides.{Decides-eqb, same_from_decides}
use Rattle.std.proofs.lemmas.Grind.{get_or-set_at}
use Rattle.std.proofs.lemmas.List.{get_or_past, get_or_append_left, get_or-append_right, length-append, length-set}
use Rattle.std.proofs.lemmas.List.FromFn.{fill_by_all, get_or-map-range_with_len, length-map-range_with_len}
use Rattle.std.proofs.lemmas.Slice.Eq.{slice_eq-Decides}
use Rattle.daachorse_prefilter.specs.PairTables.{transposed, first_transposed, transposed_table}
use Rattle.daachorse_prefilter.proofs.Tables.{copies_at}

pub transposed_below : (pair : ℕ) → pair < 65536 → transposed pair < 65536
transposed_below pair h = omega arith

-- the number of bytes a and b in memory is that of b and a in the written order
pub transposed_pair : (a b : ℕ) → a < 256 → transposed (a + b * 256) ≡ a * 256 + b
transposed_pair a b h = omega arith

pub transposed_twice : (pair : ℕ) → pair < 65536 → transposed (transposed pair) ≡ pair
transposed_twice pair h = omega arith

-- two lists of n numbers, each of which is the same in both
same_items : (n : ℕ) (xs ys : List ℕ) → length xs ≡ n → length ys ≡ n → ((k : ℕ) → k < n → get_or xs k 0 ≡ get_or ys k 0) → xs ≡ ys
same_items n xs ys size other same =
    fill_by_all (λ k. get_or ys k 0) xs n 0 size same ∙ sym (fill_by_all (λ k. get_or ys k 0) ys n 0 other (λ k h. refl))

length_first : (entries : List ℕ) (n : ℕ) → length (first_transposed entries n) ≡ n
unfolding first_transposed
length_first entries n = length-map-range_with_len (λ pair. get_or entries (transposed pair) 0) 0 n

pub length-transposed_table : (entries : List ℕ) → length (transposed_table entries) ≡ 65536
length-transposed_table entries = length_first entries 65536

get_or_first : (entries : List ℕ) (n pair : ℕ) → pair < n → get_or (first_transposed entries n) pair 0 ≡ get_or entries (transposed pair) 0
unfolding first_transposed
get_or_first entries n pair h = get_or-map-range_with_len (λ p. get_or entries (transposed p) 0) 0 n pair pair 0 h (omega arith)

-- the entry of a transposed pair is that of the pair
pub get_or-transposed_table : (entries : List ℕ) (pair : ℕ) → pair < 65536
    → get_or (transposed_table entries) pair 0 ≡ get_or entries (transposed pair) 0
get_or-transposed_table entries pair h = get_or_first entries 65536 pair h

pub get_or-transposed_back : (entries : List ℕ) (pair : ℕ) → pair < 65536
    → get_or entries pair 0 ≡ get_or (transposed_table entries) (transposed pair) 0
get_or-transposed_back entries pair h =
    sym (get_or-transposed_table entries (transposed pair) (transposed_below pair h)
    ∙ ap (λ p. get_or entries p 0) (transposed_twice pair h))

pub transposed_table_twice : (entries : List ℕ) → length entries ≡ 65536 → transposed_table (transposed_table entries) ≡ entries
transposed_table_twice entries size =
    same_items 65536 (transposed_table (transposed_table entries)) entries (length-transposed_table (transposed_table entries)) size
    (λ k h. get_or-transposed_table (transposed_table entries) k h ∙ sym (get_or-transposed_back entries k h))

-- m entries more
first_transposed_more : (entries row : List ℕ) (n m : ℕ) → length row ≡ m
    → ((j : ℕ) → j < m → get_or row j 0 ≡ get_or entries (transposed (n + j)) 0)
    → first_transposed entries (n + m) ≡ first_transposed entries n ++ row
first_transposed_more entries row n m size is =
    let front : length (first_transposed entries n) ≡ n = length_first entries n in
    let whole : length (first_transposed entries n ++ row) ≡ n + m = omega (arith, length-append (first_transposed entries n) row) in
    same_items (n + m) (first_transposed entries (n + m)) (first_transposed entries n ++ row) (length_first entries (n + m)) whole
    (λ k h. get_or_first entries (n + m) k h ∙ by k h (cases_lt k n))
  where
    by : (k : ℕ) → k < n + m → (k < n) ⊎ (n ≤ k) → get_or entries (transposed k) 0 ≡ get_or (first_transposed entries n ++ row) k 0
    by k h (inl low) =
        let front : length (first_transposed entries n) ≡ n = length_first entries n in
        sym (get_or_append_left (first_transposed entries n) row 0 k (omega arith) ∙ get_or_first entries n k low)
    by k h (inr high) =
        let back : n + (k - n) ≡ k = omega arith in
        ap (λ i. get_or entries (transposed i) 0) (sym back)
        ∙ sym (is (k - n) (omega arith))
        ∙ sym (get_or-append_right (first_transposed entries n) row n k 0 (length_first entries n) high)

pub push_more : (old before after entries row : List ℕ) (n m : ℕ) → before ≡ old ++ first_transposed entries n → length row ≡ m
    → ((j : ℕ) → j < m → get_or row j 0 ≡ get_or entries (transposed (n + j)) 0) → after ≡ before ++ row
    → after ≡ old ++ first_transposed entries (n + m)
push_more old before after entries row n m so_far size is pushed =
    pushed
    ∙ ap (λ w. w ++ row) so_far
    ∙ append_assoc old (first_transposed entries n) row
    ∙ ap (λ w. old ++ w) (sym (first_transposed_more entries row n m size is))

-- the entry of byte `first` before `byte`
pub row_more : (entries row : List ℕ) (byte first : ℕ) → byte < 256 → first < 256 → length row ≡ 256
    → ((k : ℕ) → k < first → get_or row k 0 ≡ get_or entries (transposed (byte * 256 + k)) 0)
    → (k : ℕ) → k < first + 1 → get_or (set row first (get_or entries (first * 256 + byte) 0)) k 0 ≡ get_or entries
    (transposed (byte * 256 + k)) 0
row_more entries row byte first hb hf size is k h = by (cases_eq k first)
  where
    by : (k ≡ first) ⊎ (k ≢ first) → get_or (set row first (get_or entries (first * 256 + byte) 0)) k 0 ≡ get_or entries
        (transposed (byte * 256 + k)) 0
    by (inl here) =
        let same : first * 256 + byte ≡ transposed (byte * 256 + k) = omega arith in
        get_or-set_at row first k (get_or entries (first * 256 + byte) 0) 0 here (omega arith) ∙ ap (λ p. get_or entries p 0) same
    by (inr other) = get_or-set_other row first k (get_or entries (first * 256 + byte) 0) 0 other ∙ is k (omega arith)

pub first_transposed_none : (entries : List ℕ) → first_transposed entries 0 ≡ []
unfolding first_transposed
first_transposed_none entries = refl

pub transposed_set : (entries : List ℕ) (pair entry : ℕ) → pair < 65536 → length entries ≡ 65536
    → transposed_table (set entries pair entry) ≡ set (transposed_table entries) (transposed pair) entry
transposed_set entries pair entry inside size =
    same_items 65536 (transposed_table (set entries pair entry)) (set (transposed_table entries) (transposed pair) entry)
    (length-transposed_table (set entries pair entry))
    (length-set (transposed_table entries) (transposed pair) entry ∙ length-transposed_table entries)
    (λ k h. get_or-transposed_table (set entries pair entry) k h ∙ by k h (cases_eq k (transposed pair)))
  where
    by : (k : ℕ) → k < 65536 → (k ≡ transposed pair) ⊎ (k ≢ transposed pair)
        → get_or (set entries pair entry) (transposed k) 0 ≡ get_or (set (transposed_table entries) (transposed pair) entry) k 0
    by k h (inl here) =
        let back : transposed k ≡ pair = ap transposed here ∙ transposed_twice pair inside in
        let wide : transposed pair < length (transposed_table entries) =
        subst (λ n. transposed pair < n) (sym (length-transposed_table entries)) (transposed_below pair inside) in
        get_or-set_at entries pair (transposed k) entry 0 back (subst (λ n. pair < n) (sym size) inside)
        ∙ sym (get_or-set_at (transposed_table entries) (transposed pair) k entry 0 here wide)
    by k h (inr other) =
        let apart : transposed k ≢ pair = λ e. other (sym (transposed_twice k h) ∙ ap transposed e) in
        get_or-set_other entries pair (transposed k) entry 0 apart
        ∙ sym (get_or-transposed_table entries k h)
        ∙ sym (get_or-set_other (transposed_table entries) (transposed pair) k entry 0 other)

-- a list whose elements are all the same number
copies_from : (clones : ℕ → ℕ → Type 0) (e : ℕ) (ys : List ℕ) → ((k : ℕ) → k < length ys → get_or ys k 0 ≡ e) → AllClonesOf clones e ys
copies_from clones e [] same = tt
copies_from clones e (y ∷ ys) same = (inl (same 0 (omega arith)), copies_from clones e ys (λ k h. same (suc k) (omega arith)))

pub transposed_copies : (clones : ℕ → ℕ → Type 0) (e : ℕ) (entries : List ℕ) → ((y : ℕ) → clones e y → y ≡ e) → length entries ≡ 65536
    → AllClonesOf clones e entries → AllClonesOf clones e (transposed_table entries)
transposed_copies clones e entries same size all =
    copies_from clones e (transposed_table entries) (λ k h. each k (subst (λ n. k < n) (length-transposed_table entries) h))
  where
    each : (k : ℕ) → k < 65536 → get_or (transposed_table entries) k 0 ≡ e
    each k h = get_or-transposed_table entries k h ∙ copies_at clones e entries same all (transposed k)
        (subst (λ n. transposed k < n) (sym size) (transposed_below k h))

pub transposed_bytes : (entries : List ℕ) → ((k : ℕ) → get_or entries k 0 < 2 ^ 8) → (k : ℕ) → get_or (transposed_table entries) k 0 < 2 ^ 8
transposed_bytes entries bytes k = by (cases_lt k 65536)
  where
    by : (k < 65536) ⊎ (65536 ≤ k) → get_or (transposed_table entries) k 0 < 2 ^ 8
    by (inl inside) = subst (λ n. n < 2 ^ 8) (sym (get_or-transposed_table entries k inside)) (bytes (transposed k))
    by (inr past) =
        let zero_there : get_or (transposed_table entries) k 0 ≡ 0 =
        get_or_past (transposed_table entries) k 0 (subst (λ n. n ≤ k) (sym (length-transposed_table entries)) past) in
        omega arith

-- two tables are equal just where they are in memory
pub transposed_eq : (v w : List ℕ) → length v ≡ 65536 → length w ≡ 65536
    → pointwise nat_eq v w ≡ pointwise nat_eq (transposed_table v) (transposed_table w)
transposed_eq v w size other =
    let plain = slice_eq-Decides Decides-eqb v w (pointwise nat_eq v w) refl in
    let in_memory = slice_eq-Decides Decides-eqb (transposed_table v) (transposed_table w)
    (pointwise nat_eq (transposed_table v) (transposed_table w)) refl in
    same_from_decides (pointwise nat_eq v w) (pointwise nat_eq (transposed_table v) (transposed_table w)) plain (
      λ t. sym (transposed_table_twice v size) ∙ ap transposed_table (in_memory.0 t)
          ∙ transposed_table_twice w other,
      λ e. in_memory.1 (ap transposed_table e),
    )

-- the pair of bytes a and b, which has this number in memory
pub transposed_is : (a b pair : ℕ) → a < 256 → pair ≡ a + b * 256 → transposed pair ≡ a * 256 + b
transposed_is a b pair h e = ap transposed e ∙ transposed_pair a b h

pub entry_at : (entries : List ℕ) (a b pair : ℕ) → a < 256 → pair ≡ a + b * 256
    → get_or entries (transposed pair) 0 ≡ get_or entries (a * 256 + b) 0
entry_at entries a b pair h e = ap (λ p. get_or entries p 0) (transposed_is a b pair h e)
