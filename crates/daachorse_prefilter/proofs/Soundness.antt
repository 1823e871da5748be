-- A pattern is at least as long as the window, and each of its pairs stands at its offset: so its filter passes at its beginning.
use Rattle.std.proofs.Common.{◌≡◌, ℕ, zero, suc, ◌-◌, ◌^◌, ◌<◌, ◌≤◌, ◌⊎◌, true, false, List, [], ◌∷◌, length, get_or, take, All, Some, None}
use Rattle.std.proofs.Common.{refl, ap, ◌∙◌, inl, inr, arith}
use Rattle.std.specs.Prelude.{nat_le}
use Rattle.std.proofs.lemmas.Bool.{cases_lt, le-leb, lt-ltb, eq-eqb, and_from, and_right}
use Rattle.std.proofs.lemmas.List.{length-take, get_or-take, get_or_past}
use Rattle.std.proofs.lemmas.List.Elements.{All-from_get_or}
use Rattle.std.proofs.lemmas.List.Folds.{list_any_at}
use Rattle.daachorse_model.specs.Filter.{is_clear, pairs_pass, passes, has_pair}
use Rattle.daachorse_prefilter.specs.Filters.{Filter}
use Rattle.daachorse_prefilter.specs.Building.{window_len, first_entries, filter_of, is_sparse, is_worth, built_filter}
use Rattle.daachorse_prefilter.specs.Builders.{AreMarked, is_nil}
use Rattle.daachorse_prefilter.proofs.ClearBits.{is_clear_zero}
use Rattle.daachorse_prefilter.proofs.NextPlaces.{pairs_pass_more}
use Rattle.daachorse_prefilter.proofs.Marking.{pair_at, has_pair_at}
use Rattle.daachorse_prefilter.proofs.Tables.{entries_are}

pairs_pass_all : (t : ℕ → ℕ) (w : List ℕ) (k : ℕ) → k < length w → ((j : ℕ) → j < k → is_clear (t (pair_at w j)) j ≡ true)
    → pairs_pass t 0 k w ≡ true
pairs_pass_all t w zero h f = refl
pairs_pass_all t w (suc k) h f =
    let rest = pairs_pass_all t w k (omega arith) (λ j l. f j (omega arith)) in
    pairs_pass_more t 0 k k w h (omega arith) ∙ rw rest (f k (omega arith))

window_len-nine : (patterns : List (List ℕ)) → window_len patterns ≤ 9
window_len-nine [] = omega arith
window_len-nine (p ∷ patterns) = let rest = window_len-nine patterns in omega arith

window_len-le : (patterns : List (List ℕ)) (i : ℕ) → i < length patterns → window_len patterns ≤ length (get_or patterns i [])
window_len-le [] i h = absurd (omega arith)
window_len-le (p ∷ patterns) zero h = omega arith
window_len-le (p ∷ patterns) (suc i) h = let rest = window_len-le patterns i (omega arith) in omega arith

-- a pair of the pattern stands at its offset in the pattern's first 9 bytes
has_own : (p : List ℕ) (j : ℕ) → suc j < length p → suc j < 9 → has_pair (pair_at p j) j (take 9 p) ≡ true
has_own p j h nine =
    let size = length-take 9 p in
    let first : get_or (take 9 p) j 0 ≡ get_or p j 0 = get_or-take 9 p j 0 (omega arith) in
    let second : get_or (take 9 p) (suc j) 0 ≡ get_or p (suc j) 0 = get_or-take 9 p (suc j) 0 (omega arith) in
    let long = lt-ltb (suc j) (length (take 9 p)) (omega arith) in
    let same = eq-eqb (pair_at (take 9 p) j) (pair_at p j) (omega arith) in
    has_pair_at (pair_at p j) j (take 9 p) ∙ rw (long, same) refl

own_clear : (entries : List ℕ) (patterns : List (List ℕ)) (i j pair : ℕ) → length entries ≡ 65536 → AreMarked entries patterns
    → i < length patterns → j < 8 → has_pair pair j (take 9 (get_or patterns i [])) ≡ true → is_clear (get_or entries pair 0) j ≡ true
own_clear entries patterns i j pair size marked h hj has = by (cases_lt pair 65536)
  where
    by : (pair < 65536) ⊎ (65536 ≤ pair) → is_clear (get_or entries pair 0) j ≡ true
    by (inl inside) = marked pair j inside hj ∙ list_any_at (λ p. has_pair pair j (take 9 p)) patterns i [] h has
    by (inr past) = ap (λ e. is_clear e j) (get_or_past entries pair 0 (omega arith)) ∙ is_clear_zero j

pub sound : (entries : List ℕ) (patterns : List (List ℕ)) (m : ℕ) → length entries ≡ 65536 → m ≡ window_len patterns → 2 ≤ m
    → AreMarked entries patterns → All (λ p. passes (λ pair. get_or entries pair 0) m p ≡ true) patterns
sound entries patterns m size is low marked =
    All-from_get_or (λ p. passes (λ pair. get_or entries pair 0) m p ≡ true) patterns [] (λ i h. passes_own i h)
  where
    passes_own : (i : ℕ) → i < length patterns → passes (λ pair. get_or entries pair 0) m (get_or patterns i []) ≡ true
    passes_own i h =
        let p = get_or patterns i [] in
        let nine = window_len-nine patterns in
        let short = window_len-le patterns i h in
        let fits : nat_le m (length p) ≡ true = le-leb m (length p) (omega arith) in
        rw fits (pairs_pass_all (λ pair. get_or entries pair 0) p (m - 1) (omega arith)
        (λ j l. own_clear entries patterns i j (pair_at p j) size marked h (omega arith) (has_own p j (omega arith) (omega arith))))

some_made : (patterns : List (List ℕ)) → is_nil patterns ≡ false → is_worth (filter_of patterns) ≡ true
    → Some (filter_of patterns) ≡ built_filter patterns
some_made [] e worth = cc
some_made (p ∷ patterns) e worth = rw worth refl

none_made : (patterns : List (List ℕ)) → is_worth (filter_of patterns) ≡ false → None ≡ built_filter patterns
none_made [] worth = refl
none_made (p ∷ patterns) worth = rw worth refl

pub none_empty : (patterns : List (List ℕ)) → is_nil patterns ≡ true → None ≡ built_filter patterns
none_empty [] e = refl
none_empty (p ∷ patterns) e = cc

-- the filter of a table whose bits are those of the patterns
same_filter : (entries : List ℕ) (patterns : List (List ℕ)) (m : ℕ) → m ≡ window_len patterns → entries ≡ first_entries patterns 65536
    → let f : Filter = record { window = m; entries = entries } in f ≡ filter_of patterns
same_filter entries patterns m is same = rw (is, same) refl

pub none_dense : (entries : List ℕ) (patterns : List (List ℕ)) (m : ℕ) → length entries ≡ 65536 → ((k : ℕ) → get_or entries k 0 < 2 ^ 8)
    → m ≡ window_len patterns → AreMarked entries patterns → is_sparse entries (m - 1) ≡ false → None ≡ built_filter patterns
none_dense entries patterns m size bytes is marked dense =
    let same = entries_are patterns entries size bytes marked in
    let worth : is_sparse (first_entries patterns 65536) (window_len patterns - 1) ≡ false = rw (← same, ← is) dense in
    none_made patterns (and_right (nat_le 2 (window_len patterns)) _ worth)

pub some_sparse : (entries : List ℕ) (patterns : List (List ℕ)) (m : ℕ) → length entries ≡ 65536 → ((k : ℕ) → get_or entries k 0 < 2 ^ 8)
    → is_nil patterns ≡ false → m ≡ window_len patterns → 2 ≤ m → AreMarked entries patterns → is_sparse entries (m - 1) ≡ true
    → let f : Filter = record { window = m; entries = entries } in Some f ≡ built_filter patterns
some_sparse entries patterns m size bytes some is low marked sparse =
    let same = entries_are patterns entries size bytes marked in
    let worth : is_sparse (first_entries patterns 65536) (window_len patterns - 1) ≡ true = rw (← same, ← is) sparse in
    let long : nat_le 2 (window_len patterns) ≡ true = le-leb 2 (window_len patterns) (omega arith) in
    ap (λ f. Some f) (same_filter entries patterns m is same)
    ∙ some_made patterns some (and_from (nat_le 2 (window_len patterns)) _ long worth)
