-- Counts that grow by one character, and those of joined texts.
use Rattle.std.proofs.Common.{◌≡◌, ◌≢◌, ℕ, ◌+◌, ◌-◌, ◌<◌, ◌≤◌, Bool, true, false, cond, List, [], ◌∷◌, ◌++◌, length, get_or, set, take, replicate, refl, sym, ap, ◌∙◌, subst, arith, rules, get_or-set_same, get_or-set_other}
use Rattle.std.specs.Prelude.{nat_eq, count_by, slice_index}
use Rattle.std.proofs.lemmas.List.{append-nil, append_assoc, take_all, get_or_append_left, get_or-append_right, get_or-replicate, get_or_past, length-set, length-replicate}
use Rattle.std.proofs.lemmas.List.Sums.{sum_by-append}
use Rattle.std.proofs.lemmas.Map.Views.{exact_unsigned_eq}
use Rattle.std.proofs.lemmas.Bool.{eq-eqb}
use Rattle.std.proofs.lemmas.Grind.{get_or_default_zero}
use Rattle.daachorse.specs.charwise.Frequencies.{HasCounted, concatenation, frequency}

-- how often u is in two texts
pub count-append : (u : ℕ) (v w : List ℕ) → count_by (nat_eq u) (v ++ w) ≡ count_by (nat_eq u) v + count_by (nat_eq u) w
count-append u v w = sum_by-append (λ x. cond (nat_eq u x) 1 0) v w

-- no character is counted at first
pub none_counted : (new : List ℕ) → new ≡ [] → HasCounted [] [] new
none_counted new e = subst (λ xs. HasCounted [] [] xs) (sym e) (record { few = omega arith; counts = λ u. search rules })

zeros : (k i : ℕ) → slice_index (replicate k 0) i ≡ 0
zeros k i = grind (arith, get_or-replicate {A = ℕ}, get_or_past {X = ℕ}, length-replicate {A = ℕ})

-- zeros at the end change no count
pub padded : (xs : List ℕ) (n k u : ℕ) → length xs ≤ n → slice_index (take n xs ++ replicate k 0) u ≡ slice_index xs u
padded xs n k u short =
    let whole : take n xs ≡ xs = take_all n xs short in
    let z = zeros k (u - length xs) in
    rw whole (grind (arith, get_or_append_left xs (replicate k 0) 0 u, get_or-append_right xs (replicate k 0) (length xs) u 0 refl, get_or_past xs u 0, z))

counted_at : (old mid grown w : List ℕ) (c : ℕ) → HasCounted old w mid → ((u : ℕ) → slice_index grown u ≡ slice_index mid u) → length grown ≤ 1114112 → c < length grown
    → HasCounted old (w ++ c ∷ []) (set grown c (frequency (slice_index grown c + 1)))
counted_at old mid grown w c was same few inside = record {
  few = omega (arith, length-set grown c (frequency (slice_index grown c + 1)));
  counts = λ u. go u (nat_eq u c) refl;
}
  where
    one : (u : ℕ) (b : Bool) → nat_eq u c ≡ b → count_by (nat_eq u) (w ++ c ∷ []) ≡ count_by (nat_eq u) w + cond b 1 0
    one u b is = count-append u w (c ∷ []) ∙ ap (λ n. count_by (nat_eq u) w + (0 + n)) (ap (λ x. cond x 1 0) is) ∙ omega arith

    go : (u : ℕ) (b : Bool) → nat_eq u c ≡ b → slice_index (set grown c (frequency (slice_index grown c + 1))) u ≡ frequency (slice_index old u + count_by (nat_eq u) (w ++ c ∷ []))
    go u true is =
        let here : u ≡ c = exact_unsigned_eq u c is in
        let at : slice_index (set grown c (frequency (slice_index grown c + 1))) u ≡ frequency (slice_index grown c + 1) =
        ap (slice_index (set grown c (frequency (slice_index grown c + 1)))) here ∙ get_or-set_same grown c (frequency (slice_index grown c + 1)) 0 inside in
        let mids : slice_index mid u ≡ frequency (slice_index old u + count_by (nat_eq u) w) = was.counts u in
        let grew : slice_index grown c ≡ slice_index mid u = ap (slice_index grown) (sym here) ∙ same u in
        omega (arith, at, mids, grew, one u true is)
    go u false is =
        let other : u ≢ c = λ e. (let k : nat_eq u c ≡ true = eq-eqb u c e in cc) in
        let at : slice_index (set grown c (frequency (slice_index grown c + 1))) u ≡ slice_index grown u = get_or-set_other grown c u (frequency (slice_index grown c + 1)) 0 other in
        omega (arith, at, was.counts u, same u, one u false is)

-- the counts with those of one more character
pub counted_more : (old mid grown w : List ℕ) (c had : ℕ) → HasCounted old w mid → ((u : ℕ) → slice_index grown u ≡ slice_index mid u) → length grown ≤ 1114112 → c < length grown
    → had ≡ get_or grown c had → HasCounted old (w ++ c ∷ []) (set grown c (frequency (had + 1)))
counted_more old mid grown w c had was same few inside reads =
    let at : had ≡ slice_index grown c = reads ∙ get_or_default_zero grown c had inside in
    let P : ℕ → Type 0 = λ n. HasCounted old (w ++ c ∷ []) (set grown c (frequency (n + 1))) in
    subst P (sym at) (counted_at old mid grown w c was same few inside)

-- the counts with those of a further text
pub counted_both : (old mid new v w : List ℕ) → HasCounted old v mid → HasCounted mid w new → HasCounted old (v ++ w) new
counted_both old mid new v w first then = record { few = then.few; counts = λ u. omega (arith, first.counts u, then.counts u, count-append u v w) }

pub concatenation-push : (ws : List (List ℕ)) (w : List ℕ) → concatenation (ws ++ w ∷ []) ≡ concatenation ws ++ w
concatenation-push [] w = append-nil w
concatenation-push (v ∷ ws) w = ap (λ l. v ++ l) (concatenation-push ws w) ∙ sym (append_assoc v (concatenation ws) w)
