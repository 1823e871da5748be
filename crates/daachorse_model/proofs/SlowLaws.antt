-- Steps of the plain searches over the definitions: one more unit or one more pattern adds what the definition adds.
use Rattle.std.proofs.Common.{◌≡◌, ℕ, zero, suc, ◌+◌, ◌*◌, ◌<◌, ◌≤◌, ◌⊎◌, inl, inr, Bool, true, false, cond, List, [], ◌∷◌, ◌++◌, length, take, drop, get_or, refl, drop-cons, ap, sym, ◌∙◌, arith, add-one, Bor, Option, Some, None, slice_get, ◌-◌}
use Rattle.std.proofs.lemmas.List.{map-append, append_assoc, append-nil, drop-take, drop-append-le, length-take-le, length-drop}
use Rattle.std.proofs.lemmas.Str.{len_utf8_bounds}
use Rattle.std.proofs.Math.Seq.{take-suc}
use Rattle.daachorse_model.specs.declared.Match.{Match}
use Rattle.daachorse_model.specs.declared.slow.Width.{Width}
use Rattle.daachorse_model.specs.declared.slow.Width.TheVariants.{Bytes, Chars}
use Rattle.daachorse_model.specs.Units.{same_text, size}
use Rattle.daachorse_model.specs.Dictionary.{Dictionary, values_of, registrations_of}
use Rattle.daachorse_model.specs.Matches.{matches_of, ending_at, at_each_end, standard_from}
use Rattle.daachorse_model.specs.Slow.{width_of}
use Rattle.daachorse_model.proofs.Suffixes.{size-append, size-push}
use Rattle.daachorse_model.proofs.Searches.{first_or}

-- ---- sizes

width_most : (width : Width) (u : ℕ) → width_of width u ≤ 4
width_most Bytes u = omega arith
width_most Chars u = (len_utf8_bounds u).1

-- a text takes at most four bytes a unit
pub size-most : (width : Width) (w : List ℕ) → size (width_of width) w ≤ 4 * length w
size-most width [] = omega arith
size-most width (u ∷ w) = omega (arith, width_most width u, size-most width w)

pub drop-next : (w : List ℕ) (i : ℕ) → i < length w → drop i w ≡ get_or w i 0 ∷ drop (i + 1) w
drop-next w i h = rw add-one (drop-cons w i 0 h)

pub size-drop : (width : ℕ → ℕ) (w : List ℕ) (i : ℕ) → i < length w → size width (drop i w) ≡ width (get_or w i 0) + size width (drop (i + 1) w)
size-drop width w i h = ap (size width) (drop-next w i h)

pub drop-all : (w : List ℕ) (i : ℕ) → length w ≤ i → drop i w ≡ []
drop-all [] zero h = refl
drop-all [] (suc i) h = refl
drop-all (u ∷ w) zero h = absurd (omega arith)
drop-all (u ∷ w) (suc i) h = drop-all w i (omega arith)

pub take-all : (w : List ℕ) (i : ℕ) → length w ≤ i → take i w ≡ w
take-all [] zero h = refl
take-all [] (suc i) h = refl
take-all (u ∷ w) zero h = absurd (omega arith)
take-all (u ∷ w) (suc i) h = ap {B = List ℕ} (λ r. u ∷ r) (take-all w i (omega arith))

-- ---- patterns

-- the values that one registration adds
abbrev value_if : {V : Type 0} → Bool → V → List V
value_if b v = cond b (v ∷ []) []

cond-append : {V : Type 0} (b : Bool) (v : V) (xs ys zs : List V) → xs ≡ ys ++ zs → cond b (v ∷ xs) xs ≡ cond b (v ∷ ys) ys ++ zs
cond-append true v xs ys zs e = ap {B = List _} (λ r. v ∷ r) e
cond-append false v xs ys zs e = e

values_of-suc : {V : Type 0} (ps : List (Bor (List ℕ) × V)) (i : ℕ) (p : Bor (List ℕ) × V) (w : List ℕ) → i < length ps → p ≡ get_or ps i p
    → values_of (registrations_of (take (suc i) ps)) w ≡ values_of (registrations_of (take i ps)) w ++ value_if (same_text p.0.now w) p.1
values_of-suc [] i p w h e = absurd (omega arith)
values_of-suc (x ∷ xs) zero p w h e = ap (λ r. value_if (same_text r.0.now w) r.1) (sym e)
values_of-suc (x ∷ xs) (suc i) p w h e =
    cond-append (same_text x.0.now w) x.1 (values_of (registrations_of (take (suc i) xs)) w) (values_of (registrations_of (take i xs)) w) (value_if (same_text p.0.now w) p.1)
    (values_of-suc xs i p w (omega arith) e)

-- one more registration adds its match where the test says so
pub matches_of-step : {V : Type 0} (ps : List (Bor (List ℕ) × V)) (i : ℕ) (p : Bor (List ℕ) × V) (s e : ℕ) (w : List ℕ) (found more : List (Match V)) (b : Bool)
    → i < length ps → p ≡ get_or ps i p → b ≡ same_text p.0.now w
    → found ≡ more ++ matches_of (values_of (registrations_of (take i ps))) s e w
    → found ++ cond b (record { start = s; end = e; value = p.1 } ∷ []) [] ≡ more ++ matches_of (values_of (registrations_of (take (i + 1) ps))) s e w
matches_of-step ps i p s e w found more true h is t f =
    rw (add-one, values_of-suc ps i p w h is, ← t, map-append, ← append_assoc) (ap (λ r. r ++ record { start = s; end = e; value = p.1 } ∷ []) f)
matches_of-step ps i p s e w found more false h is t f =
    rw (add-one, values_of-suc ps i p w h is, ← t, map-append, ← append_assoc) (ap (λ r. r ++ []) f)

pub drop-item : {X : Type 0} (xs : List X) (i : ℕ) (x : X) → i < length xs → x ≡ get_or xs i x → drop i xs ≡ x ∷ drop (i + 1) xs
drop-item xs i x h is = rw add-one (drop-cons xs i x h ∙ ap (λ y. y ∷ drop (suc i) xs) (sym is))

-- ---- starts and ends

-- one more end adds what is found there
pub at_each_end-step : {A : Type 0} (f : List ℕ → List A) (h : List ℕ) (i : ℕ) (found more : List A) → i < length h
    → more ≡ found ++ f (take i h)
    → more ++ at_each_end f (take (i + 1) h) (drop (i + 1) h) ≡ found ++ at_each_end f (take i h) (drop i h)
at_each_end-step f h i found more lt e =
    rw (add-one, take-suc h i 0) (one_end (take i h) (drop i h) (drop (suc i) h) (get_or h i 0) (drop-cons h i 0 lt) e)
  where
    one_end : (t w r : List ℕ) (u : ℕ) → w ≡ u ∷ r → more ≡ found ++ f t → more ++ at_each_end f (t ++ u ∷ []) r ≡ found ++ at_each_end f t w
    one_end t w r u cut here = rw (here, cut, append_assoc)

-- the last end, where nothing is left
pub at_each_end-last : {A : Type 0} (f : List ℕ → List A) (h : List ℕ) (i : ℕ) (found more : List A) → length h ≤ i
    → more ≡ found ++ f h
    → more ≡ found ++ at_each_end f (take i h) (drop i h)
at_each_end-last f h i found more all e = rw (drop-all h i all, take-all h i all) e

-- the first of a list, as a list
pub first-some : {A : Type 0} (xs found more : List A) (x : A) → Some x ≡ slice_get xs 0 → more ≡ found ++ x ∷ [] → more ≡ found ++ take 1 xs
first-some [] found more x is e = cc
first-some (y ∷ xs) found more x is e = let same : x ≡ y = cc in e ∙ ap (λ z. found ++ z ∷ []) same

pub first-none : {A : Type 0} (xs found : List A) → None ≡ slice_get xs 0 → found ≡ found ++ take 1 xs
first-none [] found is = sym (append-nil found)
first-none (y ∷ xs) found is = cc

-- ---- parts of a text

take-nil : (n : ℕ) → take {A = ℕ} n [] ≡ []
take-nil zero = refl
take-nil (suc n) = refl

pub take-join : (h : List ℕ) (s n : ℕ) → take s h ++ take n (drop s h) ≡ take (s + n) h
take-join h zero n = let sum : zero + n ≡ n = omega arith in rw sum refl
take-join [] (suc s) n = rw (take-nil n, take-nil (suc s + n)) refl
take-join (u ∷ h) (suc s) n = let sum : suc s + n ≡ suc (s + n) = omega arith in rw sum (ap {B = List ℕ} (λ r. u ∷ r) (take-join h s n))

-- the size up to a place and of a part there is the size up to the end of the part
pub size-join : (width : ℕ → ℕ) (h : List ℕ) (s n e : ℕ) → s + n ≡ e → size width (take s h) + size width (take n (drop s h)) ≡ size width (take e h)
size-join width h s n e sum = sym (size-append width (take s h) (take n (drop s h))) ∙ ap (size width) (take-join h s n ∙ ap (λ k. take k h) sum)

pub size-next : (width : ℕ → ℕ) (h : List ℕ) (i : ℕ) → i < length h → size width (take (i + 1) h) ≡ size width (take i h) + width (get_or h i 0)
size-next width h i lt = rw (add-one, take-suc h i 0 lt) (size-push width (take i h) (get_or h i 0))

pub part-drop : (h : List ℕ) (s e : ℕ) → s ≤ e → take (e - s) (drop s h) ≡ drop s (take e h)
part-drop h s e le =
    let sum : s + (e - s) ≡ e = omega arith in
    sym (drop-take s (e - s) h) ∙ ap (λ n. drop s (take n h)) sum

-- a part with one more unit
part-next : (h : List ℕ) (s i : ℕ) → s ≤ i → i < length h → drop s (take i h) ++ get_or h i 0 ∷ [] ≡ drop s (take (i + 1) h)
part-next h s i le lt =
    sym (drop-append-le s (take i h) (get_or h i 0 ∷ []) (rw (length-take-le i h (omega arith)) le)) ∙ ap (drop s) (sym (take-suc h i 0 lt) ∙ ap (λ n. take n h) (sym (add-one i)))

-- ---- standard matches

module _ {V : Type 0} (width : ℕ → ℕ) (K : Dictionary V) where
  -- what is found with one more unit: `first` is the first match at the end of the part since the resume point
  abbrev pub after_first : ℕ → ℕ → List ℕ → List ℕ → Option (Match V) → List (Match V)
  after_first r e part rest None = standard_from width K r part rest
  after_first r e part rest (Some m) = m ∷ standard_from width K e [] rest

  -- the same by the definition, where the part ends at e
  abbrev by_end : ℕ → List ℕ → ℕ → List ℕ → List (Match V)
  by_end r rest e part = first_or (ending_at width K r e part) (standard_from width K r part rest) (standard_from width K e [] rest)

  standard_from-unit : (r e u : ℕ) (t part w rest : List ℕ) (first : Option (Match V)) → w ≡ u ∷ rest → t ++ u ∷ [] ≡ part → e ≡ r + size width part → first ≡ slice_get (ending_at width K r e part) 0
      → standard_from width K r t w ≡ after_first r e part rest first
  standard_from-unit r e u t part w rest first cut more at is =
      ap (standard_from width K r t) cut ∙ (ap (λ x. by_end r rest (r + size width x) x) more ∙ (ap (λ n. by_end r rest n part) (sym at) ∙ (by_first (ending_at width K r e part) ∙ ap (after_first r e part rest) (sym is))))
    where
      by_first : (ms : List (Match V)) → first_or ms (standard_from width K r part rest) (standard_from width K e [] rest) ≡ after_first r e part rest (slice_get ms 0)
      by_first [] = refl
      by_first (m ∷ ms) = refl

  -- the same at place i of a haystack, where the search resumed at place s
  pub standard_from-read : (h : List ℕ) (s i r e : ℕ) (first : Option (Match V)) → s ≤ i → i < length h → r ≡ size width (take s h) → e ≡ size width (take (i + 1) h)
      → first ≡ slice_get (ending_at width K r e (take (i + 1 - s) (drop s h))) 0
      → standard_from width K r (drop s (take i h)) (drop i h) ≡ after_first r e (drop s (take (i + 1) h)) (drop (i + 1) h) first
  standard_from-read h s i r e first le lt start end is =
      let part = part-drop h s (i + 1) (omega arith) in
      let sum : s + (i + 1 - s) ≡ i + 1 = omega arith in
      standard_from-unit r e (get_or h i 0) (drop s (take i h)) (drop s (take (i + 1) h)) (drop i h) (drop (i + 1) h) first (drop-next h i lt) (part-next h s i le lt)
      (omega (arith, start, end, size-join width h s (i + 1 - s) (i + 1) sum, ap (size width) part)) (is ∙ ap (λ x. slice_get (ending_at width K r e x) 0) part)

  -- what follows a match at the end of place i
  resumed : (h : List ℕ) (i e : ℕ) → i < length h → e ≡ size width (take (i + 1) h)
      → standard_from width K (size width (take (i + 1) h)) (drop (i + 1) (take (i + 1) h)) (drop (i + 1) h) ≡ standard_from width K e [] (drop (i + 1) h)
  resumed h i e lt end = rw (drop-all (take (i + 1) h) (i + 1) (rw (length-take-le (i + 1) h (omega arith)) (omega arith)), end) refl

  -- what is still found after i units, where the search resumed at place s
  abbrev pub standard_left : List ℕ → ℕ → ℕ → List (Match V)
  standard_left h s i = standard_from width K (size width (take s h)) (drop s (take i h)) (drop i h)

  -- one more unit: nothing is found, or a match, and the search resumes after it
  pub standard_left-next : (h : List ℕ) (s next i r e : ℕ) (first : Option (Match V)) (found more all : List (Match V)) → s ≤ i → i < length h → r ≡ size width (take s h) → e ≡ size width (take (i + 1) h)
      → first ≡ slice_get (ending_at width K r e (take (i + 1 - s) (drop s h))) 0
      → ((first ≡ None) × (more ≡ found) × (next ≡ s)) ⊎ ((m : Match V) × (first ≡ Some m) × (more ≡ found ++ m ∷ []) × (next ≡ i + 1))
      → found ++ standard_left h s i ≡ all → (next ≤ i + 1) × (more ++ standard_left h next (i + 1) ≡ all)
  standard_left-next h s next i r e first found more all le lt start end is (inl (none, same, stays)) so_far =
      let read = standard_from-read h s i r e first le lt start end is in
      let rest : standard_left h s i ≡ standard_left h s (i + 1) =
      ap (λ n. standard_from width K n (drop s (take i h)) (drop i h)) (sym start) ∙ (read ∙ (ap (after_first r e (drop s (take (i + 1) h)) (drop (i + 1) h)) none
      ∙ ap (λ n. standard_from width K n (drop s (take (i + 1) h)) (drop (i + 1) h)) start)) in
      (omega (arith, stays), rw (stays, same) (ap (λ l. found ++ l) (sym rest) ∙ so_far))
  standard_left-next h s next i r e first found more all le lt start end is (inr (m, some, longer, goes)) so_far =
      let read = standard_from-read h s i r e first le lt start end is in
      let rest : standard_left h s i ≡ m ∷ standard_left h (i + 1) (i + 1) =
      ap (λ n. standard_from width K n (drop s (take i h)) (drop i h)) (sym start) ∙ (read ∙ (ap (after_first r e (drop s (take (i + 1) h)) (drop (i + 1) h)) some
      ∙ ap {B = List (Match V)} (λ l. m ∷ l) (sym (resumed h i e lt end)))) in
      (omega (arith, goes), rw (goes, longer) (append_assoc found (m ∷ []) (standard_left h (i + 1) (i + 1)) ∙ (ap (λ l. found ++ l) (sym rest) ∙ so_far)))

-- the part of a text from a place on, as a slice gives it
pub take-rest : (h : List ℕ) (i : ℕ) → take (length h - i) (drop i h) ≡ drop i h
take-rest h i = take-all (drop i h) (length h - i) (rw length-drop (omega arith))
