-- Paths: each element has one text, which is shorter than the number of elements, so that the search for it finds it.
use Rattle.std.proofs.Common.{map, get_or, eqb, subst, ◌≡◌, ◌≢◌, ℕ, zero, suc, ◌<◌, ◌≤◌, ◌⊎◌, inl, inr, Bool, true, false, ◌==◌, cond, List, [], ◌∷◌, ◌++◌, length, take, drop, Option, Some, None, refl, sym, ap, ◌∙◌, arith}
use Rattle.std.proofs.lemmas.List.{take-append-drop, length-take-le}
use Rattle.std.proofs.lemmas.List.FromFn.{length-map-range_with_len, get_or-map-range_with_len}
use Rattle.std.proofs.lemmas.Map.Made.{IsDistinct-from_AllPairs}
use Rattle.std.proofs.lemmas.Map.Steps.{length-le_from_distinct_below}
use Rattle.std.proofs.lemmas.Bool.{cases_eq}
use Rattle.std.proofs.lemmas.Bool.Decides.{Decides-by_or, Decides-eqb}
use Rattle.std.specs.List.{AllPairs, list_any, range_with_len}
use Rattle.std.proofs.lemmas.Option.{same_Some}
use Rattle.std.specs.Prelude.{option_and_then, is_some}
use Rattle.daachorse_model.specs.Paths.{walk, is_reached, Leads}
use Rattle.daachorse_model.proofs.Paths.{walk-append}
use Rattle.daachorse_array.specs.Texts.{by_unit, any_unit, or_empty, find_text, text_of}

pub and_then_inv : {A B : Type 0} (f : A → Option B) (o : Option A) (y : B) → option_and_then f o ≡ Some y → (x : A) × (o ≡ Some x) × (f x ≡ Some y)
and_then_inv f (Some x) y e = (x, refl, e)
and_then_inv f None y e = absurd (cc)

eq_true : (a b : ℕ) → (a == b) ≡ true → a ≡ b
eq_true a b e = grind arith

eq_same : (a : ℕ) → (a == a) ≡ true
eq_same a = grind arith

-- m numbers below n, no two of them equal: m is at most n
pub pigeon : (n m : ℕ) (f : ℕ → ℕ) → ((k : ℕ) → k < m → f k < n) → ((j k : ℕ) → j < k → k < m → f j ≢ f k) → m ≤ n
pigeon n m f below apart =
    let xs = map f (range_with_len 0 m) in
    let len : length xs ≡ m = length-map-range_with_len f 0 m in
    let at : (k d : ℕ) → k < m → get_or xs k d ≡ f k = λ k d less. get_or-map-range_with_len f 0 m k k d less (omega arith) in
    let once : AllPairs (λ x y. x ≢ y) xs = λ i j d less inside same.
    apart i j less (omega (arith, inside, len)) (sym (at i d (omega (arith, less, inside, len))) ∙ same ∙ at j d (omega (arith, inside, len))) in
    let fits : (q : ℕ) → list_any (eqb q) xs ≡ true → q < n = λ q h. (
    let r = (Decides-by_or (eqb q) (λ x. q ≡ x) (list_any (eqb q)) (Decides-eqb q) refl (λ _ _. refl) xs).0 h in
    let low : r.0 < m = omega (arith, r.1, len) in
    omega (arith, r.2 0, at r.0 0 low, below r.0 low)) in
    omega (arith, len, length-le_from_distinct_below xs n (IsDistinct-from_AllPairs Decides-eqb xs once) fits)

-- a text is shorter than n, where its beginnings have numbers below n that tell them apart
pub takes_fit : {X : Type 0} (n : ℕ) (w : List X) (f : ℕ → ℕ) → ((k : ℕ) → k < suc (length w) → f k < n) → ((j k : ℕ) → f j ≡ f k → take j w ≡ take k w) → length w < n
takes_fit n w f below same =
    pigeon n (suc (length w)) f below
    (λ j k less h e. (
    let long : length (take j w) ≡ length (take k w) = ap length (same j k e) in
    omega (arith, long, length-take-le j w (omega arith), length-take-le k w (omega arith), less)))

-- a search among the numbers below n
pub search_below : (P Q : ℕ → Type 0) (n : ℕ) → ((k : ℕ) → k < n → P k ⊎ Q k) → ((k : ℕ) × (k < n) × P k) ⊎ ((k : ℕ) → k < n → Q k)
search_below P Q zero h = inr (λ k less. absurd (omega arith))
search_below P Q (suc n) h = go (search_below P Q n (λ k less. h k (omega arith))) (h n (omega arith))
  where
    go : ((k : ℕ) × (k < n) × P k) ⊎ ((k : ℕ) → k < n → Q k) → P n ⊎ Q n → ((k : ℕ) × (k < suc n) × P k) ⊎ ((k : ℕ) → k < suc n → Q k)
    go (inl (k, less, p)) last = inl (k, omega arith, p)
    go (inr none) (inl p) = inl (n, omega arith, p)
    go (inr none) (inr q) = inr (λ k less. elim (cases_eq k n) [ inl e ↦ subst Q (sym e) q | inr other ↦ none k (omega arith) ])

module _ (child : ℕ → ℕ → Option ℕ) where
  -- a text that leads somewhere, split: its beginning leads somewhere
  pub walk-split : (i k : ℕ) (v w : List ℕ) → walk child i (v ++ w) ≡ Some k → (j : ℕ) × (walk child i v ≡ Some j) × (walk child j w ≡ Some k)
  walk-split i k v w e = and_then_inv (λ j. walk child j w) (walk child i v) k (sym (walk-append child i v w) ∙ e)

  reached_some : (w : List ℕ) (o : Option ℕ) → walk child 0 w ≡ o → is_some o ≡ true → (i : ℕ) × Leads child w i
  reached_some w (Some i) e h = (i, e)
  reached_some w None e h = absurd (cc)

  -- a text is reached where it leads to some element
  pub element_reached : (w : List ℕ) → is_reached child w ≡ true → (i : ℕ) × Leads child w i
  element_reached w h = reached_some w (walk child 0 w) refl h

  pub reached_element : (w : List ℕ) (i : ℕ) → Leads child w i → is_reached child w ≡ true
  reached_element w i h = ap is_some h

  -- ---- the text that is found

  any_found : (f : ℕ → Option (List ℕ)) (m : ℕ) (w : List ℕ) → any_unit f m ≡ Some w → (c : ℕ) × (v : List ℕ) × (f c ≡ Some v) × (w ≡ c ∷ v)
  any_found f zero w e = absurd (cc)
  any_found f (suc c) w e =
      (elim (f c) as (λ o. f c ≡ o → by_unit c o (any_unit f c) ≡ Some w → (d : ℕ) × (v : List ℕ) × (f d ≡ Some v) × (w ≡ d ∷ v))
      [ Some v ↦ λ is e. (c, v, is, sym (same_Some (c ∷ v) w e)) | None ↦ λ _ e. any_found f c w e ]) refl e

  any_finds : (f : ℕ → Option (List ℕ)) (m c : ℕ) → c < m → is_some (f c) ≡ true → is_some (any_unit f m) ≡ true
  any_finds f zero c h s = absurd (omega arith)
  any_finds f (suc d) c h s = here (f d) refl (λ other. any_finds f d c (omega (arith, other)) s)
    where
      here : (o : Option (List ℕ)) → f d ≡ o → (c ≢ d → is_some (any_unit f d) ≡ true) → is_some (by_unit d o (any_unit f d)) ≡ true
      here (Some v) is more = refl
      here None is more = more (λ same. let bad : true ≡ false = sym s ∙ (ap (λ x. is_some (f x)) same ∙ ap is_some is) in cc)

  here_or : (t i : ℕ) (w : List ℕ) (rest : Option (List ℕ)) (b : Bool) → (i == t) ≡ b → cond b (Some []) rest ≡ Some w → (rest ≡ Some w → walk child i w ≡ Some t) → walk child i w ≡ Some t
  here_or t i w rest true is e more = ap (λ v. walk child i v) (sym (same_Some [] w e)) ∙ ap (λ x. Some x) (eq_true i t is)
  here_or t i w rest false is e more = more e

  module _ (m : ℕ) where
    found_leads : (steps t i : ℕ) (w : List ℕ) → find_text child m steps t i ≡ Some w → walk child i w ≡ Some t
    found_leads zero t i w e = here_or t i w None (i == t) refl e (λ none. absurd (cc))
    found_leads (suc steps) t i w e =
        here_or t i w (any_unit (λ c. option_and_then (λ j. find_text child m steps t j) (child i c)) m) (i == t) refl e (λ some.
        let found = any_found (λ c. option_and_then (λ j. find_text child m steps t j) (child i c)) m w some in
        let inner = and_then_inv (λ j. find_text child m steps t j) (child i found.0) found.1 found.2 in
        ap (λ v. walk child i v) found.3 ∙ (ap (λ o. option_and_then (λ j. walk child j found.1) o) inner.1 ∙ found_leads steps t inner.0 found.1 inner.2))

    some_or : (b : Bool) (rest : Option (List ℕ)) → (b ≡ true) ⊎ (is_some rest ≡ true) → is_some (cond b (Some []) rest) ≡ true
    some_or true rest h = refl
    some_or false rest (inl bad) = absurd (cc)
    some_or false rest (inr h) = h

    leads_found : (units : (i c j : ℕ) → child i c ≡ Some j → c < m) (steps t i : ℕ) (w : List ℕ) → length w ≤ steps → walk child i w ≡ Some t → is_some (find_text child m steps t i) ≡ true
    leads_found units zero t i [] h e = some_or (i == t) None (inl (ap (λ x. x == t) (same_Some i t e) ∙ eq_same t))
    leads_found units zero t i (c ∷ w) h e = absurd (omega arith)
    leads_found units (suc steps) t i [] h e =
        some_or (i == t) (any_unit (λ c. option_and_then (λ j. find_text child m steps t j) (child i c)) m) (inl (ap (λ x. x == t) (same_Some i t e) ∙ eq_same t))
    leads_found units (suc steps) t i (c ∷ w) h e =
        let inner = and_then_inv (λ j. walk child j w) (child i c) t e in
        some_or (i == t) (any_unit (λ c. option_and_then (λ j. find_text child m steps t j) (child i c)) m) (inr
        (any_finds (λ c. option_and_then (λ j. find_text child m steps t j) (child i c)) m c (units i c inner.0 inner.1)
        (ap (λ o. is_some (option_and_then (λ j. find_text child m steps t j) o)) inner.1 ∙ leads_found units steps t inner.0 w (omega arith) inner.2)))

    -- some unit leads on, or none does
    pub any_child : (i : ℕ) → ((c : ℕ) × (j : ℕ) × (child i c ≡ Some j)) ⊎ ((c : ℕ) → c < m → child i c ≡ None)
    any_child i =
        elim (search_below (λ c. (j : ℕ) × (child i c ≡ Some j)) (λ c. child i c ≡ None) m (λ c _. case_of (child i c)))
        [ inl found ↦ inl (found.0, found.2.0, found.2.1) | inr none ↦ inr none ]
      where
        case_of : (o : Option ℕ) → ((j : ℕ) × (o ≡ Some j)) ⊎ (o ≡ None)
        case_of (Some j) = inl (j, refl)
        case_of None = inr refl

-- where each element has one path, and children are among n elements and by units below m
module _ (child : ℕ → ℕ → Option ℕ) (n m : ℕ) (some : 0 < n) (inside : (i c j : ℕ) → child i c ≡ Some j → (j < n) × (c < m)) (one_path : (i : ℕ) (v w : List ℕ) → Leads child v i → Leads child w i → v ≡ w) where
  walk-inside : (i j : ℕ) (w : List ℕ) → i < n → walk child i w ≡ Some j → j < n
  walk-inside i j [] h e = let same : i ≡ j = same_Some i j e in omega (arith, same)
  walk-inside i j (c ∷ w) h e =
      let inner = and_then_inv (λ j. walk child j w) (child i c) j e in
      walk-inside inner.0 j w (inside i c inner.0 inner.1).0 inner.2

  -- a text leads to one of the elements
  pub Leads-inside : (w : List ℕ) (i : ℕ) → Leads child w i → i < n
  Leads-inside w i e = walk-inside 0 i w some e

  abbrev or_zero : Option ℕ → ℕ
  or_zero (Some i) = i
  or_zero None = 0

  -- no text that leads somewhere has as many units as there are elements
  pub Leads-length : (w : List ℕ) (i : ℕ) → Leads child w i → length w < n
  Leads-length w i e = takes_fit n w (λ k. or_zero (walk child 0 (take k w))) below same
    where
      leads_take : (k : ℕ) → (j : ℕ) × Leads child (take k w) j
      leads_take k = let halves = walk-split child 0 i (take k w) (drop k w) (ap (λ v. walk child 0 v) (take-append-drop k w) ∙ e) in (halves.0, halves.1)

      below : (k : ℕ) → k < suc (length w) → or_zero (walk child 0 (take k w)) < n
      below k h =
          let at = leads_take k in
          let is : or_zero (walk child 0 (take k w)) ≡ at.0 = ap or_zero at.1 in
          let fits : at.0 < n = Leads-inside (take k w) at.0 at.1 in
          omega (arith, is, fits)

      same : (j k : ℕ) → or_zero (walk child 0 (take j w)) ≡ or_zero (walk child 0 (take k w)) → take j w ≡ take k w
      same j k e =
          let a = leads_take j in
          let b = leads_take k in
          let one : a.0 ≡ b.0 = sym (ap or_zero a.1) ∙ (e ∙ ap or_zero b.1) in
          one_path a.0 (take j w) (take k w) a.1 (b.1 ∙ ap (λ x. Some x) (sym one))

  -- the text that is found for an element is the one that leads to it
  pub text_of-Leads : (w : List ℕ) (i : ℕ) → Leads child w i → text_of child m n i ≡ w
  unfolding text_of
  text_of-Leads w i e = same (find_text child m n i 0) refl (leads_found child m (λ i c j h. (inside i c j h).1) n i 0 w (let h : length w < n = Leads-length w i e in omega (arith, h)) e)
    where
      same : (o : Option (List ℕ)) → find_text child m n i 0 ≡ o → is_some o ≡ true → or_empty o ≡ w
      same (Some v) is h = one_path i v w (found_leads child m n i 0 v is) e
      same None is h = absurd (cc)
