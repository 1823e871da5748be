-- `prefixes` lists the texts that begin a registered one, each once: their number is the length of the list.
use Rattle.std.proofs.Common.{◌≡◌, ◌≢◌, ◌⊎◌, inl, inr, ℕ, zero, suc, ◌<◌, Bool, true, false, cond, List, [], ◌∷◌, ◌++◌, length, get_or, refl, sym, ap, subst, ◌∙◌, arith}
use Rattle.std.specs.Prelude.{Contains, flat_map}
use Rattle.std.specs.List.{IsDistinct, AllByRecursion, list_any}
use Rattle.std.proofs.lemmas.List.{append_assoc}
use Rattle.std.proofs.lemmas.List.Elements.{Contains-append_left, Contains-append_right, Contains-append_cases}
use Rattle.std.proofs.lemmas.Map.Keys.{IsDistinct-cons}
use Rattle.std.proofs.lemmas.Map.Views.{Contains-from_any}
use Rattle.std.proofs.lemmas.Slice.Eq.{bytes_eq-Decides}
use Rattle.std.proofs.lemmas.Bool.{or_parts}
use Rattle.daachorse_model.specs.Units.{same_text}
use Rattle.daachorse_model.specs.Dictionary.{values_of}
use Rattle.daachorse_model.specs.Prefixes.{IsPrefix, HasPrefixes, fronts, each_once, prefixes}
use Rattle.daachorse_model.proofs.Booleans.{either}

same : (v w : List ℕ) → same_text v w ≡ true → v ≡ w
same v w e = (bytes_eq-Decides v w).0 e

first : (w : List ℕ) (ws : List (List ℕ)) → Contains (w ∷ ws) w
first w ws = (0, omega arith, refl)

later : (v : List ℕ) (ws : List (List ℕ)) (w : List ℕ) → Contains ws w → Contains (v ∷ ws) w
later v ws w has = Contains-append_right (v ∷ []) ws w has

cases : (v : List ℕ) (ws : List (List ℕ)) (w : List ℕ) → Contains (v ∷ ws) w → (v ≡ w) ⊎ Contains ws w
cases v ws w has = by_place has.0 has.1 has.2
  where
    by_place : (k : ℕ) → k < length (v ∷ ws) → get_or (v ∷ ws) k w ≡ w → (v ≡ w) ⊎ Contains ws w
    by_place zero lt e = inl e
    by_place (suc k) lt e = inr (k, omega arith, e)

none : (w : List ℕ) → Contains [] w → ⊥
none w has = absurd (let lt : has.0 < 0 = has.1 in omega arith)

-- ---- each text once

apart : (w : List ℕ) (ws : List (List ℕ)) → list_any (same_text w) ws ≡ false → AllByRecursion (λ v. same_text w v ≡ false) ws
apart w [] e = tt
apart w (v ∷ vs) e = let p = or_parts (same_text w v) (list_any (same_text w) vs) e in (p.0, apart w vs p.1)

each_once-distinct : (ws : List (List ℕ)) → IsDistinct same_text (each_once ws)
unfolding IsDistinct
each_once-distinct [] = tt
each_once-distinct (w ∷ ws) = elim (either (list_any (same_text w) (each_once ws))) [
  | inl again ↦ rw again (each_once-distinct ws)
  | inr new ↦ rw new (IsDistinct-cons same_text w (each_once ws) (apart w (each_once ws) new) (each_once-distinct ws))
]

-- the rest has the text already, or it comes first
each_once-head : (w : List ℕ) (ws : List (List ℕ)) → Contains (each_once (w ∷ ws)) w
each_once-head w ws = elim (either (list_any (same_text w) (each_once ws))) [
  | inl again ↦ rw again (Contains-from_any same w (each_once ws) again)
  | inr new ↦ rw new (first w (each_once ws))
]

each_once-rest : (v : List ℕ) (ws : List (List ℕ)) (w : List ℕ) → Contains (each_once ws) w → Contains (each_once (v ∷ ws)) w
each_once-rest v ws w has = elim (either (list_any (same_text v) (each_once ws))) [
  | inl again ↦ rw again has
  | inr new ↦ rw new (later v (each_once ws) w has)
]

each_once-has : (ws : List (List ℕ)) (w : List ℕ) → Contains ws w → Contains (each_once ws) w
each_once-has [] w has = has
each_once-has (v ∷ vs) w has = elim (cases v vs w has) [
  | inl is ↦ let P : List ℕ → Type 0 = λ x. Contains (each_once (v ∷ vs)) x in subst P is (each_once-head v vs)
  | inr more ↦ each_once-rest v vs w (each_once-has vs w more)
]

each_once-of : (ws : List (List ℕ)) (w : List ℕ) → Contains (each_once ws) w → Contains ws w
each_once-of [] w has = has
each_once-of (v ∷ vs) w has = elim (either (list_any (same_text v) (each_once vs))) [
  | inl again ↦ later v vs w (each_once-of vs w (rw again at has))
  | inr new ↦ elim (cases v (each_once vs) w (rw new at has)) [
    | inl is ↦ let P : List ℕ → Type 0 = λ x. Contains (v ∷ vs) x in subst P is (first v vs)
    | inr more ↦ later v vs w (each_once-of vs w more)
  ]
]

-- ---- the beginnings of a text

fronts-has : (t : List ℕ) (c : ℕ) (y z : List ℕ) → Contains (fronts t (c ∷ (y ++ z))) (t ++ c ∷ y)
fronts-has t c [] z = first (t ++ c ∷ []) (fronts (t ++ c ∷ []) z)
fronts-has t c (d ∷ y) z =
    let P : List ℕ → Type 0 = λ x. Contains (fronts t (c ∷ ((d ∷ y) ++ z))) x in
    subst P (append_assoc t (c ∷ []) (d ∷ y)) (later (t ++ c ∷ []) (fronts (t ++ c ∷ []) (d ∷ (y ++ z))) ((t ++ c ∷ []) ++ d ∷ y) (fronts-has (t ++ c ∷ []) d y z))

fronts-of : (t x w : List ℕ) → Contains (fronts t x) w → (y : List ℕ) × (z : List ℕ) × (w ≡ t ++ y) × (x ≡ y ++ z)
fronts-of t [] w has = absurd (none w has)
fronts-of t (c ∷ x) w has = elim (cases (t ++ c ∷ []) (fronts (t ++ c ∷ []) x) w has) [
  | inl is ↦ (c ∷ [], x, sym is, refl)
  | inr more ↦
      let p = fronts-of (t ++ c ∷ []) x w more in
      (c ∷ p.0, p.1, p.2 ∙ append_assoc t (c ∷ []) p.0, ap {B = List ℕ} (λ r. c ∷ r) p.3)
]

-- ---- the beginnings of registered texts

module _ {V : Type 0} where
  abbrev beginnings : List (List ℕ × V) → List (List ℕ)
  beginnings rs = flat_map (λ r. fronts [] r.0) rs

  begins_key : (rs : List (List ℕ × V)) (c : ℕ) (w x : List ℕ) → values_of rs (c ∷ (w ++ x)) ≢ [] → Contains (beginnings rs) (c ∷ w)
  begins_key [] c w x key = absurd (key refl)
  begins_key (r ∷ rs) c w x key = elim (either (same_text r.0 (c ∷ (w ++ x)))) [
    | inl here ↦
        let P : List ℕ → Type 0 = λ y. Contains (fronts [] y) (c ∷ w) in
        Contains-append_left (fronts [] r.0) (beginnings rs) (c ∷ w) (subst P (sym (same r.0 (c ∷ (w ++ x)) here)) (fronts-has [] c w x))
    | inr other ↦ Contains-append_right (fronts [] r.0) (beginnings rs) (c ∷ w) (begins_key rs c w x (rw other at key))
  ]

  more_values : (b : Bool) (v : V) (vs : List V) → vs ≢ [] → cond b (v ∷ vs) vs ≢ []
  more_values true v vs some = λ e. cc
  more_values false v vs some = some

  key_begun : (rs : List (List ℕ × V)) (w : List ℕ) → Contains (beginnings rs) w → (x : List ℕ) × (values_of rs (w ++ x) ≢ [])
  key_begun [] w has = absurd (none w has)
  key_begun (r ∷ rs) w has = elim (Contains-append_cases (fronts [] r.0) (beginnings rs) w has) [
    | inl here ↦
        let p = fronts-of [] r.0 w here in
        let whole : r.0 ≡ w ++ p.1 = p.3 ∙ ap (λ y. y ++ p.1) (sym p.2) in
        (p.1, rw ((bytes_eq-Decides r.0 (w ++ p.1)).1 whole) (λ e. cc))
    | inr more ↦
        let p = key_begun rs w more in
        (p.0, more_values (same_text r.0 (w ++ p.0)) r.1 (values_of rs (w ++ p.0)) p.1)
  ]

  listed : (rs : List (List ℕ × V)) (w : List ℕ) → IsPrefix (values_of rs) w → Contains ([] ∷ beginnings rs) w
  listed rs [] p = first [] (beginnings rs)
  listed rs (c ∷ w) (inl e) = cc
  listed rs (c ∷ w) (inr p) = later [] (beginnings rs) (c ∷ w) (begins_key rs c w p.0 p.1)

  begins : (rs : List (List ℕ × V)) (w : List ℕ) → Contains ([] ∷ beginnings rs) w → IsPrefix (values_of rs) w
  begins rs w has = elim (cases [] (beginnings rs) w has) [ inl e ↦ inl (sym e) | inr more ↦ inr (key_begun rs w more) ]

  pub prefixes-is : (rs : List (List ℕ × V)) → HasPrefixes (values_of rs) (length (prefixes rs))
  prefixes-is rs = record {
    texts = prefixes rs;
    distinct = each_once-distinct ([] ∷ beginnings rs);
    exactly = λ w. (λ p. each_once-has ([] ∷ beginnings rs) w (listed rs w p), λ has. begins rs w (each_once-of ([] ∷ beginnings rs) w has));
    count = refl;
  }
