-- As many texts lead somewhere as elements are listed, where each that a text leads to is listed once: one text leads to each.
use Rattle.std.proofs.Common.{◌≡◌, ℕ, zero, suc, ◌<◌, ◌≤◌, ◌⊎◌, false, List, [], ◌∷◌, length, Option, Some, refl, sym, ap, ◌∙◌, subst, inl, inr, arith}
use Rattle.std.proofs.lemmas.Bool.{cases_eq, false_from_ne_true}
use Rattle.std.proofs.lemmas.List.Elements.{All-contains_itself, All-weaker, Contains-append_right, recursion_from_All}
use Rattle.std.proofs.lemmas.Option.{same_Some}
use Rattle.std.proofs.lemmas.Slice.Eq.{bytes_eq-Decides}
use Rattle.std.specs.Prelude.{Contains}
use Rattle.std.specs.List.{IsDistinct}
use Rattle.daachorse_model.specs.Units.{same_text}
use Rattle.daachorse_model.specs.Paths.{walk, is_reached, Leads}
use Rattle.daachorse_model.specs.Prefixes.{PassesAt}
use Rattle.daachorse_array.proofs.PathLaws.{element_reached, reached_element}

Contains-cases : {X : Type 0} (x y : X) (xs : List X) → Contains (x ∷ xs) y → (x ≡ y) ⊎ Contains xs y
Contains-cases x y xs (zero, less, is) = inl is
Contains-cases x y xs (suc k, less, is) = inr (k, omega arith, is)

module _ (child : ℕ → ℕ → Option ℕ) (one_path : (i : ℕ) (v w : List ℕ) → Leads child v i → Leads child w i → v ≡ w) (n : ℕ) (element : ℕ → ℕ) (apart : (k m : ℕ) → k < m → m < n → element m ≡ element k → ⊥)
    (text : (m : ℕ) → m < n → (w : List ℕ) × Leads child w (element m)) (found : (w : List ℕ) (i : ℕ) → Leads child w i → (m : ℕ) × (m < n) × (element m ≡ i)) where
  -- the texts of the first m elements
  record IsListed (m : ℕ) (texts : List (List ℕ)) : Type 0 where
    distinct : IsDistinct same_text texts
    leads : (w : List ℕ) → Contains texts w → (k : ℕ) × (k < m) × Leads child w (element k)
    all : (k : ℕ) (w : List ℕ) → k < m → Leads child w (element k) → Contains texts w

  listed_more : (m : ℕ) (texts : List (List ℕ)) (v : List ℕ) → m < n → Leads child v (element m) → IsListed m texts → IsListed (suc m) (v ∷ texts)
  unfolding IsDistinct
  listed_more m texts v lt here rest = record {
    distinct = (recursion_from_All _ texts (All-weaker (Contains texts) (λ y. same_text v y ≡ false) other texts (All-contains_itself texts)), rest.distinct);
    leads = λ w has. elim (Contains-cases v w texts has) [
      | inl is ↦ (m, omega arith, ap (λ x. walk child 0 x) (sym is) ∙ here)
      | inr later ↦ let r = rest.leads w later in (r.0, omega (arith, r.1), r.2)
    ];
    all = λ k w low e. elim (cases_eq k m) [
      | inl is ↦ let P : List ℕ → Type 0 = λ x. Contains (v ∷ texts) x in subst P (one_path (element k) v w (here ∙ ap (λ r. Some (element r)) (sym is)) e) (0, omega arith, refl)
      | inr less ↦ Contains-append_right (v ∷ []) texts w (rest.all k w (omega (arith, low, less)) e)
    ];
  }
    where
      other : (y : List ℕ) → Contains texts y → same_text v y ≡ false
      other y has = false_from_ne_true (same_text v y) (λ same.
          let r = rest.leads y has in
          apart r.0 m r.1 lt (same_Some (element m) (element r.0) (sym here ∙ (ap (λ x. walk child 0 x) ((bytes_eq-Decides v y).0 same) ∙ r.2))))

  listed : (m : ℕ) → m ≤ n → (texts : List (List ℕ)) × (length texts ≡ m) × IsListed m texts
  unfolding IsDistinct
  listed zero fits = ([], refl, record { distinct = tt; leads = λ w has. absurd (omega (arith, has.1)); all = λ k w low e. absurd (omega (arith, low)) })
  listed (suc m) fits =
      let rest = listed m (omega (arith, fits)) in
      let last = text m (omega (arith, fits)) in
      (last.0 ∷ rest.0, ap suc rest.1, listed_more m rest.0 last.0 (omega (arith, fits)) last.1 rest.2)

  pub reached-counted : PassesAt (is_reached child) n
  reached-counted =
      let all = listed n (omega arith) in
      record {
        texts = all.0;
        distinct = all.2.distinct;
        exactly = λ w. (
          (λ reached.
              let e = element_reached child w reached in
              let f = found w e.0 e.1 in
              all.2.all f.0 w f.1 (e.1 ∙ ap Some (sym f.2))),
          (λ has. let r = all.2.leads w has in reached_element child w (element r.0) r.2),
        );
        count = all.1;
      }
