-- The table of the root's children, from edge to edge: an entry is right, or it is 0 while the edge of its label is still to come.
use Rattle.std.proofs.Common.{◌≡◌, ◌≢◌, ℕ, ◌+◌, ◌<◌, ◌≤◌, ◌⊎◌, List, [], length, get_or, set, replicate, Option, Some, None, unwrap_or, refl, sym, ap, ◌∙◌, subst, inl, inr, arith, get_or-set_same, get_or-set_other}
use Rattle.std.proofs.lemmas.Bool.{cases_eq}
use Rattle.std.proofs.lemmas.List.{length-set, length-replicate, get_or-replicate}
use Rattle.std.proofs.lemmas.Map.Entries.{place_from_lookup}
use Rattle.std.specs.Cmp.{Equal-is}
use Rattle.std.proofs.lemmas.Option.{same_Some, slice_get_within}
use Rattle.std.specs.BTreeMap.{is_at}
use Rattle.std.specs.Cmp.{IsTotalOrder}
use Rattle.std.specs.declared.cmp.Ordering.{Ordering}
use Rattle.std.specs.declared.cmp.Ordering.TheVariants.{Equal}
use Rattle.std.specs.List.{slice_get}
use Rattle.daachorse_build.specs.Tables.{child_in, IsTable}
use Rattle.daachorse_build.specs.Traversals.{AreRootChildren}
use Rattle.daachorse_build.proofs.Queue.{child_at_place}

module _ {L : Type 0} (cmp : L → L → Ordering) (unit : L → ℕ) (edges : List (List (L × ℕ))) where
  -- none of the first k edges of the root has the label
  abbrev pub IsToCome : ℕ → L → Type 0
  IsToCome k c = (j t : ℕ) → slice_get (get_or edges 0 []) j ≡ Some (c, t) → k ≤ j

  -- the first k edges of the root have been entered
  abbrev pub AreEntered : List ℕ → ℕ → Type 0
  AreEntered ids k =
      (length ids ≡ 256) × ((c : L) → unit c < 256 → (get_or ids (unit c) 0 ≡ unwrap_or (child_in cmp edges 0 c) 0) ⊎ ((get_or ids (unit c) 0 ≡ 0) × IsToCome k c))

  -- no edge
  pub entered_start : AreEntered (replicate 256 0) 0
  entered_start = (length-replicate {A = ℕ} 256 0, λ c l. inr (get_or-replicate {A = ℕ} 256 (unit c) 0 0 l, λ j t h. omega arith))

  -- an edge has another label
  to_come_more : (k : ℕ) (c d : L) (t : ℕ) → slice_get (get_or edges 0 []) k ≡ Some (d, t) → unit c ≢ unit d → IsToCome k c → IsToCome (k + 1) c
  to_come_more k c d t at ne later = λ j u h.
      elim (cases_eq j k) [
        | inl e ↦ absurd (ne (ap (λ p. unit p.0) (same_Some (c, u) (d, t) (sym h ∙ ap (slice_get (get_or edges 0 [])) e ∙ at))))
        | inr apart ↦ omega (arith, later j u h, apart)
      ]

  -- an edge whose label has a large number
  pub entered_past : (ids : List ℕ) (k : ℕ) (d : L) (t : ℕ) → AreEntered ids k → slice_get (get_or edges 0 []) k ≡ Some (d, t) → 256 ≤ unit d → AreEntered ids (k + 1)
  entered_past ids k d t entered at large = (
    entered.0,
    λ c l. elim (entered.1 c l) [
      | inl right ↦ inl right
      | inr none ↦ let ne : unit c ≢ unit d = omega (arith, l, large) in inr (none.0, to_come_more k c d t at ne none.1)
    ],
  )

  module _ (total : IsTotalOrder cmp) (exact : (a b : L) → unit a ≡ unit b → a ≡ b) (table : IsTable cmp edges) where
    -- an edge whose label has a small number
    pub entered_more : (ids : List ℕ) (k : ℕ) (d : L) (t : ℕ) → AreEntered ids k → slice_get (get_or edges 0 []) k ≡ Some (d, t) → unit d < 256 → AreEntered (set ids (unit d) t) (k + 1)
    entered_more ids k d t entered at small =
        let here : child_in cmp edges 0 d ≡ Some t = child_at_place cmp total edges table 0 k d t at in
        let low : unit d < length ids = omega (arith, small, entered.0) in
        let Right : L → Type 0 = λ c. get_or (set ids (unit d) t) (unit c) 0 ≡ unwrap_or (child_in cmp edges 0 c) 0 in (
          length-set ids (unit d) t ∙ entered.0,
          λ c l. elim (cases_eq (unit c) (unit d)) [
            | inl e ↦ inl (subst Right (sym (exact c d e)) (get_or-set_same ids (unit d) t 0 low ∙ ap (λ o. unwrap_or o 0) (sym here)))
            | inr ne ↦
                let same = get_or-set_other ids (unit d) (unit c) t 0 ne in
                elim (entered.1 c l) [ inl right ↦ inl (same ∙ right) | inr none ↦ inr (same ∙ none.0, to_come_more k c d t at ne none.1) ]
          ],
        )

  module _ (exact : (x y : L) → cmp x y ≡ Equal → x ≡ y) where
    -- a label that is not among the edges leads nowhere
    none_to_come : (k : ℕ) (c : L) (o : Option ℕ) → child_in cmp edges 0 c ≡ o → IsToCome k c → length (get_or edges 0 []) ≤ k → unwrap_or o 0 ≡ 0
    none_to_come k c None e later all = refl
    none_to_come k c (Some t) e later all =
        let p = place_from_lookup (is_at (cmp c)) (get_or edges 0 []) t e in
        let same : c ≡ p.1 = exact c p.1 ((Equal-is (cmp c p.1)).0 p.3) in
        let P : L → Type 0 = λ d. slice_get (get_or edges 0 []) p.0 ≡ Some (d, t) in
        absurd (omega (arith, all, later p.0 t (subst P (sym same) p.2), slice_get_within (get_or edges 0 []) p.0 _ p.2))

    -- each edge
    pub entered_all : (ids : List ℕ) (k : ℕ) → AreEntered ids k → length (get_or edges 0 []) ≤ k → AreRootChildren cmp unit edges ids
    entered_all ids k entered all = record {
      each_number = entered.0;
      right = λ c l. elim (entered.1 c l) [ inl right ↦ right | inr none ↦ none.0 ∙ sym (none_to_come k c (child_in cmp edges 0 c) refl none.1 all) ];
    }
