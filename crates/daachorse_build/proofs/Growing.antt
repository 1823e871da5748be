-- How walks change where a trie grows.
use Rattle.std.proofs.Common.{◌≡◌, ◌≢◌, ℕ, zero, suc, ◌+◌, ◌<◌, ◌≤◌, ◌⊎◌, true, cond, List, [], ◌∷◌, ◌++◌, length, get_or, set, Option, Some, None, option_and_then, refl, sym, ap, ◌∙◌, subst, inl, inr, arith, get_or-set_same, get_or-set_other}
use Rattle.std.proofs.lemmas.Option.{option_and_then_some, none-some, same_Some}
use Rattle.std.proofs.lemmas.List.{length_push, length-set, get_or_past}
use Rattle.std.proofs.lemmas.Bool.{cases_Bool, cases_lt, cases_eq, cond-true, cond-false}
use Rattle.std.specs.List.Sorted.{IsStrictlySortedBy}
use Rattle.std.specs.declared.cmp.Ordering.{Ordering}
use Rattle.std.specs.declared.cmp.Ordering.TheVariants.{Equal}
use Rattle.std.specs.Cmp.{Equal-is, eq_by_cmp_equiv, IsTotalOrder}
use Rattle.std.specs.BTreeMap.{is_at}
use Rattle.std.specs.Map.{lookup, keys_of}
use Rattle.daachorse_model.specs.Paths.{walk}
use Rattle.daachorse_build.specs.Trie.{IsTrie}
use Rattle.daachorse_build.specs.Tables.{child_in, IsTable}
use Rattle.daachorse_build.specs.Growth.{AddsEdge}

module _ {A : Type 0} (old new : ℕ → A → Option ℕ) (s : ℕ) (c : A) (t : ℕ) (adds : AddsEdge old new s c t) where
  -- an old edge stays
  pub edge_stays : (u : ℕ) (a : A) (v : ℕ) → old u a ≡ Some v → new u a ≡ Some v
  edge_stays u a v h =
      elim (adds.cases u a) [
        | inl e ↦ absurd (none-some v (sym adds.was ∙ ap (λ x. old x c) (sym e.0) ∙ ap (old u) (sym e.1) ∙ h))
        | inr e ↦ e ∙ h
      ]

  -- an old walk stays
  pub walk_stays : (u : ℕ) (w : List A) (v : ℕ) → walk old u w ≡ Some v → walk new u w ≡ Some v
  walk_stays u [] v h = h
  walk_stays u (a ∷ as') v h =
      option_and_then_some (λ x. walk old x as') (old u a) v h
      (λ x e k. ap (option_and_then (λ y. walk new y as')) (edge_stays u a x e) ∙ walk_stays x as' v k)

  end_of_leaf : (w : List A) (v : ℕ) → walk new t w ≡ Some v → (w ≡ []) × (v ≡ t)
  end_of_leaf [] v h = (refl, sym (same_Some t v h))
  end_of_leaf (a ∷ as') v h = absurd (none-some v (ap (option_and_then (λ y. walk new y as')) (sym (adds.leaf a)) ∙ h))

  -- a new walk is old, or ends with the new edge
  pub walk_came : (u : ℕ) (w : List A) (v : ℕ) → walk new u w ≡ Some v → (walk old u w ≡ Some v) ⊎ ((x : List A) × (w ≡ x ++ c ∷ []) × (walk old u x ≡ Some s) × (v ≡ t))
  walk_came u [] v h = inl h
  walk_came u (a ∷ as') v h =
      option_and_then_some (λ x. walk new x as') (new u a) v h
      (λ x e k.
      elim (adds.cases u a) [
        | inl r ↦
            let at : x ≡ t = same_Some x t (sym e ∙ r.2) in
            let P : ℕ → Type 0 = λ y. walk new y as' ≡ Some v in
            let leaf = end_of_leaf as' v (subst P at k) in
            inr ([], ap (λ b. b ∷ as') r.1 ∙ ap (λ bs. c ∷ bs) leaf.0, ap Some r.0, leaf.1)
        | inr r ↦
            let kept : old u a ≡ Some x = sym r ∙ e in
            elim (walk_came x as' v k) [
              | inl i ↦ inl (ap (option_and_then (λ y. walk old y as')) kept ∙ i)
              | inr i ↦ inr (a ∷ i.0, ap (λ bs. a ∷ bs) i.1, ap (option_and_then (λ y. walk old y i.0)) kept ∙ i.2, i.3)
            ]
      ])

  -- the trie with the new edge
  pub trie_grows : IsTrie old t → s < t → s ≢ 1 → ((a : A) → old t a ≡ None) → new s c ≡ Some t → IsTrie new (t + 1)
  trie_grows trie l ne none is = record {
    two = omega (arith, trie.two);
    bounds = λ u a v h.
        elim (adds.cases u a) [
          | inl r ↦ let e : v ≡ t = same_Some v t (sym h ∙ r.2) in (omega (arith, e, r.0), λ k. ne (sym r.0 ∙ k), omega (arith, e, trie.two), omega (arith, e))
          | inr r ↦ let b = trie.bounds u a v (sym r ∙ h) in (b.0, b.1, b.2, omega (arith, b.3))
        ];
    one_parent = λ u a u' a' v h h'.
        elim (adds.cases u a) [
          | inl r ↦
              let e : v ≡ t = same_Some v t (sym h ∙ r.2) in
              elim (adds.cases u' a') [
                | inl r' ↦ (r.0 ∙ sym r'.0, r.1 ∙ sym r'.1)
                | inr r' ↦ let b = trie.bounds u' a' v (sym r' ∙ h') in absurd (omega (arith, e, b.3))
              ]
          | inr r ↦
              let b = trie.bounds u a v (sym r ∙ h) in
              elim (adds.cases u' a') [
                | inl r' ↦ let e : v ≡ t = same_Some v t (sym h' ∙ r'.2) in absurd (omega (arith, e, b.3))
                | inr r' ↦ trie.one_parent u a u' a' v (sym r ∙ h) (sym r' ∙ h')
              ]
        ];
    reached = λ u low high.
        elim (cases_lt u t) [
          | inl below ↦ let r = trie.reached u low below in (r.0, r.1, edge_stays r.0 r.1 u r.2)
          | inr above ↦ let e : t ≡ u = omega arith in (s, c, is ∙ ap Some e)
        ];
  }

-- ---- in a table of edges
-- an empty list more is what stands past the end
pub nil_more : {X : Type 0} (xss : List (List X)) (i : ℕ) → get_or (xss ++ [] ∷ []) i [] ≡ get_or xss i []
nil_more [] zero = refl
nil_more [] (suc i) = refl
nil_more (xs ∷ xss) zero = refl
nil_more (xs ∷ xss) (suc i) = nil_more xss i

is_at_same : {L : Type 0} (cmp : L → L → Ordering) → ((x y : L) → cmp x y ≡ Equal → x ≡ y) → (q k : L) → is_at (cmp q) k ≡ true → q ≡ k
is_at_same cmp exact q k h = exact q k ((Equal-is (cmp q k)).0 h)

module _ {L : Type 0} (cmp : L → L → Ordering) (total : IsTotalOrder cmp) (exact : (x y : L) → cmp x y ≡ Equal → x ≡ y) (edges : List (List (L × ℕ))) (table : IsTable cmp edges) (s : ℕ) (c : L) (es : List (L × ℕ)) (l : s < length edges) (ne : s ≢ 1) (was : child_in cmp edges s c ≡ None) (sorted : IsStrictlySortedBy cmp (keys_of es)) (found : (q : L) → lookup (is_at (cmp q)) es ≡ cond (is_at (cmp c) q) (Some (length edges)) (lookup (is_at (cmp q)) (get_or edges s []))) where
  abbrev pub grown : List (List (L × ℕ))
  grown = set edges s es ++ [] ∷ []

  at_parent : get_or grown s [] ≡ es
  at_parent = nil_more (set edges s es) s ∙ get_or-set_same edges s es [] l

  at_other : (u : ℕ) → u ≢ s → get_or grown u [] ≡ get_or edges u []
  at_other u apart = nil_more (set edges s es) u ∙ get_or-set_other edges s u es [] apart

  cases_of : (u : ℕ) (a : L) → ((u ≡ s) × (a ≡ c) × (child_in cmp grown u a ≡ Some (length edges))) ⊎ (child_in cmp grown u a ≡ child_in cmp edges u a)
  cases_of u a =
      elim (cases_eq u s) [
        | inr apart ↦ inr (ap (lookup (is_at (cmp a))) (at_other u apart))
        | inl e ↦
            let here : child_in cmp grown u a ≡ cond (is_at (cmp c) a) (Some (length edges)) (child_in cmp edges s a) =
            ap (λ x. lookup (is_at (cmp a)) (get_or grown x [])) e ∙ ap (lookup (is_at (cmp a))) at_parent ∙ found a in
            elim (cases_Bool (is_at (cmp c) a)) [
              | inl yes' ↦ inl (e, sym (is_at_same cmp exact c a yes'), here ∙ cond-true _ _ _ yes')
              | inr no' ↦ inr (here ∙ cond-false _ _ _ no' ∙ ap (λ x. child_in cmp edges x a) (sym e))
            ]
      ]

  none_past : (u : ℕ) (a : L) → length edges ≤ u → child_in cmp edges u a ≡ None
  none_past u a above = ap (lookup (is_at (cmp a))) (get_or_past edges u [] above)

  pub adds_edge : AddsEdge (child_in cmp edges) (child_in cmp grown) s c (length edges)
  adds_edge = record {
    was = was;
    leaf = λ a.
        let apart : length edges ≢ s = omega (arith, l) in
        ap (lookup (is_at (cmp a))) (at_other (length edges) apart) ∙ none_past (length edges) a (omega arith);
    cases = cases_of;
  }

  pub is_here : child_in cmp grown s c ≡ Some (length edges)
  is_here = ap (lookup (is_at (cmp c))) at_parent ∙ found c ∙ cond-true (is_at (cmp c) c) _ _ ((eq_by_cmp_equiv total).refl c)

  -- the table with the new edge
  pub table_grows : IsTable cmp grown
  table_grows =
      let count : length grown ≡ length edges + 1 = length_push (set edges s es) [] ∙ ap (λ x. x + 1) (length-set edges s es) in
      let trie = trie_grows (child_in cmp edges) (child_in cmp grown) s c (length edges) adds_edge table.trie l ne (λ a. none_past (length edges) a (omega arith)) is_here in
      let P : ℕ → Type 0 = λ n. IsTrie (child_in cmp grown) n in
      let O : List (L × ℕ) → Type 0 = λ fs. IsStrictlySortedBy cmp (keys_of fs) in
      record {
        ordered = λ u. elim (cases_eq u s) [
          | inl e ↦ subst O (sym (ap (λ x. get_or grown x []) e ∙ at_parent)) sorted
          | inr apart ↦ subst O (sym (at_other u apart)) (table.ordered u)
        ];
        trie = subst P (sym count) trie;
      }
