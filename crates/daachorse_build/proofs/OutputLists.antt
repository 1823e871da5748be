-- The lists of outputs, state by state: a state's own outputs and then the list of its link, which has those of the longest proper suffix that is a state's text.
use Rattle.std.proofs.Common.{◌≡◌, ◌≢◌, ℕ, ◌+◌, ◌<◌, ◌≤◌, ◌⊎◌, Bool, true, false, cond, List, [], ◌∷◌, ◌++◌, length, map, get_or, take, Contains, Option, Some, None, is_some, zero, suc, refl, sym, ap, ◌∙◌, subst, inl, inr, length-append, arith}
use Rattle.std.proofs.lemmas.Option.{same_Some}
use Rattle.std.proofs.lemmas.Bool.{cases_Bool, cases_eq, cond-true, cond-false}
use Rattle.std.proofs.lemmas.List.{append-nil, length-map, take_more}
use Rattle.std.proofs.lemmas.List.Elements.{Contains-get_or, Contains-append_right, Contains-push_cases}
use Rattle.std.specs.declared.cmp.Ordering.{Ordering}
use Rattle.std.specs.declared.cmp.Ordering.TheVariants.{Equal}
use Rattle.std.specs.Cmp.{IsTotalOrder}
use Rattle.daachorse_core.specs.declared.outputs.Output.{Output}
use Rattle.daachorse_core.specs.Outputs.{outputs_at, ParentsFall}
use Rattle.daachorse_model.specs.declared.MatchKind.{MatchKind}
use Rattle.daachorse_model.specs.Dictionary.{dictionary}
use Rattle.daachorse_model.specs.Outputs.{own_outputs, outputs_of_ends}
use Rattle.daachorse_model.specs.Paths.{walk, is_reached, Leads}
use Rattle.daachorse_build.specs.declared.nfa_builder.NfaBuilderState.{NfaBuilderState}
use Rattle.daachorse_build.specs.Left.{meets, long_unless_stop, left_link, IsStateOf, IsLeftFailOf}
use Rattle.daachorse_build.specs.Tables.{child_of, edges_of, own_of, own_at, own_outputs_at, output_count, HoldTrie}
use Rattle.daachorse_build.specs.Orders.{IsKnown, IsLinkAmong, IsLeftLinked}
use Rattle.daachorse_build.specs.Holds.{in_units, Holds}
use Rattle.daachorse_build.specs.Lists.{suffix_outputs, left_outputs, AreListed, PositionsFit, IsParent}
use Rattle.daachorse_build.proofs.Walks.{walk-same, walk-bounds}
use Rattle.daachorse_build.proofs.LeftLinks.{meets_never}
use Rattle.daachorse_build.proofs.Queue.{child_of_known, bounds_of_listed, all_in_order}
use Rattle.daachorse_build.proofs.Cleared.{all_cleared, cleared}
use Rattle.daachorse_build.proofs.States.{outputs_missing, outputs_found}
use Rattle.daachorse_build.specs.Few.{items_of}
use Rattle.daachorse_build.proofs.OutputChains.{outputs_at-longer}

module _ {L V A : Type 0} (cmp : L → L → Ordering) (total : IsTotalOrder cmp) (exact : (x y : L) → cmp x y ≡ Equal → x ≡ y) where
  -- what is no state's text has no outputs
  no_outputs : (states : List (NfaBuilderState L V A)) (w : List L) (o : Option ℕ) → walk (child_of cmp states) 0 w ≡ o → is_some o ≡ false → own_outputs_at cmp states w ≡ []
  no_outputs states w None e h = outputs_missing cmp total exact states w e
  no_outputs states w (Some v) e h = cc

  module _ (stops : ℕ → Bool) (states : List (NfaBuilderState L V A)) where
    -- the outputs of a link
    abbrev pub link_outputs : Option (List L) → List (V × ℕ)
    link_outputs None = []
    link_outputs (Some w) = left_outputs cmp stops states w

    link_by : (c : L) (cs : List L) → link_outputs (long_unless_stop (child_of cmp states) stops cs) ≡ left_outputs cmp stops states cs → link_outputs (left_link (child_of cmp states) stops c cs) ≡ cond (meets (child_of cmp states) stops 0 (c ∷ cs)) [] (left_outputs cmp stops states cs)
    link_by c cs rest =
        elim (meets (child_of cmp states) stops 0 (c ∷ cs)) as (λ b. link_outputs (cond b None (long_unless_stop (child_of cmp states) stops cs)) ≡ cond b [] (left_outputs cmp stops states cs))
        [ true ↦ refl | false ↦ rest ]

    -- a text has the outputs of its longest suffix that is a state's text, if no state stops before that
    pub link_outputs-long : (w : List L) → link_outputs (long_unless_stop (child_of cmp states) stops w) ≡ left_outputs cmp stops states w
    link_outputs-long [] = refl
    link_outputs-long (c ∷ cs) =
        let rest = cond (meets (child_of cmp states) stops 0 (c ∷ cs)) [] (left_outputs cmp stops states cs) in
        elim (cases_Bool (is_reached (child_of cmp states) (c ∷ cs))) [
          | inl h ↦ ap link_outputs (cond-true _ _ _ h)
          | inr h ↦ ap link_outputs (cond-false _ _ _ h) ∙ link_by c cs (link_outputs-long cs) ∙ sym (ap (λ os. os ++ rest) (no_outputs states (c ∷ cs) (walk (child_of cmp states) 0 (c ∷ cs)) refl h))
        ]

  -- the list of the root
  pub listed_start : (stops : ℕ → Bool) (states : List (NfaBuilderState L V A)) (outputs : List (Output V)) (positions : List ℕ) → HoldTrie cmp states → outputs_at outputs (get_or positions 0 0) ≡ own_at (own_of states) 0 ++ [] → AreListed cmp stops states [] outputs positions
  listed_start stops states outputs positions table list t (inr none) w at = absurd (omega (arith, none.1))
  listed_start stops states outputs positions table list t (inl root) w at =
      let nil = walk-same (child_of cmp states) (length (edges_of states)) table.trie w [] 0 (at ∙ ap Some root) refl in
      ap (λ u. outputs_at outputs (get_or positions u 0)) root ∙ list ∙ append-nil _ ∙ sym (ap (left_outputs cmp stops states) nil)

  module _ (stops : ℕ → Bool) (states : List (NfaBuilderState L V A)) (table : HoldTrie cmp states) (order fails : List ℕ) (links : IsLeftLinked cmp stops (edges_of states) fails order) where
    -- the states of the order
    pub order-bounds : (t : ℕ) → Contains order t → (1 < t) × (t < length (edges_of states))
    order-bounds t h =
        let p = child_of_known cmp total (edges_of states) table order t (subst (λ ts. Contains ts t) links.first h) in
        bounds_of_listed cmp total (edges_of states) table p.0 t p.2

    -- each state but the dead one is known, so only it can have outputs that are left
    pub none_left : own_at (own_of states) 1 ≡ [] → output_count (cleared (own_of states) (0 ∷ order)) ≡ 0
    none_left dead = all_cleared (own_of states) (0 ∷ order) (λ t low. done t (omega (arith, low, length-map states (λ s. s.edges), length-map states (λ s. items_of s.output))))
      where
        done : (t : ℕ) → t < length (edges_of states) → Contains (0 ∷ order) t ⊎ (own_at (own_of states) t ≡ [])
        done zero low = inl (0, omega arith, refl)
        done (suc zero) low = inr dead
        done (suc (suc t)) low = inl (Contains-append_right (0 ∷ []) order _ (all_in_order cmp total (edges_of states) table order links.first (suc (suc t)) (omega arith) low))

    -- each state that a text leads to is known
    pub known_of_leads : (w : List L) (t : ℕ) → Leads (child_of cmp states) w t → IsKnown order t
    known_of_leads w t h =
        let b = walk-bounds (child_of cmp states) (length (edges_of states)) table.trie w t h in
        elim (cases_eq t 0) [
          | inl e ↦ inl e
          | inr ne ↦ inr (all_in_order cmp total (edges_of states) table order links.first t (omega (arith, ne, b.1)) b.0)
        ]

    -- the list of the link of c ∷ cs
    list_of_link : (outputs : List (Output V)) (positions : List ℕ) (done : List ℕ) (f p : ℕ) → AreListed cmp stops states done outputs positions → IsLinkAmong done f → IsParent positions f p → (o : Option (List L)) → IsStateOf (child_of cmp states) o f → outputs_at outputs p ≡ link_outputs stops states o
    list_of_link outputs positions done f p listed among parent None is =
        elim parent [ inl dead ↦ ap (outputs_at outputs) dead.1 | inr alive' ↦ absurd (alive'.0 is) ]
    list_of_link outputs positions done f p listed among parent (Some x) is =
        let ne = (walk-bounds (child_of cmp states) (length (edges_of states)) table.trie x f is).1 in
        elim parent [
          | inl dead ↦ absurd (ne dead.0)
          | inr alive' ↦
              elim among [
                | inl dead ↦ absurd (ne dead)
                | inr known ↦ ap (outputs_at outputs) alive'.1 ∙ listed f known x is
              ]
        ]

    -- the list of a text of t, where that of its link is known
    list_at : (outputs outputs' : List (Output V)) (positions : List ℕ) (position : ℕ) (done : List ℕ) (t f p : ℕ) → 1 < t → AreListed cmp stops states done outputs positions → IsLinkAmong done f → IsParent positions f p → IsLeftFailOf (child_of cmp states) stops t f → outputs_at outputs' position ≡ own_at (own_of states) t ++ outputs_at outputs p → (w : List L) → Leads (child_of cmp states) w t → outputs_at outputs' position ≡ left_outputs cmp stops states w
    list_at outputs outputs' positions position done t f p low listed among parent link list [] at =
        let e : 0 ≡ t = same_Some 0 t at in absurd (omega (arith, e, low))
    list_at outputs outputs' positions position done t f p low listed among parent link list (c ∷ cs) at =
        let rest = list_of_link outputs positions done f p listed among parent (left_link (child_of cmp states) stops c cs) (link c cs at) ∙ link_by stops states c cs (link_outputs-long stops states cs) in
        list
        ∙ ap (λ os. own_at (own_of states) t ++ os) rest
        ∙ ap (λ os. os ++ cond (meets (child_of cmp states) stops 0 (c ∷ cs)) [] (left_outputs cmp stops states cs)) (sym (outputs_found cmp total exact states (c ∷ cs) t at))

    module _ (i t f : ℕ) (l : i < length order) (is : get_or order i 0 ≡ t) (fail : get_or fails t 0 ≡ f) where
      in' : Contains order t
      in' = subst (Contains order) is (Contains-get_or order i 0 l)

      low : 1 < t
      low = (order-bounds t in').0

      link : IsLeftFailOf (child_of cmp states) stops t f
      link = let P : ℕ → Type 0 = λ v. IsLeftFailOf (child_of cmp states) stops t v in subst P fail (links.linked t in')

      -- the link is dead, or known before
      pub fail_known : IsLinkAmong (take i order) f
      fail_known = let P : ℕ → Type 0 = λ v. IsLinkAmong (take i order) v in subst P (ap (λ v. get_or fails v 0) is ∙ fail) (links.earlier i l)

      pub known_cases : (u : ℕ) → IsKnown (take (i + 1) order) u → IsKnown (take i order) u ⊎ (t ≡ u)
      known_cases u (inl e) = inl (inl e)
      known_cases u (inr h) =
          elim (Contains-push_cases (take i order) t u (subst (λ ts. Contains ts u) (take_more order i 0 l ∙ ap (λ v. take i order ++ v ∷ []) is) h)) [ inl a ↦ inl (inr a) | inr e ↦ inr e ]

      -- the state is not yet done
      pub known_apart : (u : ℕ) → IsKnown (take i order) u → u ≢ t
      known_apart u (inl e) k = omega (arith, e, k, low)
      known_apart u (inr a) k = links.once i l (subst (Contains (take i order)) (k ∙ sym is) a)

      module _ (outputs outputs' more : List (Output V)) (positions positions' : List ℕ) (longer : outputs' ≡ outputs ++ more) (others : (u : ℕ) → u ≢ t → get_or positions' u 0 ≡ get_or positions u 0) (fits : PositionsFit (take i order) outputs positions) where
        -- one state more has a list
        pub listed_more : (p : ℕ) → IsParent positions f p → ParentsFall outputs → AreListed cmp stops states (take i order) outputs positions → outputs_at outputs' (get_or positions' t 0) ≡ own_at (own_of states) t ++ outputs_at outputs p → AreListed cmp stops states (take (i + 1) order) outputs' positions'
        listed_more p parent fall listed list u h w at =
            elim (known_cases u h) [
              | inl old ↦
                  ap (outputs_at outputs') (others u (known_apart u old))
                  ∙ ap (λ os. outputs_at os (get_or positions u 0)) longer
                  ∙ outputs_at-longer outputs more (get_or positions u 0) fall (fits u old)
                  ∙ listed u old w at
              | inr new ↦
                  let W : ℕ → Type 0 = λ v. Leads (child_of cmp states) w v in
                  ap (λ v. outputs_at outputs' (get_or positions' v 0)) (sym new)
                  ∙ list_at outputs outputs' positions (get_or positions' t 0) (take i order) t f p low listed fail_known parent link list w (subst W (sym new) at)
            ]

        pub fits_more : get_or positions' t 0 ≤ length outputs' → PositionsFit (take (i + 1) order) outputs' positions'
        fits_more here u h =
            elim (known_cases u h) [
              | inl old ↦ omega (arith, others u (known_apart u old), fits u old, ap length longer, length-append outputs more)
              | inr new ↦ omega (arith, ap (λ v. get_or positions' v 0) new, here)
            ]

-- the own outputs of a text and of its suffixes, by the dictionary
pub suffix_outputs-held : {L V A : Type 0} (cmp : L → L → Ordering) (unit : L → ℕ) (width : ℕ → ℕ) (kind : MatchKind) (states : List (NfaBuilderState L V A)) (rs : List (List L × V)) → Holds cmp unit width kind states rs → (w : List L) → suffix_outputs cmp states w ≡ outputs_of_ends width (dictionary kind (in_units unit rs)) (map unit w)
suffix_outputs-held cmp unit width kind states rs holds [] = holds.outputs []
suffix_outputs-held cmp unit width kind states rs holds (c ∷ w) =
    ap (λ os. os ++ suffix_outputs cmp states w) (holds.outputs (c ∷ w))
    ∙ ap (λ os. own_outputs width (dictionary kind (in_units unit rs)) (map unit (c ∷ w)) ++ os) (suffix_outputs-held cmp unit width kind states rs holds w)

-- where no state stops, these are the outputs of all suffixes
pub left_outputs-never : {L V A : Type 0} (cmp : L → L → Ordering) (stops : ℕ → Bool) → ((s : ℕ) → stops s ≡ false) → (states : List (NfaBuilderState L V A)) (w : List L) → left_outputs cmp stops states w ≡ suffix_outputs cmp states w
left_outputs-never cmp stops never states [] = refl
left_outputs-never cmp stops never states (c ∷ w) =
    ap (λ b. own_outputs_at cmp states (c ∷ w) ++ cond b [] (left_outputs cmp stops states w)) (meets_never (child_of cmp states) stops never 0 (c ∷ w))
    ∙ ap (λ os. own_outputs_at cmp states (c ∷ w) ++ os) (left_outputs-never cmp stops never states w)
