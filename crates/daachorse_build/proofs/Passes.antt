-- From position to position along the outputs: a walk stays where outputs are added, and an output in front of it makes it one longer.
use Rattle.std.proofs.Common.{◌≡◌, ◌≢◌, ℕ, zero, suc, ◌+◌, ◌<◌, Bool, List, [], ◌∷◌, ◌++◌, length, get_or, take, Some, refl, sym, ap, ◌∙◌, subst, inl, inr, arith}
use Rattle.std.proofs.lemmas.Option.{slice_get_within}
use Rattle.std.proofs.lemmas.List.Elements.{Contains-get_or}
use Rattle.std.specs.List.{slice_get}
use Rattle.daachorse_core.specs.declared.outputs.Output.{Output}
use Rattle.daachorse_core.specs.Outputs.{value_of, length_of, parent_of}
use Rattle.daachorse_core.specs.Chains.{Passes}
use Rattle.std.specs.declared.cmp.Ordering.{Ordering}
use Rattle.std.specs.declared.cmp.Ordering.TheVariants.{Equal}
use Rattle.std.specs.Cmp.{IsTotalOrder}
use Rattle.daachorse_build.specs.declared.nfa_builder.NfaBuilderState.{NfaBuilderState}
use Rattle.daachorse_build.specs.Tables.{edges_of, own_at, HoldTrie}
use Rattle.daachorse_build.specs.Orders.{IsKnown, IsLinkAmong, IsLeftLinked}
use Rattle.daachorse_build.specs.Lists.{IsParent, IsRest, IsChainedAt, AreChained}
use Rattle.daachorse_build.proofs.Queue.{link_among, known_but_root}
use Rattle.daachorse_build.proofs.OutputLists.{order-bounds, fail_known, known_apart, known_cases}
use Rattle.daachorse_build.proofs.OutputChains.{slice_get_last, slice_get_left}

found_left : {X : Type 0} (xs ys : List X) (i : ℕ) (x : X) → slice_get xs i ≡ Some x → slice_get (xs ++ ys) i ≡ Some x
found_left xs ys i x h = slice_get_left xs ys i (slice_get_within xs i x h) ∙ h

module _ {V : Type 0} where
  -- outputs that come later change nothing
  pub passes_longer : (outputs more : List (Output V)) (p : ℕ) (own : List (V × ℕ)) (q : ℕ) → Passes outputs p own q → Passes (outputs ++ more) p own q
  passes_longer outputs more p [] q h = h
  passes_longer outputs more zero (o ∷ own) q none = absurd none
  passes_longer outputs more (suc p) (o ∷ own) q (here, is, same, rest) =
      (here, found_left outputs more p here is, same, passes_longer outputs more (parent_of here) own q rest)

  -- one output in front
  pub passes_push : (outputs : List (Output V)) (o : Output V) (x : V × ℕ) (own : List (V × ℕ)) (last p q : ℕ) → value_of o ≡ x.0 → length_of o ≡ x.1 → parent_of o ≡ last → p ≡ length outputs + 1 → Passes outputs last own q → Passes (outputs ++ o ∷ []) p (x ∷ own) q
  passes_push outputs o x own last zero q value len parent e h = absurd (omega (arith, e))
  passes_push outputs o x own last (suc p) q value len parent e h =
      let at : p ≡ length outputs = omega (arith, e) in
      let same : (value_of o, length_of o) ≡ x = ap (λ v. (v, length_of o)) value ∙ ap (λ n. (x.0, n)) len in
      let P : ℕ → Type 0 = λ r. Passes (outputs ++ o ∷ []) r own q in
      (o, ap (slice_get (outputs ++ o ∷ [])) at ∙ slice_get_last outputs o, same, subst P (sym parent) (passes_longer outputs (o ∷ []) last own q h))

-- where the list of a link begins, after the position of another state was set
pub parent_others : (positions positions' : List ℕ) (t f q : ℕ) → ((u : ℕ) → u ≢ t → get_or positions' u 0 ≡ get_or positions u 0) → (f ≢ 1 → f ≢ t) → IsParent positions f q → IsParent positions' f q
parent_others positions positions' t f q others apart (inl dead) = inl dead
parent_others positions positions' t f q others apart (inr alive) = inr (alive.0, alive.1 ∙ sym (others f (apart alive.0)))

-- the root's own outputs are all that it has
pub chained_start : {V : Type 0} (own : List (List (V × ℕ))) (fails : List ℕ) (outputs : List (Output V)) (positions : List ℕ) → Passes outputs (get_or positions 0 0) (own_at own 0) 0 → AreChained own fails [] outputs positions
chained_start own fails outputs positions h t (inr none) = absurd (omega (arith, none.1))
chained_start own fails outputs positions h t (inl root) =
    let P : ℕ → Type 0 = λ u. Passes outputs (get_or positions u 0) (own_at own u) 0 in
    (0, inl (root, refl), subst P (sym root) h)

module _ {L V A : Type 0} (cmp : L → L → Ordering) (total : IsTotalOrder cmp) (exact : (x y : L) → cmp x y ≡ Equal → x ≡ y) (stops : ℕ → Bool) (states : List (NfaBuilderState L V A)) (table : HoldTrie cmp states) (order fails : List ℕ) (links : IsLeftLinked cmp stops (edges_of states) fails order) (i : ℕ) (l : i < length order) where
  abbrev t : ℕ
  t = get_or order i 0

  abbrev f : ℕ
  f = get_or fails t 0

  apart : (u : ℕ) → IsKnown (take i order) u → u ≢ t
  apart u h = known_apart cmp total exact stops states table order fails links i t f l refl refl u h

  link_apart : (g : ℕ) → IsLinkAmong (take i order) g → g ≢ 1 → g ≢ t
  link_apart g (inl dead) ne = absurd (ne dead)
  link_apart g (inr known) ne = apart g known

  module _ (outputs outputs' more : List (Output V)) (positions positions' : List ℕ) (longer : outputs' ≡ outputs ++ more) (others : (u : ℕ) → u ≢ t → get_or positions' u 0 ≡ get_or positions u 0) where
    rest_others : (u q : ℕ) → IsKnown (take i order) u → IsRest fails positions u q → IsRest fails positions' u q
    rest_others u q h (inl root) = inl root
    rest_others u q h (inr link) =
        let among = link_among fails order i u (omega arith) links.earlier (known_but_root (take i order) u link.0 h) in
        inr (link.0, parent_others positions positions' t (get_or fails u 0) q others (link_apart (get_or fails u 0) among) link.1)

    old_chained : (own : List (List (V × ℕ))) (u : ℕ) → IsKnown (take i order) u → IsChainedAt own fails outputs positions u → IsChainedAt own fails outputs' positions' u
    old_chained own u h at =
        let P : ℕ → Type 0 = λ p. Passes outputs' p (own_at own u) at.0 in
        let Q : List (Output V) → Type 0 = λ os. Passes os (get_or positions u 0) (own_at own u) at.0 in
        (at.0, rest_others u at.0 h at.1, subst P (sym (others u (apart u h))) (subst Q (sym longer) (passes_longer outputs more (get_or positions u 0) (own_at own u) at.0 at.2)))

    -- one state more is chained
    pub chained_more : (own : List (List (V × ℕ))) (p : ℕ) → IsParent positions f p → AreChained own fails (take i order) outputs positions → Passes outputs' (get_or positions' t 0) (own_at own t) p → AreChained own fails (take (i + 1) order) outputs' positions'
    chained_more own p parent chained passes u h =
        elim (known_cases cmp total exact stops states table order fails links i t f l refl refl u h) [
          | inl old ↦ old_chained own u old (chained u old)
          | inr new ↦
              let P : ℕ → Type 0 = λ v. IsChainedAt own fails outputs' positions' v in
              let in' = Contains-get_or order i 0 l in
              let low = (order-bounds cmp total exact stops states table order fails links t in').0 in
              let among = fail_known cmp total exact stops states table order fails links i t f l refl refl in
              subst P new (p, inr (omega (arith, low), parent_others positions positions' t f p others (link_apart f among) parent), passes)
        ]
