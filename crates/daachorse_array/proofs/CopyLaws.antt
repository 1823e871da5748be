-- A machine into which a trie was copied that holds a dictionary is right, and holds the same dictionary.
use Rattle.std.proofs.Common.{◌≡◌, ◌≢◌, ℕ, ◌-◌, ◌≤◌, Bool, ◌==◌, cond, List, [], ◌∷◌, ◌++◌, Some, None, refl, sym, ap, ◌∙◌, subst, inl, inr, append-nil}
use Rattle.std.proofs.lemmas.Option.{none-some, same_Some}
use Rattle.daachorse_core.specs.declared.outputs.Output.{Output}
use Rattle.daachorse_model.specs.Dictionary.{Dictionary}
use Rattle.daachorse_model.specs.Paths.{walk, Leads}
use Rattle.daachorse_model.specs.Prefixes.{IsPrefix, PassesAt}
use Rattle.daachorse_array.specs.Machines.{Machine, own, content, right_fail, IsRight, IsCounted}
use Rattle.daachorse_array.specs.Copies.{LinkedTrie, HoldsDictionary, IsCopy, HasStates}
use Rattle.daachorse_array.proofs.PathLaws.{and_then_inv, walk-split, element_reached}
use Rattle.daachorse_array.proofs.CopyPaths.{reached-copy, copy-dead, copy-one_path, Leads-origin}
use Rattle.daachorse_array.proofs.CopyChains.{own-copy, content-copy}
use Rattle.daachorse_array.proofs.CopyLinks.{back-copy, right_fail-copy, next-copy}
use Rattle.daachorse_array.proofs.CopyCount.{states-counted}

module _ {V : Type 0} (width : ℕ → ℕ) (wide : (u : ℕ) → 1 ≤ width u) (K : Dictionary V) (leftmost : Bool) (t : LinkedTrie) (outputs : List (Output V)) (holds : HoldsDictionary width K leftmost t outputs) (a : Machine V) (idx : ℕ → ℕ) (copy : IsCopy t outputs a idx) where
  -- the machine holds the dictionary
  pub content-same : (w : List ℕ) → content width a w ≡ K w
  content-same = content-copy width wide K leftmost t outputs holds a idx copy

  -- a text of an element that leads nowhere is a key, since it begins one
  leaf : (u i : ℕ) (w : List ℕ) → Leads a.child (u ∷ w) i → ((c : ℕ) → a.child i c ≡ None) → K (u ∷ w) ≢ []
  leaf u i w e none = by (let from = Leads-origin t outputs a idx copy i (u ∷ w) e in holds.only from.0 (u ∷ w) from.1)
    where
      by : IsPrefix K (u ∷ w) → K (u ∷ w) ≢ []
      by (inl bad) empty = cc
      by (inr ([], key)) empty = key (ap K (append-nil (u ∷ w)) ∙ empty)
      by (inr (c ∷ x, key)) empty =
          let end = element_reached a.child ((u ∷ w) ++ c ∷ x) (back-copy width K leftmost t outputs holds a idx copy ((u ∷ w) ++ c ∷ x) (inr ([], λ bad. key (sym (ap K (append-nil ((u ∷ w) ++ c ∷ x))) ∙ bad)))) in
          let halves = walk-split a.child 0 end.0 (u ∷ w) (c ∷ x) end.1 in
          let next = and_then_inv (λ j. walk a.child j x) (a.child halves.0 c) end.0 halves.2 in
          let same : halves.0 ≡ i = same_Some halves.0 i (sym halves.1 ∙ e) in
          none-some next.0 (sym (none c) ∙ (ap (λ j. a.child j c) (sym same) ∙ next.1))

  link : (u i : ℕ) (w : List ℕ) → Leads a.child (u ∷ w) i → right_fail width a leftmost (u ∷ w) ≡ Some (a.fail i)
  link u i w e =
      let from = Leads-origin t outputs a idx copy i (u ∷ w) e in
      right_fail-copy width K leftmost t outputs holds a idx copy content-same leftmost u from.0 w from.1 (holds.links u from.0 w from.1)
      ∙ ap (λ k. Some (a.fail k)) (sym from.2)

  chain : (u i : ℕ) (w : List ℕ) → Leads a.child (u ∷ w) i → (own width a (u ∷ w) i).1 ≡ cond (a.fail i == 1) 0 (a.output (a.fail i))
  chain u i w e =
      let from = Leads-origin t outputs a idx copy i (u ∷ w) e in
      let P : ℕ → Type 0 = λ k. (own width a (u ∷ w) k).1 ≡ cond (a.fail k == 1) 0 (a.output (a.fail k)) in
      subst P (sym from.2)
      (ap (λ (r : List V × ℕ). r.1) (own-copy width wide K leftmost t outputs holds a idx copy from.0 (u ∷ w) from.1)
      ∙ next-copy width K leftmost t outputs holds a idx copy u from.0 w from.1)

  root_chain : (own width a [] 0).1 ≡ 0
  root_chain =
      ap (λ k. (own width a [] k).1) (sym copy.root) ∙ ap (λ (r : List V × ℕ). r.1) (own-copy width wide K leftmost t outputs holds a idx copy 0 [] refl)

  -- the machine is right
  pub copy-right : IsRight width a leftmost
  copy-right = record {
    dead_no_child = copy-dead t outputs a idx copy;
    one_path = copy-one_path t outputs a idx copy holds.one_path;
    leaf_has_own = λ u i w e none empty. leaf u i w e none (sym (content-same (u ∷ w)) ∙ empty);
    links = link;
    chains = chain;
    root_chain = root_chain;
  }

  -- so many texts lead to an element as there are states but the dead one
  pub copy-counted : (n : ℕ) → HasStates t n → IsCounted a (n - 1)
  copy-counted n states =
      let P : (List ℕ → Bool) → Type 0 = λ f. PassesAt f (n - 1) in
      subst P (λ i. λ w. sym (reached-copy t outputs a idx copy w) i) (states-counted t holds.one_path n states)
