-- What a search sees of a right machine: the elements that texts lead to are the prefixes of its keys, and links, chains and looks are those of its dictionary.
use Rattle.std.proofs.Common.{◌≡◌, ◌≢◌, ℕ, zero, suc, ◌+◌, ◌<◌, ◌≤◌, ◌⊎◌, inl, inr, Bool, true, false, cond, ◌==◌, List, [], ◌∷◌, ◌++◌, map, length, Option, Some, None, refl, sym, ap, ◌∙◌, subst, arith, append_assoc, append-nil, length-append}
use Rattle.std.proofs.lemmas.Option.{same_Some}
use Rattle.std.specs.Prelude.{is_some, option_and_then}
use Rattle.std.specs.declared.num.NonZeroU32.{NonZeroU32}
use Rattle.daachorse_core.specs.Outputs.{number, outputs_at}
use Rattle.daachorse_core.specs.declared.turns.Look.{Look}
use Rattle.daachorse_core.specs.declared.turns.Look.TheVariants.{Next, Fail}
use Rattle.daachorse_model.specs.Dictionary.{Dictionary}
use Rattle.daachorse_model.specs.Units.{size}
use Rattle.daachorse_model.specs.Paths.{walk, is_reached, Leads}
use Rattle.daachorse_model.specs.Prefixes.{IsPrefix, IsLink, IsLeftFail, long, left_fail}
use Rattle.daachorse_model.specs.Outputs.{own_outputs, IsChain, at_root, at_dead, before_link}
use Rattle.daachorse_model.proofs.Links.{IsDead-not, link-is, left_fail-is}
use Rattle.daachorse_model.proofs.Paths.{walk-push}
use Rattle.daachorse_core.specs.Looks.{IsFirstOutput, IsForeign, LookGives, LooksOnce}
use Rattle.daachorse_array.specs.Texts.{text_of, IsReached}
use Rattle.daachorse_array.specs.Machines.{Machine, own, values_at, content, element_of, right_fail, dead_in, IsMachine}
use Rattle.daachorse_array.proofs.PathLaws.{walk-split, element_reached, reached_element, any_child, Leads-inside, Leads-length, text_of-Leads}
use Rattle.daachorse_array.proofs.ChainLaws.{outputs_at-own}
use Rattle.daachorse_array.proofs.OutputLaws.{outputs_few, outputs_some}

-- a look that follows no link gives what any look may
pub LooksOnce-gives : {V : Type 0} (K : Dictionary V) (reached : ℕ → Type 0) (text : ℕ → List ℕ) (dead : List ℕ → Type 0) (w : List ℕ) (u : ℕ) (look : Look) → LooksOnce K reached text dead w u look → LookGives K reached text dead w u look
LooksOnce-gives K reached text dead w u (Next t o) (there, ends) = (there, inr (0, ends))
LooksOnce-gives K reached text dead w u (Fail t) told = told

module _ {V : Type 0} (width : ℕ → ℕ) (a : Machine V) (leftmost : Bool) (n m : ℕ) (h : IsMachine width a leftmost n m) where
  -- an element's text is what leads to it
  pub text-Leads : (w : List ℕ) (i : ℕ) → Leads a.child w i → text_of a.child m n i ≡ w
  text-Leads w i e = text_of-Leads a.child n m h.some h.inside h.right.one_path w i e

  pub Reached-Leads : (w : List ℕ) (i : ℕ) → Leads a.child w i → IsReached a.child m n i
  Reached-Leads w i e = ap (λ v. walk a.child 0 v) (text-Leads w i e) ∙ e

  pub Reached-inside : (i : ℕ) → IsReached a.child m n i → i < n
  Reached-inside i r = Leads-inside a.child n m h.some h.inside h.right.one_path (text_of a.child m n i) i r

  pub Reached-root : IsReached a.child m n 0
  Reached-root = Reached-Leads [] 0 refl

  -- ---- what leads somewhere is what begins a key

  key_reached : (w : List ℕ) (o : Option ℕ) → walk a.child 0 w ≡ o → content width a w ≢ [] → is_some o ≡ true
  key_reached w (Some i) e key = refl
  key_reached w None e key = absurd (key (ap (values_at width a w) e))

  -- a prefix of a key leads somewhere
  pub back : (w : List ℕ) → IsPrefix (content width a) w → is_reached a.child w ≡ true
  back w (inl e) = ap (is_reached a.child) e
  back w (inr (rest, key)) =
      let end = element_reached a.child (w ++ rest) (key_reached (w ++ rest) (walk a.child 0 (w ++ rest)) refl key) in
      let halves = walk-split a.child 0 end.0 w rest end.1 in
      reached_element a.child w halves.0 halves.1

  -- no key has a unit that leads nowhere
  pub foreign : (c : ℕ) → ((i : ℕ) → a.child i c ≡ None) → IsForeign (content width a) c
  foreign c none w begins =
      let end = element_reached a.child (w ++ c ∷ []) (back (w ++ c ∷ []) begins) in
      let halves = walk-split a.child 0 end.0 w (c ∷ []) end.1 in
      let bad : ◌≡◌ {A = Option ℕ} None (Some end.0) = sym (ap (λ o. option_and_then (λ j. Some j) o) (none halves.0)) ∙ halves.2 in
      cc

  no_child : (i c : ℕ) (o : Option ℕ) → a.child i c ≡ o → ((d : ℕ) → d < m → a.child i d ≡ None) → o ≡ None
  no_child i c None e none = refl
  no_child i c (Some j) e none = absurd (let bad : ◌≡◌ {A = Option ℕ} None (Some j) = sym (none c (h.inside i c j e).1) ∙ e in cc)

  -- down from an element to one that has values, in fewer steps than there are elements
  descend : (steps u : ℕ) (w : List ℕ) (i : ℕ) → Leads a.child (u ∷ w) i → n ≤ length (u ∷ w) + steps → (rest : List ℕ) × (content width a ((u ∷ w) ++ rest) ≢ [])
  descend zero u w i e more = absurd (let less : length (u ∷ w) < n = Leads-length a.child n m h.some h.inside h.right.one_path (u ∷ w) i e in omega (arith, less, more))
  descend (suc steps) u w i e more =
      elim (any_child a.child m i) [
        | inl next ↦
            let on : Leads a.child (u ∷ (w ++ next.0 ∷ [])) next.1 = walk-push a.child 0 (u ∷ w) next.0 i e ∙ next.2 in
            let rest = descend steps u (w ++ next.0 ∷ []) next.1 on (omega (arith, more, length-append w (next.0 ∷ []))) in
            (next.0 ∷ rest.0, λ none. rest.1 (ap (content width a) (append_assoc (u ∷ w) (next.0 ∷ []) rest.0) ∙ none))
        | inr none ↦ ([], λ empty. h.right.leaf_has_own u i w e (λ c. no_child i c (a.child i c) refl none) (sym (ap (content width a) (append-nil (u ∷ w))) ∙ empty))
      ]

  -- a text that leads somewhere is a prefix of a key
  pub fore : (w : List ℕ) → is_reached a.child w ≡ true → IsPrefix (content width a) w
  fore [] r = inl refl
  fore (u ∷ w) r = let end = element_reached a.child (u ∷ w) r in inr (descend n u w end.0 end.1 (omega arith))

  -- ---- links

  -- the link of an element with a nonempty text: dead, or the element of the text's link
  pub data LinkOf (w : List ℕ) (f : ℕ) : Type 0 where
    to_dead : dead_in width a leftmost w → f ≡ 1 → LinkOf w f
    to_element : {s : List ℕ} → IsLink (content width a) w s → (¬ dead_in width a leftmost w) → Leads a.child s f → f ≢ 1 → LinkOf w f

  not_dead_state : (s : List ℕ) (f : ℕ) → Leads a.child s f → f ≢ 1
  not_dead_state s f e one = h.right.dead_no_child s (e ∙ ap (λ x. Some x) one)

  link_of : (b : Bool) (u f : ℕ) (w : List ℕ) → b ≡ leftmost → right_fail width a b (u ∷ w) ≡ Some f → LinkOf (u ∷ w) f
  link_of false u f w is e =
      let P : Bool → Type 0 = λ b. ¬ dead_in width a b (u ∷ w) in
      let alive : ¬ dead_in width a leftmost (u ∷ w) = subst P is (λ x. x) in
      to_element {s = long (is_reached a.child) w} (link-is (content width a) (is_reached a.child) fore back u w) alive e (not_dead_state _ f e)
  link_of true u f w is e = go (left_fail (content width a) (is_reached a.child) (u ∷ w)) (left_fail-is (content width a) (is_reached a.child) fore back u w) e
    where
      D : Bool → Type 0
      D b = dead_in width a b (u ∷ w)

      go : (o : Option (List ℕ)) → IsLeftFail (content width a) (u ∷ w) o → element_of width a o ≡ Some f → LinkOf (u ∷ w) f
      go None dead e = to_dead (subst D is dead) (sym (same_Some 1 f e))
      go (Some s) link e = to_element {s = s} link.0 (λ dead. IsDead-not (content width a) (u ∷ w) s link.0 link.1 (subst D (sym is) dead)) e (not_dead_state s f e)

  pub Leads-link : (u : ℕ) (w : List ℕ) (i : ℕ) → Leads a.child (u ∷ w) i → LinkOf (u ∷ w) (a.fail i)
  Leads-link u w i e = link_of leftmost u (a.fail i) w refl (h.right.links u i w e)

  -- ---- outputs

  -- the outputs from an element's position on: its own, and then the rest of its chain
  outputs-own : (w : List ℕ) (i : ℕ) → Leads a.child w i → outputs_at a.outputs (a.output i) ≡ own_outputs width (content width a) w ++ outputs_at a.outputs (own width a w i).1
  outputs-own w i e =
      outputs_at-own a.outputs h.parents_fall (size width w) (a.output i)
      ∙ ap (λ o. map (λ v. (v, size width w)) (values_at width a w o) ++ outputs_at a.outputs (own width a w i).1) (sym e)

  chain_in : (steps : ℕ) (w : List ℕ) (i : ℕ) → length w ≤ steps → Leads a.child w i → IsChain width (content width a) (dead_in width a leftmost) w (outputs_at a.outputs (a.output i))
  chain_in steps [] i short e =
      let root : 0 ≡ i = same_Some 0 i e in
      let P : List (V × ℕ) → Type 0 = λ l. IsChain width (content width a) (dead_in width a leftmost) [] l in
      let ends : (own width a [] i).1 ≡ 0 = ap (λ k. (own width a [] k).1) (sym root) ∙ h.right.root_chain in
      subst P (sym (outputs-own [] i e ∙ (ap (λ q. own_outputs width (content width a) [] ++ outputs_at a.outputs q) ends ∙ append-nil (own_outputs width (content width a) [])))) at_root
  chain_in zero (u ∷ w) i short e = absurd (omega arith)
  chain_in (suc steps) (u ∷ w) i short e = go (Leads-link u w i e)
      (λ s less f leads. chain_in steps s f (omega (arith, less)) leads)
    where
      P : List (V × ℕ) → Type 0
      P l = IsChain width (content width a) (dead_in width a leftmost) (u ∷ w) l

      go : LinkOf (u ∷ w) (a.fail i) → ((s : List ℕ) → length s < length (u ∷ w) → (f : ℕ) → Leads a.child s f → IsChain width (content width a) (dead_in width a leftmost) s (outputs_at a.outputs (a.output f))) → P (outputs_at a.outputs (a.output i))
      go (to_dead dead one) more =
          let test : (a.fail i == 1) ≡ true = ap (λ f. f == 1) one in
          let ends : (own width a (u ∷ w) i).1 ≡ 0 = h.right.chains u i w e ∙ ap (λ b. cond b 0 (a.output (a.fail i))) test in
          subst P (sym (outputs-own (u ∷ w) i e ∙ (ap (λ q. own_outputs width (content width a) (u ∷ w) ++ outputs_at a.outputs q) ends ∙ append-nil (own_outputs width (content width a) (u ∷ w))))) (at_dead dead)
      go (to_element {s} link alive leads other) more =
          let test : (a.fail i == 1) ≡ false = grind (arith, other) in
          let on : (own width a (u ∷ w) i).1 ≡ a.output (a.fail i) = h.right.chains u i w e ∙ ap (λ b. cond b 0 (a.output (a.fail i))) test in
          subst P (sym (outputs-own (u ∷ w) i e ∙ ap (λ q. own_outputs width (content width a) (u ∷ w) ++ outputs_at a.outputs q) on)) (before_link link alive (more s link.shorter (a.fail i) leads))

  -- an element's outputs are the chain of its text
  pub Leads-chain : (w : List ℕ) (i : ℕ) → Leads a.child w i → IsChain width (content width a) (dead_in width a leftmost) w (outputs_at a.outputs (a.output i))
  Leads-chain w i e = chain_in (length w) w i (omega arith) e

  pub Reached-chain : (i : ℕ) → IsReached a.child m n i → IsChain width (content width a) (dead_in width a leftmost) (text_of a.child m n i) (outputs_at a.outputs (a.output i))
  Reached-chain i r = Leads-chain (text_of a.child m n i) i r

  -- and so are those from a position that was read
  pub chain-at : (i q : ℕ) → IsReached a.child m n i → a.output i ≡ q → IsChain width (content width a) (dead_in width a leftmost) (text_of a.child m n i) (outputs_at a.outputs q)
  chain-at i q r at =
      let P : ℕ → Type 0 = λ x. IsChain width (content width a) (dead_in width a leftmost) (text_of a.child m n i) (outputs_at a.outputs x) in
      subst P at (Reached-chain i r)

  pub position-inside : (i q : ℕ) → IsReached a.child m n i → a.output i ≡ q → q ≤ length a.outputs
  position-inside i q r at = let below : a.output i ≤ length a.outputs = h.outputs_inside i (Reached-inside i r) in omega (arith, below, at)

  -- the first output of an element, as it was read off it
  pub first-output : (i : ℕ) (o : Option NonZeroU32) → IsReached a.child m n i → a.output i ≡ number o
      → IsFirstOutput width (content width a) (dead_in width a leftmost) (λ position. position ≤ length a.outputs) (outputs_at a.outputs) (length a.outputs) (text_of a.child m n i) o
  first-output i o r at =
      let inside = position-inside i (number o) r at in
      record { place = inside; some = outputs_some a.outputs h.parents_fall o inside; few = outputs_few a.outputs (number o) inside; chain = chain-at i (number o) r at }

  -- ---- a look at an element

  root_or : (i : ℕ) (w : List ℕ) → Leads a.child w i → (i ≡ 0) ⊎ ((u : ℕ) × (v : List ℕ) × (w ≡ u ∷ v))
  root_or i [] e = inl (sym (same_Some 0 i e))
  root_or i (u ∷ v) e = inr (u, v, refl)

  -- the root alone has the empty text
  pub root-text : (i : ℕ) → IsReached a.child m n i → text_of a.child m n i ≡ [] → i ≡ 0
  root-text i r e = sym (same_Some 0 i (sym (ap (λ w. walk a.child 0 w) e) ∙ r))

  pub text-root : (i : ℕ) → i ≡ 0 → text_of a.child m n i ≡ []
  text-root i e = ap (λ k. text_of a.child m n k) e ∙ text-Leads [] 0 refl

  not_prefix : (i c : ℕ) → IsReached a.child m n i → a.child i c ≡ None → ¬ IsPrefix (content width a) (text_of a.child m n i ++ c ∷ [])
  not_prefix i c r none begins =
      let bad : is_reached a.child (text_of a.child m n i ++ c ∷ []) ≡ false = ap is_some (walk-push a.child 0 (text_of a.child m n i) c i r ∙ none) in
      let clash : true ≡ false = sym (back (text_of a.child m n i ++ c ∷ []) begins) ∙ bad in
      cc

  -- what a look at an element for a unit gives
  abbrev Gives : ℕ → ℕ → Look → Type 0
  Gives i c look = LooksOnce (content width a) (IsReached a.child m n) (text_of a.child m n) (dead_in width a leftmost) (text_of a.child m n i) c look

  -- a child is the next element
  pub turn-next : (i c j : ℕ) → IsReached a.child m n i → a.child i c ≡ Some j → (o : Option NonZeroU32) → Gives i c (Next j o)
  turn-next i c j r e o =
      let leads : Leads a.child (text_of a.child m n i ++ c ∷ []) j = walk-push a.child 0 (text_of a.child m n i) c i r ∙ e in
      (Reached-Leads _ j leads, inl (fore _ (reached_element a.child _ j leads), text-Leads _ j leads))

  -- the root stays where it has no child
  pub turn-root : (i c : ℕ) → IsReached a.child m n i → a.child i c ≡ None → i ≡ 0 → (o : Option NonZeroU32) → Gives i c (Next 0 o)
  turn-root i c r none root o = (Reached-root, inr (not_prefix i c r none, inl (text-root i root), text-root 0 refl))

  link_at : (i : ℕ) → IsReached a.child m n i → i ≢ 0 → LinkOf (text_of a.child m n i) (a.fail i)
  link_at i r other = elim (root_or i (text_of a.child m n i) r) [
    | inl root ↦ absurd (other root)
    | inr parts ↦
        rw parts.2 (Leads-link parts.0 parts.1 i (sym (ap (λ w. walk a.child 0 w) parts.2) ∙ r))
  ]

  -- a dead link leads to the root
  pub turn-dead : (i c : ℕ) → IsReached a.child m n i → a.child i c ≡ None → i ≢ 0 → a.fail i ≡ 1 → (o : Option NonZeroU32) → Gives i c (Next 0 o)
  turn-dead i c r none other one o = elim (link_at i r other) [
    | to_dead dead is ↦ (Reached-root, inr (not_prefix i c r none, inr dead, text-root 0 refl))
    | to_element link alive leads not_one ↦ absurd (not_one one)
  ]

  -- any other link is followed
  pub turn-fail : (i c : ℕ) → IsReached a.child m n i → a.child i c ≡ None → i ≢ 0 → a.fail i ≢ 1 → Gives i c (Fail (a.fail i))
  turn-fail i c r none other not_one = elim (link_at i r other) [
    | to_dead dead is ↦ absurd (not_one is)
    | to_element {s} link alive leads not ↦ (Reached-Leads s (a.fail i) leads, not_prefix i c r none, alive, rw (text-Leads s (a.fail i) leads) link)
  ]

  -- a link that was read, and isn't dead
  pub turn-link : (i c f : ℕ) → IsReached a.child m n i → a.child i c ≡ None → i ≢ 0 → a.fail i ≡ f → f ≢ 1 → Gives i c (Fail f)
  turn-link i c f r none other at live =
      let P : ℕ → Type 0 = λ x. Gives i c (Fail x) in
      subst P at (turn-fail i c r none other (λ one. live (sym at ∙ one)))

  -- where no text has a dead link, as in a standard machine, no element's link is dead
  pub standard-alive : (i : ℕ) → IsReached a.child m n i → i ≢ 0 → ((w : List ℕ) → ¬ dead_in width a leftmost w) → a.fail i ≢ 1
  standard-alive i r other alive one = elim (link_at i r other) [
    | to_dead dead is ↦ alive (text_of a.child m n i) dead
    | to_element link _ leads not_one ↦ not_one one
  ]
