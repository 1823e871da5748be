-- A walk that takes the last element put aside takes the elements in the order of their texts.
use Rattle.std.proofs.Common.{◌≡◌, ℕ, zero, suc, ◌+◌, ◌<◌, ◌≤◌, ◌⊎◌, inl, inr, List, [], ◌∷◌, ◌++◌, length, Option, Some, None, refl, sym, ap, ◌∙◌, arith, subst, length-append, append-nil, append_assoc}
use Rattle.std.specs.Cmp.Lexicographic.{nat_list_cmp_total}
use Rattle.std.specs.declared.cmp.Ordering.{Ordering}
use Rattle.std.specs.declared.cmp.Ordering.TheVariants.{Less, Equal}
use Rattle.daachorse_model.specs.Paths.{walk, Leads}
use Rattle.daachorse_model.proofs.Paths.{walk-push}
use Rattle.daachorse_array.specs.Texts.{IsReached}
use Rattle.daachorse_array.proofs.PathLaws.{and_then_inv, text_of-Leads, Leads-inside}
use Rattle.std.proofs.lemmas.Option.{none-some, same_Some}
use Rattle.daachorse_array.specs.Edges.{put_before, children_below, IsTree, TellChildren}
use Rattle.daachorse_array.specs.Listing.{unit_of}
use Rattle.daachorse_array.specs.Trees.{IsAmong, Pairs, Diverges, text, Apart, ComesBefore, IsListed, IsWalk, elements_of, taken_from}
use Rattle.daachorse_array.proofs.Members.{among-append, among-left, among-right, among-put, put-left, put-right, All-among, among-All, among-children, children_below-among, Pairs-children, Pairs-append, Pairs-map, Pairs-push, Pairs-few, length-put, elements-pop}
use Rattle.daachorse_array.proofs.Orders.{order, Diverges-order, Diverges-on, Diverges-last, order-longer, order-itself}

-- what holds of the root, and of the children of each of which it holds, holds of what any text leads to
pub along : {child : ℕ → ℕ → Option ℕ} (P : ℕ → Type 0) → ((i c j : ℕ) → P i → child i c ≡ Some j → P j) → (v : List ℕ) (k i : ℕ) → P k → walk child k v ≡ Some i → P i
along P closed [] k i h e = subst P (same_Some k i e) h
along {child} P closed (c ∷ v) k i h e =
    let inner = and_then_inv (λ j. walk child j v) (child k c) i e in
    along P closed v inner.0 i (closed k c inner.0 h inner.1) inner.2

-- the last element of a stack is the first that was put aside
pub walk-pop : {child : ℕ → ℕ → Option ℕ} {n m : ℕ} (taken : List ℕ) (stack rest : List (ℕ × ℕ)) (x : ℕ × ℕ) → stack ≡ rest ++ x ∷ [] → IsWalk child n m taken (elements_of stack) → IsWalk child n m taken (x.1 ∷ elements_of rest)
walk-pop {child} {n} {m} taken stack rest x e w =
    let P : List ℕ → Type 0 = λ l. IsWalk child n m taken l in
    subst P (elements-pop stack rest x e) w

module _ {child : ℕ → ℕ → Option ℕ} {n m : ℕ} (tree : IsTree child n m) where
  text-is : (w : List ℕ) (i : ℕ) → Leads child w i → text child n m i ≡ w
  text-is w i e = text_of-Leads child n m tree.some tree.inside tree.one_path w i e

  pub reached-is : (w : List ℕ) (i : ℕ) → Leads child w i → IsReached child m n i
  reached-is w i e = ap (λ v. walk child 0 v) (text-is w i e) ∙ e

  pub root-text : text child n m 0 ≡ []
  root-text = text-is [] 0 refl

  pub root-reached : IsReached child m n 0
  root-reached = reached-is [] 0 refl

  pub reached-inside : (i : ℕ) → IsReached child m n i → i < n
  reached-inside i r = Leads-inside child n m tree.some tree.inside tree.one_path (text child n m i) i r

  -- the text of a child
  pub child-text : (x c j : ℕ) → IsReached child m n x → child x c ≡ Some j → text child n m j ≡ text child n m x ++ c ∷ []
  child-text x c j r e = text-is (text child n m x ++ c ∷ []) j (walk-push child 0 (text child n m x) c x r ∙ e)

  pub child-reached : (x c j : ℕ) → IsReached child m n x → child x c ≡ Some j → IsReached child m n j
  child-reached x c j r e = reached-is (text child n m x ++ c ∷ []) j (walk-push child 0 (text child n m x) c x r ∙ e)

  pub child-not-root : (x c : ℕ) → IsReached child m n x → child x c ≡ Some 0 → ⊥
  child-not-root x c r e = let same : [] ≡ text child n m x ++ c ∷ [] = sym root-text ∙ child-text x c 0 r e in let long = ap length same in omega (arith, long, length-append (text child n m x) (c ∷ []))

  pub before-itself : (k : ℕ) → ¬ ComesBefore child n m k k
  before-itself k e = let bad : ◌≡◌ {A = Ordering} Equal Less = sym (order-itself (text child n m k)) ∙ e in cc

  -- ---- the start

  pub walk-start : IsWalk child n m [] (0 ∷ [])
  walk-start = record {
    reached = λ i h. elim h [ inl bad ↦ absurd bad | inr a ↦ elim a [ inl same ↦ subst (IsReached child m n) (sym same) root-reached | inr bad ↦ absurd bad ] ];
    root = inr (inl refl);
    closed = λ i c j bad e. absurd bad;
    rising = tt;
    apart = (tt, tt);
    across = λ i j bad h. absurd bad;
  }

  -- ---- one element is taken, and its children are put aside
  module _ (taken aside : List ℕ) (x : ℕ) (w : IsWalk child n m taken (x ∷ aside)) where
    here : IsReached child m n x
    here = w.reached x (inr (inl refl))

    abbrev pub kids : List ℕ
    kids = children_below child x m

    abbrev pub rest : List ℕ
    rest = put_before kids aside

    -- what is taken or put aside afterwards
    split : (i : ℕ) → IsAmong (taken ++ x ∷ []) i ⊎ IsAmong rest i → (IsAmong taken i ⊎ IsAmong (x ∷ aside) i) ⊎ ((c : ℕ) × (child x c ≡ Some i))
    split i (inl a) = elim (among-append taken (x ∷ []) i a) [ inl old ↦ inl (inl old) | inr new ↦ elim new [ inl same ↦ inl (inr (inl same)) | inr bad ↦ absurd bad ] ]
    split i (inr a) = elim (among-put kids aside i a) [ inl kid ↦ inr (among-children child x m i kid) | inr old ↦ inl (inr (inr old)) ]

    -- what was, still is
    keep : (i : ℕ) → IsAmong taken i ⊎ IsAmong (x ∷ aside) i → IsAmong (taken ++ x ∷ []) i ⊎ IsAmong rest i
    keep i (inl a) = inl (among-left taken (x ∷ []) i a)
    keep i (inr (inl same)) = inl (among-right taken (x ∷ []) i (inl same))
    keep i (inr (inr a)) = inr (put-right kids aside i a)

    kid-before : (c j : ℕ) → child x c ≡ Some j → ComesBefore child n m x j
    kid-before c j e = ap (order (text child n m x)) (child-text x c j here e) ∙ order-longer (text child n m x) c []

    kid-aside : (c j k : ℕ) → child x c ≡ Some j → IsAmong aside k → Apart child n m j k
    kid-aside c j k e a =
        let D : List ℕ → Type 0 = λ v. Diverges v (text child n m k) in
        subst D (sym (child-text x c j here e)) (Diverges-on (text child n m x) (text child n m k) (c ∷ []) (among-All (Apart child n m x) aside k w.apart.0 a))

    kids-rise : (c d j k : ℕ) → c < d → child x c ≡ Some j → child x d ≡ Some k → Apart child n m j k
    kids-rise c d j k less a b =
        let D : List ℕ → Type 0 = λ v. Diverges v (text child n m k) in
        let E : List ℕ → Type 0 = λ v. Diverges (text child n m x ++ c ∷ []) v in
        subst D (sym (child-text x c j here a)) (subst E (sym (child-text x d k here b)) (Diverges-last (text child n m x) c d less))

    aside-before : (k : ℕ) → IsAmong aside k → ComesBefore child n m x k
    aside-before k a = Diverges-order (text child n m x) (text child n m k) (among-All (Apart child n m x) aside k w.apart.0 a)

    -- x comes before all that is put aside
    x-before : (k : ℕ) → IsAmong rest k → ComesBefore child n m x k
    x-before k a = elim (among-put kids aside k a) [
      | inl kid ↦ (let at = among-children child x m k kid in kid-before at.0 k at.1)
      | inr old ↦ aside-before k old
    ]

    reached-next : (i : ℕ) → IsAmong (taken ++ x ∷ []) i ⊎ IsAmong rest i → IsReached child m n i
    reached-next i h = elim (split i h) [ inl old ↦ w.reached i old | inr kid ↦ child-reached x kid.0 i here kid.1 ]

    rising-next : Pairs (ComesBefore child n m) (taken ++ x ∷ [])
    rising-next = Pairs-push (ComesBefore child n m) taken x w.rising (λ k a. w.across k x a (inl refl))

    apart-next : Pairs (Apart child n m) rest
    apart-next =
        Pairs-children child x (Apart child n m) m aside w.apart.1
        (λ c k less e. All-among (Apart child n m k) aside (λ j a. kid-aside c k j e a))
        (λ c d j k less inside a b. kids-rise c d j k less a b)

    across-next : (i j : ℕ) → IsAmong (taken ++ x ∷ []) i → IsAmong rest j → ComesBefore child n m i j
    across-next i j a b = elim (among-append taken (x ∷ []) i a) [
      | inl old ↦ nat_list_cmp_total.trans (text child n m i) (text child n m x) (text child n m j) (w.across i x old (inl refl)) (x-before j b)
      | inr new ↦ elim new [ inl same ↦ rw same (x-before j b) | inr bad ↦ absurd bad ]
    ]

    -- what is taken and what is put aside afterwards are no more than all elements
    pub taken-room : length taken + suc (length aside + length kids) ≤ n
    taken-room =
        let before = Pairs-map (Apart child n m) (ComesBefore child n m) rest (λ i j. Diverges-order (text child n m i) (text child n m j)) apart-next in
        let few : length ((taken ++ x ∷ []) ++ rest) ≤ n = Pairs-few (ComesBefore child n m) ((taken ++ x ∷ []) ++ rest) n (Pairs-append (ComesBefore child n m) (taken ++ x ∷ []) rest rising-next before across-next)
        before-itself (λ k a. reached-inside k (reached-next k (among-append (taken ++ x ∷ []) rest k a))) in
        omega (arith, few, length-append (taken ++ x ∷ []) rest, length-append taken (x ∷ []), length-put kids aside)

    pub walk-next : IsWalk child n m (taken ++ x ∷ []) rest
    walk-next = record {
      reached = reached-next;
      root = keep 0 w.root;
      closed = λ i c j a e. elim (among-append taken (x ∷ []) i a) [
        | inl old ↦ keep j (w.closed i c j old e)
        | inr new ↦ elim new [
          | inl same ↦ (let e' : child x c ≡ Some j = ap (λ k. child k c) (sym same) ∙ e in inr (put-left kids aside j (children_below-among child x m c j (tree.inside x c j e').1 e')))
          | inr bad ↦ absurd bad
        ]
      ];
      rising = rising-next;
      apart = apart-next;
      across = across-next;
    }

  -- ---- the end

  walk-end : (taken : List ℕ) → IsWalk child n m taken [] → IsListed child n m taken
  walk-end taken w = record {
    reached = λ i a. w.reached i (inl a);
    complete = λ i r. along (IsAmong taken) (λ k c j a e. only j (w.closed k c j a e)) (text child n m i) 0 i (only 0 w.root) r;
    rising = w.rising;
  }
    where
      only : (i : ℕ) → IsAmong taken i ⊎ IsAmong [] i → IsAmong taken i
      only i (inl a) = a
      only i (inr bad) = absurd bad

  -- no more is taken than all elements
  pub taken-few : (taken aside : List ℕ) (x : ℕ) → IsWalk child n m taken (x ∷ aside) → length taken < n
  taken-few taken aside x w = let few = taken-room taken aside x w in omega (arith, few)

  -- where steps are enough for all that was not taken, all that is reached is taken
  pub walked : (steps : ℕ) (taken aside : List ℕ) → IsWalk child n m taken aside → n ≤ length taken + steps → IsListed child n m (taken ++ taken_from child n m steps aside)
  walked zero taken [] w enough = subst (IsListed child n m) (sym (append-nil taken)) (walk-end taken w)
  walked zero taken (x ∷ aside) w enough = absurd (let few = taken-few taken aside x w in omega (arith, few, enough))
  walked (suc steps) taken [] w enough = subst (IsListed child n m) (sym (append-nil taken)) (walk-end taken w)
  walked (suc steps) taken (x ∷ aside) w enough =
      let next = put_before (children_below child x m) aside in
      let more : n ≤ length (taken ++ x ∷ []) + steps = omega (arith, enough, length-append taken (x ∷ [])) in
      subst (IsListed child n m) (append_assoc taken (x ∷ []) (taken_from child n m steps next)) (walked steps (taken ++ x ∷ []) next (walk-next taken aside x w) more)

  -- and one step more takes nothing else
  pub taken-enough : (steps : ℕ) (taken aside : List ℕ) → IsWalk child n m taken aside → n ≤ length taken + steps → taken_from child n m (suc steps) aside ≡ taken_from child n m steps aside
  taken-enough zero taken [] w enough = refl
  taken-enough zero taken (x ∷ aside) w enough = absurd (let few = taken-few taken aside x w in omega (arith, few, enough))
  taken-enough (suc steps) taken [] w enough = refl
  taken-enough (suc steps) taken (x ∷ aside) w enough =
      let more : n ≤ length (taken ++ x ∷ []) + steps = omega (arith, enough, length-append taken (x ∷ [])) in
      ap (λ l. x ∷ l) (taken-enough steps (taken ++ x ∷ []) (put_before (children_below child x m) aside) (walk-next taken aside x w) more)

  -- what is taken from here on: the first that was put aside, and then what is taken behind it
  pub taken-step : (taken aside : List ℕ) (x : ℕ) → IsWalk child n m taken (x ∷ aside) → taken_from child n m n (x ∷ aside) ≡ x ∷ taken_from child n m n (put_before (children_below child x m) aside)
  taken-step taken aside x w = at n refl
    where
      at : (k : ℕ) → k ≡ n → taken_from child n m k (x ∷ aside) ≡ x ∷ taken_from child n m k (put_before (children_below child x m) aside)
      at zero e = absurd (let few = taken-few taken aside x w in omega (arith, few, e))
      at (suc k) e =
          ap (λ l. x ∷ l) (sym (taken-enough k (taken ++ x ∷ []) (put_before (children_below child x m) aside) (walk-next taken aside x w) (omega (arith, e, length-append taken (x ∷ [])))))

-- nothing is taken where nothing is put aside
pub taken-none : (child : ℕ → ℕ → Option ℕ) (n m steps : ℕ) → taken_from child n m steps [] ≡ []
taken-none child n m zero = refl
taken-none child n m (suc steps) = refl

module _ {child : ℕ → ℕ → Option ℕ} {group : ℕ → Option ℕ} {edge : ℕ → Option (ℕ × ℕ)} {n : ℕ} (tell : TellChildren child group edge n) (i c j : ℕ) (real : i < n) (e : child i c ≡ Some j) where
  -- an element with a child has a group
  pub group-of : (g : ℕ) × (group i ≡ Some g)
  group-of = (elim (group i) as (λ o. group i ≡ o → (g : ℕ) × (group i ≡ Some g)) [
    | None ↦ λ own. absurd (none-some j (sym (tell.alone i c real own) ∙ e))
    | Some g ↦ λ own. (g, own)
  ]) refl

  -- the unit of a child's edge is the one that leads to it
  pub unit-is : unit_of (edge j) ≡ c
  unit-is = ap unit_of (tell.from_child i group-of.0 c j real group-of.1 e)
