-- A walk with a stack over a trie: a state that comes off the stack is new, and so are its children, since each has one parent; so each state comes off once.
use Rattle.std.proofs.Common.{◌≡◌, ◌≢◌, ℕ, zero, suc, ◌+◌, ◌-◌, ◌*◌, ◌^◌, ◌<◌, ◌≤◌, ◌⊎◌, List, [], ◌∷◌, ◌++◌, length, get_or, take, sum_by, Contains, refl, sym, ap, ◌∙◌, subst, inl, inr, arith, append_assoc}
use Rattle.std.proofs.Math.Nat.{one-le-pow, pow-le-pow_right, mul-le-mul_right}
use Rattle.std.proofs.lemmas.Grind.{pow_more}
use Rattle.std.proofs.lemmas.List.{append-nil, length_push, take-append-le, get_or_append_left, take_at, get_or_push}
use Rattle.std.proofs.lemmas.List.Elements.{Contains-get_or, Contains-append_left, Contains-append_right, Contains-append_cases, Contains-push, Contains-push_cases, at_from_Contains}
use Rattle.std.proofs.lemmas.List.Sums.{sum_by-le, sum_by-append, sum_by_push}
use Rattle.std.specs.List.{All}
use Rattle.std.specs.declared.cmp.Ordering.{Ordering}
use Rattle.std.specs.Cmp.{IsTotalOrder}
use Rattle.daachorse_build.specs.Tables.{IsTable}
use Rattle.daachorse_build.specs.Orders.{StandOnce, children}
use Rattle.daachorse_build.specs.Groups.{VisitsEachState, IsStackWalk}
use Rattle.daachorse_build.proofs.Queue.{once_push, length-once, children_once, child_of_listed, listed_of_child, bounds_of_listed}

-- ---- lists of numbers that each stand once
once_none : StandOnce []
once_none i l h = absurd (omega arith)

pub once_tail : (x : ℕ) (xs : List ℕ) → StandOnce (x ∷ xs) → StandOnce xs
once_tail x xs once i l h = once (suc i) (omega arith) (Contains-append_right (x ∷ []) (take i xs) _ h)

pub once_head : (x : ℕ) (xs : List ℕ) → StandOnce (x ∷ xs) → Contains xs x → ⊥
once_head x xs once h =
    let p = at_from_Contains xs x h in once (suc p.0) (omega (arith, p.1)) (0, omega arith, sym (p.2 0))

-- all but the last
once_front : (xs : List ℕ) (x : ℕ) → StandOnce (xs ++ x ∷ []) → StandOnce xs
once_front xs x once i l h =
    let len = length_push xs x in
    once i (omega (arith, len)) (rw (take-append-le i xs (x ∷ []) (omega arith), get_or_append_left xs (x ∷ []) 0 i l) h)

-- the last
once_last : (xs : List ℕ) (x : ℕ) → StandOnce (xs ++ x ∷ []) → Contains xs x → ⊥
once_last xs x once h =
    let len = length_push xs x in
    once (length xs) (omega (arith, len)) (rw (take_at xs (x ∷ []) (length xs) refl, get_or_push xs x 0 (length xs) refl) h)

-- two lists that have no number in common
once_append : (xs ys : List ℕ) → StandOnce xs → StandOnce ys → ((t : ℕ) → Contains xs t → Contains ys t → ⊥) → StandOnce (xs ++ ys)
once_append xs [] one two apart = let P : List ℕ → Type 0 = λ zs. StandOnce zs in subst P (sym (append-nil xs)) one
once_append xs (y ∷ ys) one two apart =
    let P : List ℕ → Type 0 = λ zs. StandOnce zs in
    let push = once_push xs y one (λ h. apart y h (0, omega arith, refl)) in
    let rest = once_append (xs ++ y ∷ []) ys push (once_tail y ys two)
    (λ t h k. elim (Contains-push_cases xs y t h) [ inl a ↦ apart t a (Contains-append_right (y ∷ []) ys t k) | inr e ↦ once_head y ys two (subst (Contains ys) (sym e) k) ]) in
    subst P (append_assoc xs (y ∷ []) ys) rest

-- ---- how long a walk may take
-- for each state on the stack a number that is more than those of its children together
abbrev pub work : {L : Type 0} → List (List (L × ℕ)) → List ℕ → ℕ
work edges stack = sum_by (λ t. (length edges + 1) ^ (length edges - t)) stack

less_than_all : (p n s l : ℕ) → s ≤ l → l ≤ n * p → 1 ≤ p → s < p * (n + 1)
less_than_all p n s l h k some = let e : p * (n + 1) ≡ n * p + p = grind arith in omega (arith, e)

-- ---- the walk
module _ {L : Type 0} (cmp : L → L → Ordering) (total : IsTotalOrder cmp) (edges : List (List (L × ℕ))) (table : IsTable cmp edges) where
  -- a child comes after its parent
  child_above : (s t : ℕ) → Contains (children edges s) t → s < t
  child_above s t h = let e = child_of_listed cmp total edges table s t h in (table.trie.bounds s e.0 t e.1).0

  -- a child has one parent
  parent_same : (s u t : ℕ) → Contains (children edges s) t → Contains (children edges u) t → s ≡ u
  parent_same s u t h k =
      let e = child_of_listed cmp total edges table s t h in
      let f = child_of_listed cmp total edges table u t k in
      (table.trie.one_parent s e.0 u f.0 t e.1 f.1).0

  -- at the start only the root is on the stack
  root_only : (t : ℕ) → Contains [] t ⊎ Contains (0 ∷ []) t → t ≡ 0
  root_only t (inl none) = absurd (omega (arith, none.1))
  root_only t (inr (zero, low, is)) = sym is
  root_only t (inr (suc k, low, is)) = absurd (omega arith)

  pub walk_start : IsStackWalk edges [] (0 ∷ [])
  walk_start = record {
    once = once_none;
    once_stack = once_push [] 0 once_none (λ h. omega (arith, h.1));
    apart = λ t h k. omega (arith, h.1);
    states = λ t h. (omega (arith, root_only t h, table.trie.two), omega (arith, root_only t h));
    root = inr (0, omega arith, refl);
    covers = λ s t h k. absurd (omega (arith, h.1));
    from = λ t h. inl (root_only t h);
  }

  module _ (order rest : List ℕ) (s : ℕ) (walking : IsStackWalk edges order (rest ++ s ∷ [])) where
    on_stack : Contains (rest ++ s ∷ []) s
    on_stack = Contains-push rest s

    pub top_bounds : (s < length edges) × (s ≢ 1)
    top_bounds = walking.states s (inr on_stack)

    pub top_new : Contains order s → ⊥
    top_new h = walking.apart s h on_stack

    -- where a state was before
    old_place : (t : ℕ) → Contains (order ++ s ∷ []) t ⊎ Contains rest t → Contains order t ⊎ Contains (rest ++ s ∷ []) t
    old_place t (inl h) =
        elim (Contains-push_cases order s t h) [ inl a ↦ inl a | inr e ↦ inr (subst (Contains (rest ++ s ∷ [])) e on_stack) ]
    old_place t (inr h) = inr (Contains-append_left rest (s ∷ []) t h)

    -- where it is now
    new_place : (t : ℕ) → Contains order t ⊎ Contains (rest ++ s ∷ []) t → Contains (order ++ s ∷ []) t ⊎ Contains (rest ++ children edges s) t
    new_place t (inl h) = inl (Contains-append_left order (s ∷ []) t h)
    new_place t (inr h) =
        elim (Contains-push_cases rest s t h) [ inl a ↦ inr (Contains-append_left rest (children edges s) t a) | inr e ↦ inl (subst (Contains (order ++ s ∷ [])) e (Contains-push order s)) ]

    -- a child of the state that comes off is new
    child_fresh : (t : ℕ) → Contains (children edges s) t → Contains order t ⊎ Contains (rest ++ s ∷ []) t → ⊥
    child_fresh t h place =
        elim (walking.from t place) [
          | inl e ↦ omega (arith, e, child_above s t h)
          | inr p ↦ top_new (subst (Contains order) (parent_same p.0 s t p.2 h) p.1)
        ]

    -- where a state came from
    comes_from : (t : ℕ) → Contains (order ++ s ∷ []) t ⊎ Contains (rest ++ children edges s) t → (Contains order t ⊎ Contains (rest ++ s ∷ []) t) ⊎ Contains (children edges s) t
    comes_from t (inl h) = inl (old_place t (inl h))
    comes_from t (inr h) =
        elim (Contains-append_cases rest (children edges s) t h) [ inl a ↦ inl (old_place t (inr a)) | inr b ↦ inr b ]

    next_apart : (t : ℕ) → Contains (order ++ s ∷ []) t → Contains (rest ++ children edges s) t → ⊥
    next_apart t h k =
        elim (Contains-append_cases rest (children edges s) t k) [
          | inl a ↦
              elim (Contains-push_cases order s t h) [
                | inl b ↦ walking.apart t b (Contains-append_left rest (s ∷ []) t a)
                | inr e ↦ once_last rest s walking.once_stack (subst (Contains rest) (sym e) a)
              ]
          | inr c ↦ child_fresh t c (old_place t (inl h))
        ]

    -- a state comes off the stack, and its children are put on
    pub walk_step : IsStackWalk edges (order ++ s ∷ []) (rest ++ children edges s)
    walk_step = record {
      once = once_push order s walking.once top_new;
      once_stack = once_append rest (children edges s) (once_front rest s walking.once_stack) (children_once cmp total edges table s)
          (λ t h k. child_fresh t k (old_place t (inr h)));
      apart = next_apart;
      states = λ t h. elim (comes_from t h) [
        | inl old ↦ walking.states t old
        | inr c ↦ let b = bounds_of_listed cmp total edges table s t c in (b.1, omega (arith, b.0))
      ];
      root = new_place 0 walking.root;
      covers = λ u t h k. elim (Contains-push_cases order s u h) [
        | inl a ↦ new_place t (walking.covers u t a k)
        | inr e ↦ inr (Contains-append_right rest (children edges s) t (subst (λ v. Contains (children edges v) t) (sym e) k))
      ];
      from = λ t h. elim (comes_from t h) [
        | inl old ↦ elim (walking.from t old) [ inl e ↦ inl e | inr p ↦ inr (p.0, Contains-append_left order (s ∷ []) p.0 p.1, p.2) ]
        | inr c ↦ inr (s, Contains-push order s, c)
      ];
    }

    -- no child counts for more than the next lower power
    child_work : All (λ t. (length edges + 1) ^ (length edges - t) ≤ (length edges + 1) ^ (length edges - (s + 1))) (children edges s)
    child_work k d l =
        let h = Contains-get_or (children edges s) k d l in
        pow-le-pow_right {n = length edges + 1} (omega arith) {i = length edges - get_or (children edges s) k d} {j = length edges - (s + 1)} (omega (arith, child_above s (get_or (children edges s) k d) h))

    -- the children count for less than the state that comes off
    pub less_work : work edges (rest ++ children edges s) < work edges (rest ++ s ∷ [])
    less_work =
        let n = length edges in
        let count : ℕ → ℕ = λ t. (n + 1) ^ (n - t) in
        let m = n - (s + 1) in
        let few = length-once (children edges s) n (children_once cmp total edges table s) (λ t h. (bounds_of_listed cmp total edges table s t h).1) in
        let sum = sum_by-le count ((n + 1) ^ m) (children edges s) child_work in
        let more = mul-le-mul_right ((n + 1) ^ m) few in
        let some = one-le-pow m (n + 1) (omega arith) in
        let exponent : n - s ≡ m + 1 = omega (arith, top_bounds.0) in
        let whole = ap (λ k. (n + 1) ^ k) exponent ∙ pow_more (n + 1) m in
        let less = less_than_all ((n + 1) ^ m) n (sum_by count (children edges s)) (length (children edges s) * (n + 1) ^ m) sum more some in
        omega (arith, sum_by-append count rest (children edges s), sum_by_push count rest s, whole, less)

  -- where the stack is empty, each state has come off
  module _ (order : List ℕ) (walking : IsStackWalk edges order []) where
    off : (t : ℕ) → Contains order t ⊎ Contains [] t → Contains order t
    off t (inl h) = h
    off t (inr none) = absurd (omega (arith, none.1))

    all_off : (k t : ℕ) → t ≤ k → t < length edges → t ≢ 1 → Contains order t
    all_off k zero h l ne = off 0 walking.root
    all_off zero (suc t) h l ne = absurd (omega arith)
    all_off (suc k) (suc zero) h l ne = absurd (ne refl)
    all_off (suc k) (suc (suc t)) h l ne =
        let p = table.trie.reached (suc (suc t)) (omega arith) l in
        let b = table.trie.bounds p.0 p.1 (suc (suc t)) p.2 in
        off (suc (suc t)) (walking.covers p.0 (suc (suc t)) (all_off k p.0 (omega (arith, b.0, h)) (omega (arith, b.0, l)) b.1) (listed_of_child cmp total edges table p.0 p.1 (suc (suc t)) p.2))

    pub walk_end : VisitsEachState edges order
    walk_end = record {
      states = λ t h. walking.states t (inl h);
      all = λ t l ne. all_off t t (omega arith) l ne;
      once = walking.once;
    }

  -- the dead state is none of them
  pub length-walk : (order : List ℕ) → VisitsEachState edges order → length order < length edges
  length-walk order walk =
      let len = length_push order 1 in
      let push = once_push order 1 walk.once (λ h. (walk.states 1 h).1 refl) in
      let fits = length-once (order ++ 1 ∷ []) (length edges) push
      (λ t h. elim (Contains-push_cases order 1 t h) [ inl a ↦ (walk.states t a).0 | inr e ↦ omega (arith, e, table.trie.two) ]) in
      omega (arith, len, fits)
