-- Elements that hold a trie are a copy of it: a byte leads from a state's element to its child's alone, since no two groups have one base, and the check of a vacant element leads to an unused one.
use Rattle.std.proofs.Common.{◌≡◌, ◌≢◌, ℕ, zero, suc, ◌+◌, ◌-◌, ◌*◌, ◌/◌, ◌%◌, ◌<◌, ◌≤◌, ◌⊎◌, inl, inr, Bool, true, false, List, length, get_or, Option, Some, None, refl, sym, ap, ◌∙◌, subst, arith}
use Rattle.std.specs.Prelude.{bit_xor, option_map}
use Rattle.std.specs.Ordering.{nat_cmp}
use Rattle.std.proofs.lemmas.Bool.{cases_Bool, cases_eq, cases_lt, false≢true}
use Rattle.std.proofs.lemmas.Nat.{xor_comm}
use Rattle.std.specs.Int.Bits.{xor_zero_r}
use Rattle.daachorse_core.proofs.Xor.{xor_back, xor_same_left}
use Rattle.daachorse_placement.specs.declared.build_helper.SiblingGroup.{SiblingGroup}
use Rattle.daachorse_placement.specs.Layout.{AreAllSet, IsLeastUnused, Layout}
use Rattle.daachorse_placement.specs.Placement.{children_of, group_parent, child_id}
use Rattle.daachorse_build.specs.Tables.{child_in as edge_to}
use Rattle.daachorse_patterns.specs.Settled.{AreSettled, IsVacantAt}
use Rattle.daachorse_patterns.proofs.Looks.{look, look_none, look_some}
use Rattle.daachorse_patterns.proofs.Places.{base_from, base_inside, edge-at, place_from, state_from, xor_below}
use Rattle.daachorse_bytewise_states.specs.declared.state.State.{State}
use Rattle.daachorse_bytewise_states.specs.Elements.{base_in, check_in}
use Rattle.daachorse_bytewise_states.specs.Parts.{child_by_check}
use Rattle.daachorse_bytewise_states.specs.Packing.{element_at, ArePacked}

-- the least unused base of a block, or none is unused
unused_or : (marks : List Bool) (start n : ℕ) → ((b : ℕ) × (start ≤ b) × (b < start + n) × (get_or marks b false ≡ false) × ((k : ℕ) → start ≤ k → k < b → get_or marks k false ≡ true)) ⊎ ((k : ℕ) → k < n → get_or marks (start + k) false ≡ true)
unused_or marks start zero = inr (λ k less. absurd (omega arith))
unused_or marks start (suc n) = go (unused_or marks start n) (cases_Bool (get_or marks (start + n) false))
  where
    go : ((b : ℕ) × (start ≤ b) × (b < start + n) × (get_or marks b false ≡ false) × ((k : ℕ) → start ≤ k → k < b → get_or marks k false ≡ true)) ⊎ ((k : ℕ) → k < n → get_or marks (start + k) false ≡ true)
        → (get_or marks (start + n) false ≡ true) ⊎ (get_or marks (start + n) false ≡ false)
        → ((b : ℕ) × (start ≤ b) × (b < start + suc n) × (get_or marks b false ≡ false) × ((k : ℕ) → start ≤ k → k < b → get_or marks k false ≡ true)) ⊎ ((k : ℕ) → k < suc n → get_or marks (start + k) false ≡ true)
    go (inl (b, low, high, free, least)) last = inl (b, low, omega arith, free, least)
    go (inr all) (inr free) = inl (
      start + n,
      omega arith,
      omega arith,
      free,
      λ k low less. (
          let at : start + (k - start) ≡ k = omega arith in
          ap (λ m. get_or marks m false) (sym at) ∙ all (k - start) (omega arith)),
    )
    go (inr all) (inl set) = inr (λ k less. elim (cases_eq k n) [ inl e ↦ ap (λ m. get_or marks (start + m) false) e ∙ set | inr other ↦ all k (omega arith) ])

least_or_full : (marks : List Bool) (q : ℕ) → ((u : ℕ) × IsLeastUnused marks 256 q u) ⊎ AreAllSet marks 256 q
least_or_full marks q = elim (unused_or marks (q * 256) 256) [
  | inl b ↦ inl (b.0, record { from = b.1; to = b.2; free = b.3; least = b.4 })
  | inr all ↦ inr all
]

-- ---- a trie whose groups were placed
module _ {A : Type 0} {gs : List (SiblingGroup A)} {l : Layout} {edges : List (List (ℕ × ℕ))} (q : AreSettled (λ b. b) 256 true gs l edges) where
  -- a state's base is taken
  base_used : (s : ℕ) → s < length edges → get_or l.bases s 0 ≢ 0 → get_or l.marks (get_or l.bases s 0) false ≡ true
  base_used s less some =
      let from = base_from q s less some in
      ap (λ x. get_or l.marks (get_or l.bases x 0) false) (sym from.2) ∙ q.placed.marked refl from.0 from.1

  -- no base is 0
  zero_unused : get_or l.marks 0 false ≢ true
  zero_unused e =
      let taker = q.placed.takers 0 e in
      (q.placed.groups taker.0 taker.1).nonzero taker.2

  -- past the first two, an element of no state is not used
  vacant-unused : (j : ℕ) → IsVacantAt l (length edges) j → 1 < j → get_or l.used j false ≢ true
  vacant-unused j none high used =
      let owner = q.placed.owned j high used in
      let k = owner.0 in
      let i = owner.1 in
      let at : get_or l.idx (child_id (children_of gs k) i) 0 ≡ j = (q.placed.groups k owner.2).at i owner.3 ∙ owner.4 in
      let above : 1 < child_id (children_of gs k) i = q.of_trie.groups.above k i owner.2 owner.3 in
      none (child_id (children_of gs k) i) (q.of_trie.groups.ids k owner.2 i owner.3) (omega arith) at

-- ---- and whose states were written
module _ {A : Type 0} {gs : List (SiblingGroup A)} {l : Layout} {edges : List (List (ℕ × ℕ))} {fails positions : List ℕ} {es : List (State ℕ)} (p : ArePacked gs l edges fails positions es) where
  abbrev child_by : ℕ → ℕ → Option ℕ
  child_by s c = edge_to nat_cmp edges s c

  abbrev index_of : ℕ → ℕ
  index_of t = get_or l.idx t 0

  abbrev base_by : ℕ → ℕ
  base_by s = get_or l.bases s 0

  -- there are as many elements as were placed
  within : (i : ℕ) → i < length l.used → i < length es
  within i less = subst (λ (x : ℕ). i < x) (sym p.held.size) less

  packed-base : (s : ℕ) → s < length edges → base_by s ≢ 0 → base_by s < length es
  packed-base s less some = within (base_by s) (base_inside p.settled s less some)

  packed_xor : (b c : ℕ) → c < 256 → b < length es → bit_xor b c < length es
  packed_xor b c unit below = within (bit_xor b c) (xor_below p.settled b c unit (subst (λ (x : ℕ). b < x) p.held.size below))

  -- an element of no state has not the check of the byte that leads there
  vacant_apart : (s c : ℕ) → s < length edges → base_by s ≢ 0 → base_by s < length es → c < 256 → bit_xor (base_by s) c < length es → ((t : ℕ) → t < length edges → t ≢ 1 → index_of t ≢ bit_xor (base_by s) c) → check_in (element_at es (bit_xor (base_by s) c)) ≢ c
  vacant_apart s c less some below unit inside none check =
      elim (least_or_full l.marks (bit_xor (base_by s) c / 256)) [
        | inl u ↦ (
            let back : bit_xor (bit_xor (base_by s) c) u.0 ≡ c = sym (p.held.others (bit_xor (base_by s) c) inside none u.0 u.1) ∙ check in
            let base : base_by s ≡ u.0 = same_from u.0 back in
            let bad : true ≡ false = sym (base_used p.settled s less some) ∙ (ap (λ x. get_or l.marks x false) base ∙ u.1.free) in
            false≢true (sym bad))
        | inr all ↦ full all (cases_lt 1 (bit_xor (base_by s) c))
      ]
    where
      same_from : (u : ℕ) → bit_xor (bit_xor (base_by s) c) u ≡ c → base_by s ≡ u
      same_from u e =
          let back : bit_xor (bit_xor (base_by s) c) (base_by s) ≡ c = ap (λ x. bit_xor x (base_by s)) (xor_comm (base_by s) c) ∙ xor_back c (base_by s) in
          xor_same_left (bit_xor (base_by s) c) (base_by s) u (back ∙ sym e)

      full : AreAllSet l.marks 256 (bit_xor (base_by s) c / 256) → (1 < bit_xor (base_by s) c) ⊎ (bit_xor (base_by s) c ≤ 1) → ⊥
      full all (inl high) = vacant-unused p.settled (bit_xor (base_by s) c) none high (
          let F : ℕ → Type 0 = λ n. AreAllSet l.marks n (bit_xor (base_by s) c / 256) → AreAllSet l.used n (bit_xor (base_by s) c / 256) in
          let used = subst F p.settled.sizes.block (p.full (bit_xor (base_by s) c / 256)) all (bit_xor (base_by s) c % 256) (omega arith) in
          let at : bit_xor (base_by s) c / 256 * 256 + bit_xor (base_by s) c % 256 ≡ bit_xor (base_by s) c = omega arith in
          ap (λ x. get_or l.used x false) (sym at) ∙ used)
      full all (inr low) = zero_unused p.settled (
          let zero_block : bit_xor (base_by s) c / 256 * 256 + 0 ≡ 0 = omega arith in
          ap (λ x. get_or l.marks x false) (sym zero_block) ∙ all 0 (omega arith))

  -- nor has a state's element, where that byte leads to no child
  state_apart : (s c t : ℕ) → s < length edges → base_by s ≢ 0 → child_by s c ≡ None → t < length edges → t ≢ 1 → index_of t ≡ bit_xor (base_by s) c → check_in (element_at es (index_of t)) ≢ c
  state_apart s c t less some none inside other at check = elim (state_from p.settled t inside other) [
    | inl root ↦ (
        let zero_at : bit_xor (base_by s) c ≡ 0 = sym at ∙ (ap (λ x. index_of x) root ∙ p.settled.placed.root) in
        let unit : c ≡ 0 = sym check ∙ (ap (λ x. check_in (element_at es (index_of x))) root ∙ p.held.root) in
        some (sym (xor_zero_r (base_by s)) ∙ (ap (λ x. bit_xor (base_by s) x) (sym unit) ∙ zero_at)))
    | inr edge ↦ by_edge edge.0 edge.1 edge.2
  ]
    where
      by_edge : (r d : ℕ) → child_by r d ≡ Some t → ⊥
      by_edge r d e =
          let edge = edge-at p.settled r d t e in
          let from = base_from p.settled s less some in
          let label : d ≡ c = sym (p.held.children r d t inside other e) ∙ check in
          let same : bit_xor (base_by r) c ≡ bit_xor (base_by s) c = ap (λ x. bit_xor (base_by r) x) (sym label) ∙ (sym edge.at ∙ at) in
          let bases : base_by r ≡ base_by s = xor_same_left c (base_by r) (base_by s) (xor_comm c (base_by r) ∙ (same ∙ xor_comm (base_by s) c)) in
          let groups : edge.group ≡ from.0 = p.settled.placed.bases_apart refl edge.group from.0 edge.inside from.1 (ap (λ x. base_by x) edge.parent ∙ (bases ∙ ap (λ x. base_by x) (sym from.2))) in
          let parents : r ≡ s = sym edge.parent ∙ (ap (λ k. group_parent gs k) groups ∙ from.2) in
          let bad : None ≡ Some t = sym none ∙ (ap (λ x. child_by s x) (sym label) ∙ (ap (λ x. child_by x d) (sym parents) ∙ e)) in
          cc

  -- a byte that is no edge's finds another check
  not_child : (s c : ℕ) → s < length edges → base_by s ≢ 0 → base_by s < length es → child_by s c ≡ None → bit_xor (base_by s) c < length es → check_in (element_at es (bit_xor (base_by s) c)) ≢ c
  not_child s c less some below none inside check =
      let unit : c < 256 = omega (arith, check) in
      elim (place_from p.settled (bit_xor (base_by s) c)) [
        | inl t ↦ state_apart s c t.0 less some none t.1 t.2 t.3 (ap (λ x. check_in (element_at es x)) t.3 ∙ check)
        | inr vacant ↦ vacant_apart s c less some below unit inside vacant check
      ]

  -- ---- the elements as a copy of the trie
  abbrev check_of : ℕ → ℕ
  check_of i = check_in (element_at es i)

  -- what a byte leads to from a state's element
  pub element_at-child : (s c : ℕ) → s < length edges → s ≢ 1 → child_by_check (length es) (λ i. base_in (element_at es i)) (λ i. check_in (element_at es i)) (index_of s) c ≡ option_map (λ t. index_of t) (child_by s c)
  element_at-child s c less alive =
      ap (λ b. look (length es) b (bit_xor b c) (check_of (bit_xor b c)) c) (p.held.states.base s less alive)
      ∙ go (child_by s c) refl
    where
      go : (o : Option ℕ) → child_by s c ≡ o → look (length es) (base_by s) (bit_xor (base_by s) c) (check_of (bit_xor (base_by s) c)) c ≡ option_map (λ t. index_of t) o
      go None e = look_none (length es) (base_by s) (bit_xor (base_by s) c) (check_of (bit_xor (base_by s) c)) c (λ some low. not_child s c less some (packed-base s less some) e low)
      go (Some t) e =
          let edge = edge-at p.settled s c t e in
          let bounds = p.settled.of_trie.table.trie.bounds s c t e in
          let high : 1 < t = bounds.2 in
          let unit : c < 256 = edge.unit in
          let inside : bit_xor (base_by s) c < length es = packed_xor (base_by s) c unit (within (base_by s) edge.below) in
          let check : check_of (bit_xor (base_by s) c) ≡ c = ap (λ x. check_of x) (sym edge.at) ∙ p.held.children s c t bounds.3 (omega (arith, high)) e in
          look_some (length es) (base_by s) (bit_xor (base_by s) c) (check_of (bit_xor (base_by s) c)) c edge.nonzero inside check ∙ ap (λ x. Some x) (sym edge.at)
