-- Groups that rise are apart: of two children one comes after the other.
use Rattle.std.proofs.Common.{◌≡◌, ℕ, ◌+◌, ◌<◌, ◌≤◌, inl, inr, List, length, arith, subst, sym}
use Rattle.std.proofs.lemmas.Bool.{cases_lt, cases_order}
use Rattle.daachorse_placement.specs.declared.build_helper.SiblingGroup.{SiblingGroup}
use Rattle.daachorse_placement.specs.Placement.{AreGroups, children_of, group_parent, label_of, child_id}
use Rattle.daachorse_part_tests.specs.Rising.{AreRising, RiseTo}

-- where a function of the index rises, equal values have equal indexes
apart_of : (f : ℕ → ℕ) (n i j : ℕ) → ((a b : ℕ) → a < b → b < n → f a < f b) → i < n → j < n → f i ≡ f j → i ≡ j
apart_of f n i j rising il jl e = elim (cases_order i j) [
  | inl same ↦ same
  | inr (inl lt) ↦ let h = rising i j lt jl in absurd (omega (arith, h, e))
  | inr (inr gt) ↦ let h = rising j i gt il in absurd (omega (arith, h, e))
]

pub rising_wider : (cs : List (ℕ × ℕ)) (n label low high low' high' : ℕ) → low' ≤ low → high ≤ high' → AreRising cs n label low high → AreRising cs n label low' high'
rising_wider cs n label low high low' high' less more r = record {
  labels = r.labels;
  label_order = r.label_order;
  from = λ j lt. let h = r.from j lt in omega arith;
  to = λ j lt. let h = r.to j lt in omega arith;
  order = r.order;
  grows = let h = r.grows in omega arith;
}

pub rise_more : {A : Type 0} (gs : List (SiblingGroup A)) (n block parent high to : ℕ) → RiseTo gs n block parent high → 2 ≤ high → parent ≤ group_parent gs n → 0 < length (children_of gs n) → AreRising (children_of gs n) (length (children_of gs n)) block high to → RiseTo gs (n + 1) block (group_parent gs n + 1) to
rise_more gs n block parent high to r two above some here = record {
  some = λ k lt. elim (cases_lt k n) [ inl h ↦ r.some k h | inr h ↦ let e : k ≡ n = omega arith in subst (λ (i : ℕ). 0 < length (children_of gs i)) (sym e) some ];
  parents = λ k lt. elim (cases_lt k n) [ inl h ↦ let p = r.parents k h in omega arith | inr h ↦ let e : k ≡ n = omega arith in subst (λ (i : ℕ). group_parent gs i < group_parent gs n + 1) (sym e) (omega arith) ];
  parent_order = λ k l lt last. elim (cases_lt l n) [
    | inl h ↦ r.parent_order k l lt h
    | inr h ↦ let e : l ≡ n = omega arith in let p = r.parents k (omega arith) in subst (λ (i : ℕ). group_parent gs k < group_parent gs i) (sym e) (omega arith)
  ];
  each = λ k lt. elim (cases_lt k n) [
    | inl h ↦ rising_wider (children_of gs k) (length (children_of gs k)) block 2 high 2 to (omega arith) here.grows (r.each k h)
    | inr h ↦
        let e : k ≡ n = omega arith in
        subst (λ (i : ℕ). AreRising (children_of gs i) (length (children_of gs i)) block 2 to) (sym e) (rising_wider (children_of gs n) (length (children_of gs n)) block high to 2 to two (omega arith) here)
  ];
  order = λ k l i j lt last il jl. elim (cases_lt l n) [
    | inl h ↦ r.order k l i j lt h il jl
    | inr h ↦
        let e : l ≡ n = omega arith in
        let before = (r.each k (omega arith)).to i il in
        let jn : j < length (children_of gs n) = subst (λ (m : ℕ). j < length (children_of gs m)) e jl in
        let after = here.from j jn in
        subst (λ (m : ℕ). child_id (children_of gs k) i < child_id (children_of gs m) j) (sym e) (omega (arith, before, after))
  ];
}

pub rising_groups : {A : Type 0} (gs : List (SiblingGroup A)) (block parent high n : ℕ) → RiseTo gs (length gs) block parent high → parent ≤ n → high ≤ n → AreGroups gs n block
rising_groups gs block parent high n r parents ids = record {
  some = r.some;
  labels = λ k lt. (r.each k lt).labels;
  distinct = λ k i j lt. apart_of (λ a. label_of (children_of gs k) a) (length (children_of gs k)) i j (r.each k lt).label_order;
  parents = λ k lt. let p = r.parents k lt in omega arith;
  one_parent = λ k l kl ll. apart_of (λ a. group_parent gs a) (length gs) k l r.parent_order kl ll;
  ids = λ k lt j jl. let h = (r.each k lt).to j jl in omega arith;
  above = λ k j lt jl. let h = (r.each k lt).from j jl in omega arith;
  one_group = λ k l i j kl ll il jl e. elim (cases_order k l) [
    | inl same ↦ same
    | inr (inl lt) ↦ let h = r.order k l i j lt ll il jl in absurd (omega (arith, h, e))
    | inr (inr gt) ↦ let h = r.order l k j i gt kl jl il in absurd (omega (arith, h, e))
  ];
  one_child = λ k lt i j. apart_of (λ a. child_id (children_of gs k) a) (length (children_of gs k)) i j (r.each k lt).order;
}
