-- The members of a group are the children of an element, the last first.
use Rattle.std.proofs.Common.{◌≡◌, ◌≢◌, ℕ, zero, suc, ◌<◌, Bool, true, List, [], ◌∷◌, length, Option, Some, sym, ap, ◌∙◌, inl, inr, arith}
use Rattle.std.proofs.lemmas.Bool.{cases_Bool}
use Rattle.daachorse_array.specs.Edges.{TellChildren, below, is_in}
use Rattle.daachorse_array.specs.Listing.{unit_of}
use Rattle.daachorse_array.proofs.SortLaws.{below-has, edge-in, in-edge}
use Rattle.daachorse_array.proofs.WalkLaws.{unit-is}

module _ (test : ℕ → Bool) where
  -- none below n passes
  pub below-none : (n y : ℕ) → below test n ≡ [] → y < n → test y ≢ true
  below-none n y e lt yes' = let k = below-has test n y lt yes' in omega (arith, k.1, ap length e)

  -- the last that passes, and those before it
  pub record IsLast (n x : ℕ) (rest : List ℕ) : Type 0 where
    pub less : x < n
    pub passes : test x ≡ true
    pub before : rest ≡ below test x
    pub none : (y : ℕ) → x < y → y < n → test y ≢ true

  pub below-cons : (n x : ℕ) (rest : List ℕ) → below test n ≡ x ∷ rest → IsLast n x rest
  below-cons zero x rest e = cc
  below-cons (suc n) x rest e = elim (cases_Bool (test n)) [
    | inl is ↦
        let begins : n ∷ below test n ≡ x ∷ rest = rw is at e in
        let same : n ≡ x = cc in
        let tail : below test n ≡ rest = cc in
        record {
          less = omega (arith, same);
          passes = ap test (sym same) ∙ is;
          before = sym tail ∙ ap (below test) same;
          none = λ y low high yes'. omega (arith, low, high, same);
        }
    | inr is ↦
        let r = below-cons n x rest (rw is at e) in
        record { less = omega (arith, r.less); passes = r.passes; before = r.before; none = λ y low high yes'. grind (arith, r.none y low) }
  ]

-- the unit that leads to an element
abbrev pub label : (ℕ → Option (ℕ × ℕ)) → ℕ → ℕ
label edge j = unit_of (edge j)

module _ {child : ℕ → ℕ → Option ℕ} {group : ℕ → Option ℕ} {edge : ℕ → Option (ℕ × ℕ)} {n : ℕ} (tell : TellChildren child group edge n) where
  -- a unit that leads to an element is its unit
  pub one_unit : (i c j : ℕ) → i < n → child i c ≡ Some j → c ≡ label edge j
  one_unit i c j lt e = sym (unit-is tell i c j lt e)

  module _ (i g : ℕ) (lt : i < n) (is : group i ≡ Some g) where
    -- a member is a child
    pub member_child : (j : ℕ) → j < n → is_in g (edge j) ≡ true → child i (label edge j) ≡ Some j
    member_child j less h = tell.to_child i g (label edge j) j lt is less (in-edge g (edge j) h)

    -- a child is a member
    pub child_member : (c j : ℕ) → child i c ≡ Some j → is_in g (edge j) ≡ true
    child_member c j e = (edge-in g c (edge j) (tell.from_child i g c j lt is e)).0
