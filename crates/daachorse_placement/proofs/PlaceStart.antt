-- Before the first group is placed; and what the loop over the groups reads.
use Rattle.std.specs.List.{list_any}
use Rattle.std.proofs.lemmas.List.Folds.{list_any_more}
use Rattle.std.proofs.Common.{take, ◌≡◌, ◌≢◌, ℕ, ◌+◌, ◌*◌, ◌^◌, ◌<◌, ◌≤◌, inl, inr, Bool, true, false, List, [], length, set, get_or, replicate, ◌||◌, arith, refl, ap, sym, ◌∙◌, subst, get_or-set_other, length-set}
use Rattle.std.proofs.lemmas.Bool.{cases_eq, true≢false, cases_lt}
use Rattle.std.proofs.lemmas.Grind.{get_or-set_at}
use Rattle.std.proofs.lemmas.List.{get_or-map, get_or-replicate, length-replicate, get_or_past}
use Rattle.std.proofs.Math.Nat.{mul-le-mul_right}
use Rattle.daachorse_placement.specs.declared.build_helper.SiblingGroup.{SiblingGroup}
use Rattle.daachorse_placement.specs.declared.build_helper.free_list.FreeList.{FreeList}
use Rattle.daachorse_placement.specs.FreeLists.{HasOneBlock, IsFull, layout_of}
use Rattle.daachorse_placement.specs.Placement.{IsPlaceRefusal, IsPlaced, children_of, is_light, group_parent}
use Rattle.daachorse_core.specs.declared.errors.DaachorseError.{DaachorseError}
use Rattle.daachorse_core.specs.declared.errors.Limit.TheVariants.{NumElements}
use Rattle.daachorse_core.proofs.Refusals.{IsRefusal-weaker}
use Rattle.daachorse_placement.proofs.FlagCounts.{count-mono}
use Rattle.daachorse_placement.proofs.FreeListLaws.{inside_true}

pub children_at : {A : Type 0} (gs : List (SiblingGroup A)) (k : ℕ) (g : SiblingGroup A) → k < length gs → g ≡ get_or gs k g → children_of gs k ≡ g.children.items
children_at {A = A} gs k g lt e = get_or-map (λ (v : SiblingGroup A). v.children.items) gs k g [] lt ∙ ap (λ (v : SiblingGroup A). v.children.items) (sym e)

pub parent_at : {A : Type 0} (gs : List (SiblingGroup A)) (k : ℕ) (g : SiblingGroup A) → k < length gs → g ≡ get_or gs k g → group_parent gs k ≡ g.parent
parent_at {A = A} gs k g lt e = get_or-map (λ (v : SiblingGroup A). v.parent) gs k g 0 lt ∙ ap (λ (v : SiblingGroup A). v.parent) (sym e)

pub zeros : (n i : ℕ) → get_or {A = ℕ} (replicate n 0) i 0 ≡ 0
zeros n i = elim (cases_lt i n) [ inl h ↦ get_or-replicate n i 0 0 h | inr h ↦ get_or_past (replicate n 0) i 0 (omega (arith, h, length-replicate {A = ℕ} n 0)) ]

pub placed_start : {A : Type 0} (gs : List (SiblingGroup A)) (tracked : Bool) (e : FreeList A) (n block : ℕ) → 2 ≤ n → HasOneBlock e block →
    IsPlaced gs 0 tracked (layout_of e (set (replicate n 1) 0 0) (replicate n 0))
placed_start gs tracked e n block two f =
    let len : length (replicate {A = ℕ} n 1) ≡ n = length-replicate n 1 in
    let len2 : length {A = ℕ} (set (replicate n 1) 0 0) ≡ n = length-set (replicate n 1) 0 0 ∙ len in
    let root : get_or {A = ℕ} (set (replicate n 1) 0 0) 0 0 ≡ 0 = get_or-set_at (replicate n 1) 0 0 0 0 refl (omega (arith, len)) in
    let rest : (t : ℕ) → t < n → t ≢ 0 → get_or {A = ℕ} (set (replicate n 1) 0 0) t 0 ≡ 1 = λ t tl nz. get_or-set_other (replicate n 1) 0 t 0 0 nz ∙ get_or-replicate n t 1 0 tl in
    let small : (t : ℕ) → t < n → get_or {A = ℕ} (set (replicate n 1) 0 0) t 0 ≤ 1 = λ t tl. elim (cases_eq t 0) [
      | inl z ↦ subst (λ (v : ℕ). get_or {A = ℕ} (set (replicate n 1) 0 0) v 0 ≤ 1) (sym z) (omega (arith, root))
      | inr nz ↦ let r = rest t tl nz in omega (arith, r)
    ] in
    record {
      root = root;
      root_used = f.zero;
      dead_used = f.one;
      groups = λ k lt. absurd (omega arith);
      taken = λ t tl one. let s = small t (omega (arith, tl, len2)) in absurd (omega (arith, s, one));
      owned = λ i one u. absurd (true≢false (sym u ∙ f.vacant i one (let q = inside_true e.used_index.items i u in let c = f.count in omega (arith, q, c))));
      apart = λ t v tl vl one same. let s = small t (omega (arith, tl, len2)) in absurd (omega (arith, s, one));
      rest = λ t tl nz none. rest t (omega (arith, tl, len2)) nz;
      parents = λ p pl none. zeros n p;
      few = let b = f.blocks in omega (arith, b);
      marked = λ on k lt. absurd (omega arith);
      tracks = λ b t. absurd (true≢false (sym t ∙ f.free b));
      takers = λ b t. absurd (true≢false (sym t ∙ f.free b));
      bases_apart = λ on k l kl ll same. absurd (omega arith);
    }

pub full_start : {A : Type 0} (e : FreeList A) (block : ℕ) → HasOneBlock e block → IsFull e
full_start e block f = λ q. count-mono e.used_base.items e.used_index.items (q * e.block_len) e.block_len (λ k low less t. absurd (true≢false (sym t ∙ f.free k)))

-- the bound under which a refusal comes
pub refusal : (blocks m n : ℕ) → blocks ≤ m → 2 ^ 32 ≤ blocks * n + n → 2 ^ 32 ≤ (m + 1) * n
refusal blocks m n le h = let q = mul-le-mul_right n le in omega (arith, q, h)

pub block_kept : {A : Type 0} (a w : FreeList A) (windowed : Bool) → w ≡ record a { windowed = windowed } → w.block_len ≡ a.block_len
block_kept a w windowed e = ap (λ v. v.block_len) e

-- whether there is a window changes no place
pub placed_weighed : {A : Type 0} (gs : List (SiblingGroup A)) (m : ℕ) (tracked : Bool) (a : FreeList A) (idx bases : List ℕ) (windowed : Bool) → IsPlaced gs m tracked (layout_of a idx bases) → IsPlaced gs m tracked (layout_of (record a { windowed = windowed }) idx bases)
placed_weighed gs m tracked a idx bases windowed p = record {
  root = p.root;
  root_used = p.root_used;
  dead_used = p.dead_used;
  groups = λ k lt. let g = p.groups k lt in record { nonzero = g.nonzero; inside = g.inside; at = g.at; above = g.above; together = g.together };
  taken = p.taken;
  owned = p.owned;
  apart = p.apart;
  rest = p.rest;
  parents = p.parents;
  few = p.few;
  marked = p.marked;
  tracks = p.tracks;
  takers = p.takers;
  bases_apart = p.bases_apart;
}

or_assoc : (a b c : Bool) → ((a || b) || c) ≡ (a || (b || c))
or_assoc true b c = refl
or_assoc false b c = refl

-- one group more is weighed
pub light_more : {A : Type 0} (gs : List (SiblingGroup A)) (m : ℕ) (g : SiblingGroup A) (start before now : Bool) → m < length gs → g ≡ get_or gs m g → before ≡ (start || list_any is_light (take m gs)) → now ≡ (before || is_light g) → now ≡ (start || list_any is_light (take (m + 1) gs))
light_more gs m g start before now lt e old step =
    let more = list_any_more is_light gs m g lt in
    step ∙ (ap (λ b. b || is_light g) old ∙ (or_assoc start (list_any is_light (take m gs)) (is_light g) ∙ ap (λ b. start || b) (sym (more ∙ ap (λ v. list_any is_light (take m gs) || is_light v) (sym e)))))

-- a refusal under one bound is one under a bound that follows
pub refusal_under : (p q : Type 0) (e : DaachorseError) → (p → q) → IsPlaceRefusal p e → IsPlaceRefusal q e
refusal_under p q e h = IsRefusal-weaker ⊥ ⊥ NumElements p q (λ x. x) h e
