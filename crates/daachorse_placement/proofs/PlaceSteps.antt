-- One group more is placed.
use Rattle.std.proofs.Common.{◌/◌, ◌≡◌, ◌≢◌, ℕ, ◌+◌, ◌<◌, ◌⊎◌, inl, inr, zero, suc, Bool, true, false, List, length, set, get_or, bit_xor, arith, refl, ap, sym, ◌∙◌, subst, get_or-set_other, length-set}
use Rattle.std.proofs.lemmas.Bool.{cases_eq, true≢false, cases_Bool}
use Rattle.std.proofs.lemmas.Grind.{get_or-set_at}
use Rattle.daachorse_placement.specs.declared.build_helper.SiblingGroup.{SiblingGroup}
use Rattle.daachorse_placement.specs.declared.build_helper.free_list.FreeList.{FreeList}
use Rattle.daachorse_placement.specs.FreeLists.{HasPlaced, IsMapOf, IsWhole, is_base, is_used, layout_of}
use Rattle.daachorse_placement.specs.Layout.{Layout}
use Rattle.daachorse_placement.specs.Placement.{AreGroups, IsGroupAt, IsPlaced, child_id, children_of, label_of, group_parent}
use Rattle.daachorse_core.proofs.Xor.{xor_same_left, xor_block}

-- t is one of the first n children, or none of them
pub find_child : (cs : List (ℕ × ℕ)) (n t : ℕ) → ((j : ℕ) × (j < n) × (t ≡ child_id cs j)) ⊎ ((j : ℕ) → j < n → t ≢ child_id cs j)
find_child cs zero t = inr (λ j lt. absurd (omega arith))
find_child cs (suc n) t = elim (cases_eq t (child_id cs n)) [
  | inl e ↦ inl (n, omega arith, e)
  | inr ne ↦ elim (find_child cs n t) [
    | inl (j, lt, e) ↦ inl (j, omega arith, e)
    | inr none ↦ inr (λ j lt. elim (cases_eq j n) [
      | inl e ↦ subst (λ (m : ℕ). t ≢ child_id cs m) (sym e) ne
      | inr other ↦ none j (omega arith)
    ])
  ]
]

pub above_one : (x : ℕ) → x ≢ 0 → x ≢ 1 → 1 < x
above_one x a b = omega arith

module _ {A : Type 0} (gs : List (SiblingGroup A)) (m : ℕ) (tracked : Bool) (a b : FreeList A) (idx idx2 bases : List ℕ) (base num : ℕ)
    (gr : AreGroups gs num a.block_len) (lt : m < length gs) (len : length idx ≡ num) (blen : length bases ≡ num)
    (w : IsWhole b)
    (p : IsPlaced gs m tracked (layout_of a idx bases))
    (h : HasPlaced a b (children_of gs m) base tracked)
    (mp : IsMapOf idx idx2 (children_of gs m) (length (children_of gs m)) base) where
  -- the base of group k, and what callers see, once group m is placed
  abbrev base_after : ℕ → ℕ
  base_after k = get_or (set bases (group_parent gs m) base) (group_parent gs k) 0

  abbrev layout_after : Layout
  layout_after = layout_of b idx2 (set bases (group_parent gs m) base)

  parent_in : group_parent gs m < length bases
  parent_in = let q = gr.parents m lt in omega (arith, q, blen)

  -- a group before has other children
  other : (k j i : ℕ) → k < m → j < length (children_of gs k) → i < length (children_of gs m) → child_id (children_of gs k) j ≢ child_id (children_of gs m) i
  other k j i less jl il e = let q = gr.one_group k m j i (omega arith) lt jl il e in omega (arith, q, less)

  new_above : (j : ℕ) → j < length (children_of gs m) → 1 < bit_xor base (label_of (children_of gs m) j)
  new_above j jl =
      let v = h.vacant j jl in
      let y = bit_xor base (label_of (children_of gs m) j) in
      above_one y
      (λ e. true≢false (sym p.root_used ∙ subst (λ (i : ℕ). get_or a.used_index.items i false ≡ false) e v))
      (λ e. true≢false (sym p.dead_used ∙ subst (λ (i : ℕ). get_or a.used_index.items i false ≡ false) e v))

  base_old : (k : ℕ) → k < m → base_after k ≡ get_or bases (group_parent gs k) 0
  base_old k less = get_or-set_other bases (group_parent gs m) (group_parent gs k) base 0 (λ e. let q = gr.one_parent k m (omega arith) lt e in omega (arith, q, less))

  base_new : base_after m ≡ base
  base_new = get_or-set_at bases (group_parent gs m) (group_parent gs m) base 0 refl parent_in

  idx_old : (k j : ℕ) → k < m → j < length (children_of gs k) → get_or idx2 (child_id (children_of gs k) j) 0 ≡ get_or idx (child_id (children_of gs k) j) 0
  idx_old k j less jl = mp.others (child_id (children_of gs k) j) (λ i il. other k j i less jl il)

  group_old : (k : ℕ) → k < m → IsGroupAt (children_of gs k) (base_after k) layout_after
  group_old k less =
      let g = p.groups k less in
      subst (λ (v : ℕ). IsGroupAt (children_of gs k) v layout_after) (sym (base_old k less)) (record {
        nonzero = g.nonzero;
        inside = let q = g.inside in let r = h.count in omega (arith, q, r);
        at = λ j jl. idx_old k j less jl ∙ g.at j jl;
        above = g.above;
        together = λ j jl. subst (λ (n : ℕ). bit_xor (get_or bases (group_parent gs k) 0) (label_of (children_of gs k) j) / n ≡ get_or bases (group_parent gs k) 0 / n) (sym h.block) (g.together j jl);
      })

  group_new : IsGroupAt (children_of gs m) (base_after m) layout_after
  group_new = subst (λ (v : ℕ). IsGroupAt (children_of gs m) v layout_after) (sym base_new) (record {
    nonzero = h.nonzero;
    inside = h.inside;
    at = mp.here;
    above = new_above;
    together = λ j jl. xor_block b.block_len base (label_of (children_of gs m) j) w.power (subst (λ (n : ℕ). label_of (children_of gs m) j < n) (sym h.block) (gr.labels m lt j jl));
  })

  groups2 : (k : ℕ) → k < m + 1 → IsGroupAt (children_of gs k) (base_after k) layout_after
  groups2 k less = elim (cases_eq k m) [
    | inl e ↦ subst (λ (i : ℕ). IsGroupAt (children_of gs i) (base_after i) layout_after) (sym e) group_new
    | inr ne ↦ group_old k (omega arith)
  ]

  taken2 : (t : ℕ) → t < length idx2 → 1 < get_or idx2 t 0 → is_used b (get_or idx2 t 0) ≡ true
  taken2 t tl one = elim (find_child (children_of gs m) (length (children_of gs m)) t) [
    | inl (j, jl, e) ↦
        let at : get_or idx2 t 0 ≡ bit_xor base (label_of (children_of gs m) j) = ap (λ (i : ℕ). get_or idx2 i 0) e ∙ mp.here j jl in
        subst (λ (v : ℕ). is_used b v ≡ true) (sym at) (h.here j jl)
    | inr none ↦
        let at : get_or idx2 t 0 ≡ get_or idx t 0 = mp.others t none in
        let q = mp.same in
        subst (λ (v : ℕ). is_used b v ≡ true) (sym at) (h.kept (get_or idx t 0) (p.taken t (omega (arith, tl, q)) (omega (arith, one, at))))
  ]

  owned2 : (i : ℕ) → 1 < i → is_used b i ≡ true → (k : ℕ) × (j : ℕ) × (k < m + 1) × (j < length (children_of gs k)) × (bit_xor (base_after k) (label_of (children_of gs k) j) ≡ i)
  owned2 i one u = elim (h.only i u) [
    | inl o ↦
        let s = p.owned i one o in
        (s.0, s.1, (let sl = s.2 in omega (arith, sl)), s.3, ap (λ (v : ℕ). bit_xor v (label_of (children_of gs s.0) s.1)) (base_old s.0 s.2) ∙ s.4)
    | inr (j, jl, e) ↦
        (m, j, omega arith, jl, ap (λ (v : ℕ). bit_xor v (label_of (children_of gs m) j)) base_new ∙ sym e)
  ]

  apart2 : (t v : ℕ) → t < length idx2 → v < length idx2 → 1 < get_or idx2 t 0 → get_or idx2 t 0 ≡ get_or idx2 v 0 → t ≡ v
  apart2 t v tl vl one same = let q = mp.same in
      elim (find_child (children_of gs m) (length (children_of gs m)) t) [
        | inl (j, jl, e) ↦
            let at : get_or idx2 t 0 ≡ bit_xor base (label_of (children_of gs m) j) = ap (λ (i : ℕ). get_or idx2 i 0) e ∙ mp.here j jl in
            elim (find_child (children_of gs m) (length (children_of gs m)) v) [
              | inl (i, il, e2) ↦
                  let at2 : get_or idx2 v 0 ≡ bit_xor base (label_of (children_of gs m) i) = ap (λ (n : ℕ). get_or idx2 n 0) e2 ∙ mp.here i il in
                  let labels = xor_same_left base (label_of (children_of gs m) j) (label_of (children_of gs m) i) (sym at ∙ (same ∙ at2)) in
                  let ji = gr.distinct m j i lt jl il labels in
                  e ∙ (ap (λ (n : ℕ). child_id (children_of gs m) n) ji ∙ sym e2)
              | inr none ↦
                  let at2 : get_or idx2 v 0 ≡ get_or idx v 0 = mp.others v none in
                  let y : get_or idx v 0 ≡ bit_xor base (label_of (children_of gs m) j) = sym at2 ∙ (sym same ∙ at) in
                  let u = p.taken v (omega (arith, vl, q)) (omega (arith, one, same, at2)) in
                  absurd (true≢false (sym u ∙ (ap (λ (n : ℕ). get_or a.used_index.items n false) y ∙ h.vacant j jl)))
            ]
        | inr none ↦
            let at : get_or idx2 t 0 ≡ get_or idx t 0 = mp.others t none in
            elim (find_child (children_of gs m) (length (children_of gs m)) v) [
              | inl (i, il, e2) ↦
                  let at2 : get_or idx2 v 0 ≡ bit_xor base (label_of (children_of gs m) i) = ap (λ (n : ℕ). get_or idx2 n 0) e2 ∙ mp.here i il in
                  let y : get_or idx t 0 ≡ bit_xor base (label_of (children_of gs m) i) = sym at ∙ (same ∙ at2) in
                  let u = p.taken t (omega (arith, tl, q)) (omega (arith, one, at)) in
                  absurd (true≢false (sym u ∙ (ap (λ (n : ℕ). get_or a.used_index.items n false) y ∙ h.vacant i il)))
              | inr none2 ↦
                  let at2 : get_or idx2 v 0 ≡ get_or idx v 0 = mp.others v none2 in
                  p.apart t v (omega (arith, tl, q)) (omega (arith, vl, q)) (omega (arith, one, at)) (sym at ∙ (same ∙ at2))
            ]
      ]

  tracks2 : (c : ℕ) → is_base b c ≡ true → tracked ≡ true
  tracks2 c t = elim (cases_eq c base) [
    | inl e ↦ elim (cases_Bool tracked) [
      | inl is_on ↦ is_on
      | inr is_off ↦ absurd (true≢false (sym (subst (λ (v : ℕ). is_base b v ≡ true) e t) ∙ h.untracked is_off))
    ]
    | inr ne ↦ p.tracks c (sym (h.others c ne) ∙ t)
  ]

  takers2 : (c : ℕ) → is_base b c ≡ true → (k : ℕ) × (k < m + 1) × (base_after k ≡ c)
  takers2 c t = elim (cases_eq c base) [
    | inl e ↦ (m, omega arith, base_new ∙ sym e)
    | inr ne ↦ let s = p.takers c (sym (h.others c ne) ∙ t) in (s.0, (let sl = s.1 in omega (arith, sl)), base_old s.0 s.1 ∙ s.2)
  ]

  -- a base that was taken before is another one
  not_base : tracked ≡ true → (k : ℕ) → k < m → get_or bases (group_parent gs k) 0 ≢ base
  not_base is_on k less e = true≢false (sym (p.marked is_on k less) ∙ (ap (λ (v : ℕ). get_or a.used_base.items v false) e ∙ h.free))

  marked2 : tracked ≡ true → (k : ℕ) → k < m + 1 → is_base b (base_after k) ≡ true
  marked2 is_on k less = elim (cases_eq k m) [
    | inl e ↦ subst (λ (i : ℕ). is_base b (base_after i) ≡ true) (sym e) (subst (λ (v : ℕ). is_base b v ≡ true) (sym base_new) (h.noted is_on))
    | inr ne ↦ let kl : k < m = omega arith in subst (λ (v : ℕ). is_base b v ≡ true) (sym (base_old k kl)) (h.others (get_or bases (group_parent gs k) 0) (not_base is_on k kl) ∙ p.marked is_on k kl)
  ]

  bases_apart2 : tracked ≡ true → (k l : ℕ) → k < m + 1 → l < m + 1 → base_after k ≡ base_after l → k ≡ l
  bases_apart2 is_on k l kl ll e = elim (cases_eq k m) [
    | inl ek ↦ elim (cases_eq l m) [
      | inl el ↦ ek ∙ sym el
      | inr nl ↦ let lm : l < m = omega arith in
          let kb : base_after k ≡ base = ap (λ (i : ℕ). base_after i) ek ∙ base_new in
          absurd (not_base is_on l lm (sym (base_old l lm) ∙ (sym e ∙ kb)))
    ]
    | inr nk ↦ let km : k < m = omega arith in elim (cases_eq l m) [
      | inl el ↦
          let lb : base_after l ≡ base = ap (λ (i : ℕ). base_after i) el ∙ base_new in
          absurd (not_base is_on k km (sym (base_old k km) ∙ (e ∙ lb)))
      | inr nl ↦ let lm : l < m = omega arith in p.bases_apart is_on k l km lm (sym (base_old k km) ∙ (e ∙ base_old l lm))
    ]
  ]

  pub placed_more : IsPlaced gs (m + 1) tracked layout_after
  placed_more = record {
    root = mp.others 0 (λ j jl e. let one = gr.above m j lt jl in omega (arith, one, e)) ∙ p.root;
    root_used = h.kept 0 p.root_used;
    dead_used = h.kept 1 p.dead_used;
    groups = groups2;
    taken = taken2;
    owned = owned2;
    apart = apart2;
    rest = λ t tl nz none. let q = mp.same in mp.others t (λ j jl. none m j (omega arith) jl) ∙ p.rest t (omega (arith, tl, q)) nz (λ k j kl jl. none k j (omega arith) jl);
    parents = λ v vl none. let q = length-set bases (group_parent gs m) base in get_or-set_other bases (group_parent gs m) v base 0 (none m (omega arith)) ∙ p.parents v (omega (arith, vl, q)) (λ k kl. none k (omega arith));
    few = let f = p.few in let g = h.blocks in omega (arith, f, g);
    marked = marked2;
    tracks = tracks2;
    takers = takers2;
    bases_apart = bases_apart2;
  }
