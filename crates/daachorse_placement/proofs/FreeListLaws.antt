-- What a group of children finds, step by step: tries, a block more, the group placed, and bases counted.
use Rattle.std.proofs.Common.{◌⊎◌, ◌≡◌, ℕ, ◌+◌, ◌-◌, ◌*◌, ◌<◌, ◌≤◌, Bool, true, false, List, length, set, get_or, arith, ap, sym, ◌∙◌, subst, bit_xor, get_or-set_other, length-set, cond, inl, inr}
use Rattle.std.proofs.lemmas.Bool.{cases_order, cases_lt, cases_eq, true≢false}
use Rattle.std.proofs.lemmas.Grind.{get_or-set_at}
use Rattle.std.proofs.lemmas.List.{get_or_past}
use Rattle.daachorse_placement.specs.declared.build_helper.free_list.FreeList.{FreeList}
use Rattle.daachorse_placement.specs.FreeLists.{Fits, HasBase, HasBlockMore, HasFlagsOf, HasMarked, HasMore, HasPlaced, HasTaken, IsFirstFit, IsFull, IsMapOf, IsPlaceFor, IsWhole, NoneFits, boundary_of, count_in, element_count, is_base, is_used}
use Rattle.daachorse_placement.specs.Placement.{AreApart, FitInBlock, child_id, label_of}
use Rattle.std.specs.Int.{IsPowerOfTwo}
use Rattle.daachorse_placement.proofs.FlagCounts.{count-mono, count-more, count-one}
use Rattle.daachorse_core.proofs.Xor.{xor_inside, xor_back, xor_range}

-- what is used stays used
used_set : (used : List Bool) (i k : ℕ) → i < length used → get_or used k false ≡ true → get_or (set used i true) k false ≡ true
used_set used i k h u = elim (cases_eq k i) [ inl e ↦ get_or-set_at used i k true false e h | inr ne ↦ get_or-set_other used i k true false ne ∙ u ]

-- a label leads from an element to an element
pub child_inside : {A : Type 0} (e : FreeList A) (b c : ℕ) → IsWhole e → b < element_count e → c < e.block_len → bit_xor b c < element_count e
child_inside e b c w inside label =
    let h : b < e.num_blocks * e.block_len = subst (λ (m : ℕ). b < m) w.blocks inside in
    subst (λ (m : ℕ). bit_xor b c < m) (sym w.blocks) (xor_inside e.block_len e.num_blocks b c w.power label h)

pub base_inside : {A : Type 0} (e : FreeList A) (b c : ℕ) → IsWhole e → b < element_count e → c < e.block_len → bit_xor b c < length e.used_base.items
base_inside e b c w inside label = subst (λ (m : ℕ). bit_xor b c < m) (sym w.bases) (child_inside e b c w inside label)

-- what depends on the flags alone
pub used_kept : {A : Type 0} (a b : FreeList A) (k : ℕ) → HasFlagsOf a b → is_used b k ≡ is_used a k
used_kept a b k h = ap (λ xs. get_or xs k false) (sym h.used)

pub base_kept : {A : Type 0} (a b : FreeList A) (k : ℕ) → HasFlagsOf a b → is_base b k ≡ is_base a k
base_kept a b k h = ap (λ xs. get_or xs k false) (sym h.bases)

pub count_kept : {A : Type 0} (a b : FreeList A) → HasFlagsOf a b → element_count b ≡ element_count a
count_kept a b h = ap (λ (xs : List Bool). length xs) (sym h.used)

pub boundary_kept : {A : Type 0} (a b : FreeList A) → HasFlagsOf a b → boundary_of b ≡ boundary_of a
boundary_kept a b h = ap (λ w. cond w ((b.num_blocks - 16) * b.block_len) 0) (sym h.windowed) ∙ (ap (λ n. cond a.windowed ((n - 16) * b.block_len) 0) (sym h.blocks) ∙ ap (λ n. cond a.windowed ((a.num_blocks - 16) * n) 0) (sym h.block))

pub fits_kept : {A : Type 0} (a b : FreeList A) (cs : List (ℕ × ℕ)) (base : ℕ) → HasFlagsOf a b → Fits b cs base → Fits a cs base
fits_kept a b cs base h f = λ j lt. sym (used_kept a b (bit_xor base (label_of cs j)) h) ∙ f j lt

pub has_base_kept : {A : Type 0} (a b : FreeList A) (cs : List (ℕ × ℕ)) (i : ℕ) → HasFlagsOf a b → HasBase b cs i → HasBase a cs i
has_base_kept a b cs i h f = record {
  nonzero = f.nonzero;
  free = sym (base_kept a b (bit_xor i (label_of cs 0)) h) ∙ f.free;
  fits = fits_kept a b cs (bit_xor i (label_of cs 0)) h f.fits;
}

pub flags_back : {A : Type 0} (a b : FreeList A) → HasFlagsOf a b → HasFlagsOf b a
flags_back a b h = record { used = sym h.used; bases = sym h.bases; block = sym h.block; blocks = sym h.blocks; windowed = sym h.windowed }

pub flags_chain : {A : Type 0} (a b c : FreeList A) → HasFlagsOf a b → HasFlagsOf b c → HasFlagsOf a c
flags_chain a b c h k = record { used = h.used ∙ k.used; bases = h.bases ∙ k.bases; block = h.block ∙ k.block; blocks = h.blocks ∙ k.blocks; windowed = h.windowed ∙ k.windowed }

-- the first fit that the scan has come to
pub first_here : {A : Type 0} (a b : FreeList A) (cs : List (ℕ × ℕ)) (i : ℕ) → IsWhole b → FitInBlock a.block_len cs → 0 < length cs → HasFlagsOf a b → i < element_count b → boundary_of b ≤ i → NoneFits a cs i → HasBase b cs i → IsFirstFit a cs (bit_xor i (label_of cs 0))
first_here a b cs i w labels some h inside low none here =
    let back : bit_xor (bit_xor i (label_of cs 0)) (label_of cs 0) ≡ i = xor_back i (label_of cs 0) in
    let has : HasBase a cs i = has_base_kept a b cs i h here in
    let label : label_of cs 0 < b.block_len = subst (λ (m : ℕ). label_of cs 0 < m) h.block (labels 0 some) in
    record {
      nonzero = has.nonzero;
      inside = subst (λ (m : ℕ). bit_xor i (label_of cs 0) < m) (count_kept a b h) (child_inside b i (label_of cs 0) w inside label);
      free = has.free;
      fits = has.fits;
      searched = subst (λ (m : ℕ). boundary_of a ≤ m) (sym back) (subst (λ (m : ℕ). m ≤ i) (boundary_kept a b h) low);
      first = subst (λ (m : ℕ). NoneFits a cs m) (sym back) none;
    }

-- one element more was tried, and the used ones up to j
pub none_more : {A : Type 0} (a b : FreeList A) (cs : List (ℕ × ℕ)) (i j : ℕ) → HasFlagsOf a b → NoneFits a cs i → (HasBase b cs i → ⊥) → ((k : ℕ) → i < k → k < j → is_used b k ≡ true) → NoneFits a cs j
none_more a b cs i j h none here over = λ k low less vacant has. elim (cases_order k i) [
  | inl e ↦ here (has_base_kept b a cs i (flags_back a b h) (subst (λ (m : ℕ). HasBase a cs m) e has))
  | inr o ↦ elim o [
    | inl lt ↦ none k low lt vacant has
    | inr gt ↦ true≢false (sym (over k gt less) ∙ (used_kept a b k h ∙ vacant))
  ]
]

-- a new block has a place for any children
pub fresh_place : {A : Type 0} (a b : FreeList A) (cs : List (ℕ × ℕ)) → IsWhole a → IsWhole b → HasBlockMore a b → 0 < length cs → FitInBlock a.block_len cs → IsPlaceFor b cs (bit_xor (element_count a) (label_of cs 0))
fresh_place a b cs wa wb more some labels =
    let n = a.block_len in
    let q = a.num_blocks in
    let base = bit_xor (element_count a) (label_of cs 0) in
    let start : element_count a ≡ q * n = wa.blocks in
    let pos : n ≤ q * n = grind (arith, wa.some) in
    let at = xor_range n q (element_count a) (label_of cs 0) wa.power (labels 0 some) (omega arith) (omega (arith, wa.two)) in
    record {
      nonzero = λ e. omega (arith, at.0, wa.two, pos, e);
      inside = omega (arith, at.1, start, more.count);
      free = more.free base (omega (arith, at.0, start)) (omega (arith, at.1, start, more.count));
      fits = λ j lt.
          let child = xor_range n q base (label_of cs j) wa.power (labels j lt) at.0 at.1 in
          more.vacant (bit_xor base (label_of cs j)) (omega (arith, child.0, start)) (omega (arith, child.1, start, more.count));
    }

-- one child more is at its element
pub taken_more : {A : Type 0} (a b : FreeList A) (cs : List (ℕ × ℕ)) (i base : ℕ) (d : FreeList A) → bit_xor base (label_of cs i) < element_count b →
    d.used_index.items ≡ set b.used_index.items (bit_xor base (label_of cs i)) true → d.used_base.items ≡ b.used_base.items → d.block_len ≡ b.block_len → d.num_blocks ≡ b.num_blocks → d.windowed ≡ b.windowed →
    HasTaken a b cs i base → HasTaken a d cs (i + 1) base
taken_more a b cs i base d inside used bases block blocks windowed t =
    let u = b.used_index.items in
    let x = bit_xor base (label_of cs i) in
    let read : (k : ℕ) → is_used d k ≡ get_or (set u x true) k false = λ k. ap (λ (xs : List Bool). get_or xs k false) used in
    record {
      count = ap (λ (xs : List Bool). length xs) used ∙ (length-set u x true ∙ t.count);
      block = block ∙ t.block;
      blocks = blocks ∙ t.blocks;
      windowed = windowed ∙ t.windowed;
      bases = bases ∙ t.bases;
      here = λ j lt. read (bit_xor base (label_of cs j)) ∙ elim (cases_lt j i) [
        | inl h ↦ used_set u x (bit_xor base (label_of cs j)) inside (t.here j h)
        | inr h ↦ let e : j ≡ i = omega arith in get_or-set_at u x (bit_xor base (label_of cs j)) true false (ap (λ (m : ℕ). bit_xor base (label_of cs m)) e) inside
      ];
      kept = λ k h. read k ∙ used_set u x k inside (t.kept k h);
      only = λ k h. elim (cases_eq k x) [
        | inl e ↦ inr (i, omega arith, e)
        | inr ne ↦ elim (t.only k (sym (get_or-set_other u x k true false ne) ∙ (sym (read k) ∙ h))) [
          | inl o ↦ inl o
          | inr (j, lt, e) ↦ inr (j, omega arith, e)
        ]
      ];
    }

pub map_more : (old new : List ℕ) (cs : List (ℕ × ℕ)) (i base : ℕ) → AreApart cs → i < length cs → child_id cs i < length new → IsMapOf old new cs i base → IsMapOf old (set new (child_id cs i) (bit_xor base (label_of cs i))) cs (i + 1) base
map_more old new cs i base apart less inside m =
    let t = child_id cs i in
    let x = bit_xor base (label_of cs i) in
    record {
      same = length-set new t x ∙ m.same;
      here = λ j lt. elim (cases_lt j i) [
        | inl h ↦ get_or-set_other new t (child_id cs j) x 0 (λ e. let w : j ≡ i = apart j i (omega arith) less e in omega arith) ∙ m.here j h
        | inr h ↦ let e : j ≡ i = omega arith in get_or-set_at new t (child_id cs j) x 0 (ap (λ (n : ℕ). child_id cs n) e) inside ∙ ap (λ (n : ℕ). bit_xor base (label_of cs n)) (sym e)
      ];
      others = λ u h. get_or-set_other new t u x 0 (h i (omega arith)) ∙ m.others u (λ j lt. h j (omega arith));
    }

-- past the end no flag is set
pub past : (xs : List Bool) (k : ℕ) → length xs ≤ k → get_or xs k false ≡ false
past xs k h = get_or_past xs k false h

pub inside_true : (xs : List Bool) (k : ℕ) → get_or xs k false ≡ true → k < length xs
inside_true xs k h = elim (cases_lt k (length xs)) [ inl lt ↦ lt | inr ge ↦ absurd (true≢false (sym h ∙ past xs k ge)) ]

pub more_used : {A : Type 0} (a b : FreeList A) (k : ℕ) → HasMore a b → is_used b k ≡ is_used a k
more_used a b k h = elim (cases_lt k (element_count a)) [
  | inl lt ↦ h.used k lt
  | inr ge ↦ elim (cases_lt k (element_count b)) [
    | inl lt ↦ h.vacant k ge lt ∙ sym (past a.used_index.items k ge)
    | inr over ↦ past b.used_index.items k over ∙ sym (past a.used_index.items k ge)
  ]
]

pub more_bases : {A : Type 0} (a b : FreeList A) (k : ℕ) → length a.used_base.items ≡ element_count a → length b.used_base.items ≡ element_count b → HasMore a b → is_base b k ≡ is_base a k
more_bases a b k la lb h = elim (cases_lt k (element_count a)) [
  | inl lt ↦ h.bases k lt
  | inr ge ↦
      let old : is_base a k ≡ false = past a.used_base.items k (omega arith) in
      elim (cases_lt k (element_count b)) [
        | inl lt ↦ h.free k ge lt ∙ sym old
        | inr over ↦ past b.used_base.items k (omega arith) ∙ sym old
      ]
]

pub has_placed : {A : Type 0} (a b d e : FreeList A) (cs : List (ℕ × ℕ)) (mark : ℕ) (tracked : Bool) → IsWhole a → IsWhole b → HasMore a b → IsPlaceFor b cs mark → HasTaken b d cs (length cs) mark → HasMarked d e mark tracked → HasPlaced a e cs mark tracked
has_placed a b d e cs mark tracked wa wb m p t k =
    let used : (i : ℕ) → is_used e i ≡ is_used d i = λ i. ap (λ (xs : List Bool). get_or xs i false) k.used in
    let more : (i : ℕ) → is_used b i ≡ is_used a i = λ i. more_used a b i m in
    let base : (i : ℕ) → is_base b i ≡ is_base a i = λ i. more_bases a b i wa.bases wb.bases m in
    let base2 : (i : ℕ) → is_base d i ≡ is_base b i = λ i. ap (λ (xs : List Bool). get_or xs i false) t.bases in
    let count : element_count e ≡ element_count b = ap (λ (xs : List Bool). length xs) k.used ∙ t.count in
    record {
      count = let h = m.count in omega (arith, h, count);
      block = k.block ∙ (t.block ∙ m.block);
      blocks = let h = m.blocks in let h2 = k.blocks in let h3 = t.blocks in omega (arith, h, h2, h3);
      windowed = k.windowed ∙ (t.windowed ∙ m.windowed);
      nonzero = p.nonzero;
      inside = let h = p.inside in omega (arith, h, count);
      vacant = λ j lt. sym (more (bit_xor mark (label_of cs j))) ∙ p.fits j lt;
      here = λ j lt. used (bit_xor mark (label_of cs j)) ∙ t.here j lt;
      kept = λ i h. used i ∙ t.kept i (more i ∙ h);
      only = λ i h. elim (t.only i (sym (used i) ∙ h)) [ inl o ↦ inl (sym (more i) ∙ o) | inr w ↦ inr w ];
      free = sym (base mark) ∙ p.free;
      untracked = λ no. ap (λ (xs : List Bool). get_or xs mark false) (k.untracked no) ∙ (base2 mark ∙ p.free);
      noted = k.here;
      others = λ i ne. k.others i ne ∙ (base2 i ∙ base i);
    }

-- a group takes one base at most, and one element at least, of the base's block
pub full_more : {A : Type 0} (a b : FreeList A) (cs : List (ℕ × ℕ)) (base : ℕ) (tracked : Bool) → IsWhole b → HasPlaced a b cs base tracked → 0 < length cs → FitInBlock a.block_len cs → IsFull a → IsFull b
full_more a b cs base tracked w h some labels full =
    subst (λ (n : ℕ). (q : ℕ) → count_in b.used_base.items (q * n) n ≤ count_in b.used_index.items (q * n) n) (sym h.block) (λ q.
    let n = a.block_len in
    let old = full q in
    let grown = count-mono a.used_index.items b.used_index.items (q * n) n (λ k low less. h.kept k) in
    let outside : ((base < q * n) ⊎ (q * n + n ≤ base)) → count_in b.used_base.items (q * n) n ≤ count_in b.used_index.items (q * n) n = λ o.
    let same = count-mono b.used_base.items a.used_base.items (q * n) n (λ k low less t. sym (h.others k (λ e. elim o [ inl r ↦ omega (arith, r, e, low, less) | inr r ↦ omega (arith, r, e, low, less) ])) ∙ t) in
    omega (arith, old, grown, same) in
    elim (cases_lt base (q * n)) [
      | inl lo ↦ outside (inl lo)
      | inr ge ↦ elim (cases_lt base (q * n + n)) [
        | inr hi ↦ outside (inr hi)
        | inl less ↦
            let power : IsPowerOfTwo n = subst (λ (v : ℕ). IsPowerOfTwo v) h.block w.power in
            let at = xor_range n q base (label_of cs 0) power (labels 0 some) ge less in
            let y = bit_xor base (label_of cs 0) in
            let low = at.0 in
            let high = at.1 in
            let back : q * n + (y - q * n) ≡ y = omega (arith, low) in
            let more = count-more a.used_index.items b.used_index.items (q * n) n (y - q * n) h.kept (omega (arith, low, high))
            (subst (λ (v : ℕ). get_or a.used_index.items v false ≡ false) (sym back) (h.vacant 0 some))
            (subst (λ (v : ℕ). get_or b.used_index.items v false ≡ true) (sym back) (h.here 0 some)) in
            let one = count-one a.used_base.items b.used_base.items (q * n) n base h.others in
            omega (arith, old, more, one)
      ]
    ])
