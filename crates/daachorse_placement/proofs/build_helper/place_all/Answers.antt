-- The group at hand is one that may be placed, and with it one group more is.
use Rattle.std.specs.Prelude.{IfErr}
use Rattle.std.proofs.Common.{rules, Err, ◌≤◌, ◌*◌, ◌^◌, ◌≡◌, ◌<◌, ℕ, List, length, sym, ◌∙◌, subst, arith, ap, set, ◌+◌, ◌||◌}
use Rattle.std.proofs.lemmas.Grind.{common_steps}
use Rattle.daachorse_placement.specs.FreeLists.{element_count, HasPlaced, IsFull, IsMapOf, layout_of}
use Rattle.daachorse_placement.specs.Placement.{IsPlaceRefusal, AreApart, AreGroups, AreIds, FitInBlock, IsPlaced, children_of, is_light, group_parent}
use Rattle.daachorse_placement.proofs.PlaceStart.{children_at, parent_at, placed_weighed, block_kept, light_more, refusal, refusal_under}
use Rattle.daachorse_placement.proofs.PlaceSteps.{placed_more}
use Rattle.daachorse_placement.proofs.build_helper.place_all.Goals as goal

pub weigh-requires : goal.weigh-requires
weigh-requires g c = c.loop-group.invariant.whole

pub place-requires : goal.place-requires
place-requires g c =
    let i = c.loop-group.group-index in
    let e : children_of c.args.groups.now i ≡ c.as_slice.result.now = children_at c.args.groups.now i c.group-item.result (omega arith) c.group-item.is ∙ sym c.as_slice.ensures.value in
    record {
      whole = c.weigh.ensures.whole;
      full = subst (λ v. IsFull v) (sym c.weigh.ensures.windowed) c.loop-group.invariant.full;
      some = subst (λ (cs : List (ℕ × ℕ)). 0 < length cs) e (c.requires.groups.some i (omega arith));
      labels =
          let block = block_kept c.loop-group.elements c.weigh.new.self (c.loop-group.elements.windowed || is_light c.group-item.result) c.weigh.ensures.windowed ∙ c.loop-group.invariant.block in
          subst (λ (cs : List (ℕ × ℕ)). FitInBlock c.weigh.new.self.block_len cs) e (subst (λ (n : ℕ). FitInBlock n (children_of c.args.groups.now i)) (sym block) (c.requires.groups.labels i (omega arith)));
      ids =
          let len : length c.args.idx_map.now ≡ length c.loop-group.idx_map = omega arith in
          subst (λ (cs : List (ℕ × ℕ)). AreIds (length c.loop-group.idx_map) cs) e (subst (λ (n : ℕ). AreIds n (children_of c.args.groups.now i)) len (c.requires.groups.ids i (omega arith)));
      apart = subst (λ (cs : List (ℕ × ℕ)). AreApart cs) e (c.requires.groups.one_child i (omega arith));
    }

pub bounds-bases-group : goal.bounds-bases-group
bounds-bases-group g c =
    let i = c.loop-group.group-index in
    let e : group_parent c.args.groups.now i ≡ c.group-item.result.parent = parent_at c.args.groups.now i c.group-item.result (omega arith) c.group-item.is in
    let h = c.requires.groups.parents i (omega arith) in
    omega (arith, e, h)

pub loop-group-preserved : goal.loop-group-preserved
loop-group-preserved g c =
    let gs = c.args.groups.now in
    let i = c.loop-group.group-index in
    let a = c.loop-group.elements in
    let w = c.weigh.new.self in
    let b = c.place.new.self in
    let idx = c.loop-group.idx_map in
    let bases = c.loop-group.bases in
    let base = c.in_ok-base.base in
    let inv = c.loop-group.invariant in
    let is_weighed = c.weigh.ensures.windowed in
    let e : children_of gs i ≡ c.as_slice.result.now = children_at gs i c.group-item.result (omega arith) c.group-item.is ∙ sym c.as_slice.ensures.value in
    let p : group_parent gs i ≡ c.group-item.result.parent = parent_at gs i c.group-item.result (omega arith) c.group-item.is in
    let block : w.block_len ≡ c.args.elements.now.block_len = block_kept a w (a.windowed || is_light c.group-item.result) is_weighed ∙ inv.block in
    let window : w.windowed ≡ (a.windowed || is_light c.group-item.result) = ap (λ v. v.windowed) is_weighed in
    let h : HasPlaced w b (children_of gs i) base c.args.tracked = subst (λ (cs : List (ℕ × ℕ)). HasPlaced w b cs base c.args.tracked) (sym e) c.in_ok-base.ensures.placed in
    let mp : IsMapOf idx c.place.new.idx_map (children_of gs i) (length (children_of gs i)) base = subst (λ (cs : List (ℕ × ℕ)). IsMapOf idx c.place.new.idx_map cs (length cs) base) (sym e) c.in_ok-base.ensures.map in
    let gr : AreGroups gs (length c.args.idx_map.now) w.block_len = subst (λ (n : ℕ). AreGroups gs (length c.args.idx_map.now) n) (sym block) c.requires.groups in
    let old = subst (λ v. IsPlaced gs i c.args.tracked (layout_of v idx bases)) (sym is_weighed) (placed_weighed gs i c.args.tracked a idx bases (a.windowed || is_light c.group-item.result) inv.placed) in
    record {
      whole = c.in_ok-base.ensures.whole;
      full = c.in_ok-base.ensures.full;
      windowed = h.windowed ∙ light_more gs i c.group-item.result c.args.elements.now.windowed a.windowed w.windowed (omega arith) c.group-item.is inv.windowed window;
      block = h.block ∙ block;
      placed = subst (λ (q : ℕ). IsPlaced gs (i + 1) c.args.tracked (layout_of b c.place.new.idx_map (set bases q base))) p
          (placed_more gs i c.args.tracked w b idx c.place.new.idx_map bases base (length c.args.idx_map.now) gr (omega arith) (omega arith) (omega arith) c.in_ok-base.ensures.whole old h mp);
    }

pub returns-clause-whole : goal.returns-clause-whole
returns-clause-whole g c = c.loop-group.invariant.whole

pub returns-clause-full : goal.returns-clause-full
returns-clause-full g c = c.loop-group.invariant.full

pub returns-clause-block : goal.returns-clause-block
returns-clause-block g c = c.loop-group.invariant.block

pub returns-in_err-base-clause-err : goal.returns-in_err-base-clause-err
returns-in_err-base-clause-err g c =
    let a = c.loop-group.elements in
    let w = c.weigh.new.self in
    let n = c.args.elements.now.block_len in
    let m = length c.args.groups.now in
    let inv = c.loop-group.invariant in
    let is_weighed = c.weigh.ensures.windowed in
    let block : w.block_len ≡ n = block_kept a w (a.windowed || is_light c.group-item.result) is_weighed ∙ inv.block in
    let count : element_count w ≡ a.num_blocks * n = ap (λ v. element_count v) is_weighed ∙ (inv.whole.blocks ∙ ap (λ k. a.num_blocks * k) inv.block) in
    let few : a.num_blocks ≤ m = let f = inv.placed.few in omega arith in
    let passed : 2 ^ 32 ≤ element_count w + w.block_len → 2 ^ 32 ≤ (m + 1) * n = λ h. refusal a.num_blocks m n few (omega (arith, h, block, count)) in
    let is_err : c.from_residual.result ≡ Err c.in_err-base.field-0.0 = search rules in
    subst (λ r. IfErr r (IsPlaceRefusal (2 ^ 32 ≤ (m + 1) * n))) (sym is_err)
    (refusal_under (2 ^ 32 ≤ element_count w + w.block_len) (2 ^ 32 ≤ (m + 1) * n) c.in_err-base.field-0.0 passed c.in_err-base.ensures.err)

pub returns-clause-placed : goal.returns-clause-placed
returns-clause-placed g c = grind (arith, common_steps)

pub returns-clause-windowed : goal.returns-clause-windowed
returns-clause-windowed g c = grind (arith, common_steps)
