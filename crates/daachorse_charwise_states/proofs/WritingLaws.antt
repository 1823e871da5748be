-- Elements are written one after another: each write keeps those before it.
use Rattle.std.proofs.Common.{◌≡◌, ◌≢◌, ℕ, ◌+◌, ◌<◌, ◌⊎◌, inl, inr, List, length, set, sym, ap, ◌∙◌, subst, arith}
use Rattle.std.specs.Prelude.{slice_index}
use Rattle.std.proofs.lemmas.Bool.{cases_eq}
use Rattle.std.proofs.lemmas.List.{get_or-set_other, get_or-set_same, length-set}
use Rattle.daachorse_model.proofs.Lists.{below_or_at}
use Rattle.daachorse_placement.specs.declared.build_helper.SiblingGroup.{SiblingGroup}
use Rattle.daachorse_placement.specs.Placement.{children_of, group_parent}
use Rattle.daachorse_patterns.specs.Settled.{HavePlaces}
use Rattle.daachorse_patterns.proofs.Written.{written_at}
use Rattle.daachorse_charwise_states.specs.declared.state.State.{State}
use Rattle.daachorse_charwise_states.specs.Elements.{base_in, check_in, fail_in, output_in, vacant}
use Rattle.daachorse_charwise_states.specs.Packing.{element_at}
use Rattle.daachorse_charwise_states.specs.Writing.{AreGroupsApart, DifferInChecks, HasWritten, HaveCheck, HaveChecks, place_of}

-- ---- one child more has the check

differ-more : (old mid new : List State) → DifferInChecks old mid → DifferInChecks mid new → DifferInChecks old new
differ-more old mid new first then = record {
  size = then.size ∙ first.size;
  base = λ i. then.base i ∙ first.base i;
  fail = λ i. then.fail i ∙ first.fail i;
  output = λ i. then.output i ∙ first.output i;
}

-- what f tells of elements, if that of the new one is what the old one's was
set-same : (f : State → ℕ) (es : List State) (p : ℕ) (e : State) → p < length es → f e ≡ f (element_at es p) → (i : ℕ) → f (element_at (set es p e) i) ≡ f (element_at es i)
set-same f es p e inside same i = elim (cases_eq i p) [
  | inl here ↦
      let P : ℕ → Type 0 = λ k. f (element_at (set es p e) k) ≡ f (element_at es k) in
      subst P (sym here) (ap f (get_or-set_same es p e vacant inside) ∙ same)
  | inr other ↦ ap f (get_or-set_other es p i e vacant other)
]

module _ (cs : List (ℕ × ℕ)) (n check : ℕ) (idx : List ℕ) (old new : List State) (was : HaveCheck cs n check idx old new) (p : ℕ) (at : p ≡ place_of idx cs n) (e : State) (inside : p < length new) where
  pub check_more : check_in e ≡ check → base_in e ≡ base_in (element_at new p) → fail_in e ≡ fail_in (element_at new p) → output_in e ≡ output_in (element_at new p) → HaveCheck cs (n + 1) check idx old (set new p e)
  check_more is base fail output = record {
    parts = differ-more old new (set new p e) was.parts (record {
      size = length-set new p e;
      base = set-same base_in new p e inside base;
      fail = set-same fail_in new p e inside fail;
      output = set-same output_in new p e inside output;
    });
    set = put;
    kept = λ i none.
        ap check_in (get_or-set_other new p i e vacant (λ same. none n (omega arith) (sym at ∙ sym same)))
        ∙ was.kept i (λ j less. none j (omega (arith, less)));
  }
    where
      here : (i : ℕ) → i ≡ p → check_in (element_at (set new p e) i) ≡ check
      here i same =
          let P : ℕ → Type 0 = λ k. check_in (element_at (set new p e) k) ≡ check in
          subst P (sym same) (ap check_in (get_or-set_same new p e vacant inside) ∙ is)

      put : (j : ℕ) → j < n + 1 → check_in (element_at (set new p e) (place_of idx cs j)) ≡ check
      put j less = elim (below_or_at j n less) [
        | inl before ↦ elim (cases_eq (place_of idx cs j) p) [
          | inl same ↦ here (place_of idx cs j) same
          | inr other ↦ ap check_in (get_or-set_other new p (place_of idx cs j) e vacant other) ∙ was.set j before
        ]
        | inr last ↦ here (place_of idx cs j) (ap (λ k. place_of idx cs k) last ∙ sym at)
      ]

-- ---- one group more has its checks

module _ {A : Type 0} (gs : List (SiblingGroup A)) (m : ℕ) (idx : List ℕ) (old mid new : List State) (was : HaveChecks gs m idx old mid) (inside : m < length gs) (apart : AreGroupsApart gs idx) where
  pub checks_more : HaveCheck (children_of gs m) (length (children_of gs m)) (slice_index idx (group_parent gs m)) idx mid new → HaveChecks gs (m + 1) idx old new
  checks_more more = record {
    parts = differ-more old mid new was.parts more.parts;
    set = λ k j less low. put k j low (below_or_at k m less);
    kept = λ i none. more.kept i (λ j low. none m j (omega arith) low) ∙ was.kept i (λ k j less low. none k j (omega (arith, less)) low);
  }
    where
      put : (k j : ℕ) → j < length (children_of gs k) → (k < m) ⊎ (k ≡ m) → check_in (element_at new (place_of idx (children_of gs k) j)) ≡ slice_index idx (group_parent gs k)
      put k j low (inl before) =
          more.kept (place_of idx (children_of gs k) j) (λ i fits same. (let one : m ≡ k = apart m k i j inside (omega (arith, before, inside)) fits low same in omega (arith, before, one)))
          ∙ was.set k j before low
      put k j low (inr same) =
          let P : ℕ → Type 0 = λ x. j < length (children_of gs x) → check_in (element_at new (place_of idx (children_of gs x) j)) ≡ slice_index idx (group_parent gs x) in
          subst P (sym same) (more.set j) low
