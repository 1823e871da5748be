-- Elements are written one after another, each in a place of its own: a write keeps what was told of those before it.
use Rattle.std.proofs.Common.{◌≡◌, ◌≢◌, ℕ, ◌+◌, ◌<◌, inl, inr, List, ◌++◌, length, set, take, drop, sym, ap, ◌∙◌, arith}
use Rattle.std.specs.Prelude.{slice_index, slice_index_or}
use Rattle.std.proofs.Math.Seq.{take-append_seam}
use Rattle.std.proofs.lemmas.List.{get_or-map, get_or-set_other, get_or-set_same, length-set}
use Rattle.daachorse_model.proofs.Lists.{below_or_at}
use Rattle.daachorse_build.specs.declared.nfa_builder.NfaBuilderState.{NfaBuilderState}
use Rattle.daachorse_build.specs.Tables.{fails_of, link_of, position_of, positions_of}
use Rattle.daachorse_patterns.specs.Settled.{AreWritten, HavePlaces}

-- what is read of the states of a builder
module _ {L V A : Type 0} (states : List (NfaBuilderState L V A)) (i : ℕ) (s : NfaBuilderState L V A) (inside : i < length states) (is : s ≡ slice_index_or states i s) where
  pub link_at : slice_index (fails_of states) i ≡ link_of s
  link_at = get_or-map link_of states i s 0 inside ∙ ap link_of (sym is)

  pub position_at : slice_index (positions_of states) i ≡ position_of s
  position_at = get_or-map position_of states i s 0 inside ∙ ap position_of (sym is)

module _ {E : Type 0} (vacant : E) (m n elements : ℕ) (idx : List ℕ) (new : List E) (places : HavePlaces idx n elements) (e : E) (inside : m < n) (fits : slice_index idx m < length new) (here : m ≢ 1) where
  -- what f tells of the element of a state so far, it tells of it now
  pub written_at : (f : E → ℕ) (x : ℕ → ℕ) → ((t : ℕ) → t < m → t ≢ 1 → f (slice_index_or new (slice_index idx t) vacant) ≡ x t) → f e ≡ x m
      → (t : ℕ) → t < m + 1 → t ≢ 1 → f (slice_index_or (set new (slice_index idx m) e) (slice_index idx t) vacant) ≡ x t
  written_at f x so_far is t less alive = elim (below_or_at t m less) [
    | inl before ↦
        let other : slice_index idx t ≢ slice_index idx m = λ same. (let one : t ≡ m = places.apart t m (omega (arith, before, inside)) inside alive here same in omega (arith, before, one)) in
        ap f (get_or-set_other new (slice_index idx m) (slice_index idx t) e vacant other) ∙ so_far t before alive
    | inr same ↦
        rw same (ap f (get_or-set_same new (slice_index idx m) e vacant fits) ∙ is)
  ]

-- ---- one state more is written
module _ {E : Type 0} {vacant : E} {base_in check_in fail_in output_in : E → ℕ} {m n elements : ℕ} {idx bases fails positions : List ℕ} {checks : ℕ → ℕ} {old new : List E} (places : HavePlaces idx n elements)
    (was : AreWritten vacant base_in check_in fail_in output_in m idx bases checks fails positions old new) where
  -- the dead state is passed over
  pub placed_dead : m ≡ 1 → AreWritten vacant base_in check_in fail_in output_in (m + 1) idx bases checks fails positions old new
  placed_dead dead = record {
    size = was.size;
    base = λ t less alive. was.base t (before t less alive) alive;
    check = λ t less alive. was.check t (before t less alive) alive;
    fail = λ t less alive. was.fail t (before t less alive) alive;
    output = λ t less alive. was.output t (before t less alive) alive;
    others = λ i none. was.others i (λ t less alive. none t (omega (arith, less)) alive);
  }
    where
      before : (t : ℕ) → t < m + 1 → t ≢ 1 → t < m
      before t less alive = omega (arith, less, alive, dead)

  pub placed_more : (e : E) → m < n → slice_index idx m < length new → m ≢ 1 → base_in e ≡ slice_index bases m → check_in e ≡ checks m → fail_in e ≡ slice_index idx (slice_index fails m) → output_in e ≡ slice_index positions m
      → AreWritten vacant base_in check_in fail_in output_in (m + 1) idx bases checks fails positions old (set new (slice_index idx m) e)
  placed_more e inside fits here base check fail output = record {
    size = length-set new (slice_index idx m) e ∙ was.size;
    base = written_at vacant m n elements idx new places e inside fits here base_in (slice_index bases) was.base base;
    check = written_at vacant m n elements idx new places e inside fits here check_in checks was.check check;
    fail = written_at vacant m n elements idx new places e inside fits here fail_in (λ t. slice_index idx (slice_index fails t)) was.fail fail;
    output = written_at vacant m n elements idx new places e inside fits here output_in (slice_index positions) was.output output;
    others = λ i none.
        get_or-set_other new (slice_index idx m) i e vacant (λ same. none m (omega arith) here (sym same))
        ∙ was.others i (λ t less alive. none t (omega (arith, less)) alive);
  }

-- a slice of a whole list that was written to is the list
pub written_back : {E : Type 0} (new old : List E) (n : ℕ) → n ≡ length new → take n (new ++ drop (length new) old) ≡ new
written_back new old n e = ap (λ k. take k (new ++ drop (length new) old)) e ∙ take-append_seam new (drop (length new) old)
