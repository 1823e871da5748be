-- A child of the root stands within the elements, so each byte's entry is that element, or the root, with the word that is read there.
use Rattle.std.proofs.Common.{◌≡◌, ◌<◌, ◌+◌, ◌⊎◌, inl, inr, ℕ, List, [], ◌∷◌, ◌++◌, Option, Some, None, get_or, length, refl, sym, ap, ◌∙◌, arith, length-append}
use Rattle.std.specs.Prelude.{unwrap_or}
use Rattle.std.proofs.Math.Seq.{get_or-append_seam}
use Rattle.std.proofs.lemmas.List.{get_or_append_left, get_or_default}
use Rattle.daachorse_model.proofs.Lists.{below_or_at}
use Rattle.daachorse_array.proofs.ChildLaws.{child_at-inside}
use Rattle.daachorse_bytewise_states.specs.declared.state.State.{State}
use Rattle.daachorse_bytewise_states.specs.Elements.{base_in, check_in, vacant, word_in}
use Rattle.daachorse_bytewise_states.specs.Parts.{child_among, child_by}
use Rattle.daachorse_bytewise_states.specs.Valid.{IsRootTable}
use Rattle.daachorse_bytewise_states.proofs.ChildLaws.{child_read}
use Rattle.daachorse_bytewise_states.proofs.states.root_table.Goals as goal

-- one more entry
IsRootTable-more : (child : ℕ → Option ℕ) (word : ℕ → ℕ) (n : ℕ) (xs ys : List (ℕ × ℕ)) (y : ℕ × ℕ) → IsRootTable child word n xs → ys ≡ xs ++ y ∷ [] → y ≡ (unwrap_or (child n) 0, word (unwrap_or (child n) 0)) → IsRootTable child word (n + 1) ys
IsRootTable-more child word n xs ys y so_far is next = record {
  size = omega (arith, so_far.size, ap length is, length-append xs (y ∷ []));
  right = λ c below. ap (λ l. get_or l c (0, 0)) is ∙ at c (below_or_at c n below);
}
  where
    at : (c : ℕ) → (c < n) ⊎ (c ≡ n) → get_or (xs ++ y ∷ []) c (0, 0) ≡ (unwrap_or (child c) 0, word (unwrap_or (child c) 0))
    at c (inl below) = get_or_append_left xs (y ∷ []) (0, 0) c (omega (arith, below, so_far.size)) ∙ so_far.right c below
    at c (inr same) =
        ap (λ k. get_or (xs ++ y ∷ []) k (0, 0)) (same ∙ sym so_far.size)
        ∙ (get_or-append_seam xs y [] (0, 0) ∙ (next ∙ ap (λ k. (unwrap_or (child k) 0, word (unwrap_or (child k) 0))) (sym same)))

-- an entry of the table
abbrev entry : ℕ → ℕ → ℕ × ℕ
entry j n = (j, n)

-- the entry of a byte: its child or the root, with its word
module _ (states : List (State ℕ)) (root : State ℕ) (is : get_or states 0 vacant ≡ root) where
  abbrev wanted : ℕ → ℕ × ℕ
  wanted c = entry (unwrap_or (child_among vacant states 0 c) 0) (word_in (get_or states (unwrap_or (child_among vacant states 0 c) 0) vacant))

  -- what the root's child was told to be
  abbrev IsTold : ℕ → Option ℕ → Type 0
  IsTold c r = r ≡ child_by (length states) (base_in root) (λ j. check_in (get_or states j root)) c

  told-inside : 0 < length states → (c : ℕ) (r : Option ℕ) → IsTold c r → (y : ℕ) → y ≡ unwrap_or r 0 → y < length states
  told-inside some c None told y e = omega (arith, some, e)
  told-inside some c (Some j) told y e =
      let inside : j < length states = (child_at-inside (length states) c (base_in root) c j (λ i. check_in (get_or states i root)) (sym told)).0 in
      omega (arith, inside, e)

  entry-is : (c : ℕ) (r : Option ℕ) → IsTold c r → (y n : ℕ) → y ≡ unwrap_or r 0 → n ≡ word_in (get_or states y vacant) → entry y n ≡ wanted c
  entry-is c r told y n e m =
      let here : y ≡ unwrap_or (child_among vacant states 0 c) 0 = e ∙ ap (λ x. unwrap_or x 0) (told ∙ child_read states vacant root 0 c is) in
      ap (λ j. entry j n) here ∙ ap (λ k. entry (unwrap_or (child_among vacant states 0 c) 0) k) (m ∙ ap (λ j. word_in (get_or states j vacant)) here)

pub bounds-states-child : goal.bounds-states-child
bounds-states-child g c = told-inside c.args.states.now _ refl c.requires.some c.loop-label.label c.child.result c.child.ensures c.unwrap_or-child.result c.unwrap_or-child.ensures

pub loop-label-preserved : goal.loop-label-preserved
loop-label-preserved g c =
    let states = c.args.states.now in
    let i : ℕ = c.loop-label.label in
    let inside = told-inside states _ refl c.requires.some i c.child.result c.child.ensures c.unwrap_or-child.result c.unwrap_or-child.ensures in
    IsRootTable-more (child_among vacant states 0) (λ k. word_in (get_or states k vacant)) i c.loop-label.table.items c.push.new.self.items _ c.loop-label.invariant c.in_ok-push.ensures.items
    (entry-is states _ refl i c.child.result c.child.ensures c.unwrap_or-child.result c.word.result c.unwrap_or-child.ensures (c.word.ensures ∙ ap word_in (get_or_default states c.unwrap_or-child.result _ vacant inside)))
