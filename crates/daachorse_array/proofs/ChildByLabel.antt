-- The child of a rank by a label.
use Rattle.std.proofs.Common.{◌≡◌, ℕ, zero, suc, pred, ◌<◌, ◌≤◌, List, length, Some, None, refl, arith, get_or}
use Rattle.std.proofs.lemmas.Option.{none-some}
use Rattle.daachorse_array.specs.Ranks.{child_to, child, IsTrieOfRanks}

module _ (parents labels : List ℕ) where
  to_parts : (m p c j : ℕ) → child_to parents labels m p c ≡ Some j → (0 < j) × (j ≤ m) × (get_or parents j 0 ≡ p) × (get_or labels j 0 ≡ c)
  to_parts zero p c j h = absurd (none-some j h)
  to_parts (suc m) p c j h = grind (arith, to_parts m p c j)

  module _ (alphabet : ℕ) (trie : IsTrieOfRanks parents labels alphabet) where
    to_finds : (m j : ℕ) → 0 < j → j ≤ m → m < length parents → child_to parents labels m (get_or parents j 0) (get_or labels j 0) ≡ Some j
    to_finds zero j pos le lt = absurd (omega (arith, pos, le))
    to_finds (suc m) j pos le lt = grind (arith, to_finds m j pos, trie.apart j (suc m) pos)

    pub edge : (j : ℕ) → 0 < j → j < length parents → child parents labels (get_or parents j 0) (get_or labels j 0) ≡ Some j
    edge j pos lt = to_finds (pred (length parents)) j pos (omega (arith, lt)) (omega (arith, trie.order.some))

    pub back : (p c j : ℕ) → child parents labels p c ≡ Some j → (0 < j) × (j < length parents) × (get_or parents j 0 ≡ p)
        × (get_or labels j 0 ≡ c)
    back p c j h =
        let r = to_parts (pred (length parents)) p c j h in
        (r.0, omega (arith, r.1, trie.order.some), r.2, r.3)

    -- no rank beyond the last has a child
    pub none_past : (p c : ℕ) → length parents ≤ p → child parents labels p c ≡ None
    none_past p c le = (elim (child parents labels p c) as (λ o. child parents labels p c ≡ o → child parents labels p c ≡ None) [
      | None ↦ λ e. e
      | Some j ↦ λ e. (let r = back p c j e in absurd (omega (arith, trie.order.earlier j r.0 r.1, r.1, r.2, le)))
    ]) refl
