-- As many texts lead to an element as there are ranks: one to each.
use Rattle.std.proofs.Common.{◌≡◌, ℕ, ◌<◌, Bool, true, List, length, Option, Some, sym, ◌∙◌, arith, get_or}
use Rattle.std.specs.Set.{is_member}
use Rattle.std.specs.Cmp.{nat_eq_equiv}
use Rattle.std.specs.Cmp.Lexicographic.{lists_equiv}
use Rattle.std.proofs.lemmas.Map.Made.{is_member-Decides, length-from_same_keys}
use Rattle.std.proofs.lemmas.Slice.Eq.{bytes_eq-Decides}
use Rattle.daachorse_model.specs.Units.{same_text}
use Rattle.daachorse_model.specs.Paths.{is_reached}
use Rattle.daachorse_model.specs.Prefixes.{PassesAt}
use Rattle.daachorse_array.proofs.ReachedCount.{reached-counted}
use Rattle.daachorse_checker.specs.Ranks.{HasOnePath, AreRanks}
use Rattle.daachorse_checker.proofs.RankLaws.{same_rank}
use Rattle.daachorse_checker.proofs.TreeLaws.{text_at, found}

module _ {child : ℕ → ℕ → Option ℕ} {label : ℕ → ℕ} {n : ℕ} {order parents labels marks : List ℕ}
    (are : AreRanks child label n order parents labels marks) (tree : HasOnePath child)
    (unit : (s c t : ℕ) → (m : ℕ) × (m < length order) × (get_or order m 0 ≡ s) → child s c ≡ Some t → c ≡ label t) where
  -- one text leads to each rank
  pub ranks_counted : PassesAt (is_reached child) (length order)
  ranks_counted =
      reached-counted child tree.one_path (length order) (λ m. get_or order m 0)
      (λ k m less lt e. let same : m ≡ k = same_rank are.ranks m k lt (omega (arith, less, lt)) e in omega (arith, same, less))
      (text_at are.ranks)
      (found are.ranks unit are.closed)

-- ---- one count
same_bool : (p q : Bool) → (p ≡ true → q ≡ true) → (q ≡ true → p ≡ true) → p ≡ q
same_bool p q h k = grind arith

-- a test passes at one number of texts
pub one_count : (P : List ℕ → Bool) (m n : ℕ) → PassesAt P m → PassesAt P n → m ≡ n
one_count P m n x y = sym x.count ∙ (length-from_same_keys (lists_equiv nat_eq_equiv) x.texts y.texts x.distinct y.distinct both ∙ y.count)
  where
    both : (q : List ℕ) → is_member same_text x.texts q ≡ is_member same_text y.texts q
    both q =
        let left = is_member-Decides bytes_eq-Decides x.texts q in
        let right = is_member-Decides bytes_eq-Decides y.texts q in
        same_bool (is_member same_text x.texts q) (is_member same_text y.texts q)
        (λ h. right.1 ((y.exactly q).0 ((x.exactly q).1 (left.0 h))))
        (λ h. left.1 ((x.exactly q).0 ((y.exactly q).1 (right.0 h))))
