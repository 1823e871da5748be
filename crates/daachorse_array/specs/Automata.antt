-- What an automaton keeps: its parts, whether it finds ASCII letters without regard to case, its filter, if it has one, and the depths of its elements where they are cached.
use Rattle.std.specs.Prelude.{◌≡◌, ◌⊎◌, ℕ, Bool, List, [], ◌++◌, Option, Some, None, nat_eq, pos}
use Rattle.std.specs.Bool.{beq}
use Rattle.std.specs.Cmp.{IsPartialEquivalence, IsEquivalence, and_per, on_per, and_equiv, on_equiv, partial_equiv_from_equiv, nat_eq_equiv, bool_eq_equiv, booleans_Decides}
use Rattle.std.specs.Cmp.Lexicographic.{pointwise, lists_per, lists_equiv, options_equiv}
use Rattle.std.specs.Option.{option_eq}
use Rattle.std.specs.Ordering.{on, eq_of_both}
use Rattle.std.specs.Hash as fed
use Rattle.std.specs.Hash.{HashWrites, Alike, on_Alike, and-Alike, items_Alike, same_Alike}
use Rattle.std.proofs.Common.{true, refl, ap}
use Rattle.std.proofs.lemmas.Bool.Decides.{Decides-eqb}
use Rattle.daachorse_array.specs.Depths.{IsDepthTable}

pub record Automaton (P F : Type 0) : Type 0 where
  pub parts : P
  -- haystacks are read folded, and so were the patterns
  pub folds : Bool
  pub filter : Option F
  -- of each element the length of its text, or nothing where depths are not cached
  pub depths : List ℕ

-- no depths are cached, or those of all n elements, by units below m
abbrev pub MayHaveDepths : (ℕ → ℕ → Option ℕ) → ℕ → ℕ → List ℕ → Type 0
MayHaveDepths child m n depths = (depths ≡ []) ⊎ IsDepthTable child m n depths

module _ {P F : Type 0} where
  -- equal parts, the same option, equal filters and equal depths
  abbrev pub automaton_eq : (P → P → Bool) → (F → F → Bool) → Automaton P F → Automaton P F → Bool
  automaton_eq E D =
      eq_of_both (on (λ a. a.parts) E)
      (eq_of_both (on (λ a. a.folds) beq) (eq_of_both (on (λ a. a.filter) (option_eq D)) (on (λ a. a.depths) (pointwise nat_eq))))

  -- what an automaton feeds a hasher
  abbrev pub automaton_input : (P → HashWrites) → (F → HashWrites) → Automaton P F → HashWrites
  automaton_input G H a = G a.parts ++ (fed.bool a.folds ++ (fed.option H a.filter ++ fed.slice fed.u32 a.depths))

-- ---- the laws of these

options_alike : {F : Type 0} {D : F → F → Bool} {H : F → HashWrites} → Alike D H → (x y : Option F) → option_eq D x y ≡ true → fed.option H x ≡ fed.option H y
options_alike law None None e = refl
options_alike law None (Some y) e = cc
options_alike law (Some x) None e = cc
options_alike {H = H} law (Some x) (Some y) e = ap (λ more. fed.isize (pos 1) ++ more) (law.fed x y e)

module _ {P F : Type 0} {E : P → P → Bool} {D : F → F → Bool} (filters : IsEquivalence D) where
  pub automaton_per : IsPartialEquivalence E → IsPartialEquivalence (automaton_eq E D)
  automaton_per law =
      and_per (on_per (λ a. a.parts) law)
      (and_per (on_per (λ a. a.folds) (partial_equiv_from_equiv bool_eq_equiv))
      (and_per (on_per (λ a. a.filter) (partial_equiv_from_equiv (options_equiv filters))) (on_per (λ a. a.depths) (lists_per (partial_equiv_from_equiv nat_eq_equiv)))))

  pub automaton_equiv : IsEquivalence E → IsEquivalence (automaton_eq E D)
  automaton_equiv law =
      and_equiv (on_equiv (λ a. a.parts) law)
      (and_equiv (on_equiv (λ a. a.folds) bool_eq_equiv) (and_equiv (on_equiv (λ a. a.filter) (options_equiv filters)) (on_equiv (λ a. a.depths) (lists_equiv nat_eq_equiv))))

module _ {P F : Type 0} {E : P → P → Bool} {D : F → F → Bool} {G : P → HashWrites} {H : F → HashWrites} where
  pub automaton_alike : Alike D H → ((x y : P) → E x y ≡ true → G x ≡ G y) → (a b : Automaton P F) → automaton_eq E D a b ≡ true → automaton_input G H a ≡ automaton_input G H b
  automaton_alike filters law = whole.fed
    where
      whole : Alike (automaton_eq E D) (automaton_input G H)
      whole =
          and-Alike (on_Alike (λ a. a.parts) (record { fed = law }))
          (and-Alike (on_Alike (λ a. a.folds) (same_Alike fed.bool booleans_Decides))
          (and-Alike (on_Alike (λ a. a.filter) (record { fed = options_alike filters })) (on_Alike (λ a. a.depths) (items_Alike (same_Alike fed.u32 Decides-eqb)))))
