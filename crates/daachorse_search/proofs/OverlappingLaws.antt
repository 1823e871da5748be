-- A walk that never began again finds all matches, and its turns are bounded by all that it read.
use Rattle.std.proofs.Common.{◌≡◌, ℕ, Bool, true, false, List, [], ◌∷◌, ◌++◌, length, take, refl, sym, ap, subst, length-append, arith}
use Rattle.std.specs.Bool.{OnTrue}
use Rattle.std.specs.Prelude.{◌↔◌, IsTrue, map}
use Rattle.std.proofs.lemmas.List.{length-map}
use Rattle.daachorse_core.specs.Seen.{units}
use Rattle.daachorse_model.specs.declared.Match.{Match}
use Rattle.daachorse_model.specs.Outputs.{matches_of_outputs}
use Rattle.daachorse_model.specs.Prefixes.{IsLong}
use Rattle.daachorse_model.specs.Matches.{shifted}
use Rattle.daachorse_model.proofs.Steps.{IsLong-nil}
use Rattle.daachorse_search.specs.Afresh.{GoesOnAfresh}
use Rattle.daachorse_search.specs.Searches.{all_found, first_found}
use Rattle.daachorse_search.specs.Views.{AutomatonView}
use Rattle.daachorse_search.specs.Walks.{Walked, IsFresh}
use Rattle.daachorse_search.proofs.AfreshLaws.{GoesOnAfresh-all}

pub length-matches : {V : Type 0} (place : ℕ) (l : List (V × ℕ)) → length (matches_of_outputs place l) ≡ length l
length-matches place l = length-map l _

-- what a test says where it is true
pub on_true : (b : Bool) (P Q : Type 0) → (IsTrue b ↔ Q) → (Q → P) → OnTrue b P
on_true true P Q is h = h (is.0 refl)
on_true false P Q is h = tt

nil_right : (before since : List ℕ) → before ++ since ≡ [] → since ≡ []
nil_right before [] e = refl
nil_right before (u ∷ since) e = absurd (omega (arith, ap length e, length-append before (u ∷ since)))

first_even : {V : Type 0} (d : ℕ) (ms : List (Match V)) → take 1 (map (shifted d) ms) ≡ map (shifted d) (take 1 ms)
first_even d [] = refl
first_even d (m ∷ ms) = refl

module _ {V A : Type 0} (width : ℕ → ℕ) (sees : A → AutomatonView V) where
  -- a walk stands at the root where nothing was read
  pub root_begins : (s : Walked A) (b : Bool) → (IsTrue b ↔ IsLong (sees s.automaton).content s.seen.since []) → units s.seen ≡ [] → IsTrue b
  root_begins s b at none =
      let P : List ℕ → Type 0 = λ w. IsLong (sees s.automaton).content w [] in
      at.1 (subst P (sym (nil_right s.seen.before s.seen.since none)) (IsLong-nil (sees s.automaton).content))

  -- the test whether no end of what was read begins a key
  abbrev AtRoot : Walked A → Bool → Type 0
  AtRoot s b = IsTrue b ↔ IsLong (sees s.automaton).content (units s.seen) []

  pub root_of_read : (s : Walked A) (b : Bool) → IsFresh s.seen → (IsTrue b ↔ IsLong (sees s.automaton).content s.seen.since []) → AtRoot s b
  root_of_read s b fresh at = let P : List ℕ → Type 0 = λ x. IsTrue b ↔ IsLong (sees s.automaton).content (x ++ s.seen.since) [] in subst P (sym fresh.fresh) at

  pub read_begins : (s : Walked A) (b : Bool) → AtRoot s b → units s.seen ≡ [] → IsTrue b
  read_begins s b at none =
      let P : List ℕ → Type 0 = λ w. IsLong (sees s.automaton).content w [] in
      at.1 (subst P (sym none) (IsLong-nil (sees s.automaton).content))

  -- there all matches are found as by a walk that begins there
  pub all_afresh : (s : Walked A) (b : Bool) → AtRoot s b → OnTrue b (GoesOnAfresh width (sees s.automaton).content (all_found width sees s.automaton) (units s.seen))
  all_afresh s b at =
      on_true b (GoesOnAfresh width (sees s.automaton).content (all_found width sees s.automaton) (units s.seen)) (IsLong (sees s.automaton).content (units s.seen) []) at
      (GoesOnAfresh-all width (sees s.automaton).content (λ l. l) refl (λ d ms. refl) (units s.seen))

  -- and the first of them at each end
  pub first_afresh : (s : Walked A) (b : Bool) → AtRoot s b → OnTrue b (GoesOnAfresh width (sees s.automaton).content (first_found width sees s.automaton) (units s.seen))
  first_afresh s b at =
      on_true b (GoesOnAfresh width (sees s.automaton).content (first_found width sees s.automaton) (units s.seen)) (IsLong (sees s.automaton).content (units s.seen) []) at
      (GoesOnAfresh-all width (sees s.automaton).content (take 1) refl first_even (units s.seen))
