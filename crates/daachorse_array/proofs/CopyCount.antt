-- One text for each state: as many texts lead somewhere as there are states.
use Rattle.std.proofs.Common.{◌≡◌, ℕ, zero, suc, ◌-◌, ◌<◌, List, refl, arith}
use Rattle.daachorse_model.specs.Paths.{is_reached, Leads}
use Rattle.daachorse_model.specs.Prefixes.{PassesAt}
use Rattle.daachorse_array.specs.Copies.{LinkedTrie, HasStates}
use Rattle.daachorse_array.proofs.ReachedCount.{reached-counted}

-- the states in order, without the dead one
abbrev state_at : ℕ → ℕ
state_at zero = 0
state_at (suc k) = suc (suc k)

states_apart : (k m : ℕ) → k < m → state_at m ≡ state_at k → ⊥
states_apart k zero less e = omega (arith, less)
states_apart zero (suc m) less e = omega (arith, e)
states_apart (suc k) (suc m) less e = omega (arith, less, e)

module _ (t : LinkedTrie) (one_path : (s : ℕ) (v w : List ℕ) → Leads t.child v s → Leads t.child w s → v ≡ w) (n : ℕ) (states : HasStates t n) where
  text_of : (m : ℕ) → m < n - 1 → (w : List ℕ) × Leads t.child w (state_at m)
  text_of zero lt = states.reached 0 (omega (arith, lt)) (λ e. omega (arith, e))
  text_of (suc m) lt = states.reached (suc (suc m)) (omega (arith, lt)) (λ e. omega (arith, e))

  found_by : (s : ℕ) → (s < n) × (s ≡ 1 → ⊥) → (m : ℕ) × (m < n - 1) × (state_at m ≡ s)
  found_by zero is = (0, omega (arith, states.two), refl)
  found_by (suc zero) is = absurd (is.1 refl)
  found_by (suc (suc k)) is = (suc k, omega (arith, is.0), refl)

  -- a text leads to each state but the dead one
  pub states-counted : PassesAt (is_reached t.child) (n - 1)
  states-counted = reached-counted t.child one_path (n - 1) state_at (λ k m less lt e. states_apart k m less e) text_of (λ w s h. found_by s (states.only s w h))
