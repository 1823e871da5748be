-- Texts that are joined, each ending where the next begins.
use Rattle.std.proofs.Common.{◌≡◌, ◌≢◌, ℕ, zero, suc, ◌-◌, ◌<◌, ◌≤◌, List, [], ◌∷◌, get_or, length, refl, ap, subst, arith}
use Rattle.daachorse_c.specs.Patterns.{AreEnds}

numbered : (ends : List ℕ) (start size i : ℕ) → AreEnds start size ends → i < length ends → (get_or (start ∷ ends) i 0 ≤ get_or ends i 0) × (get_or ends i 0 ≤ size)
numbered [] start size i are lt = absurd (omega (arith, lt))
numbered (e ∷ es) start size zero are lt = (are.0, are.1)
numbered (e ∷ es) start size (suc i) are lt = numbered es e size i are.2 (omega (arith, lt))

before_it : (ends : List ℕ) (start i : ℕ) → i ≢ 0 → get_or (start ∷ ends) i 0 ≡ get_or ends (i - 1) 0
before_it ends start zero some = absurd (some refl)
before_it ends start (suc i) some = let e : i ≡ suc i - 1 = omega arith in ap (λ k. get_or ends k 0) e

-- a text begins where the one before it ends, and ends within the bytes
pub in_order : (ends : List ℕ) (size i : ℕ) → AreEnds 0 size ends → i ≢ 0 → i < length ends → (get_or ends (i - 1) 0 ≤ get_or ends i 0) × (get_or ends i 0 ≤ size)
in_order ends size i are some lt = let n = numbered ends 0 size i are lt in (subst (λ k. k ≤ get_or ends i 0) (before_it ends 0 i some) n.0, n.1)
