-- A command that ends for what was asked ends for all that follows from it.
use Rattle.std.proofs.Common.{◌⊎◌, ℕ, zero, suc, inl, inr, List, Option}
use Rattle.daacfind_command.specs.Commands.{Ends}

pub Ends-weaker : {P Q : List ℕ → Type 0} {A B C D : Type 0} → ((bytes : List ℕ) → P bytes → Q bytes) → (A → B) → (C → D)
    → (old new : Option (List ℕ)) (f g n : ℕ) → Ends P A C old new f g n → Ends Q B D old new f g n
Ends-weaker asked fails nothing old new f g zero h = (h.0, asked h.0 h.1, h.2, h.3)
Ends-weaker asked fails nothing old new f g (suc zero) (inl h) = inl (fails h.0, h.1, h.2)
Ends-weaker asked fails nothing old new f g (suc zero) (inr h) = inr (h.0, asked h.0 h.1, h.2, h.3)
Ends-weaker asked fails nothing old new f g (suc (suc zero)) h = (nothing h.0, h.1, h.2)
Ends-weaker asked fails nothing old new f g (suc (suc (suc n))) h = absurd h
