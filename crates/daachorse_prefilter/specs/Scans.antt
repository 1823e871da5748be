-- What the state of a scan tells of the windows of a text.
use Rattle.std.specs.Prelude.{◌≡◌, ℕ, suc, ◌+◌, ◌-◌, ◌*◌, ◌%◌, ◌^◌, ◌<◌, ◌≤◌, bit_or, Bool, true, false, nat_le, ◌&&◌, List, drop, slice_index}
use Rattle.daachorse_model.specs.Filter.{is_clear, pairs_pass, passes}

-- the last b + 1 pairs before place i, of those from pos on, are the first of a window that may pass
abbrev pub has_begun : List ℕ → List ℕ → ℕ → ℕ → ℕ → Bool
has_begun entries text pos i b =
    nat_le (pos + b + 2) i && pairs_pass (λ pair. slice_index entries pair) 0 (suc b) (drop (i - b - 2) text)

-- bit b of the state is 0 just where this is so, up to the bit of a window's last pair
abbrev pub AreBits : List ℕ → List ℕ → ℕ → ℕ → ℕ → ℕ → Type 0
AreBits entries text last pos i state = (b : ℕ) → b ≤ last → is_clear state b ≡ has_begun entries text pos i b

-- the state knows of each of the last n places whether a window ends there
pub record HasEnded (entries text : List ℕ) (last pos i n state : ℕ) : Type 0 where
  pub bits : AreBits entries text last pos (i + n) state
  pub ends : (d : ℕ) → d < n → is_clear state (last + d) ≡ has_begun entries text pos (i + n - d) last

-- behind any state that is right, shifted past n pairs, what these pairs make alone gives a state that knows of their places
abbrev pub EndsRound : List ℕ → List ℕ → ℕ → ℕ → ℕ → ℕ → Type 0
EndsRound entries text last i n read = (pos s : ℕ) → pos + 1 ≤ i → AreBits entries text last pos i s → HasEnded entries text last pos i n (bit_or ((s * 2 ^ n) % 2 ^ 32) read)

-- no window that ends before place i passes
abbrev pub NonePasses : List ℕ → List ℕ → ℕ → ℕ → ℕ → Type 0
NonePasses entries text m pos i = (k : ℕ) → pos ≤ k → k + m ≤ i → passes (λ pair. slice_index entries pair) m (drop k text) ≡ false

-- of the windows of a round whose bit is set, the first begins at r: the window with bit b begins at e - b, so it has the highest bit
pub record IsFirstWindow (e passing r : ℕ) : Type 0 where
  pub window : ℕ
  pub set : is_clear passing window ≡ false
  pub begins : r ≡ e - window
  pub earlier : (b : ℕ) → window < b → is_clear passing b ≡ true
