-- The pair that was read is that of what is read at its places.
use Rattle.std.proofs.Common.{◌≡◌, ℕ, ◌+◌, ◌-◌, ◌/◌, ◌%◌, ◌<◌, ◌≤◌, List, map, length, get_or, refl, sym, ap, ◌∙◌, arith}
use Rattle.std.proofs.lemmas.List.{length-map, get_or-map}
use Rattle.daachorse_model.specs.Filter.{is_clear}
use Rattle.daachorse_prefilter.specs.PairTables.{transposed}
use Rattle.daachorse_prefilter.specs.Scans.{AreBits}
use Rattle.daachorse_prefilter.proofs.Scanned.{entry_in, pair_before, next_state, bits_next}

-- the pair that begins at a place, and its entry
pub entry_read : (entries : List ℕ) (as_read : ℕ → ℕ) (h : List ℕ) (place pair entry i : ℕ) → place + 1 < length h → i ≡ place + 1
    → pair % 256 ≡ as_read (get_or h place 0) → pair / 256 ≡ as_read (get_or h (place + 1) 0) → entry ≡ get_or entries (transposed pair) 0
    → entry ≡ entry_in entries (pair_before (map as_read h) i)
entry_read entries as_read h place pair entry i inside at first second is =
    let back : i - 1 ≡ place = omega arith in
    let before : get_or (map as_read h) (i - 1) 0 ≡ pair % 256 = ap (λ n. get_or (map as_read h) n 0) back
    ∙ get_or-map as_read h place 0 0 (omega arith) ∙ sym first in
    let behind : get_or (map as_read h) i 0 ≡ pair / 256 = ap (λ n. get_or (map as_read h) n 0) at
    ∙ get_or-map as_read h (place + 1) 0 0 inside ∙ sym second in
    let same : transposed pair ≡ pair_before (map as_read h) i = omega arith in
    is ∙ ap (λ n. get_or entries n 0) same

-- the state after it
pub bits_read : (entries : List ℕ) (as_read : ℕ → ℕ) (h : List ℕ) (last pos place state pair entry : ℕ) → last ≤ 7 → pos ≤ place
    → place + 1 < length h
    → pair % 256 ≡ as_read (get_or h place 0) → pair / 256 ≡ as_read (get_or h (place + 1) 0) → entry ≡ get_or entries (transposed pair) 0
    → AreBits entries (map as_read h) last pos (place + 1) state
    → AreBits entries (map as_read h) last pos (place + 1 + 1) (next_state state entry)
bits_read entries as_read h last pos place state pair entry small low inside first second is bits =
    let size : length (map as_read h) ≡ length h = length-map h as_read in
    let same = entry_read entries as_read h place pair entry (place + 1) inside refl first second is in
    bits_next entries (map as_read h) last pos (place + 1) state entry small (omega arith) (omega arith)
    (λ b hb. ap (λ e. is_clear e b) same) bits
