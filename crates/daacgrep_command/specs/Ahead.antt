-- The lines at the front of a text, where a pattern occurs in each, or in none.
use Rattle.std.specs.Prelude.{◌≡◌, ℕ, zero, suc, ◌+◌, ◌-◌, ◌<◌, ◌≤◌, ◌==◌, Bool, true, false, not, List, Option, Some, None, IfSome, drop}
use Rattle.std.specs.Prelude.{length, nat_lt, take, if◌then◌else◌}
use Rattle.std.specs.List.{position_or_len}
use Rattle.daacgrep_command.specs.declared.ahead.Ahead.{Ahead}
use Rattle.daacgrep_command.specs.declared.ahead.Front.{Front}
use Rattle.daacgrep_command.specs.Printed.{occurs}
use Rattle.daacgrep_command.specs.Sought.{Sought}

module _ (mark : ℕ) (text : List ℕ) where
  -- how long the first line is
  abbrev pub first_len : ℕ
  first_len = position_or_len (λ b. b == mark) text

  -- and how long with its mark
  abbrev pub first_end : ℕ
  first_end = if nat_lt first_len (length text) then first_len + 1 else first_len

module _ (s : Sought) (mark : ℕ) where
  -- the text begins with a line of this length, which ends here with its mark, and a pattern occurs in it, or none does
  pub record BeginsWithLine (has : Bool) (len end : ℕ) (text : List ℕ) : Type 0 where
    pub some : 0 < length text
    pub len_is : len ≡ first_len mark text
    pub end_is : end ≡ first_end mark text
    pub has_is : occurs s (take len text) ≡ has

  -- the text begins with so many lines, which take n bytes, and a pattern occurs in each, or in none
  abbrev pub BeginsWithLines : Bool → ℕ → ℕ → List ℕ → Type 0
  BeginsWithLines has zero n text = n ≡ 0
  BeginsWithLines has (suc lines) n text =
      BeginsWithLine has (first_len mark text) (first_end mark text) text × (first_end mark text ≤ n)
      × BeginsWithLines has lines (n - first_end mark text) (drop (first_end mark text) text)

  -- the first n bytes are lines without a match
  abbrev pub AreClear : ℕ → List ℕ → Type 0
  AreClear n text = (lines : ℕ) × BeginsWithLines false lines n text

  -- lines without a match, and where one is found, a line with a match after them
  pub record IsFront (text : List ℕ) (f : Front) : Type 0 where
    pub clear : AreClear f.clear text
    pub found : IfSome f.found (λ line. BeginsWithLine true line.0 line.1 (drop f.clear text))
    pub some : f.found ≡ None → 0 < f.clear

  module _ (inverts : Bool) (text : List ℕ) where
    -- the next line that is selected, and lines without a match after it
    pub record IsAhead (a : Ahead) : Type 0 where
      pub lines : ℕ
      pub skipped : BeginsWithLines inverts lines a.skip text
      pub next : BeginsWithLine (not inverts) a.len a.end (drop a.skip text)
      pub clear : AreClear a.clear (drop a.end (drop a.skip text))

    -- there is such a line, or none is selected
    abbrev pub IsNext : Option Ahead → Type 0
    IsNext None = (lines : ℕ) × BeginsWithLines inverts lines (length text) text
    IsNext (Some a) = IsAhead a
