-- Words of the plain searches: what is looked for at an end, and what is found there.
use Rattle.std.specs.Prelude.{ℕ, ◌-◌, nat_lt, Bool, List, [], take, Option, Some, None, option_map}
use Rattle.daachorse_model.specs.declared.Match.{Match}
use Rattle.daachorse_model.specs.declared.slow.Width.{Width}
use Rattle.daachorse_model.specs.declared.slow.Width.TheVariants.{Bytes, Chars}
use Rattle.daachorse_model.specs.declared.slow.AtEnd.{AtEnd}
use Rattle.daachorse_model.specs.declared.slow.AtEnd.TheVariants.{Every, First, FirstEmpty}
use Rattle.daachorse_model.specs.declared.slow.leftmost.Longest.{Longest}
use Rattle.daachorse_model.specs.Units.{byte_width, char_width, size}
use Rattle.daachorse_model.specs.Dictionary.{Dictionary}
use Rattle.daachorse_model.specs.Matches.{matches_of, matches_after}

-- how many bytes a unit takes
abbrev pub width_of : Width → ℕ → ℕ
width_of Bytes = byte_width
width_of Chars = char_width

-- the matches that are looked for at the end of t
abbrev pub matches_at_end : {V : Type 0} → AtEnd → (ℕ → ℕ) → Dictionary V → List ℕ → List (Match V)
matches_at_end Every width K t = matches_after width K t
matches_at_end First width K t = take 1 (matches_after width K t)
matches_at_end FirstEmpty width K t = take 1 (matches_of K (size width t) (size width t) [])

-- the key, with its value, that begins the text
abbrev pub key_found : {V : Type 0} → List ℕ → Option (Longest V) → Option (List ℕ × V)
key_found text best = option_map (λ b. (take b.units text, b.value)) best

-- how many units of the match follow its first
abbrev pub skip_of : {V : Type 0} → Option (Longest V) → ℕ
skip_of None = 0
skip_of (Some best) = best.units - 1

-- whether a nonempty match comes right before the next place that is looked at
abbrev pub after_of : {V : Type 0} → Bool → Option (Longest V) → Bool
after_of after None = after
after_of after (Some best) = nat_lt 0 best.units
