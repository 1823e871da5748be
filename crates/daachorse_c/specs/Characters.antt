-- Places in characters.
use Rattle.std.specs.Prelude.{ℕ, ◌+◌, ◌-◌, ◌^◌, ◌||◌, Bool, List, cond, min, take, count_by, nat_lt, nat_le, slice_index}
use Rattle.daachorse_c.specs.declared.found.CMatch.{CMatch}

-- a character's UTF-8 begins with this byte
abbrev pub begins_character : ℕ → Bool
begins_character b = nat_lt b 128 || nat_le 192 b

-- how many characters begin before a place in the text
abbrev pub characters_before : List ℕ → ℕ → ℕ
characters_before text place = count_by begins_character (take place text)

-- 1 if the place is inside a character, and else 0
abbrev pub inside_by : List ℕ → ℕ → ℕ
inside_by text place = cond (begins_character (slice_index text place)) 0 1

-- the text comes after so many bytes and characters, and places count from an origin
module _ (text : List ℕ) (bytes characters origin : ℕ) where
  -- where a place is in the text
  abbrev pub place_in_text : ℕ → ℕ
  place_in_text place = min (place + origin) (2 ^ 64 - 1) - bytes

  -- how many characters begin before a place
  abbrev pub partial_before : ℕ → ℕ
  partial_before place = min (characters + characters_before text (place_in_text place)) (2 ^ 64 - 1)

  -- how many characters end there or before
  abbrev pub ended_at : ℕ → ℕ
  ended_at place = partial_before place - inside_by text (place_in_text place)

  -- the match with its places in characters
  abbrev pub in_characters : CMatch → CMatch
  in_characters m = record { start = partial_before m.start; end = ended_at m.end; value = m.value }
