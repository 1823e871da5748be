-- The worked examples, computed.
use Rattle.std.proofs.Common.{◌≡◌, ℕ, List, [], ◌∷◌, refl, codes}
use Rattle.daachorse_model.specs.declared.Match.{Match}
use Rattle.daachorse_model.specs.declared.MatchKind.{MatchKind}
use Rattle.daachorse_model.specs.declared.MatchKind.TheVariants.{Standard, LeftmostLongest, LeftmostFirst}
use Rattle.daachorse_model.specs.Units.{byte_width, char_width}
use Rattle.daachorse_model.specs.Dictionary.{Dictionary, dictionary}
use Rattle.daachorse_model.specs.Program.{with_numbers}
use Rattle.daachorse_model.specs.Matches.{overlapping, no_suffix, standard}
use Rattle.daachorse_model.specs.Leftmost.{leftmost}

abbrev pub found : ℕ → ℕ → ℕ → Match ℕ
found s e v = record { start = s; end = e; value = v }

-- the dictionary of patterns with the values 0, 1, 2 ..
abbrev pub patterns : MatchKind → List (List ℕ) → Dictionary ℕ
patterns kind ps = dictionary kind (with_numbers 0 ps)

overlapping_row : overlapping byte_width (patterns Standard (codes "bcd" ∷ codes "ab" ∷ codes "a" ∷ [])) (codes "abcd")
    ≡ found 0 1 2 ∷ found 0 2 1 ∷ found 1 4 0 ∷ []
overlapping_row = refl

standard_row : standard byte_width (patterns Standard (codes "bcd" ∷ codes "ab" ∷ codes "a" ∷ [])) (codes "abcd")
    ≡ found 0 1 2 ∷ found 1 4 0 ∷ []
standard_row = refl

first_at_each_end_row : no_suffix byte_width (patterns Standard (codes "a" ∷ codes "ab" ∷ [] ∷ [])) (codes "ab")
    ≡ found 0 0 2 ∷ found 0 1 0 ∷ found 0 2 1 ∷ []
first_at_each_end_row = refl

same_text_twice_row : overlapping byte_width (dictionary Standard ((codes "ab", 0) ∷ (codes "a", 1) ∷ (codes "ab", 2) ∷ [])) (codes "ab")
    ≡ found 0 1 1 ∷ found 0 2 0 ∷ found 0 2 2 ∷ []
same_text_twice_row = refl

leftmost_first_row : leftmost byte_width (patterns LeftmostFirst (codes "ab" ∷ codes "a" ∷ codes "abcd" ∷ [])) (codes "abcd")
    ≡ found 0 2 0 ∷ []
leftmost_first_row = refl

leftmost_first_later_row : leftmost byte_width (patterns LeftmostFirst (codes "abcd" ∷ codes "ab" ∷ [])) (codes "abcd abx")
    ≡ found 0 4 0 ∷ found 5 7 1 ∷ []
leftmost_first_later_row = refl

empty_key_between_row : leftmost byte_width (patterns LeftmostLongest (codes "abc" ∷ [] ∷ [])) (codes "ab")
    ≡ found 0 0 1 ∷ found 1 1 1 ∷ found 2 2 1 ∷ []
empty_key_between_row = refl

no_empty_match_after_a_match_row : leftmost byte_width (patterns LeftmostLongest (codes "a" ∷ codes "abcd" ∷ [] ∷ [])) (codes "abc")
    ≡ found 0 1 0 ∷ found 2 2 2 ∷ found 3 3 2 ∷ []
no_empty_match_after_a_match_row = refl

empty_key_at_characters_row : leftmost char_width (patterns LeftmostLongest (codes "ab" ∷ [] ∷ [])) (codes "aé")
    ≡ found 0 0 1 ∷ found 1 1 1 ∷ found 3 3 1 ∷ []
empty_key_at_characters_row = refl

characters_with_empty_key_row : leftmost char_width (patterns LeftmostLongest (codes "a" ∷ codes "æ" ∷ codes "あ" ∷ [] ∷ [])) (codes "いあabcÆæう")
    ≡ found 0 0 3 ∷ found 3 6 2 ∷ found 6 7 0 ∷ found 8 8 3 ∷ found 9 9 3 ∷ found 11 13 1 ∷ found 16 16 3 ∷ []
characters_with_empty_key_row = refl

standard_characters_row : standard char_width (patterns Standard (codes "全世界" ∷ codes "世界" ∷ codes "に" ∷ [])) (codes "全世界中に")
    ≡ found 0 9 0 ∷ found 12 15 2 ∷ []
standard_characters_row = refl

values_row : overlapping byte_width (dictionary Standard ((codes "bcd", 0) ∷ (codes "ab", 10) ∷ (codes "a", 20) ∷ [])) (codes "abcd")
    ≡ found 0 1 20 ∷ found 0 2 10 ∷ found 1 4 0 ∷ []
values_row = refl

empty_key_row : standard byte_width (patterns Standard (codes "a" ∷ [] ∷ [])) (codes "aa")
    ≡ found 0 0 1 ∷ found 1 1 1 ∷ found 2 2 1 ∷ []
empty_key_row = refl

longest_row : leftmost byte_width (patterns LeftmostLongest (codes "ab" ∷ codes "bcd" ∷ [])) (codes "abcd")
    ≡ found 0 2 0 ∷ []
longest_row = refl

inner_row : leftmost byte_width (patterns LeftmostLongest (codes "abc" ∷ codes "b" ∷ [])) (codes "abd")
    ≡ found 1 2 1 ∷ []
inner_row = refl
