-- The worked examples of listings, states, the filter, steppers and the programs' texts, computed.
use Rattle.std.proofs.Common.{◌≡◌, ℕ, List, [], ◌∷◌, ◌++◌, length, map, take, refl, codes, Some, None}
use Rattle.std.specs.Fmt.{digits}
use Rattle.daachorse_model.specs.declared.MatchKind.TheVariants.{Standard, LeftmostLongest, LeftmostFirst}
use Rattle.daachorse_model.specs.Units.{byte_width}
use Rattle.daachorse_model.specs.Dictionary.{dictionary, kept_registrations}
use Rattle.daachorse_model.specs.Matches.{overlapping, standard, matches_after, standard_after}
use Rattle.daachorse_model.specs.Leftmost.{leftmost}
use Rattle.daachorse_model.specs.Prefixes.{HasPrefixes, listing, long, link, cut, left_fail, begins_entry}
use Rattle.daachorse_model.specs.Filter.{next_position, filter_entry}
use Rattle.daachorse_model.specs.Program.{with_numbers, pattern_lines, match_text}
use Rattle.daachorse_model.proofs.PrefixCounts.{prefixes-is}
use Rattle.daachorse_model.proofs.Rows.{found, patterns}

same_text_twice_listing : listing {V = ℕ} ((codes "ab", 0) ∷ (codes "a", 1) ∷ (codes "ab", 2) ∷ [])
    ≡ (codes "a", 1) ∷ (codes "ab", 0) ∷ (codes "ab", 2) ∷ []
same_text_twice_listing = refl

abbrev five : List (List ℕ × ℕ)
five = kept_registrations LeftmostFirst (with_numbers 0 (codes "ab" ∷ codes "a" ∷ codes "abcd" ∷ []))

bytes_listing : listing (with_numbers 0 ((255 ∷ []) ∷ (97 ∷ 0 ∷ []) ∷ (0 ∷ []) ∷ (0 ∷ 255 ∷ []) ∷ []))
    ≡ (0 ∷ [], 2) ∷ (0 ∷ 255 ∷ [], 3) ∷ (97 ∷ 0 ∷ [], 1) ∷ (255 ∷ [], 0) ∷ []
bytes_listing = refl

leftmost_first_listing : listing five ≡ (codes "a", 1) ∷ (codes "ab", 0) ∷ []
leftmost_first_listing = refl

leftmost_first_states : HasPrefixes (dictionary LeftmostFirst (with_numbers 0 (codes "ab" ∷ codes "a" ∷ codes "abcd" ∷ []))) 3
leftmost_first_states = prefixes-is five

characters_listing : listing (with_numbers 0 (codes "全世界" ∷ codes "世界" ∷ codes "に" ∷ []))
    ≡ (codes "に", 2) ∷ (codes "世界", 1) ∷ (codes "全世界", 0) ∷ []
characters_listing = refl

states_row : HasPrefixes (patterns Standard (codes "abba" ∷ codes "baaba" ∷ codes "ababa" ∷ [])) 13
states_row = prefixes-is (with_numbers 0 (codes "abba" ∷ codes "baaba" ∷ codes "ababa" ∷ []))

abbrev aria : ℕ → ℕ
aria = filter_entry (codes "aria" ∷ codes "iris" ∷ [])

filter_row : map (next_position aria 4 (codes "xxxariaxxx")) (0 ∷ 5 ∷ 10 ∷ 11 ∷ []) ≡ 3 ∷ 10 ∷ 10 ∷ 10 ∷ []
filter_row = refl

filter_false_candidate_row : next_position aria 4 (codes "xxarisxxxx") 0 ≡ 2
filter_false_candidate_row = refl

stepper_overlapping_row : map (matches_after byte_width (patterns Standard (codes "ab" ∷ codes "b" ∷ []))) (codes "a" ∷ codes "ab" ∷ codes "abb" ∷ [])
    ≡ [] ∷ (found 0 2 0 ∷ found 1 2 1 ∷ []) ∷ (found 2 3 1 ∷ []) ∷ []
stepper_overlapping_row = refl

-- of the false candidate an overlapping search gives nothing
filter_row_matches : overlapping byte_width (patterns Standard (codes "aria" ∷ codes "iris" ∷ [])) (codes "xxarisxaria") ≡ found 7 11 0 ∷ []
filter_row_matches = refl

stepper_first_row : map (λ t. take 1 (matches_after byte_width (patterns Standard (codes "a" ∷ codes "ab" ∷ [])) t)) (codes "a" ∷ codes "ab" ∷ [])
    ≡ (found 0 1 0 ∷ []) ∷ (found 0 2 1 ∷ []) ∷ []
stepper_first_row = refl

-- the depth of a stepper's state: the length of its text
stepper_depth_row : map (λ t. length (long (begins_entry (with_numbers 0 (codes "ab" ∷ codes "b" ∷ []))) t)) ([] ∷ codes "a" ∷ codes "ab" ∷ codes "abb" ∷ [])
    ≡ 0 ∷ 1 ∷ 2 ∷ 1 ∷ []
stepper_depth_row = refl

overlapping_text : match_text (overlapping byte_width (patterns Standard (pattern_lines (codes "bcd" ++ 10 ∷ codes "ab" ++ 10 ∷ codes "a" ++ 10 ∷ []))) (codes "abcd"))
    ≡ codes "0 1 2" ++ 10 ∷ codes "0 2 1" ++ 10 ∷ codes "1 4 0" ++ 10 ∷ []
unfolding digits
overlapping_text = refl

empty_key_text : match_text (standard byte_width (patterns Standard (pattern_lines (10 ∷ []))) (codes "a"))
    ≡ codes "0 0 0" ++ 10 ∷ codes "1 1 0" ++ 10 ∷ []
unfolding digits
empty_key_text = refl

no_pattern_text : match_text (standard byte_width (patterns Standard (pattern_lines [])) (codes "a")) ≡ []
unfolding digits
no_pattern_text = refl

longest_text : match_text (leftmost byte_width (patterns LeftmostLongest (pattern_lines (codes "ab" ++ 10 ∷ codes "a" ++ 10 ∷ codes "abcd" ++ 10 ∷ []))) (codes "abcd"))
    ≡ codes "0 4 2" ++ 10 ∷ []
unfolding digits
longest_text = refl

first_text : match_text (leftmost byte_width (patterns LeftmostFirst (pattern_lines (codes "ab" ++ 10 ∷ codes "a" ++ 10 ∷ codes "abcd" ++ 10 ∷ []))) (codes "abcd"))
    ≡ codes "0 2 0" ++ 10 ∷ []
unfolding digits
first_text = refl

stepper_row : map (standard_after byte_width (patterns Standard (codes "ab" ∷ []))) (codes "a" ∷ codes "ab" ∷ codes "aba" ∷ codes "abab" ∷ [])
    ≡ None ∷ Some (found 0 2 0) ∷ None ∷ Some (found 2 4 0) ∷ []
stepper_row = refl

stepper_empty_row : map (standard_after byte_width (patterns Standard (codes "a" ∷ [] ∷ []))) ([] ∷ codes "a" ∷ [])
    ≡ Some (found 0 0 1) ∷ Some (found 1 1 1) ∷ []
stepper_empty_row = refl

-- the states of a leftmost search of [abc, b]: after "ab" the whole of it; after "abd" nothing, since b starts earlier
abbrev cut_row_patterns : List (List ℕ × ℕ)
cut_row_patterns = with_numbers 0 (codes "abc" ∷ codes "b" ∷ [])

cut_rows : map (cut (dictionary LeftmostLongest cut_row_patterns) (begins_entry cut_row_patterns)) (codes "ab" ∷ codes "abd" ∷ codes "b" ∷ codes "bab" ∷ [])
    ≡ codes "ab" ∷ [] ∷ codes "b" ∷ [] ∷ []
cut_rows = refl

link_rows : map (link (begins_entry cut_row_patterns)) (codes "ab" ∷ codes "abc" ∷ codes "b" ∷ []) ≡ codes "b" ∷ [] ∷ [] ∷ []
link_rows = refl

left_fail_rows : map (left_fail (dictionary LeftmostLongest cut_row_patterns) (begins_entry cut_row_patterns)) (codes "a" ∷ codes "ab" ∷ codes "abc" ∷ codes "b" ∷ [])
    ≡ Some [] ∷ Some (codes "b") ∷ None ∷ None ∷ []
left_fail_rows = refl
