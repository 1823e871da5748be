-- The form of a coding: the table as a list, and then the size of the alphabet.
use Rattle.std.specs.Prelude.{ℕ, ◌+◌, ◌*◌, ◌<◌, ◌^◌, List, length, All, ◌++◌, refl}
use Rattle.std.specs.Int.{w32}
use Rattle.daachorse_serializer.specs.Forms.{Taken, IsForm, over, take_pair, list_form, number_form, take_list, take_number}
use Rattle.daachorse_serializer.specs.Laws.{law_through, list_law, number_law, pair_law}
use Rattle.daachorse_charwise_states.specs.Codings.{Coding}

-- each entry, how many there are, and the size are numbers of 32 bits
pub record AreNumbers (m : Coding) : Type 0 where
  pub entries : All (λ n. n < 2 ^ 32) m.table
  pub count : length m.table < 2 ^ 32
  pub alphabet_size : m.alphabet_size < 2 ^ 32

abbrev pub fields_of : Coding → List ℕ × ℕ
fields_of m = (m.table, m.alphabet_size)

abbrev pub coding_from : List ℕ × ℕ → Coding
coding_from p = record { table = p.0; alphabet_size = p.1 }

abbrev pub coding_form : Coding → List ℕ
coding_form m = list_form (number_form w32) m.table ++ number_form w32 m.alphabet_size

abbrev pub take_coding : List ℕ → Taken Coding
take_coding bytes = over coding_from (take_pair (take_list (take_number w32)) (take_number w32) bytes)

-- how long the form is
abbrev pub coding_len : Coding → ℕ
coding_len m = 4 * length m.table + 4 + 4

-- A coding is read back from its form.
pub coding_law : IsForm (λ m. Unit {0} × AreNumbers m) coding_form take_coding coding_len
coding_law =
    law_through coding_from fields_of _ (λ m h. ((h.1.count, h.1.entries), h.1.alphabet_size)) (λ m h. refl)
    (pair_law (list_law (number_law w32)) (number_law w32))
