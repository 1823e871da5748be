-- What an entry of a table says: the code of its code point, or that there is none.
use Rattle.std.proofs.Common.{◌≡◌, ◌≢◌, ℕ, ◌<◌, ◌==◌, true, false, cond, List, length, slice_index, slice_get, Option, Some, None, sym, ap, ◌∙◌, arith}
use Rattle.std.proofs.lemmas.Option.{slice_get-get_or}
use Rattle.daachorse_charwise_states.specs.Codings.{Coding, code_of, entry_code}

module _ (coding : Coding) (table : List ℕ) (same : table ≡ coding.table) (u : ℕ) (less : u < length table) where
  entry_at : slice_get coding.table u ≡ Some (slice_index table u)
  entry_at = ap (λ xs. slice_get xs u) (sym same) ∙ slice_get-get_or table u 0 less

  pub code_read : slice_index table u ≢ 4294967295 → code_of coding u ≡ Some (slice_index table u)
  code_read other = ap entry_code entry_at ∙ (let test : (slice_index table u == 4294967295) ≡ false = grind (arith, other) in ap (λ b. cond {A = Option ℕ} b None (Some (slice_index table u))) test)

  pub none_read : slice_index table u ≡ 4294967295 → code_of coding u ≡ None
  none_read here = ap entry_code entry_at ∙ (let test : (slice_index table u == 4294967295) ≡ true = grind (arith, here) in ap (λ b. cond {A = Option ℕ} b None (Some (slice_index table u))) test)
