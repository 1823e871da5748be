-- Equal filters, and what they feed a hasher.
use Rattle.std.specs.Prelude.{ℕ, Bool, ◌++◌, nat_eq, List, refl}
use Rattle.std.specs.Cmp.{IsEquivalence, and_equiv, on_equiv, nat_eq_equiv}
use Rattle.std.specs.Cmp.Lexicographic.{pointwise, lists_equiv}
use Rattle.std.specs.Ordering.{on, eq_of_both}
use Rattle.std.specs.Hash as fed
use Rattle.std.specs.Hash.{HashWrites, Alike, on_Alike, and-Alike, same_Alike}
use Rattle.std.proofs.lemmas.Bool.Decides.{Decides-eqb}
use Rattle.std.proofs.lemmas.Slice.Eq.{slice_eq-Decides}
use Rattle.daachorse_prefilter.specs.Filters.{Filter}
use Rattle.daachorse_prefilter.specs.PairTables.{transposed_table}

-- equal windows and equal entries
abbrev pub filter_eq : Filter → Filter → Bool
filter_eq = eq_of_both (on (λ f. f.window) nat_eq) (on (λ f. f.entries) (pointwise nat_eq))

-- the entries in the order in which they stand in memory
abbrev pub table_input : List ℕ → HashWrites
table_input entries = fed.slice fed.u8 (transposed_table entries)

-- the window, and then the entries in the order in which they stand in memory
abbrev pub filter_input : Filter → HashWrites
filter_input f = fed.u8 f.window ++ table_input f.entries

pub filter_equiv : IsEquivalence filter_eq
filter_equiv = and_equiv (on_equiv (λ f. f.window) nat_eq_equiv) (on_equiv (λ f. f.entries) (lists_equiv nat_eq_equiv))

-- equal tables stand in memory alike
pub table_alike : Alike (pointwise nat_eq) table_input
table_alike = same_Alike table_input (λ xs ys. slice_eq-Decides Decides-eqb xs ys (pointwise nat_eq xs ys) refl)

pub filter_alike : Alike filter_eq filter_input
filter_alike = and-Alike (on_Alike (λ f. f.window) (same_Alike fed.u8 Decides-eqb)) (on_Alike (λ f. f.entries) table_alike)
