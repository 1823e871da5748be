-- The form of a filter: the length of its window as one byte, and the entries of all pairs.
use Rattle.std.specs.Prelude.{◌≡◌, ℕ, ◌≤◌, Bool, true, false, nat_le, ◌&&◌, if◌then◌else◌, List, [], ◌∷◌, ◌++◌, length, take, drop, Some, None, refl}
use Rattle.std.proofs.Common.{sym, ap, ◌∙◌, arith}
use Rattle.std.proofs.lemmas.Bool.{le-leb}
use Rattle.std.proofs.lemmas.List.{take_at, drop_at, take-append-drop, length-append}
use Rattle.daachorse_serializer.specs.Forms.{Taken, Ends, IsForm}
use Rattle.daachorse_prefilter.specs.Filters.{Filter, IsFilter}

abbrev pub filter_form : Filter → List ℕ
filter_form f = f.window ∷ f.entries

-- the filter with this window, whose n entries begin these bytes
abbrev pub take_table : ℕ → ℕ → List ℕ → Taken Filter
take_table n m bytes =
    let taken : Filter × List ℕ = (record { window = m; entries = take n bytes }, drop n bytes) in
    if nat_le 2 m && nat_le m 9 && nat_le n (length bytes) then Some taken else None

-- windows have 2 to 9 bytes, and each pair of bytes has an entry
unfoldable pub take_filter : List ℕ → Taken Filter
take_filter [] = None
take_filter (m ∷ bytes) = take_table 65536 m bytes

table_back : (n : ℕ) (f : Filter) (rest : List ℕ) → 2 ≤ f.window → f.window ≤ 9 → length f.entries ≡ n → take_table n f.window (f.entries ++ rest) ≡ Some (f, rest)
table_back n f rest low high size =
    let is_low : nat_le 2 f.window ≡ true = le-leb 2 f.window low in
    let is_high : nat_le f.window 9 ≡ true = le-leb f.window 9 high in
    let is_long : nat_le n (length (f.entries ++ rest)) ≡ true = le-leb n (length (f.entries ++ rest)) (omega (arith, length-append f.entries rest)) in
    rw (is_low, is_high, is_long, take_at f.entries rest n size, drop_at f.entries rest n size) refl

abbrev bytes_behind : Taken Filter → List ℕ
bytes_behind None = []
bytes_behind (Some p) = p.1

leaves : (n m : ℕ) (bytes : List ℕ) (f : Filter) (rest : List ℕ) (test : Bool)
    → (let taken : Filter × List ℕ = (record { window = m; entries = take n bytes }, drop n bytes) in (if test then Some taken else None) ≡ Some (f, rest)) → Ends rest (m ∷ bytes)
leaves n m bytes f rest false e = cc
leaves n m bytes f rest true e =
    let same : drop n bytes ≡ rest = ap bytes_behind e in
    (m ∷ take n bytes, ap (λ w. m ∷ w) (sym (take-append-drop n bytes)) ∙ ap (λ w. (m ∷ take n bytes) ++ w) same)

leaves_end : (bytes : List ℕ) (f : Filter) (rest : List ℕ) → take_filter bytes ≡ Some (f, rest) → Ends rest bytes
unfolding take_filter
leaves_end [] f rest e = cc
leaves_end (m ∷ bytes) f rest e = leaves 65536 m bytes f rest (nat_le 2 m && nat_le m 9 && nat_le 65536 (length bytes)) e

-- the law of a filter: its form is one byte and the table
pub filter_law : IsForm (λ f. Unit {0} × IsFilter f) filter_form take_filter (λ _. 65537)
unfolding take_filter
filter_law = record {
  reads_back = λ f rest h. table_back 65536 f rest h.1.low h.1.high h.1.sized;
  leaves_end = leaves_end;
  fits = λ f h. (let size = h.1.sized in omega arith);
}
