-- The labels that some character with a code has are enough for rows: each that stands for a character of a key is listed.
use Rattle.std.proofs.Common.{◌≡◌, ◌<◌, ◌⊎◌, inl, inr, ℕ, true, List, Option, None, Some, length, refl, ap, sym, subst, Vec}
use Rattle.std.specs.Prelude.{slice_index, is_some, IfOk, Result, Ok, Err}
use Rattle.daachorse_core.specs.Looks.{IsForeign}
use Rattle.daachorse_rows.specs.Rows.{AreLabels, IsListOf}
use Rattle.daachorse_charwise_states.specs.Edges.{IsLettered, Lettered}
use Rattle.daachorse_charwise_states.specs.Parts.{char_code, content}
use Rattle.daachorse_charwise_states.specs.StateRows.{IsUsed, stands_for}
use Rattle.daachorse_charwise_states.specs.Valid.{IsValid, has_code}
use Rattle.daachorse_charwise_states.proofs.CharLaws.{foreign_char}
use Rattle.daachorse_charwise_states.proofs.Codes.{coded_inside}

module _ {V : Type 0} (a : Lettered V) (valid : IsValid a.parts) (lettered : IsLettered a) (labels : List ℕ) (listed : IsListOf (IsUsed a) 638 labels) where
  abbrev Listed : ℕ → Type 0
  Listed label = (k : ℕ) × (k < length labels) × (slice_index labels k ≡ label)

  -- an ASCII character is in no key, or has a code
  ascii_listed : (o : Option ℕ) (label unit : ℕ) → char_code a.parts.coding unit ≡ o → label < 638 → unit < 128 → label ≡ unit → IsForeign (content a.parts) unit ⊎ Listed label
  ascii_listed None label unit none low ascii is = inl (foreign_char a.parts valid unit none).1
  ascii_listed (Some code) label unit some low ascii is =
      let P : ℕ → Type 0 = λ u. (u < 128) × (has_code a.parts u ≡ true) in
      inr (listed.all label low (inl (subst P (sym is) (ascii, ap is_some some))))

  all_listed : (label unit : ℕ) → label < 638 → stands_for a.parts label unit → IsForeign (content a.parts) unit ⊎ Listed label
  all_listed label unit low (inl (ascii, is)) = ascii_listed (char_code a.parts.coding unit) label unit refl low ascii is
  all_listed label unit low (inr (past, code, coded, is)) =
      inr (listed.all label low (inr (unit, code, past, lettered.letters.from_code unit code (coded_inside a.parts.coding unit code coded) coded, is)))

  stands_own : (label : ℕ) → IsUsed a label → (unit : ℕ) × stands_for a.parts label unit
  stands_own label (inl (ascii, some)) = (label, inl (ascii, refl))
  stands_own label (inr (unit, code, past, at, is)) = (unit, inr (past, code, lettered.letters.to_code unit code at, is))

  pub used_labels : AreLabels (content a.parts) (stands_for a.parts) labels
  used_labels = record {
    all = all_listed;
    below = λ k within. (listed.only k within).0;
    none_idle = λ k below. stands_own (slice_index labels k) (listed.only k below).1;
  }

-- so they are where a list was made at all
pub labels_of : {V A E : Type 0} (a : Lettered V) (made : Result (Vec ℕ A) E) → IsValid a.parts → IsLettered a → IfOk made (λ v. IsListOf (IsUsed a) 638 v.items) → IfOk made (λ v. AreLabels (content a.parts) (stands_for a.parts) v.items)
labels_of a (Ok v) valid lettered listed = used_labels a valid lettered v.items listed
labels_of a (Err e) valid lettered listed = listed
