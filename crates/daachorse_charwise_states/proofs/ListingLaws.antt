-- What a walk over the patterns of valid parts gives is the listing of their dictionary, whose keys are texts.
use Rattle.std.proofs.Common.{◌≡◌, ◌≢◌, ℕ, ◌<◌, true, cond, List, [], ◌∷◌, length, refl, sym, ap, ◌∙◌, Some}
use Rattle.std.specs.Prelude.{IsTrue}
use Rattle.std.specs.List.{AllByRecursion}
use Rattle.std.specs.Str.{all_scalars}
use Rattle.std.proofs.lemmas.Slice.Eq.{bytes_eq-Decides}
use Rattle.daachorse_model.specs.Dictionary.{values_of}
use Rattle.daachorse_model.specs.Kinds.{is_leftmost}
use Rattle.daachorse_model.specs.Prefixes.{IsListing}
use Rattle.daachorse_model.specs.Units.{char_width, same_text}
use Rattle.daachorse_model.proofs.Listings.{value_later}
use Rattle.daachorse_array.specs.Listing.{HasPatterns, IsPatterns, own_end}
use Rattle.daachorse_array.proofs.MachineListings.{machine_listing, machine_patterns}
use Rattle.daachorse_charwise_states.specs.Edges.{AreCharacters, Lettered, edge_of}
use Rattle.daachorse_charwise_states.specs.Parts.{Parts, child, content, count, fail_of, machine, output_of}
use Rattle.daachorse_charwise_states.specs.Texts.{AreTexts}
use Rattle.daachorse_charwise_states.specs.Valid.{IsValid}
use Rattle.daachorse_charwise_states.proofs.CharLaws.{text_key, valid_machine}
use Rattle.daachorse_charwise_states.proofs.EdgeLaws.{valid_tells}

module _ {V : Type 0} where
  first_key : (e : List ℕ × V) (es : List (List ℕ × V)) → values_of (e ∷ es) e.0 ≢ []
  first_key e es none =
      let test : same_text e.0 e.0 ≡ true = (bytes_eq-Decides e.0 e.0).1 refl in
      let bad : e.1 ∷ values_of es e.0 ≡ [] = sym (ap (λ b. cond b (e.1 ∷ values_of es e.0) (values_of es e.0)) test) ∙ none in cc

  -- what holds of each text that has a value holds of each entry
  entries_all : (P : List ℕ → Type 0) (entries : List (List ℕ × V)) → ((w : List ℕ) → values_of entries w ≢ [] → P w) → AllByRecursion (λ e. P e.0) entries
  entries_all P [] each = tt
  entries_all P (e ∷ es) each = (each e.0 (first_key e es), entries_all P es (λ w key. each w (value_later e es w key)))

  pub listing_texts : (p : Parts V) (entries : List (List ℕ × V)) → IsListing (content p) entries → AreTexts entries
  listing_texts p entries listing = entries_all (λ w. IsTrue (all_scalars w)) entries (λ w key. text_key p w (λ none. key (listing.same w ∙ none)))

module _ {V : Type 0} (a : Lettered V) (valid : IsValid a.parts) where
  pub valid_patterns : AreCharacters a.parts.coding (length a.parts.coding.table) a.characters → a.parts.num_states < 4294967296
      → HasPatterns (child a.parts) (λ i. Some i) (edge_of a) (count a.parts) (length a.parts.coding.table) a.parts.outputs (output_of a.parts) (own_end (fail_of a.parts) (output_of a.parts))
  valid_patterns letters few =
      machine_patterns char_width (machine a.parts) (is_leftmost a.parts.kind) (count a.parts) (length a.parts.coding.table) (valid_machine a.parts valid) a.parts.num_states valid.sound.counted few
      (λ i. Some i) (edge_of a) (valid_tells a letters)

  pub patterns_listing : (entries : List (List ℕ × V)) → IsPatterns (child a.parts) (count a.parts) (length a.parts.coding.table) a.parts.outputs (output_of a.parts) (own_end (fail_of a.parts) (output_of a.parts)) entries
      → IsListing (content a.parts) entries
  patterns_listing = machine_listing char_width (machine a.parts) (is_leftmost a.parts.kind) (count a.parts) (length a.parts.coding.table) (valid_machine a.parts valid)
