-- A search of the empty text, however it is read, finds a match exactly where the empty text is a key.
use Rattle.std.proofs.Common.{◌≡◌, ◌≢◌, Bool, true, false, List, [], ◌∷◌, refl, sym, ap, ◌∙◌}
use Rattle.std.proofs.lemmas.Str.{chars-nil}
use Rattle.std.specs.Prelude.{option_map, slice_get}
use Rattle.std.specs.Str.{chars}
use Rattle.daachorse_model.specs.declared.Match.{Match}
use Rattle.daachorse_model.specs.Dictionary.{Dictionary}
use Rattle.daachorse_model.specs.Folding.{as_read}
use Rattle.daachorse_model.specs.Leftmost.{match_at, leftmost}
use Rattle.daachorse_model.specs.Units.{char_width}

module _ {V : Type 0} where
  -- what is found, where the empty text has these values
  found : List V → List (Match V)
  found vs = match_at char_width 0 false (option_map (λ v. ([], v)) (slice_get vs 0))

  found-none : (vs : List V) → found vs ≡ [] → vs ≡ []
  unfolding found
  found-none [] e = refl
  found-none (v ∷ vs) e = cc

  found-empty : (vs : List V) → vs ≡ [] → found vs ≡ []
  unfolding found
  found-empty [] e = refl
  found-empty (v ∷ vs) e = cc

  found-all : (folds : Bool) (K : Dictionary V) → leftmost char_width K (as_read folds (chars [])) ≡ found (K [])
  unfolding found
  found-all true K = ap (λ units. leftmost char_width K (as_read true units)) chars-nil
  found-all false K = ap (leftmost char_width K) chars-nil

  module _ (folds : Bool) (K : Dictionary V) (ms : List (Match V)) (is : ms ≡ leftmost char_width K (as_read folds (chars []))) where
    pub no_empty_key : ms ≡ [] → K [] ≡ []
    no_empty_key none = found-none (K []) (sym (found-all folds K) ∙ sym is ∙ none)

    pub empty_key : (m : Match V) (rest : List (Match V)) → ms ≡ m ∷ rest → K [] ≢ []
    empty_key m rest some = λ none. (let bad : m ∷ rest ≡ [] = sym some ∙ is ∙ found-all folds K ∙ found-empty (K []) none in cc)
