-- A filter that passes at each key passes wherever a key is at the beginning of what is to come.
use Rattle.std.proofs.Common.{◌≡◌, ℕ, true, List, ◌++◌, Option, Some, None, ap, ◌∙◌}
use Rattle.daachorse_model.specs.Dictionary.{Dictionary}
use Rattle.daachorse_model.specs.Prefixes.{IsKey}
use Rattle.daachorse_prefilter.specs.Filters.{Filter, PassesKeys, admits}
use Rattle.daachorse_prefilter.proofs.WindowLaws.{admits-append}

pub passes_before : {V : Type 0} (spell : List ℕ → List ℕ) → ((v w : List ℕ) → spell (v ++ w) ≡ spell v ++ spell w) → (K : Dictionary V) (f : Filter) → PassesKeys spell K (Some f)
    → (key rest : List ℕ) → IsKey K key → admits f (spell (key ++ rest)) ≡ true
passes_before spell joined K f passes key rest is_key = ap (admits f) (joined key rest) ∙ admits-append f (spell key) (spell rest) (passes key is_key)

-- the same at each key of a dictionary with the same values
pub passes_along : {V : Type 0} (spell : List ℕ → List ℕ) (K L : Dictionary V) → ((w : List ℕ) → L w ≡ K w) → (filter : Option Filter) → PassesKeys spell K filter → PassesKeys spell L filter
passes_along spell K L same None passes = tt
passes_along spell K L same (Some f) passes = λ key is_key. passes key (λ none. is_key (same key ∙ none))
