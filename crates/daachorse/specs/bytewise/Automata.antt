-- What callers see of an automaton over bytes: the patterns that it holds, the kind of its searches, its states, whether haystacks are folded, its filter, if it has one, and the depths of its elements where they are cached.
use Rattle.std.specs.Prelude.{◌≡◌, ℕ, Bool, true, List, Option}
use Rattle.std.specs.Hash.{HashWrites}
use Rattle.daachorse_model.specs.declared.MatchKind.{MatchKind}
use Rattle.daachorse_model.specs.Dictionary.{Dictionary}
use Rattle.daachorse_checker.specs.Folded.{HasFoldedKeys}
use Rattle.daachorse_array.specs.Automata.{Automaton as Kept, MayHaveDepths as MayHave, automaton_eq as kept_eq, automaton_input as kept_input}
use Rattle.daachorse_array.specs.Depths.{IsDepthTable}
use Rattle.daachorse_prefilter.specs.Equality.{filter_eq, filter_input}
use Rattle.daachorse_prefilter.specs.Filters.{Filter, PassesKeys}
use Rattle.daachorse_bytewise_states.specs.Equality.{parts_eq, parts_input}
use Rattle.daachorse_bytewise_states.specs.Parts.{Parts, child, content, count}

abbrev pub Automaton : Type 0 → Type 0
Automaton V = Kept (Parts V) Filter

module _ {V : Type 0} (a : Automaton V) where
  -- the patterns that the automaton holds: each text with its values, in order
  abbrev pub dictionary_of : Dictionary V
  dictionary_of = content a.parts

  -- the kind of searches that it is for
  abbrev pub kind_of : MatchKind
  kind_of = a.parts.kind

  -- its states, through which its searches go
  abbrev pub states_of : Parts V
  states_of = a.parts

  -- the depths of all elements are cached
  abbrev pub HasDepths : Type 0
  HasDepths = IsDepthTable (child a.parts) 256 (count a.parts) a.depths

-- no depths are cached, or those of all elements
abbrev pub MayHaveDepths : {V : Type 0} → Parts V → List ℕ → Type 0
MayHaveDepths p depths = MayHave (child p) 256 (count p) depths

-- the patterns are folded where haystacks are
abbrev pub MayFold : {V : Type 0} → Parts V → Bool → Type 0
MayFold p folds = folds ≡ true → HasFoldedKeys (content p)

-- there is no filter, or one that passes at the beginning of each pattern
abbrev pub MayHaveFilter : {V : Type 0} → Parts V → Option Filter → Type 0
MayHaveFilter p filter = PassesKeys (λ w. w) (content p) filter

-- what an automaton keeps beside its parts fits them
pub record IsKept {V : Type 0} (p : Parts V) (folds : Bool) (f : Option Filter) (ds : List ℕ) : Type 0 where
  pub folded : MayFold p folds
  pub filter : MayHaveFilter p f
  pub depths : MayHaveDepths p ds

-- all that the automata keep is equal, the options, the filters and the cached depths included
abbrev pub automaton_eq : {V : Type 0} → (V → V → Bool) → Automaton V → Automaton V → Bool
automaton_eq E = kept_eq (parts_eq E) filter_eq

-- what an automaton feeds a hasher: all that it keeps
abbrev pub automaton_input : {V : Type 0} → (V → HashWrites) → Automaton V → HashWrites
automaton_input G = kept_input (parts_input G) filter_input
