-- What bytes give of an automaton, whatever its parts are: parts, whether it finds ASCII letters without regard to case, a filter that there may be, and the bytes behind them. And which automata are written.
use Rattle.std.specs.Prelude.{◌≡◌, ℕ, Bool, List, [], Option, Some, IfSome}
use Rattle.daachorse_array.specs.Automata.{Automaton}
use Rattle.daachorse_serializer.specs.Forms.{Begins, Taken}

-- what is written of an automaton: its parts, the option, and a filter that there may be
abbrev pub Whole : Type 0 → Type 0 → Type 0
Whole P F = P × (Bool × Option F)

-- ---- which parts are written, and which are read

-- parts in hand, and the filter beside them
pub record AreInHand {P F : Type 0} (IsValid AreNumbers : P → Type 0) (IsFilter : F → Type 0) (p : P) (filter : Option F) : Type 0 where
  pub valid : IsValid p
  pub numbers : AreNumbers p
  pub filtered : IfSome filter IsFilter

-- the bytes begin with the written form of parts
pub record BeginsWithParts {P F : Type 0} (AreOnes : P → Option F → Type 0) (form : P → Bool → Option F → List ℕ) (bytes : List ℕ) : Type 0 where
  pub parts : P
  pub folds : Bool
  pub filter : Option F
  pub automaton : AreOnes parts filter
  pub begins : Begins (form parts folds filter) bytes

-- no parts were taken, or such as are no automaton's
abbrev pub HasNoParts : {P F : Type 0} → (P → Type 0) → Taken (Whole P F) → Type 0
HasNoParts {P} {F} IsValid t = (w : Whole P F) (rest : List ℕ) → t ≡ Some (w, rest) → IsValid w.0 → ⊥

-- ---- which automata are written, and which are read

-- an automaton in hand: its parts are, they are folded where haystacks are, and its filter passes
pub record IsInHand {P F : Type 0} (AreOnes : P → Option F → Type 0) (MayFold : P → Bool → Type 0) (MayHaveFilter : P → Option F → Type 0) (a : Automaton P F) : Type 0 where
  pub parts : AreOnes a.parts a.filter
  pub folded : MayFold a.parts a.folds
  pub filter : MayHaveFilter a.parts a.filter

-- the bytes begin with the written form of an automaton
pub record BeginsWithAutomaton {P F : Type 0} (IsOne : Automaton P F → Type 0) (form : Automaton P F → List ℕ) (bytes : List ℕ) : Type 0 where
  pub automaton : Automaton P F
  pub is_one : IsOne automaton
  pub begins : Begins (form automaton) bytes

-- an automaton where no depths are cached
abbrev pub without_depths : {P F : Type 0} → Automaton P F → Automaton P F
without_depths a = record { parts = a.parts; folds = a.folds; filter = a.filter; depths = [] }

module _ {P F : Type 0} (IsValid : P → Type 0) (MayFold : P → Bool → Type 0) (MayHaveFilter : P → Option F → Type 0) (t : Taken (Whole P F)) where
  -- the parts, the option and the filter of this automaton were taken, and these bytes are left
  pub record GivesAutomaton (a : Automaton P F) (rest : List ℕ) : Type 0 where
    pub taken : t ≡ Some ((a.parts, (a.folds, a.filter)), rest)
    pub valid : IsValid a.parts
    pub folded : MayFold a.parts a.folds
    pub passes : MayHaveFilter a.parts a.filter

  -- no parts were taken, or such as are no automaton's, or with a pattern that is not folded where haystacks are, or with a filter that does not pass at some pattern
  abbrev pub GivesNoAutomaton : Type 0
  GivesNoAutomaton = (a : Automaton P F) (rest : List ℕ) → GivesAutomaton a rest → ⊥
