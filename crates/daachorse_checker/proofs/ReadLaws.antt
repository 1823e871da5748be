-- What a read of parts tells of an automaton, whatever its parts are: bytes that give no parts give none, nor do those whose patterns are not folded where haystacks are, nor those with a filter that does not pass; and what was written gives the automaton.
use Rattle.std.proofs.Common.{◌≡◌, ◌⊎◌, inl, inr, ℕ, Bool, List, [], ◌++◌, Option, Some, ap, sym, ◌∙◌, subst}
use Rattle.std.proofs.lemmas.Option.{same_Some}
use Rattle.daachorse_core.specs.Refusals.{IsOutOfMemory}
use Rattle.daachorse_core.specs.declared.errors.DaachorseError.{DaachorseError}
use Rattle.daachorse_array.specs.Automata.{Automaton}
use Rattle.daachorse_serializer.specs.Forms.{IsForm, Refuses, Taken}
use Rattle.daachorse_serializer.proofs.Reading.{refuses-written, takes-same, takes-written}
use Rattle.daachorse_checker.specs.Reads.{AreInHand, GivesAutomaton, GivesNoAutomaton, HasNoParts, IsInHand, Whole, without_depths}

-- the law of a form holds where less is written
pub law_where : {X : Type 0} {P Q : X → Type 0} {form : X → List ℕ} {take : List ℕ → Taken X} {most : X → ℕ} → ((x : X) → Q x → P x) → IsForm P form take most → IsForm Q form take most
law_where of law = record { reads_back = λ x rest h. law.reads_back x rest (of x h); leaves_end = law.leaves_end; fits = λ x h. law.fits x (of x h) }

-- an automaton without depths is known by its parts, its option and its filter
pub by_parts : {P F : Type 0} (a b : Automaton P F) → b.parts ≡ a.parts → b.folds ≡ a.folds → b.filter ≡ a.filter → b.depths ≡ [] → b ≡ without_depths a
by_parts {P} {F} a b parts folds filter none =
    let kept : P → Bool → Option F → List ℕ → Automaton P F = λ p o f ds. record { parts = p; folds = o; filter = f; depths = ds } in
    ap (λ p. kept p b.folds b.filter b.depths) parts ∙ ap (λ o. kept a.parts o b.filter b.depths) folds ∙ ap (λ f. kept a.parts a.folds f b.depths) filter ∙ ap (kept a.parts a.folds a.filter) none

-- parts, an option and a filter that are each as another's
same_whole : {P F : Type 0} (p q : P) (o l : Bool) (f g : Option F) → p ≡ q → o ≡ l → f ≡ g → ◌≡◌ {A = Whole P F} (p, (o, f)) (q, (l, g))
same_whole p q o l f g parts folds filter = ap (λ x. (x, (o, f))) parts ∙ ap (λ x. (q, (x, f))) folds ∙ ap (λ x. (q, (l, x))) filter

-- what fits the parts of an automaton in hand fits the same parts that were read
pub fits_read : {P F : Type 0} {AreOnes : P → Option F → Type 0} {MayFold : P → Bool → Type 0} {MayHaveFilter : P → Option F → Type 0} (a : Automaton P F) (p : P) (o : Bool) (f : Option F) → p ≡ a.parts → o ≡ a.folds → f ≡ a.filter
    → IsInHand AreOnes MayFold MayHaveFilter a → MayFold p o × MayHaveFilter p f
fits_read {P} {F} {AreOnes} {MayFold} {MayHaveFilter} a p o f parts folds filter is_one =
    let Q : Whole P F → Type 0 = λ w. MayFold w.0 w.1.0 × MayHaveFilter w.0 w.1.1 in
    subst Q (sym (same_whole p a.parts o a.folds f a.filter parts folds filter)) (is_one.folded, is_one.filter)

module _ {P F : Type 0} (IsValid : P → Type 0) (MayFold : P → Bool → Type 0) (MayHaveFilter : P → Option F → Type 0) (t : Taken (Whole P F)) where
  pub refused_parts : (e : DaachorseError) → IsOutOfMemory e ⊎ HasNoParts IsValid t → IsOutOfMemory e ⊎ GivesNoAutomaton IsValid MayFold MayHaveFilter t
  refused_parts e (inl memory) = inl memory
  refused_parts e (inr none) = inr (λ a rest gives. none (a.parts, (a.folds, a.filter)) rest gives.taken gives.valid)

  -- they give none where what holds of each that they give does not hold of what was read
  module _ (p : P) (folds : Bool) (filter : Option F) (rest : List ℕ) (is : t ≡ Some ((p, (folds, filter)), rest)) where
    refused_by : (Q : Whole P F → Type 0) → ((a : Automaton P F) (left : List ℕ) → GivesAutomaton IsValid MayFold MayHaveFilter t a left → Q (a.parts, (a.folds, a.filter))) → (Q (p, (folds, filter)) → ⊥)
        → GivesNoAutomaton IsValid MayFold MayHaveFilter t
    refused_by Q holds fails a left gives =
        let R : Whole P F × List ℕ → Type 0 = λ x. Q x.0 in
        fails (subst R (same_Some ((a.parts, (a.folds, a.filter)), left) ((p, (folds, filter)), rest) (sym gives.taken ∙ is)) (holds a left gives))

    pub refused_fold : (MayFold p folds → ⊥) → GivesNoAutomaton IsValid MayFold MayHaveFilter t
    refused_fold = refused_by (λ w. MayFold w.0 w.1.0) (λ a left gives. gives.folded)

    pub refused_filter : (MayHaveFilter p filter → ⊥) → GivesNoAutomaton IsValid MayFold MayHaveFilter t
    refused_filter = refused_by (λ w. MayHaveFilter w.0 w.1.1) (λ a left gives. gives.passes)

    -- what is made of parts, an option and a filter that were read and found right
    pub given : (a : Automaton P F) → IsValid p → MayFold p folds → MayHaveFilter p filter → a.parts ≡ p → a.folds ≡ folds → a.filter ≡ filter → GivesAutomaton IsValid MayFold MayHaveFilter t a rest
    given a valid folded passes parts option kept =
        let Q : Whole P F → Type 0 = λ w. (t ≡ Some (w, rest)) × IsValid w.0 × MayFold w.0 w.1.0 × MayHaveFilter w.0 w.1.1 in
        let all = subst Q (sym (same_whole a.parts p a.folds folds a.filter filter parts option kept)) (is, valid, folded, passes) in
        record { taken = all.0; valid = all.1; folded = all.2; passes = all.3 }

  -- the bytes give one automaton at most, but for its depths
  gives_once : (a b : Automaton P F) (rest left : List ℕ) → GivesAutomaton IsValid MayFold MayHaveFilter t a rest → GivesAutomaton IsValid MayFold MayHaveFilter t b left
      → (b.parts ≡ a.parts) × (b.folds ≡ a.folds) × (b.filter ≡ a.filter) × (left ≡ rest)
  gives_once a b rest left one other =
      let same : ((b.parts, (b.folds, b.filter)), left) ≡ ((a.parts, (a.folds, a.filter)), rest) = same_Some ((b.parts, (b.folds, b.filter)), left) ((a.parts, (a.folds, a.filter)), rest) (sym other.taken ∙ one.taken) in (
        ap (λ (x : Whole P F × List ℕ). x.0.0) same,
        ap (λ (x : Whole P F × List ℕ). x.0.1.0) same,
        ap (λ (x : Whole P F × List ℕ). x.0.1.1) same,
        ap (λ (x : Whole P F × List ℕ). x.1) same,
      )

module _ {P F : Type 0} {IsValid AreNumbers : P → Type 0} {IsFilter : F → Type 0} {form : Whole P F → List ℕ} {take : List ℕ → Taken (Whole P F)} {most : Whole P F → ℕ} (law : IsForm (λ w. AreInHand IsValid AreNumbers IsFilter w.0 w.1.1) form take most)
    (bytes rest : List ℕ) where
  -- what is read of the form of parts is what was written, and what is left is what follows it
  module _ (p : P) (folds : Bool) (filter : Option F) (are : AreInHand IsValid AreNumbers IsFilter p filter) (is : bytes ≡ form (p, (folds, filter)) ++ rest) where
    pub reads_back : (r : Whole P F × List ℕ) → take bytes ≡ Some r → (r.0.0 ≡ p) × (r.0.1.0 ≡ folds) × (r.0.1.1 ≡ filter) × (r.1 ≡ rest)
    reads_back r gives =
        let same = takes-same law bytes (p, (folds, filter)) rest r are is gives in
        (ap (λ (w : Whole P F). w.0) same.0, ap (λ (w : Whole P F). w.1.0) same.0, ap (λ (w : Whole P F). w.1.1) same.0, same.1)

    pub reads_valid : (r : Whole P F × List ℕ) → take bytes ≡ Some r → IsValid r.0.0
    reads_valid r gives = subst IsValid (sym (reads_back r gives).0) are.valid

    -- a read of it is refused for want of memory alone
    pub refuses_form : (e : DaachorseError) → Refuses e (take bytes) → IsOutOfMemory e
    refuses_form e r = refuses-written law bytes (p, (folds, filter)) rest e are is r

  module _ {MayFold : P → Bool → Type 0} {MayHaveFilter : P → Option F → Type 0} (a : Automaton P F) (is_one : IsInHand (AreInHand IsValid AreNumbers IsFilter) MayFold MayHaveFilter a) (is : bytes ≡ form (a.parts, (a.folds, a.filter)) ++ rest) where
    -- the written form of an automaton gives it
    gives_written : GivesAutomaton IsValid MayFold MayHaveFilter (take bytes) a rest
    gives_written = record {
      taken = takes-written law bytes (a.parts, (a.folds, a.filter)) rest is_one.parts is;
      valid = is_one.parts.valid;
      folded = is_one.folded;
      passes = is_one.filter;
    }

    -- and no other
    pub gives_back : (b : Automaton P F) (left : List ℕ) → GivesAutomaton IsValid MayFold MayHaveFilter (take bytes) b left → b.depths ≡ [] → (b ≡ without_depths a) × (left ≡ rest)
    gives_back b left gives none =
        let same = gives_once IsValid MayFold MayHaveFilter (take bytes) a b rest left gives_written gives in
        (by_parts a b same.0 same.1 same.2 none, same.3)

    -- so a read that checks refuses it for want of memory alone
    pub refuses_written : (e : DaachorseError) → IsOutOfMemory e ⊎ GivesNoAutomaton IsValid MayFold MayHaveFilter (take bytes) → IsOutOfMemory e
    refuses_written e (inl memory) = memory
    refuses_written e (inr none) = absurd (none a rest gives_written)
