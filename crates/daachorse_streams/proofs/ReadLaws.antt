-- What a reader gave went to the output with each match replaced: its units, whose bytes are those that were read.
use Rattle.std.proofs.Common.{
  ◌≡◌,
  ℕ,
  inl,
  inr,
  List,
  [],
  ◌∷◌,
  ◌++◌,
  Option,
  Some,
  None,
  Result,
  Ok,
  Err,
  refl,
  sym,
  ap,
  ◌∙◌,
  subst,
  append-nil,
  arith,
}
use Rattle.std.proofs.lemmas.List.{map-append}
use Rattle.std.proofs.lemmas.List.Elements.{All-nil}
use Rattle.std.specs.Prelude.{◌+◌, ◌≤◌, All, IfErr, IfSome, OnOk, flat_map, length, map}
use Rattle.std.specs.Borrow.{MutBor}
use Rattle.std.specs.Io.KnownBytes.{Consumes, IsAtEnd}
use Rattle.std.specs.Iterator.{Yields}
use Rattle.std.specs.declared.io.Error.{Error}
use Rattle.daachorse_model.specs.declared.Match.{Match}
use Rattle.daachorse_model.specs.declared.MatchKind.{MatchKind}
use Rattle.daachorse_model.specs.declared.MatchKind.TheVariants.{Standard, LeftmostLongest, LeftmostFirst}
use Rattle.daachorse_model.specs.Dictionary.{Dictionary}
use Rattle.daachorse_model.specs.Laws.{Follows}
use Rattle.daachorse_model.proofs.Find.{standard_apart}
use Rattle.daachorse_model.proofs.Overlap.{leftmost_apart}
use Rattle.daachorse_streams.specs.ByKind.{non_overlapping}
use Rattle.daachorse_streams.specs.ReplacedWith.{IsReplaced, IsReplacedSoFar, IsStopped}
use Rattle.daachorse_streams.specs.Streams.{
  HasNoLonger,
  IsAtWholeEnd,
  IsHeldBack,
  IsLongest,
  IsReadReplaced,
  IsReadReplacedSoFar,
  IsStreamed,
  IsStreamedSoFar,
  ReplacesRead,
  block,
}
use Rattle.daachorse_streams.proofs.LeadsOn.{so_far_nothing}
use Rattle.daachorse_streams.proofs.HeldLaws.{held-back, held-first}

-- what was taken to the end is all that was known
all_taken : (a b : Option (List ℕ)) (text : List ℕ) → Consumes a b text → IsAtEnd b → IfSome a (λ left. left ≡ text)
all_taken None b text took ends = tt
all_taken (Some xs) None text took ends = absurd took
all_taken (Some xs) (Some ys) text took ends = took ∙ ap (λ l. text ++ l) ends ∙ append-nil text

-- and what was taken is a beginning of it
some_taken : (a b : Option (List ℕ)) (text : List ℕ) → Consumes a b text → IfSome a (λ left. (rest : List ℕ) × (left ≡ text ++ rest))
some_taken None b text took = tt
some_taken (Some xs) None text took = absurd took
some_taken (Some xs) (Some ys) text took = (ys, took)

-- any numbers are units of labels
covered : {U : Type 0} (unit : U → ℕ) (of_unit : ℕ → U) → ((u : ℕ) → unit (of_unit u) ≡ u) → (units : List ℕ) → map unit (map of_unit units) ≡ units
covered unit of_unit same [] = refl
covered unit of_unit same (u ∷ units) = ap (λ v. v ∷ map unit (map of_unit units)) (same u) ∙ ap (λ l. u ∷ l) (covered unit of_unit same units)

module _ {V P O F S U : Type 0} (bytes : P → List ℕ) (taken : O → Option (List ℕ))
    (step : F → Match V → P → MutBor O → Result (Unit {0}) Error → MutBor O → F → Type 0)
    (steps : S → Option U → S → Type 0) (failure : S → Option Error) (unit : U → ℕ) (form : U → List ℕ)
    (of_unit : ℕ → U) (same : (u : ℕ) → unit (of_unit u) ≡ u)
    (is_unit : ℕ → Type 0) (spelled : List ℕ → List ℕ) (spells : (units : List U) → flat_map form units ≡ spelled (map unit units))
    (known : S → Option (List ℕ))
    (took : (s : S) (units : List U) (t : S) → Yields steps s units t
    → All is_unit (map unit units) × Consumes (known s) (known t) (spelled (map unit units)))
    (ends : (s t : S) → steps s None t → failure t ≡ None → IsAtEnd (known s))
    {found matches : List ℕ → List (Match V)} (alike : found ≡ matches)
    (source : S) (left : Option (List ℕ)) (starts : known source ≡ left) (f : F) (old new : O) where
  -- what was taken to the end is all that was known
  all_given : (units : List U) (last : S) → Yields steps source units last → IsAtWholeEnd steps failure last
      → IfSome left (λ l. l ≡ spelled (map unit units))
  all_given units last run (ended, gave, whole) =
      subst (λ o. IfSome o (λ l. l ≡ spelled (map unit units))) starts
      (all_taken (known source) (known last) (spelled (map unit units)) (took source units last run).1 (ends last ended gave whole))

  some_given : (units : List U) (last : S) → Yields steps source units last
      → IfSome left (λ l. (rest : List ℕ) × (l ≡ spelled (map unit units) ++ rest))
  some_given units last run =
      subst (λ o. IfSome o (λ l. (rest : List ℕ) × (l ≡ spelled (map unit units) ++ rest))) starts
      (some_taken (known source) (known last) (spelled (map unit units)) (took source units last run).1)

  -- what is said of the bytes of labels and what is found in their units is said of the bytes and matches of these units
  of_units : (T : List ℕ → List (Match V) → Type 0) (units : List U) → T (flat_map form units) (found (map unit units))
      → T (spelled (map unit units)) (matches (map unit units))
  of_units T units h = subst (λ m. T (spelled (map unit units)) (m (map unit units))) alike (subst (λ text. T text (found (map unit units))) (spells units) h)

  -- also where any numbers follow them
  of_more : (T : List ℕ → List (Match V) → Type 0) (units : List U)
      → ((more : List U) → T (flat_map form (units ++ more)) (found (map unit (units ++ more))))
      → (more : List ℕ) → T (spelled (map unit units ++ more)) (matches (map unit units ++ more))
  of_more T units every more =
      let labels = map of_unit more in
      let joined = map-append unit units labels ∙ ap (λ l. map unit units ++ l) (covered unit of_unit same more) in
      subst (λ us. T (spelled us) (matches us)) joined (of_units T (units ++ labels) (every labels))

  held_alike : (units : List U) {held : List ℕ}
      → IsHeldBack bytes taken step (λ more. found (map unit (units ++ more))) (flat_map form units) held f old new
      → IsHeldBack bytes taken step (λ more. matches (map unit units ++ more)) (spelled (map unit units)) held f old new
  held_alike units h = record {
    done = h.done;
    front = h.front;
    parts = sym (spells units) ∙ h.parts;
    replaced = h.replaced;
    certain = λ more. (
        let T : List ℕ → List (Match V) → Type 0 = λ text ms. (rest : List (Match V)) × (ms ≡ h.done ++ rest) × Follows (length h.front) rest in
        of_more T units h.certain more
        );
  }

  read-whole : IsStreamed bytes taken step steps failure unit form found source f old new
      → IsReadReplaced bytes taken step is_unit spelled left matches f old new
  read-whole h = record {
    units = map unit h.units;
    are = (took source h.units h.last h.took).0;
    all = all_given h.units h.last h.took (h.ended, h.ends, h.whole);
    replaced = of_units (λ text ms. IsReplaced bytes taken text step ms f old new) h.units h.replaced;
  }

  read-some : {no_longer : ℕ → Type 0} (longest : ℕ) → ((most : ℕ) → no_longer most → longest ≤ most) → (e : Error)
      → IsStreamedSoFar bytes taken step steps failure unit form found longest e source f old new
      → IsReadReplacedSoFar bytes taken step is_unit spelled left matches no_longer e f old new
  read-some longest least e h = record {
    units = map unit h.units;
    are = (took source h.units h.last h.took).0;
    begins = some_given h.units h.last h.took;
    because =
        let so_far : List ℕ → List (Match V) → Type 0 = λ text ms. IsReplacedSoFar bytes taken text step ms f old new in
        let stopped : List ℕ → List (Match V) → Type 0 = λ text ms. IsStopped bytes taken text step e ms f old new in
        elim h.because [
          | inl (why, every, held, few, back) ↦ inl (
            of_more so_far h.units every,
            held,
            (λ most bound. let within = least most bound in omega (arith, few, within)),
            held_alike h.units back,
          )
          | inr (inl every) ↦ inr (inl (of_more stopped h.units every))
          | inr (inr (end, stops)) ↦ inr (inr (all_given h.units h.last h.took end, of_units stopped h.units stops))
        ];
  }

  -- whatever came of it
  pub replaces-read : {no_longer : ℕ → Type 0} (longest : ℕ) → ((most : ℕ) → no_longer most → longest ≤ most) → (r : Result (Unit {0}) Error)
      → OnOk r (IsStreamed bytes taken step steps failure unit form found source f old new)
      → IfErr r (λ e. IsStreamedSoFar bytes taken step steps failure unit form found longest e source f old new)
      → ReplacesRead bytes taken step is_unit spelled left matches no_longer r f old new
  replaces-read longest least (Ok x) whole beginning = read-whole whole
  replaces-read longest least (Err e) whole beginning = read-some longest least e beginning

-- the longest is no longer than any bound of the keys
pub longest-least : {V : Type 0} {width : ℕ → ℕ} {K : Dictionary V} {longest : ℕ} → IsLongest width K longest → (most : ℕ)
    → HasNoLonger width K most → longest ≤ most
longest-least is most bound = elim is.some [
  | inl none ↦ subst (λ n. n ≤ most) (sym none) (omega arith)
  | inr (w, key, sized) ↦ subst (λ n. n ≤ most) sized (bound w key)
]

-- nothing was read yet
pub read-nothing : {V P O E F : Type 0} (bytes : P → List ℕ) (taken : O → Option (List ℕ))
    (step : F → Match V → P → MutBor O → Result (Unit {0}) E → MutBor O → F → Type 0)
    (is_unit : ℕ → Type 0) (spelled : List ℕ → List ℕ) (known : Option (List ℕ)) (matches : List ℕ → List (Match V))
    {no_longer : ℕ → Type 0} (e : E) (f : F) (old : O) → spelled [] ≡ []
    → ((units : List ℕ) → Follows 0 (matches units))
    → IsReadReplacedSoFar bytes taken step is_unit spelled known matches no_longer e f old old
read-nothing bytes taken step is_unit spelled known matches e f old none apart = record {
  units = [];
  are = All-nil is_unit;
  begins = by known;
  because =
      let T : List ℕ → Type 0 = λ l. IsHeldBack bytes taken step matches l [] f old old in
      inl (
        (λ more. so_far_nothing bytes taken step f old (spelled more) 0 (matches more)),
        [],
        (λ most bound. omega arith),
        subst T (sym none)
            (held-back bytes taken step f old (held-first bytes taken step f old) matches (λ more. (matches more, refl, apart more))),
      );
}
  where
    by : (o : Option (List ℕ)) → IfSome o (λ l. (rest : List ℕ) × (l ≡ spelled [] ++ rest))
    by None = tt
    by (Some xs) = (xs, sym (ap (λ l. l ++ xs) none))

-- the matches of a search that an automaton's kind names do not overlap
pub non_overlapping_apart : {V : Type 0} (kind : MatchKind) (width : ℕ → ℕ) (K : Dictionary V) (h : List ℕ)
    → Follows 0 (non_overlapping kind width K h)
non_overlapping_apart Standard width K h = standard_apart width K h
non_overlapping_apart LeftmostLongest width K h = leftmost_apart width K h
non_overlapping_apart LeftmostFirst width K h = leftmost_apart width K h
