-- The loop over a source: what it took so far is what its stream read, and went out but for what is held, where no match that is to come
-- starts before it.
use Rattle.std.proofs.Common.{
  ◌≡◌,
  ℕ,
  ◌+◌,
  ◌-◌,
  ◌<◌,
  ◌≤◌,
  ◌^◌,
  ◌⊎◌,
  inl,
  inr,
  Bool,
  List,
  [],
  ◌++◌,
  length,
  map,
  take,
  Option,
  None,
  Result,
  refl,
  sym,
  ap,
  ◌∙◌,
  subst,
  append_assoc,
  append-nil,
  length-append,
  arith,
}
use Rattle.std.specs.Prelude.{flat_map}
use Rattle.std.proofs.lemmas.Grind.{flat_map-append}
use Rattle.std.proofs.lemmas.List.{map-append}
use Rattle.std.specs.Borrow.{MutBor}
use Rattle.std.specs.Io.KnownBytes.{Appends}
use Rattle.std.specs.Iterator.{Count, Yields}
use Rattle.std.specs.declared.io.Error.{Error}
use Rattle.std.specs.declared.io.ErrorKind.TheVariants.{OutOfMemory}
use Rattle.std.specs.IoError.{error_kind}
use Rattle.daachorse_model.specs.declared.Match.{Match}
use Rattle.daachorse_model.specs.Certain.{AreCertain, BeginEach}
use Rattle.daachorse_model.specs.Dictionary.{Dictionary}
use Rattle.daachorse_model.specs.Folding.{as_read, folded_unit}
use Rattle.daachorse_model.specs.Laws.{Follows}
use Rattle.daachorse_model.specs.Leftmost.{leftmost}
use Rattle.daachorse_model.specs.Units.{size}
use Rattle.daachorse_model.proofs.Overlap.{Follows-earlier, leftmost_apart}
use Rattle.daachorse_model.proofs.FoldLaws.{as_read-append, size-as_read}
use Rattle.daachorse_model.proofs.Suffixes.{size-append}
use Rattle.daachorse_haystack.specs.ByteSources.{Yields_append}
use Rattle.daachorse_haystack.specs.Sources.{IsReady}
use Rattle.daachorse_streams.specs.Replaced.{AppendsPart}
use Rattle.daachorse_streams.specs.ReplacedWith.{IsReplaced, IsReplacedSoFar, IsStopped}
use Rattle.daachorse_streams.specs.Streams.{
  FailsWith,
  GoesOutSettled,
  HasNoLonger,
  IsAtWholeEnd,
  IsHeld,
  IsStreamed,
  IsStreamedSoFar,
  block,
}
use Rattle.daachorse_streams.proofs.HeldLaws.{
  held-back,
  held-count,
  held-first,
  held-more,
  held-past,
  held-still,
  held-whole,
  refused-whole,
  refused-within,
}
use Rattle.daachorse_streams.proofs.LeadsOn.{so_far_nothing}
use Rattle.daachorse_streams.proofs.GaveUnitsLaws.{GaveUnits, gave-first}
use Rattle.daachorse_streams.specs.Replacing.{GoesOut, GoesOutSoFar}
use Rattle.daachorse_streams.proofs.LateMatches.{late_matches}
use Rattle.daachorse_streams.proofs.StandardMatches.{Follows-behind}

module _ {V P O F S U : Type 0} (bytes : P → List ℕ) (taken : O → Option (List ℕ))
    (step : F → Match V → P → MutBor O → Result (Unit {0}) Error → MutBor O → F → Type 0) (first : F) (old : O)
    (can : S → Type 0) (steps : S → Option U → S → Type 0) (left : S → Count) (failure : S → Option Error) (unit : U → ℕ)
    (form : U → List ℕ) (width : ℕ → ℕ)
    (K : Dictionary V) (folds : Bool) (source : S) where
  -- at the head of the loop
  pub record Goes (read : List ℕ) (given : List (Match V)) (s : S) (place : ℕ) (held : List ℕ) (f : F) (out : O) : Type 0 where
    pub units : List U
    pub gave : GaveUnits can steps left unit width folds source units read s
    pub sized : length (flat_map form units) ≡ size width read
    pub is : IsHeld bytes taken step first old (flat_map form units) given place held f out
    pub behind : (d : List ℕ) (rest : List (Match V)) → leftmost width K (read ++ d) ≡ given ++ rest → Follows place rest

  abbrev pub Whole : O → Type 0
  Whole = IsStreamed bytes taken step steps failure unit form (λ units. leftmost width K (as_read folds units)) source first old

  abbrev pub Stops : ℕ → Error → O → Type 0
  Stops longest e =
      IsStreamedSoFar bytes taken step steps failure unit form (λ units. leftmost width K (as_read folds units)) longest e source first old

  -- nothing was taken yet, and an allocation failed
  pub stops-nothing : (longest : ℕ) (e : Error) → error_kind e ≡ OutOfMemory → Stops longest e old
  stops-nothing longest e memory = record {
    units = [];
    last = source;
    took = refl;
    because = inl (
      inr memory,
      (λ more. so_far_nothing bytes taken step first old (flat_map form more) 0 (leftmost width K (as_read folds (map unit more)))),
      [],
      omega arith,
      held-back bytes taken step first old (held-first bytes taken step first old)
          (λ more. leftmost width K (as_read folds (map unit more)))
          (λ more. (leftmost width K (as_read folds (map unit more)), refl, leftmost_apart width K (as_read folds (map unit more)))),
    );
  }

  pub goes-first : IsReady can steps left unit width source 0 → (read : List ℕ) (given : List (Match V)) (held : List ℕ) → read ≡ []
      → given ≡ [] → held ≡ [] → Goes read given source 0 held first old
  goes-first ready read given held none no_match empty =
      let R : List ℕ → Type 0 = λ l. Goes l given source 0 held first old in
      let G : List (Match V) → Type 0 = λ l. Goes [] l source 0 held first old in
      let H : List ℕ → Type 0 = λ l. Goes [] [] source 0 l first old in
      subst R (sym none) (subst G (sym no_match) (subst H (sym empty) (record {
        units = [];
        gave = gave-first can steps left unit width folds source ready [] refl;
        sized = refl;
        is = held-first bytes taken step first old;
        behind = λ d rest is. subst (Follows 0) is (leftmost_apart width K d);
      })))

module _ {V P O F S U : Type 0} {bytes : P → List ℕ} {taken : O → Option (List ℕ)}
    {step : F → Match V → P → MutBor O → Result (Unit {0}) Error → MutBor O → F → Type 0} {first : F} {old : O}
    {can : S → Type 0} {steps : S → Option U → S → Type 0} {left : S → Count} {failure : S → Option Error} {unit : U → ℕ}
    {form : U → List ℕ} {width : ℕ → ℕ}
    {K : Dictionary V} {folds : Bool} {source : S} {read : List ℕ} {given : List (Match V)} {s : S} {place : ℕ} {held : List ℕ} {f : F}
    {out : O}
    (h : Goes bytes taken step first old can steps left failure unit form width K folds source read given s place held f out) where
  pub goes-count : place + length held ≡ size width read
  goes-count = held-count bytes taken step first old h.is ∙ h.sized

  abbrev StopsSo : ℕ → Error → O → Type 0
  StopsSo = Stops bytes taken step first old can steps left failure unit form width K folds source

  -- the units of a longer haystack, as they are read
  read_on : (more : List U) → read ++ as_read folds (map unit more) ≡ as_read folds (map unit (h.units ++ more))
  read_on more =
      ap (λ l. l ++ as_read folds (map unit more)) h.gave.is
      ∙ sym (as_read-append folds (map unit h.units) (map unit more))
      ∙ ap (as_read folds) (sym (map-append unit h.units more))

  -- what holds of each longer text holds of what the source may go on to give
  on : (Q : List ℕ → List ℕ → Type 0) → ((more d : List ℕ) → Q (flat_map form h.units ++ more) (read ++ d))
      → (more : List U) → Q (flat_map form (h.units ++ more)) (as_read folds (map unit (h.units ++ more)))
  on Q each more =
      let d : List ℕ = as_read folds (map unit more) in
      subst (Q (flat_map form (h.units ++ more))) (read_on more)
      (subst (λ text. Q text (read ++ d)) (sym (flat_map-append form h.units more)) (each (flat_map form more) d))

  -- it stopped however the source goes on
  refused : (longest : ℕ) (x e : Error) (new : O) → x ≡ e
      → ((more d : List ℕ) → IsStopped bytes taken (flat_map form h.units ++ more) step e (leftmost width K (read ++ d)) first old new)
      → StopsSo longest x new
  refused longest x e new same each = subst (λ y. StopsSo longest y new) (sym same) (record {
    units = h.units;
    last = s;
    took = h.gave.took;
    because = inr (inl (on (λ text l. IsStopped bytes taken text step e (leftmost width K l) first old new) each));
  })

  -- or after the source came to its end
  refused-at-end : IsAtWholeEnd steps failure s → (longest : ℕ) (x e : Error) (new : O) → x ≡ e
      → IsStopped bytes taken (flat_map form h.units) step e (leftmost width K read) first old new
      → StopsSo longest x new
  refused-at-end ends longest x e new same stops = subst (λ y. StopsSo longest y new) (sym same) (record {
    units = h.units;
    last = s;
    took = h.gave.took;
    because =
        let T : List ℕ → Type 0 = λ l. IsStopped bytes taken (flat_map form h.units) step e (leftmost width K l) first old new in
        inr (inr (ends, subst T h.gave.is stops));
  })

  was_held : (done : List (Match V)) → done ≡ given → IsHeld bytes taken step first old (flat_map form h.units) done place held f out
  was_held done same =
      let P : List (Match V) → Type 0 = λ l. IsHeld bytes taken step first old (flat_map form h.units) l place held f out in
      subst P (sym same) h.is

  pub goes-same : (ms : List (Match V)) (l : List ℕ) → ms ≡ given → l ≡ held
      → Goes bytes taken step first old can steps left failure unit form width K folds source read ms s place l f out
  goes-same ms l gives holds =
      let M : List (Match V)
      → Type 0 = λ x. Goes bytes taken step first old can steps left failure unit form width K folds source read x s place l f out in
      let L : List ℕ
      → Type 0 = λ x. Goes bytes taken step first old can steps left failure unit form width K folds source read given s place x f
      out in
      subst M (sym gives) (subst L (sym holds) h)

  -- the certain matches went out
  pub goes-out : {done more : List (Match V)} {next : ℕ} {rest : List ℕ} {g : F} {new : O} → done ≡ given
      → GoesOut bytes taken step done more place held f out next rest g new
      → Goes bytes taken step first old can steps left failure unit form width K folds source read more s next rest g new
  goes-out {done} {more} {next} {rest} {g} {new} same went = record {
    units = h.units;
    gave = h.gave;
    sized = h.sized;
    is = went.holds first old (flat_map form h.units) (was_held done same);
    behind = λ d later is.
        let all : leftmost width K (read ++ d) ≡ given ++ (went.more ++ later) =
        is ∙ ap (λ l. l ++ later) went.gives ∙ append_assoc done went.more later ∙ ap (λ l. l ++ (went.more ++ later)) same in
        subst (λ n. Follows n later) (sym went.ends) (Follows-behind place went.more later (h.behind d (went.more ++ later) all));
  }

  -- or did so up to a refusal
  pub stops-out : (longest : ℕ) (x e : Error) (all : List ℕ → List (Match V)) (new : O) → x ≡ e
      → ((d : List ℕ) → all d ≡ leftmost width K (read ++ d))
      → ((d : List ℕ) → GoesOutSoFar bytes taken step e (all d) given place held f out new) → StopsSo longest x new
  stops-out longest x e all new same is went = refused longest x e new same (λ more d. (
      let P : List (Match V) → Type 0 = λ l. IsStopped bytes taken (flat_map form h.units ++ more) step e l first old new in
      subst P (is d) (went d first old (flat_map form h.units) h.is more)
      ))

  -- or after the source came to its end
  pub stops-out-at-end : IsAtWholeEnd steps failure s → (longest : ℕ) (x e : Error) (done all : List (Match V)) (new : O) → x ≡ e
      → done ≡ given → all ≡ leftmost width K read
      → GoesOutSoFar bytes taken step e all done place held f out new → StopsSo longest x new
  stops-out-at-end ends longest x e done all new is_same same is went =
      let text = flat_map form h.units in
      let P : List (Match V) → Type 0 = λ l. IsStopped bytes taken text step e l first old new in
      let T : List ℕ → Type 0 = λ l. IsStopped bytes taken l step e all first old new in
      refused-at-end ends longest x e new is_same (subst P is (subst T (append-nil text) (went first old text (was_held done same) [])))

  -- nothing more went out: the source failed, or an allocation did
  pub stops-here : BeginEach width K read given → (longest : ℕ) (e : Error) → length held ≤ longest + block
      → FailsWith steps failure e s ⊎ (error_kind e ≡ OutOfMemory) → StopsSo longest e out
  stops-here begins longest e few why = record {
    units = h.units;
    last = s;
    took = h.gave.took;
    because = inl (
      why,
      on (λ text l. IsReplacedSoFar bytes taken text step (leftmost width K l) first old out) (λ more d. (
          let P : List (Match V) → Type 0 = λ l. IsReplacedSoFar bytes taken (flat_map form h.units ++ more) step l first old out in
          let rest = begins d in
          subst P (sym rest.1) (held-still bytes taken step first old h.is rest.0 (h.behind d rest.0 rest.1) more)
          )),
      held,
      few,
      held-back bytes taken step first old h.is (λ more. leftmost width K (as_read folds (map unit (h.units ++ more)))) (λ more. (
          let rest = begins (as_read folds (map unit more)) in
          (rest.0, ap (leftmost width K) (sym (read_on more)) ∙ rest.1, h.behind (as_read folds (map unit more)) rest.0 rest.1)
          )),
    );
  }

  module _ (wide : (u : ℕ) → 1 ≤ width u) {longest : ℕ} (bound : HasNoLonger width K longest)
      (certain : AreCertain width K read given) where
    -- no match that is to come starts in the bytes before the last `longest`
    late : (n : ℕ) → n + longest ≤ length held → (d : List ℕ) (rest : List (Match V)) → leftmost width K (read ++ d) ≡ given ++ rest
        → Follows (place + n) rest
    late n many d rest is =
        Follows-earlier (place + n) (size width read - longest) rest (omega (arith, many, goes-count))
        (late_matches width K wide longest bound read given certain d rest is)

    -- they went out
    pub goes-settled : {n : ℕ} {rest : List ℕ} {new : O} → GoesOutSettled taken longest n held out rest new
        → Goes bytes taken step first old can steps left failure unit form width K folds source read given s (place + n) rest f new
    goes-settled {n} {rest} {new} went = record {
      units = h.units;
      gave = h.gave;
      sized = h.sized;
      is =
          let H : List ℕ → Type 0 = λ l. IsHeld bytes taken step first old (flat_map form h.units) given (place + n) l f new in
          subst H (sym went.left) (held-past bytes taken step first old h.is n new went.inner went.went);
      behind = λ d later is. elim went.many [
        | inl none ↦ subst (λ k. Follows k later) (let same : place ≡ place + n = omega (arith, none) in same) (h.behind d later is)
        | inr many ↦ late n many d later is
      ];
    }

    -- or the output refused some of them
    pub stops-settled : (x e : Error) (new : O) → x ≡ e
        → (n : ℕ) × (n + longest ≤ length held) × AppendsPart (taken out) (taken new) (take n held) → StopsSo longest x new
    stops-settled x e new same (n, many, part) = refused longest x e new same (λ more d. (
        let P : List (Match V) → Type 0 = λ l. IsStopped bytes taken (flat_map form h.units ++ more) step e l first old new in
        let rest = certain.0 d in
        subst P (sym rest.1)
        (refused-within bytes taken step first old h.is n (omega (arith, many)) rest.0 (late n many d rest.0 rest.1) new part e more)
        ))

  module _ (as_wide : (u : ℕ) → width (folded_unit u) ≡ width u) where
    -- the places of the bytes held fit
    pub goes-inside : place + length held < 2 ^ 64
    goes-inside =
        omega (
          arith,
          goes-count,
          ap (size width) h.gave.is,
          size-as_read width as_wide folds (map unit h.units),
          h.gave.ready.fits [] s refl,
        )

    -- more units came
    pub goes-more : (units : List U) (t : S) (after more : List ℕ) (later : List (Match V)) → later ≡ given → Yields steps s units t
        → IsReady can steps left unit width t (size width after) → length (flat_map form units) ≡ size width (map unit units)
        → after ≡ read ++ as_read folds (map unit units) → more ≡ held ++ flat_map form units
        → Goes bytes taken step first old can steps left failure unit form width K folds source after later t place more f out
    goes-more units t after more later same took ready long reads holds =
        let come = as_read folds (map unit units) in
        let all : after ≡ as_read folds (map unit (h.units ++ units)) =
        reads ∙ ap (λ l. l ++ come) h.gave.is ∙ sym (as_read-append folds (map unit h.units) (map unit units))
        ∙ ap (as_read folds) (sym (map-append unit h.units units)) in
        let R : ℕ → Type 0 = λ n. IsReady can steps left unit width t n in
        record {
          units = h.units ++ units;
          gave = record {
            took = Yields_append steps source h.units s units t h.gave.took took;
            ready = subst R (ap (size width) all ∙ size-as_read width as_wide folds (map unit (h.units ++ units))) ready;
            is = all;
          };
          sized =
              omega (
                arith,
                h.sized,
                ap length (flat_map-append form h.units units),
                length-append (flat_map form h.units) (flat_map form units),
                long,
                size-as_read width as_wide folds (map unit units),
                ap (size width) reads,
                size-append width read come,
              );
          is =
              let T : List ℕ → Type 0 = λ l. IsHeld bytes taken step first old l later place more f out in
              let H : List ℕ
              → Type 0 = λ l. IsHeld bytes taken step first old (flat_map form h.units ++ flat_map form units) later place l f out in
              subst T (sym (flat_map-append form h.units units))
              (subst H (sym holds) (held-more bytes taken step first old (was_held later same) (flat_map form units)));
          behind = λ d rest is. h.behind (come ++ d) rest
              (ap (leftmost width K) (sym (append_assoc read come d) ∙ ap (λ l. l ++ d) (sym reads)) ∙ is ∙ ap (λ l. l ++ rest) same);
        }

  module _ (all : given ≡ leftmost width K read) where
    -- the source came to its end, and the rest went out
    pub goes-to-end : (ended : S) (last : O) → steps s None ended → failure ended ≡ None → Appends (taken out) (taken last) held
        → Whole bytes taken step first old can steps left failure unit form width K folds source last
    goes-to-end ended last ends whole went = record {
      units = h.units;
      last = s;
      ended = ended;
      took = h.gave.took;
      ends = ends;
      whole = whole;
      replaced =
          let R : List (Match V) → Type 0 = λ ms. IsReplaced bytes taken (flat_map form h.units) step ms first old last in
          subst (λ l. R (leftmost width K l)) h.gave.is (subst R all (held-whole bytes taken step first old h.is last went));
    }

    -- or the output refused some of it
    pub stops-at-end : IsAtWholeEnd steps failure s → (longest : ℕ) (e : Error) (last : O) → AppendsPart (taken out) (taken last) held
        → StopsSo longest e last
    stops-at-end ends longest e last part =
        let R : List (Match V) → Type 0 = λ ms. IsStopped bytes taken (flat_map form h.units) step e ms first old last in
        refused-at-end ends longest e e last refl (subst R all (refused-whole bytes taken step first old h.is last part e))
