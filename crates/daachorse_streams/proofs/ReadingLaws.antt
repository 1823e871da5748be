-- A leftmost search over a reader, one unit or one match further.
use Rattle.std.proofs.Common.{◌≡◌, ℕ, suc, zero, ◌+◌, ◌≤◌, ◌<◌, inl, inr, Bool, true, false, cond, List, [], ◌∷◌, ◌++◌, ◌-◌, map, length, Option, Some, None, refl, sym, ap, ◌∙◌, subst, append_assoc, append-nil, length-append, arith}
use Rattle.std.proofs.lemmas.List.{length-map, map-append}
use Rattle.std.specs.Iterator.{Count, IsFinite, MakesProgress, at_most, count_map, Yields, items_left}
use Rattle.std.specs.declared.io.Error.{Error}
use Rattle.daachorse_model.specs.declared.Match.{Match}
use Rattle.daachorse_model.specs.Certain.{AreCertain}
use Rattle.daachorse_model.specs.Folding.{folded_unit, as_read}
use Rattle.daachorse_model.specs.Units.{size}
use Rattle.daachorse_model.specs.Dictionary.{Dictionary}
use Rattle.daachorse_model.specs.Leftmost.{is_after, leftmost, leftmost_from, longest_key, match_at, units_to_skip}
use Rattle.daachorse_model.proofs.FoldLaws.{as_read-append, length-as_read}
use Rattle.daachorse_haystack.specs.ByteSources.{Yields_append}
use Rattle.daachorse_haystack.specs.Readings.{MayReadAsRead, unit_as_read}
use Rattle.daachorse_haystack.specs.Sources.{IsReady}
use Rattle.daachorse_haystack.proofs.ReadingLaws.{IsReady-as_it_is, MayReadAsRead-kept, MayReadAsRead-ready, units-as_read}
use Rattle.daachorse_haystack.proofs.SourceLaws.{IsReady-more}
use Rattle.daachorse_search.specs.Views.{AutomatonView}
use Rattle.daachorse_streams.specs.Advancing.{HasConsumed}
use Rattle.daachorse_streams.specs.LeftmostReading.{GaveAll, GaveError, GaveLeftmost, HasGivenAll, HasRead, LeftmostReading, Takes, TakesAll, TakesUnits, items_to_give, units_left}
use Rattle.daachorse_streams.specs.Streamed.{IsSameStream, LeftmostStreamed}

none_read : (folds : Bool) (read : List ℕ) → read ≡ read ++ as_read folds []
none_read true read = sym (append-nil read)
none_read false read = sym (append-nil read)

module _ {V : Type 0} (width : ℕ → ℕ) (K : Dictionary V) where
  one_here : (s : ℕ) (after : Bool) (best : Option (List ℕ × V)) → length (match_at width s after best) ≤ 1
  one_here s after None = omega arith
  one_here s true (Some ([], v)) = omega arith
  one_here s false (Some ([], v)) = omega arith
  one_here s after (Some (c ∷ p, v)) = omega arith

  at_most_each : (s skip : ℕ) (after : Bool) (w : List ℕ) → length (leftmost_from width K s skip after w) ≤ length w + 1
  at_most_each s (suc skip) after [] = omega arith
  at_most_each s (suc skip) after (u ∷ w) = omega (arith, at_most_each (s + width u) skip after w)
  at_most_each s zero after [] = one_here s after (longest_key K [] [])
  at_most_each s zero after (u ∷ w) =
      let best = longest_key K [] (u ∷ w) in
      omega (arith, length-append (match_at width s after best) (leftmost_from width K (s + width u) (units_to_skip best) (is_after after best) w), one_here s after best, at_most_each (s + width u) (units_to_skip best) (is_after after best) w)

  -- a match begins at each boundary at most
  pub few_matches : (h : List ℕ) → length (leftmost width K h) ≤ length h + 1
  few_matches h = at_most_each 0 zero false h

module _ {S U : Type 0} (can : S → Type 0) (steps : S → Option U → S → Type 0) (left : S → Count) (unit : U → ℕ) (width : ℕ → ℕ) (as_wide : (u : ℕ) → width (folded_unit u) ≡ width u) (may_read : S → List ℕ → Type 0)
    (ready : (s : S) (read : List ℕ) → may_read s read → IsReady can steps left unit width s (size width read)) (folds : Bool) (s : S) (read : List ℕ) (may : MayReadAsRead may_read folds s read) where
  is_ready : IsReady can steps left (unit_as_read folds unit) width s (size width read)
  is_ready = MayReadAsRead-ready can steps left unit width as_wide may_read ready folds s read may

  -- the source may be called, ends, and its next unit fits
  pub ready_as_it_is : IsReady can steps left unit width s (size width read)
  ready_as_it_is = IsReady-as_it_is can steps left unit width as_wide folds s (size width read) is_ready

  -- the source may be read on behind the unit
  pub may_read_more : ((s : S) (read : List ℕ) (xs : List U) (t : S) → may_read s read → Yields steps s xs t → length xs + items_left left t ≤ items_left left s
      → IsReady can steps left unit width t (size width (read ++ map unit xs)) → may_read t (read ++ map unit xs))
      → (x : U) (t : S) → steps s (Some x) t → MakesProgress can left s (Some x) t → (as_before : Bool) → as_before ≡ folds → (all : List ℕ) → all ≡ read ++ as_read folds (unit x ∷ [])
      → MayReadAsRead may_read as_before t all
  may_read_more kept x t step goes as_before same all more =
      let P : List ℕ → Type 0 = λ w. MayReadAsRead may_read folds t w in
      let B : Bool → Type 0 = λ b. MayReadAsRead may_read b t all in
      let later : List ℕ = map (unit_as_read folds unit) (x ∷ []) in
      let next = IsReady-more can steps left (unit_as_read folds unit) width s x t read (read ++ later) is_ready step goes refl in
      subst B (sym same)
      (subst P (ap (λ w. read ++ w) (units-as_read folds unit (x ∷ [])) ∙ sym more)
      (MayReadAsRead-kept can steps left unit width as_wide may_read kept folds s read (x ∷ []) t may (t, step, refl) (let on = goes.on is_ready.ends in omega (arith, on.2)) next))

-- what is read behind more units
read_more : {U : Type 0} (unit : U → ℕ) (folds : Bool) (read : List ℕ) (xs ys : List U) → read ++ as_read folds (map unit (xs ++ ys)) ≡ (read ++ as_read folds (map unit xs)) ++ as_read folds (map unit ys)
read_more unit folds read xs ys =
    ap (λ l. read ++ l) (ap (as_read folds) (map-append unit xs ys) ∙ as_read-append folds (map unit xs) (map unit ys)) ∙ sym (append_assoc read (as_read folds (map unit xs)) (as_read folds (map unit ys)))

last_of : {U : Type 0} (units : List U) → 0 < length units → (front : List U) × (last : U) × (units ≡ front ++ last ∷ [])
last_of [] some = absurd (omega (arith, some))
last_of (u ∷ []) some = ([], u, refl)
last_of (u ∷ (v ∷ units)) some = let rest = last_of (v ∷ units) (omega arith) in (u ∷ rest.0, rest.1, ap (λ l. u ∷ l) rest.2)

-- where what is certain is all there is to the end of a text, no more is certain within it
certain_between : {V : Type 0} (width : ℕ → ℕ) (K : Dictionary V) (w a b : List ℕ) (ms : List (Match V)) → AreCertain width K w ms → leftmost width K ((w ++ a) ++ b) ≡ ms → AreCertain width K (w ++ a) ms
certain_between width K w a b ms certain all = (
  λ d. let next = certain.0 (a ++ d) in (next.0, ap (leftmost width K) (append_assoc w a d) ∙ next.1),
  λ ns begins. let next = begins b in (next.0, sym all ∙ next.1),
)

read_long : {V A U : Type 0} (unit : U → ℕ) (s : LeftmostStreamed V A) (xs : List U) → length (s.read ++ as_read s.folds (map unit xs)) ≡ length s.read + length xs
read_long unit s xs = omega (arith, length-append s.read (as_read s.folds (map unit xs)), length-as_read s.folds (map unit xs), length-map xs unit)

module _ {V A S : Type 0} (left : S → Count) (s : LeftmostReading V A S) where
  -- what is left to give before all was given
  left_open : s.over ≡ false
      → items_to_give left s ≡ count_map (λ n. length s.stream.read + n + 2 - length s.stream.given) (units_left left s.source)
  left_open open_yet =
      ap (λ b. cond b (at_most 0) (count_map (λ n. length s.stream.read + n + 2 - length s.stream.given) (units_left left s.source))) open_yet

  -- and after that
  left_over : s.over ≡ true → items_to_give left s ≡ at_most 0
  left_over over =
      ap (λ b. cond b (at_most 0) (count_map (λ n. length s.stream.read + n + 2 - length s.stream.given) (units_left left s.source))) over

module _ {V A S U : Type 0} (width : ℕ → ℕ) (sees : A → AutomatonView V) (steps : S → Option U → S → Type 0) (left : S → Count) (unit : U → ℕ) (failure : S → Option Error) where
  -- the units xs were taken, and read
  pub record HasTaken (s : LeftmostStreamed V A) (from : S) (xs : List U) (to : S) (t : LeftmostStreamed V A) : Type 0 where
    pub takes : TakesUnits width sees steps left unit failure s from xs to
    pub reads : HasRead width sees steps left unit failure s xs t

  pub HasTaken-none : (s : LeftmostStreamed V A) (from : S) → HasTaken s from [] from s
  HasTaken-none s from = record {
    takes = record { took = refl; fewer = omega arith; needed = inl refl };
    reads = record { same = refl; folds = refl; read = none_read s.folds s.read };
  }

  -- The source has ended with no error, where no other match was certain.
  pub record AtEnd (s : LeftmostReading V A S) (t : LeftmostStreamed V A) : Type 0 where
    pub xs : List U
    pub takes : Takes width sees steps left unit failure s.stream s.source xs None
    pub reads : HasRead width sees steps left unit failure s.stream xs t
    pub given : t.given ≡ s.stream.given

  -- it ended before
  pub ended_before : (s : LeftmostReading V A S) → s.source ≡ None → AtEnd s s.stream
  ended_before s none =
      let P : Option S → Type 0 = λ o. Takes width sees steps left unit failure s.stream o [] None in
      record { xs = []; takes = subst P (sym none) refl; reads = record { same = refl; folds = refl; read = none_read s.stream.folds s.stream.read }; given = refl }

  -- no more units were taken than were left
  taken : (s : LeftmostStreamed V A) (source later : Option S) (xs : List U) → Takes width sees steps left unit failure s source xs later → length xs + (units_left left later).bound ≤ (units_left left source).bound
  taken s (Some from) (Some to) xs takes = takes.fewer
  taken s (Some from) None xs takes = omega (arith, takes.few)
  taken s None None xs takes = omega (arith, ap length takes)
  taken s None (Some to) xs takes = absurd takes

module _ {V A S U : Type 0} {width : ℕ → ℕ} {sees : A → AutomatonView V} {steps : S → Option U → S → Type 0} {left : S → Count} {unit : U → ℕ} {failure : S → Option Error} where
  module _ {s t : LeftmostStreamed V A} {from to : S} {xs : List U} (is : HasTaken width sees steps left unit failure s from xs to t) where
    pub HasTaken-same : (new : LeftmostStreamed V A) → IsSameStream t new → HasTaken width sees steps left unit failure s from xs to new
    HasTaken-same new same = let reads = is.reads in record { takes = is.takes; reads = record { same = same.0 ∙ reads.same; folds = same.1 ∙ reads.folds; read = same.2 ∙ reads.read } }

    -- what is certain is so of what was taken
    pub given_all : t.given ≡ s.given → AreCertain width (sees t.automaton).content t.read t.given → HasGivenAll width sees steps left unit failure s xs
    given_all given certain =
        let P : A → Type 0 = λ a. AreCertain width (sees a).content t.read t.given in
        let Q : List ℕ → Type 0 = λ w. AreCertain width (sees s.automaton).content w t.given in
        let R : List (Match V) → Type 0 = λ ms. AreCertain width (sees s.automaton).content (s.read ++ as_read s.folds (map unit xs)) ms in
        subst R given (subst Q is.reads.read (subst P is.reads.same certain))

    -- more units were taken, where no other match was certain, nor is one after the first of them
    pub HasTaken-more : HasGivenAll width sees steps left unit failure s xs → (units : List U) → 0 < length units → (later : S) → Yields steps to units later → length units + items_left left later ≤ items_left left to
        → (new : LeftmostStreamed V A) → HasConsumed t (map unit units) new → (1 < length units → leftmost width (sees t.automaton).content new.read ≡ s.given) → HasTaken width sees steps left unit failure s from (xs ++ units) later new
    HasTaken-more all units some later took fewer new consumed clear = record {
      takes = record {
        took = Yields_append steps from xs to units later is.takes.took took;
        fewer = omega (arith, is.takes.fewer, fewer, length-append xs units);
        needed = inr (xs ++ cut.0, cut.1, ap (λ l. xs ++ l) cut.2 ∙ sym (append_assoc xs cut.0 (cut.1 ∷ [])), by cut.0 cut.2);
      };
      reads = record { same = consumed.automaton ∙ is.reads.same; folds = consumed.folds ∙ is.reads.folds; read = read };
    }
      where
        cut : (front : List U) × (last : U) × (units ≡ front ++ last ∷ [])
        cut = last_of units some

        read : new.read ≡ s.read ++ as_read s.folds (map unit (xs ++ units))
        read =
            consumed.read
            ∙ ap (λ b. t.read ++ as_read b (map unit units)) is.reads.folds
            ∙ ap (λ w. w ++ as_read s.folds (map unit units)) is.reads.read
            ∙ sym (read_more unit s.folds s.read xs units)

        by : (front : List U) → units ≡ front ++ cut.1 ∷ [] → HasGivenAll width sees steps left unit failure s (xs ++ front)
        by [] parts = subst (HasGivenAll width sees steps left unit failure s) (sym (append-nil xs)) all
        by (f ∷ front) parts =
            let K = (sees s.automaton).content in let before : List U = f ∷ front in
            let many : 1 < length units = omega (arith, ap length parts, length-append before (cut.1 ∷ [])) in
            let w : List ℕ = s.read ++ as_read s.folds (map unit xs) in let a = as_read s.folds (map unit before) in let b = as_read s.folds (map unit (cut.1 ∷ [])) in
            let whole : new.read ≡ (w ++ a) ++ b =
            read ∙ ap (λ l. s.read ++ as_read s.folds (map unit (xs ++ l))) parts ∙ ap (λ l. s.read ++ as_read s.folds (map unit l)) (sym (append_assoc xs before (cut.1 ∷ []))) ∙ read_more unit s.folds s.read (xs ++ before) (cut.1 ∷ [])
            ∙ ap (λ l. l ++ b) (read_more unit s.folds s.read xs before) in
            let none : leftmost width K ((w ++ a) ++ b) ≡ s.given = ap (leftmost width K) (sym whole) ∙ ap (λ x. leftmost width (sees x).content new.read) (sym is.reads.same) ∙ clear many in
            let C : List ℕ → Type 0 = λ l. AreCertain width K l s.given in
            subst C (sym (read_more unit s.folds s.read xs before)) (certain_between width K w a b s.given all none)

  -- the source ends now
  pub ends_now : {s : LeftmostReading V A S} {t : LeftmostStreamed V A} {from to : S} {xs : List U} → s.source ≡ Some from → TakesAll width sees steps left unit failure s.stream from xs (failure to)
      → HasRead width sees steps left unit failure s.stream xs t → t.given ≡ s.stream.given → failure to ≡ None
      → (new : LeftmostStreamed V A) → new.automaton ≡ t.automaton → new.folds ≡ t.folds → new.read ≡ t.read → new.given ≡ t.given → AtEnd width sees steps left unit failure s new
  ends_now {s = s} {from = from} {xs = xs} some all reads given fails new same folds read as_before =
      let P : Option S → Type 0 = λ o. Takes width sees steps left unit failure s.stream o xs None in
      let E : Option Error → Type 0 = λ e. TakesAll width sees steps left unit failure s.stream from xs e in
      record {
        xs = xs;
        takes = subst P (sym some) (subst E fails all);
        reads = record { same = same ∙ reads.same; folds = folds ∙ reads.folds; read = read ∙ reads.read };
        given = as_before ∙ given;
      }

  module _ {s : LeftmostReading V A S} {t : LeftmostStreamed V A} (is : AtEnd width sees steps left unit failure s t) where
    -- the matches that are left are given
    pub gave_last : (m : Match V) (new : LeftmostStreamed V A) → IsSameStream t new → new.given ≡ t.given ++ m ∷ [] → (rest : List (Match V)) × (leftmost width (sees new.automaton).content new.read ≡ new.given ++ rest)
        → GaveLeftmost width sees steps left unit failure s is.xs m (record { stream = new; source = None; over = false })
    gave_last m new same given first = record {
      takes = is.takes;
      reads = record { same = same.0 ∙ is.reads.same; folds = same.1 ∙ is.reads.folds; read = same.2 ∙ is.reads.read };
      given = given ∙ ap (λ ms. ms ++ m ∷ []) is.given;
      certain = tt;
      first = first;
    }

    pub gave_all : (new : LeftmostStreamed V A) → IsSameStream t new → new.given ≡ t.given → new.given ≡ leftmost width (sees new.automaton).content new.read → new.waiting ≡ false
        → GaveAll width sees steps left unit failure s is.xs (record { stream = new; source = None; over = true })
    gave_all new same given all quiet = record {
      takes = is.takes;
      reads = record {
        reads = record { same = same.0 ∙ is.reads.same; folds = same.1 ∙ is.reads.folds; read = same.2 ∙ is.reads.read };
        given = given ∙ is.given;
      };
      all = all;
      quiet = quiet;
    }

  module _ (can : LeftmostReading V A S → Type 0) (may : (x : LeftmostReading V A S) → can x) {R : Type 0} (r : R) {before s t : LeftmostReading V A S} (was : before ≡ s) (open_yet : s.over ≡ false) where
    -- a match leaves fewer to give
    pub goes_on : {xs : List U} {m : Match V} → t.over ≡ false → GaveLeftmost width sees steps left unit failure s xs m t
        → IsFinite (units_left left t.source) → MakesProgress can (items_to_give left) before (Some r) t
    goes_on {xs = xs} {m = m} on gave finite =
        let P : LeftmostReading V A S → Type 0 = λ x. MakesProgress can (items_to_give left) x (Some r) t in
        let fewer : (items_to_give left t).bound < (items_to_give left s).bound = omega (
          arith,
          ap (λ (c : Count). c.bound) (left_open left t on),
          ap (λ (c : Count). c.bound) (left_open left s open_yet),
          taken width sees steps left unit failure s.stream s.source t.source xs gave.takes,
          ap length gave.reads.read,
          read_long unit s.stream xs,
          ap length gave.given,
          length-append s.stream.given (m ∷ []),
          ap length gave.first.1,
          length-append t.stream.given gave.first.0,
          few_matches width (sees t.stream.automaton).content t.stream.read,
        ) in
        subst P (sym was) (record { on = λ _. (may t, subst IsFinite (sym (left_open left t on)) finite, fewer); keeps = may t; rests = λ _. tt })

    -- and so does an error
    pub goes_to_error : {xs : List U} {error : Error} → t.over ≡ true → GaveError width sees steps left unit failure s xs error t
        → MakesProgress can (items_to_give left) before (Some r) t
    goes_to_error {xs = xs} ended gave =
        let P : LeftmostReading V A S → Type 0 = λ x. MakesProgress can (items_to_give left) x (Some r) t in
        let read : List ℕ = s.stream.read ++ as_read s.stream.folds (map unit xs) in
        let first = gave.takes.needed.0 [] in
        let fewer : (items_to_give left t).bound < (items_to_give left s).bound = omega (
          arith,
          ap (λ (c : Count). c.bound) (left_over left t ended),
          ap (λ (c : Count). c.bound) (left_open left s open_yet),
          gave.takes.few,
          ap (λ o. (units_left left o).bound) gave.had,
          read_long unit s.stream xs,
          ap length (append-nil read),
          ap length first.1,
          length-append s.stream.given first.0,
          few_matches width (sees s.stream.automaton).content (read ++ []),
        ) in
        subst P (sym was) (record { on = λ _. (may t, subst IsFinite (sym (left_over left t ended)) tt, fewer); keeps = may t; rests = λ _. tt })
