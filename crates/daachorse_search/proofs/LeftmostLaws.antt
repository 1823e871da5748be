-- One scan of a leftmost search: what is left after it, and how the bounds on the turns grow.
use Rattle.std.proofs.Common.{◌≡◌, ◌≢◌, ℕ, ◌+◌, ◌-◌, ◌*◌, ◌<◌, ◌≤◌, inl, inr, ◌⊎◌, Bool, IsTrue, true, false, cond, eqb, List, [], ◌∷◌, ◌++◌, length, take, Some, refl, sym, ap, ◌∙◌, subst, append_assoc, append-nil, length-append, arith}
use Rattle.std.specs.Prelude.{count_by}
use Rattle.std.proofs.lemmas.Bool.{eqb-true}
use Rattle.std.proofs.lemmas.List.{nil_from_length}
use Rattle.daachorse_model.specs.declared.Match.{Match}
use Rattle.daachorse_model.specs.Units.{size}
use Rattle.daachorse_model.specs.Leftmost.{longest_key, leftmost_from}
use Rattle.daachorse_model.specs.Best.{NoneStarts}
use Rattle.daachorse_model.proofs.Suffixes.{size-append}
use Rattle.daachorse_model.proofs.Overlap.{take-append}
use Rattle.daachorse_model.proofs.BestMatches.{leftmost_from-clear, leftmost_from-key, leftmost_from-empty, leftmost_from-last, leftmost_from-none, longest-best, none_starts-best}
use Rattle.daachorse_search.specs.BestScans.{IsTheBest, IsClear}
use Rattle.daachorse_haystack.specs.Filters.{PassesNoneBefore, PassesNowhere, count_passing}
use Rattle.daachorse_search.specs.LeftmostSearches.{StandsBehind, SkipsUnit, IsSkipped, before_rest, leftmost_left, IsWithin, IsResting}
use Rattle.daachorse_search.specs.Views.{AutomatonView}
use Rattle.daachorse_haystack.proofs.FilterLaws.{none_starts-skipped, count_passing-more, count_passing-most, count_passing-none, count_passing-all}

-- the units that come before the rest
pub before_rest-is : (whole passed rest : List ℕ) → whole ≡ passed ++ rest → before_rest whole rest ≡ passed
before_rest-is whole passed rest parts =
    let count : length whole - length rest ≡ length passed = omega (arith, ap length parts, length-append passed rest) in
    ap (λ n. take n whole) count ∙ ap (take (length passed)) parts ∙ take-append passed rest

-- units that take no byte are none
pub nil_from_size : (width : ℕ → ℕ) → ((u : ℕ) → 1 ≤ width u) → (w : List ℕ) → size width w ≡ 0 → w ≡ []
nil_from_size width wide [] none = refl
nil_from_size width wide (u ∷ w) none = absurd (omega (arith, none, wide u))

none_left : (rest front later : List ℕ) → rest ≡ front ++ later → rest ≡ [] → later ≡ []
none_left rest front later cut empty = nil_from_length later (omega (arith, ap length cut, ap length empty, length-append front later))

times_one_more : (m n : ℕ) → m * (n + 1) ≡ m * n + m
times_one_more m n = grind arith

-- one match more, unless it is passed over
abbrev pub one_unless : Bool → ℕ → ℕ
one_unless after n = cond after n (n + 1)

abbrev pub unless : {V : Type 0} → Bool → Match V → List (Match V)
unless after m = cond after [] (m ∷ [])

-- the turns of an empty match, behind which the search goes on so many units later
within_empty : (m : ℕ) (after : Bool) (passed units turns later given : ℕ) → turns + cond after (2 * m) 0 ≤ 2 * passed + 4 * (m * given) → later ≤ turns + 2 * (m + units)
    → later ≤ 2 * (passed + units) + 4 * (m * one_unless after given)
within_empty m true passed units turns later given was near = omega (arith, was, near)
within_empty m false passed units turns later given was near = omega (arith, was, near, times_one_more m given)

-- what is left of the rest behind so many bytes
abbrev GoesTo : (ℕ → ℕ) → List ℕ → ℕ → List ℕ → Type 0
GoesTo width rest end later = (front back : List ℕ) → rest ≡ front ++ back → end ≡ size width front → later ≡ back

-- The search went on from where `rest` begins to where `later` does, and gave these of the matches that were left.
pub record GoesOn {V : Type 0} (width : ℕ → ℕ) (view : AutomatonView V) (passes : List ℕ → Bool) (asked opened : Type 0) (whole rest : List ℕ) (place : ℕ) (before over : Bool) (later : List ℕ) (to : ℕ) (after done : Bool) (turns given : ℕ) (gave : List (Match V)) : Type 0 where
  pub resting : IsResting width view passes asked opened whole later to after done turns given
  pub left : leftmost_left width view.content place rest before over ≡ gave ++ leftmost_left width view.content to later after done

module _ {V : Type 0} {width : ℕ → ℕ} {view : AutomatonView V} {passes : List ℕ → Bool} {asked opened : Type 0} {whole rest : List ℕ} {place : ℕ} {after done : Bool} {turns given : ℕ} (was : IsResting width view passes asked opened whole rest place after done turns given) where
  before_is : before_rest whole rest ≡ was.passed
  before_is = before_rest-is whole was.passed rest was.parts

  -- the haystack begins with the units passed
  pub passed_parts : (back : List ℕ) × (whole ≡ before_rest whole rest ++ back)
  passed_parts = (rest, was.parts ∙ ap (λ x. x ++ rest) (sym before_is))

  pub passing_least : count_passing passes view.has_label whole (before_rest whole rest) ≤ turns
  passing_least = omega (arith, was.least, ap (count_passing passes view.has_label whole) before_is)

  -- where it passes everywhere, each unit with a label counts
  pub labelled_least : ((w : List ℕ) → passes w ≡ true) → count_by view.has_label (before_rest whole rest) ≤ turns
  labelled_least all = omega (arith, was.least, ap (λ w. count_passing passes view.has_label w was.passed) was.parts, count_passing-all passes view.has_label all was.passed rest, ap (count_by view.has_label) before_is)

  pub whole_size : size width whole ≡ place + size width rest
  whole_size = omega (arith, was.here, ap (size width) was.parts, size-append width was.passed rest)

  -- more units are passed
  parts_on : (front later : List ℕ) → rest ≡ front ++ later → whole ≡ (was.passed ++ front) ++ later
  parts_on front later cut = was.parts ∙ (ap (λ x. was.passed ++ x) cut ∙ sym (append_assoc was.passed front later))

  module _ {bytes : ℕ} (spans : bytes ≡ size width whole) where
    place_on : (front later : List ℕ) → rest ≡ front ++ later → place + size width front ≡ bytes - size width later
    place_on front later cut = omega (arith, spans, whole_size, ap (size width) cut, size-append width front later)

    moved : (now_open : Type 0) (later : List ℕ) (then over : Bool) (next more : ℕ) (front : List ℕ) → rest ≡ front ++ later → IsWithin width view.content (length was.passed + length front) then next more
        → turns + count_passing passes view.has_label (front ++ later) front ≤ next → (IsTrue over → later ≡ []) → (asked → PassesNowhere passes whole → (next ≡ 0) × (now_open ⊎ (later ≡ [])))
        → IsResting width view passes asked now_open whole later (bytes - size width later) then over next more
    moved now_open later then over next more front cut most least ended idle = record {
      kind = was.kind;
      sound = was.sound;
      passed = was.passed ++ front;
      parts = parts_on front later cut;
      here = omega (arith, was.here, place_on front later cut, size-append width was.passed front);
      fits = was.fits;
      ended = ended;
      most = λ m bound. omega (arith, most m bound, length-append was.passed front);
      least = subst P (sym (was.parts ∙ ap (λ x. was.passed ++ x) cut)) (omega (arith, subst Q (was.parts ∙ ap (λ x. was.passed ++ x) cut) was.least, least, count_passing-more passes view.has_label was.passed front (front ++ later)));
      idle = idle;
    }
      where
        P : List ℕ → Type 0
        P x = count_passing passes view.has_label x (was.passed ++ front) ≤ next

        Q : List ℕ → Type 0
        Q x = count_passing passes view.has_label x was.passed ≤ turns

    -- over a skip nothing is given and nothing is looked at, and a filter that is open and passes nowhere goes to the end
    pub skipped : {now : List ℕ → Bool} {later : List ℕ} → done ≡ false → ((w : List ℕ) → now w ≡ passes w) → IsSkipped now opened rest later → GoesOn width view passes asked ⊥ whole rest place after done later (bytes - size width later) after false turns given []
    skipped {now} {later} on same skip =
        let none : PassesNoneBefore passes later rest = λ a b parts less. sym (same b) ∙ skip.none a b parts less in
        let P : List ℕ → Type 0 = λ x. PassesNoneBefore passes later x in
        let N : List ℕ → Type 0 = λ x. NoneStarts view.content (length skip.front) x in
        record {
          resting = moved ⊥ later after false turns given skip.front skip.parts (λ m bound. omega (arith, was.most m bound)) (omega (arith, count_passing-none passes view.has_label skip.front later (subst P skip.parts none))) (λ e. absurd (cc))
              (λ was_open nowhere. let idle = was.idle was_open nowhere in (idle.0, inr (over nowhere idle.1)));
          left =
              ap (leftmost_left width view.content place rest after) on
              ∙ ap (λ w. leftmost_from width view.content place 0 after w) skip.parts
              ∙ leftmost_from-clear width view.content place after skip.front later (subst N skip.parts (none_starts-skipped passes view.content was.sound rest skip.front later skip.parts none))
              ∙ ap (λ n. leftmost_from width view.content n 0 after later) (place_on skip.front later skip.parts);
        }
      where
        -- where it passes nowhere, it goes to the end
        over : PassesNowhere passes whole → opened ⊎ (rest ≡ []) → later ≡ []
        over nowhere (inr empty) = none_left rest skip.front later skip.parts empty
        over nowhere (inl is_open) = elim (skip.here is_open) [
          | inl empty ↦ empty
          | inr stands ↦ at_unit stands later refl
        ]
          where
            at_unit : now later ≡ true → (x : List ℕ) → later ≡ x → later ≡ []
            at_unit stands [] e = e
            at_unit stands (u ∷ x) e = absurd (let not_here = nowhere (was.passed ++ skip.front) later (parts_on skip.front later skip.parts) (omega (arith, ap length e)) in let bad : true ≡ false = sym (sym (same later) ∙ stands) ∙ not_here in cc)

-- what was scanned is taken off, or nothing was left
pub fewer_left : {V : Type 0} {width : ℕ → ℕ} {view : AutomatonView V} {rest later : List ℕ} {may_stop : Bool} {end left turns next : ℕ} → IsClear width view rest may_stop end turns next → GoesTo width rest end later → left ≡ size width later → length later + cond (eqb left 0) 0 1 ≤ length rest
fewer_left {V} {width} {view} {rest} {later} {may_stop} {end} {left} clear goes is = by later refl
  where
    cut : length rest ≡ length clear.front + length later
    cut = ap length clear.parts ∙ length-append clear.front clear.rest ∙ ap (λ x. length clear.front + length x) (sym (goes clear.front clear.rest clear.parts clear.ends))

    one : (b : Bool) → cond {A = ℕ} b 0 1 ≤ 1
    one true = omega arith
    one false = omega arith

    by : (x : List ℕ) → later ≡ x → length later + cond (eqb left 0) 0 1 ≤ length rest
    by [] e = let none : left ≡ 0 = is ∙ ap (size width) e in omega (arith, ap length e, ap {B = ℕ} (λ n. cond (eqb n 0) 0 1) none)
    by (u ∷ x) e = omega (arith, one (eqb left 0), cut, clear.some (omega (arith, cut, ap length e)))

module _ {V : Type 0} {width : ℕ → ℕ} {view : AutomatonView V} {rest : List ℕ} {position end turns next : ℕ} (best : IsTheBest width view rest position end turns next) where
  -- what comes after the best
  best_cut : rest ≡ (best.front ++ best.key) ++ best.best.rest
  best_cut = best.best.occurs.parts ∙ sym (append_assoc best.front best.key best.best.rest)

  -- where the haystack goes on after the best
  pub best_ends : (front : List ℕ) × (back : List ℕ) × (rest ≡ front ++ back) × (end ≡ size width front)
  best_ends = (best.front ++ best.key, best.best.rest, best_cut, best.ends)

  pub best_fits : end ≤ size width rest
  best_fits = omega (arith, best.ends, ap (size width) best_cut, size-append width (best.front ++ best.key) best.best.rest)

  module _ {value : V} {len : ℕ} {more : List (V × ℕ)} (is : view.outputs position ≡ (value, len) ∷ more) where
    -- the output's first value and size are those of the best
    output_of : (len ≡ size width best.key) × ((others : List V) × (view.content best.key ≡ value ∷ others))
    output_of =
        let of = best.output in
        let found : V × ℕ = (of.value, size width best.key) in
        let told : V × ℕ = (value, len) in
        let same : found ∷ of.more ≡ told ∷ more = sym of.first ∙ is in
        let pair : found ≡ told = cc in
        (sym (ap (λ x. x.1) pair), (of.others, of.has ∙ ap (λ x. x.0 ∷ of.others) pair))

    pub output_fits : len ≤ end
    output_fits = omega (arith, output_of.0, best.ends, size-append width best.front best.key)

    module _ (wide : (u : ℕ) → 1 ≤ width u) where
      -- a best that ends behind where the scan began takes bytes, since an empty key would have been the best there
      ends_behind : 0 < end → 0 < len
      ends_behind some = by best.key refl
        where
          by : (k : List ℕ) → best.key ≡ k → 0 < len
          by (u ∷ k) e = omega (arith, output_of.0, ap (size width) e, wide u)
          by [] e =
              let key : view.content [] ≢ [] = λ bad. (let both : value ∷ output_of.1.0 ≡ [] = sym output_of.1.1 ∙ (ap view.content e ∙ bad) in cc) in
              absurd (elim (best.best.least [] [] rest (record { parts = refl; key = key })) [
                | inl p ↦ omega (arith, p)
                | inr q ↦ omega (arith, some, best.ends, size-append width best.front best.key, ap (size width) e, ap (size width) (nil_from_length best.front q.0))
              ])

      -- an empty best stands where the scan began
      empty_best : end ≤ 0 → (best.front ≡ []) × (longest_key view.content [] rest ≡ Some ([], value))
      empty_best none =
          let all : best.front ++ best.key ≡ [] = nil_from_size width wide (best.front ++ best.key) (omega (arith, best.ends)) in
          let front : best.front ≡ [] = nil_from_length best.front (omega (arith, ap length all, length-append best.front best.key)) in
          let key : best.key ≡ [] = nil_from_length best.key (omega (arith, ap length all, length-append best.front best.key)) in
          let parts : rest ≡ best.key ++ best.best.rest = best.best.occurs.parts ∙ ap (λ f. f ++ (best.key ++ best.best.rest)) front in
          (front, ap (λ w. longest_key view.content [] w) parts ∙ (longest-best view.content rest best.front best.key value output_of.1.0 best.best output_of.1.1 ∙ ap (λ k. Some (k, value)) key))

module _ {V : Type 0} {width : ℕ → ℕ} {view : AutomatonView V} {passes : List ℕ → Bool} {asked : Type 0} {whole rest : List ℕ} {place : ℕ} {after : Bool} {turns given : ℕ} (was : IsResting width view passes asked ⊥ whole rest place after false turns given) {bytes : ℕ} (spans : bytes ≡ size width whole) (wide : (u : ℕ) → 1 ≤ width u) where
  -- the units that are looked at, and a filter that passes nowhere
  scanned : (opened : Type 0) (later : List ℕ) (then over : Bool) (next more : ℕ) (front : List ℕ) → rest ≡ front ++ later → IsWithin width view.content (length was.passed + length front) then next more → turns + count_by view.has_label front ≤ next → next ≤ turns + 2 * length rest
      → (IsTrue over → later ≡ []) → IsResting width view passes asked opened whole later (bytes - size width later) then over next more
  scanned opened later then over next more front cut most least few ended = moved was spans opened later then over next more front cut most (omega (arith, least, count_passing-most passes view.has_label front later)) ended idle
    where
      idle : asked → PassesNowhere passes whole → (next ≡ 0) × (opened ⊎ (later ≡ []))
      idle was_open nowhere = elim (was.idle was_open nowhere).1 [
        | inl never ↦ absurd never
        | inr none ↦ (omega (arith, few, ap length none, (was.idle was_open nowhere).0), inr (none_left rest front later cut none))
      ]

  -- nothing starts in what was scanned: the search goes on behind it, or is over
  pub cleared : (opened : Type 0) {later : List ℕ} {end left next : ℕ} {may_stop : Bool} → IsClear width view rest may_stop end turns next → GoesTo width rest end later → left ≡ size width later
      → GoesOn width view passes asked opened whole rest place after false later (bytes - size width later) after (eqb left 0) next given []
  cleared opened {later} {end} {left} {next} clear goes is =
      let N : List ℕ → Type 0 = λ x. NoneStarts view.content (length clear.front) x in
      record {
        resting = scanned opened later after (eqb left 0) next given clear.front cut (λ m bound. omega (arith, was.most m bound, clear.most)) clear.least (omega (arith, clear.most, ap length cut, length-append clear.front later)) over;
        left =
            ap (λ w. leftmost_from width view.content place 0 after w) cut
            ∙ leftmost_from-clear width view.content place after clear.front later (subst N cut clear.none)
            ∙ ap (λ n. leftmost_from width view.content n 0 after later) (place_on was spans clear.front later cut)
            ∙ ended (eqb left 0) over;
      }
    where
      cut : rest ≡ clear.front ++ later
      cut = clear.parts ∙ ap (λ x. clear.front ++ x) (sym (goes clear.front clear.rest clear.parts clear.ends))

      over : eqb left 0 ≡ true → later ≡ []
      over none = nil_from_size width wide later (omega (arith, is, eqb-true left 0 none))

      ended : (d : Bool) → (d ≡ true → later ≡ []) → leftmost_left width view.content (bytes - size width later) later after false ≡ leftmost_left width view.content (bytes - size width later) later after d
      ended false over = refl
      ended true over = ap (λ w. leftmost_from width view.content (bytes - size width later) 0 after w) (over refl) ∙ leftmost_from-none width view.content (bytes - size width later) after clear.no_empty

  module _ {position end next : ℕ} (best : IsTheBest width view rest position end turns next) {value : V} {len : ℕ} {more : List (V × ℕ)} (is : view.outputs position ≡ (value, len) ∷ more) {left : ℕ} (sized : left ≡ size width rest) {m : Match V} (found : m ≡ record { start = bytes - left + end - len; end = bytes - left + end; value = value }) where
    at_place : m ≡ record { start = place + end - len; end = place + end; value = value }
    at_place =
        let here : bytes - left ≡ place = omega (arith, sized, spans, whole_size was) in
        found ∙ ap (λ n. record { start = n + end - len; end = n + end; value = value }) here

    -- at a nonempty best
    pub gives_key : (opened : Type 0) {later : List ℕ} {done : Bool} {now : ℕ} → 0 < end → GoesTo width rest end later → done ≡ false → now ≡ given + 1
        → GoesOn width view passes asked opened whole rest place after false later (bytes - size width later) true done next now (m ∷ []) × StandsBehind width m whole (before_rest whole later)
    gives_key opened {later} {done} {now} some goes on counted = by best.key refl
      where
        by : (k : List ℕ) → best.key ≡ k → GoesOn width view passes asked opened whole rest place after false later (bytes - size width later) true done next now (m ∷ []) × StandsBehind width m whole (before_rest whole later)
        by [] e = absurd (omega (arith, ends_behind best is wide some, (output_of best is).0, ap (size width) e))
        by (u ∷ p) e =
            let out = output_of best is in let rear : List ℕ = best.best.rest in let w : List ℕ = u ∷ (p ++ rear) in
            let back : rear ≡ later = sym (goes (best.front ++ best.key) rear (best_cut best) best.ends) in
            let cut : rest ≡ (best.front ++ best.key) ++ later = best_cut best ∙ ap (λ x. (best.front ++ best.key) ++ x) back in
            let P : List ℕ → Type 0 = λ k. longest_key view.content [] (k ++ rear) ≡ Some (k, value) in
            let longest : longest_key view.content [] w ≡ Some (u ∷ p, value) = subst P e (longest-best view.content rest best.front best.key value out.1.0 best.best out.1.1) in
            let parts : rest ≡ best.front ++ w = best.best.occurs.parts ∙ ap (λ k. best.front ++ (k ++ rear)) e in
            let start : place + size width best.front ≡ place + end - len = omega (arith, best.ends, size-append width best.front best.key, out.0) in
            let finish : place + end - len + size width (u ∷ p) ≡ place + end = omega (arith, best.ends, size-append width best.front best.key, out.0, ap (size width) e) in
            let to : place + end ≡ bytes - size width later = omega (arith, best.ends, place_on was spans (best.front ++ best.key) later cut) in
            let many : 0 < length best.key = omega (arith, ap length e) in
            let N : List ℕ → Type 0 = λ x. NoneStarts view.content (length best.front) x in
            let resting = scanned opened later true done next now (best.front ++ best.key) cut
            (λ bound short. omega (arith, was.most bound short, best.near bound short, times_one_more bound given, ap (λ n. bound * n) counted, length-append best.front best.key, many)) best.least best.most (λ over. absurd (let bad : true ≡ false = sym over ∙ on in cc)) in (
              record {
                resting = resting;
                left =
                    ap (λ x. leftmost_from width view.content place 0 after x) parts
                    ∙ leftmost_from-clear width view.content place after best.front w (subst N parts (none_starts-best view.content rest best.front best.key best.best))
                    ∙ ap (λ n. leftmost_from width view.content n 0 after w) start
                    ∙ leftmost_from-key width view.content (place + end - len) after u p rear value longest
                    ∙ ap (λ n. record { start = place + end - len; end = n; value = value } ∷ leftmost_from width view.content n 0 true rear) finish
                    ∙ ap (λ x. x ∷ leftmost_from width view.content (place + end) 0 true rear) (sym at_place)
                    ∙ ap (λ n. m ∷ leftmost_from width view.content n 0 true rear) to
                    ∙ ap (λ x. m ∷ leftmost_from width view.content (bytes - size width later) 0 true x) back
                    ∙ ap (λ d. m ∷ leftmost_left width view.content (bytes - size width later) later true d) (sym on);
              },
              record {
                nonempty = λ _. ap (size width) (before_is resting) ∙ sym resting.here ∙ sym to ∙ sym (ap (λ (x : Match V). x.end) at_place);
                empty = λ same. absurd (omega (arith, same, ap (λ (x : Match V). x.start) at_place, ap (λ (x : Match V). x.end) at_place, ends_behind best is wide some, output_fits best is));
              },
            )

    empty_place : end ≤ 0 → record { start = place; end = place; value = value } ≡ m
    empty_place none =
        let start : place ≡ place + end - len = omega (arith, none, output_fits best is) in let finish : place ≡ place + end = omega (arith, none) in
        (λ i. record { start = start i; end = finish i; value = value }) ∙ sym at_place

    -- at an empty best: one unit is taken off, or the search is over
    pub gives_empty : (opened : Type 0) {later : List ℕ} (over : Bool) → end ≤ 0 → SkipsUnit rest later over
        → GoesOn width view passes asked opened whole rest place after false later (bytes - size width later) false over next (one_unless after given) (unless after m) × StandsBehind width m whole (before_rest whole later)
    gives_empty opened {later} false none (u, cut) =
        let empty = empty_best best is wide none in let at = empty_place none in let to : place + width u ≡ bytes - size width later = omega (arith, place_on was spans (u ∷ []) later cut) in (
          record {
            resting = scanned opened later false false next (one_unless after given) (u ∷ []) cut
                (λ bound short. omega (arith, within_empty bound after (length was.passed) 1 turns next given (was.most bound short) (omega (arith, best.near bound short, ap length empty.0))))
                (omega (arith, best.first, ap (λ x. count_by view.has_label (take 1 x)) cut)) best.most (λ e. absurd (cc));
            left =
                ap (λ w. leftmost_from width view.content place 0 after w) cut
                ∙ leftmost_from-empty width view.content place after u later value (ap (λ x. longest_key view.content [] x) (sym cut) ∙ empty.1)
                ∙ (λ i. unless after (at i) ++ leftmost_from width view.content (to i) 0 false later);
          },
          record {
            nonempty = λ lt. absurd (omega (arith, lt, ap (λ (x : Match V). x.start) at, ap (λ (x : Match V). x.end) at));
            empty = λ _. inl (was.passed, u, before_rest-is whole (was.passed ++ u ∷ []) later (parts_on was (u ∷ []) later cut), omega (arith, was.here, ap (λ (x : Match V). x.end) at));
          },
        )
    gives_empty opened {later} true none (at_end, ended) =
        let empty = empty_best best is wide none in let at = empty_place none in
        let all : before_rest whole later ≡ whole = before_rest-is whole whole later (sym (append-nil whole) ∙ ap (λ x. whole ++ x) (sym ended)) in (
          record {
            resting = scanned opened later false true next (one_unless after given) [] (at_end ∙ sym ended)
                (λ bound short. omega (arith, within_empty bound after (length was.passed) 0 turns next given (was.most bound short) (omega (arith, best.most, ap length at_end))))
                (omega (arith, best.least)) best.most (λ _. ended);
            left =
                ap (λ w. leftmost_from width view.content place 0 after w) at_end
                ∙ leftmost_from-last width view.content place after value (ap (λ x. longest_key view.content [] x) (sym at_end) ∙ empty.1)
                ∙ ap (unless after) at
                ∙ sym (append-nil (unless after m));
          },
          record {
            nonempty = λ lt. absurd (omega (arith, lt, ap (λ (x : Match V). x.start) at, ap (λ (x : Match V). x.end) at));
            empty = λ _. inr (all, omega (arith, ap (size width) all, whole_size was, ap (size width) at_end, ap (λ (x : Match V). x.end) at));
          },
        )
