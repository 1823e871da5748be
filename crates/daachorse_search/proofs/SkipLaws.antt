-- A search that asks a filter: where it begins again, what it finds is what is left, and the turns are counted part by part.
use Rattle.std.proofs.Common.{◌≡◌, ℕ, ◌+◌, ◌*◌, ◌<◌, ◌≤◌, inl, inr, Bool, true, false, List, [], ◌∷◌, ◌++◌, map, length, refl, sym, ap, ◌∙◌, subst, append_assoc, append-nil, length-append, arith}
use Rattle.std.specs.Prelude.{count_by}
use Rattle.std.proofs.lemmas.List.{map-append, nil_from_length}
use Rattle.daachorse_model.specs.declared.Match.{Match}
use Rattle.daachorse_model.specs.Units.{size}
use Rattle.daachorse_model.specs.Dictionary.{Dictionary}
use Rattle.daachorse_model.specs.Best.{NoneStarts}
use Rattle.daachorse_model.specs.Matches.{at_each_end, shifted}
use Rattle.daachorse_model.proofs.Suffixes.{size-append}
use Rattle.daachorse_search.specs.Afresh.{GoesOnAfresh}
use Rattle.daachorse_haystack.specs.Filters.{IsSoundFor, IsNextPassing, PassesNoneBefore, PassesNowhere, count_passing}
use Rattle.daachorse_search.specs.LeftmostSearches.{before_rest}
use Rattle.daachorse_search.specs.Matches.{matches_left, ReadsTo}
use Rattle.daachorse_search.specs.Skipping.{matches_behind, HasNoPlace, SkipsTo, IsReading}
use Rattle.daachorse_search.specs.Scans.{past_each_end}
use Rattle.daachorse_search.specs.Stepwise.{StepView}
use Rattle.daachorse_search.proofs.AfreshLaws.{shifted-none, shifted-twice}
use Rattle.daachorse_haystack.proofs.FilterLaws.{none_starts-skipped, count_passing-more, count_passing-most, count_passing-none}
use Rattle.daachorse_search.proofs.LeftmostLaws.{before_rest-is, nil_from_size}
use Rattle.daachorse_search.proofs.ScanLaws.{at_each_end-split}

-- a filter with the same places is sound for the same dictionary
pub sound_on : {V : Type 0} {K L : Dictionary V} {p q : List ℕ → Bool} → L ≡ K → ((w : List ℕ) → q w ≡ p w) → IsSoundFor p K → IsSoundFor q L
sound_on {V} {q = q} same places sound =
    let P : Dictionary V → Type 0 = λ k. IsSoundFor q k in
    subst P (sym same) (λ key rest is. places (key ++ rest) ∙ sound key rest is)

pub nowhere_on : (p q : List ℕ → Bool) (units : List ℕ) → ((w : List ℕ) → q w ≡ p w) → PassesNowhere p units → PassesNowhere q units
nowhere_on p q units places none = λ front rest parts some. places rest ∙ none front rest parts some

-- where no place is left, none is after a skip
pub no_place_skipped : {p q : List ℕ → Bool} {opened : Type 0} {read rest later : List ℕ} → ((w : List ℕ) → q w ≡ p w) → HasNoPlace p opened read rest → length later ≤ length rest → (read ≡ [] → PassesNowhere q rest → later ≡ []) → later ≡ []
no_place_skipped {later = later} places (inl none) fewer goes = nil_from_length later (omega (arith, fewer, ap length none))
no_place_skipped {p} {q} {rest = rest} places (inr (open_now, none, nowhere)) fewer goes = goes none (nowhere_on p q rest places nowhere)

pub no_place_on : {p q : List ℕ → Bool} {opened : Type 0} {read rest : List ℕ} → ((w : List ℕ) → q w ≡ p w) → HasNoPlace p opened read rest → HasNoPlace q opened read rest
no_place_on places (inl none) = inl none
no_place_on {p} {q} {rest = rest} places (inr (open_now, none, nowhere)) = inr (open_now, none, nowhere_on p q rest places nowhere)

module _ {V A W : Type 0} (width : ℕ → ℕ) (view : StepView V A W) where
  -- what is left at the beginning
  pub left_first : (whole rest : List ℕ) (walk : W) (position : ℕ) → whole ≡ rest → view.read walk ≡ [] → view.found (view.automaton walk) (view.read walk) ≡ view.given_from walk position
      → matches_behind width view whole walk rest position ≡ at_each_end (view.found (view.automaton walk)) [] rest
  left_first whole rest walk position same none here =
      let f = view.found (view.automaton walk) in let read : List ℕ = view.read walk in
      let ms : List (Match V) = matches_left f (view.given_from walk position) read rest in
      ap (λ b. map (shifted (size width b)) ms) (before_rest-is whole [] (read ++ rest) (same ∙ ap (λ t. t ++ rest) (sym none)))
      ∙ shifted-none ms
      ∙ ap (λ l. l ++ past_each_end f read rest) (sym here)
      ∙ sym (at_each_end-split f read rest)
      ∙ ap (λ t. at_each_end f t rest) none

module _ {V A W : Type 0} {width : ℕ → ℕ} {view : StepView V A W} where
  -- the same places, whatever the filter
  pub SkipsTo-places : {p q : List ℕ → Bool} {from : W} {rest : List ℕ} {before : ℕ} {ms : List (Match V)} {to : W} {later : List ℕ} {taken : ℕ} → ((w : List ℕ) → q w ≡ p w) → SkipsTo width view q from rest before ms to later taken → SkipsTo width view p from rest before ms to later taken
  SkipsTo-places {p = p} {q = q} {from = from} {rest = rest} {before = before} {ms = ms} {to = to} {later = later} {taken = taken} places h =
      let same : q ≡ p = λ i w. places w i in
      let P : (List ℕ → Bool) → Type 0 = λ f. SkipsTo width view f from rest before ms to later taken in
      subst P same h

  module _ {passes : List ℕ → Bool} {from : W} {rest : List ℕ} {before : ℕ} where
    -- a walk that stays where it is
    pub SkipsTo-first : SkipsTo width view passes from rest before [] from rest before
    SkipsTo-first = record {
      gap = [];
      same = refl;
      haystack = refl;
      fewer = omega arith;
      left = sym (shifted-none (past_each_end (view.found (view.automaton from)) (view.read from) rest));
      most = omega arith;
      single = λ _. omega arith;
      least = omega arith;
      plain = λ everywhere. (refl, refl);
    }

    -- the same where nothing was taken off the rest
    pub SkipsTo-stays : {later : List ℕ} → ((u : ℕ) → 1 ≤ width u) → IsNextPassing passes rest later → size width rest ≤ size width later → SkipsTo width view passes from rest before [] from later before
    SkipsTo-stays {later = later} wide next stays =
        let front : List ℕ = next.front in
        let empty : front ≡ [] = nil_from_size width wide front (omega (arith, stays, ap (size width) next.parts, size-append width front later)) in
        let P : List ℕ → Type 0 = λ x. SkipsTo width view passes from rest before [] from x before in
        subst P (next.parts ∙ ap (λ x. x ++ later) empty) SkipsTo-first

    module _ {to : W} {later : List ℕ} {taken : ℕ} where
      -- a walk that begins again behind units at which the filter does not pass
      pub SkipsTo-again : IsSoundFor passes (view.content (view.automaton from)) → IsNextPassing passes rest later → size width later < size width rest
          → GoesOnAfresh width (view.content (view.automaton from)) (view.found (view.automaton from)) (view.read from) → view.turns from ≤ 2 * length (view.read from) → (view.ends_at_once (view.automaton from) → view.turns from ≤ length (view.read from))
          → count_by (view.looks_at (view.automaton from)) (view.read from) ≤ view.turns from → view.automaton to ≡ view.automaton from → view.read to ≡ [] → taken ≡ before + view.turns from → SkipsTo width view passes from rest before [] to later taken
      SkipsTo-again sound next less afresh most' single' least' same begun counted =
          let front : List ℕ = next.front in let read : List ℕ = view.read from in let looks = view.looks_at (view.automaton from) in
          let some : 0 < length front = longer front (omega (arith, less, ap (size width) next.parts, size-append width front later)) in
          let N : List ℕ → Type 0 = λ x. NoneStarts (view.content (view.automaton from)) (length front) x in
          let B : List ℕ → Type 0 = λ x. PassesNoneBefore passes later x in
          let starts : N (front ++ later) = subst N next.parts (none_starts-skipped passes (view.content (view.automaton from)) sound rest front later next.parts next.none) in
          let none : count_passing passes looks rest front ≡ 0 = ap (λ x. count_passing passes looks x front) next.parts ∙ count_passing-none passes looks front later (subst B next.parts next.none) in
          let split : count_passing passes looks (read ++ rest) (read ++ front) ≡ count_passing passes looks (read ++ rest) read + count_passing passes looks rest front = count_passing-more passes looks read front rest in
          let few : count_passing passes looks (read ++ rest) read ≤ count_by looks read = count_passing-most passes looks read rest in
          record {
            gap = read ++ front;
            same = same;
            haystack = ap (λ t. (read ++ front) ++ (t ++ later)) begun ∙ append_assoc read front later ∙ ap (λ x. read ++ x) (sym next.parts);
            fewer = omega (arith, ap length next.parts, length-append front later);
            left =
                ap (past_each_end (view.found (view.automaton from)) read) next.parts
                ∙ afresh front later starts
                ∙ ap (λ (a : A). map (shifted (size width (read ++ front))) (past_each_end (view.found a) [] later)) (sym same)
                ∙ ap (λ t. map (shifted (size width (read ++ front))) (past_each_end (view.found (view.automaton to)) t later)) (sym begun);
            most = omega (arith, counted, most', length-append read front);
            single = λ once. omega (arith, counted, single' once, length-append read front);
            least = omega (arith, counted, split, none, few, least');
            plain = λ everywhere. absurd (never (next.none [] rest refl (omega (arith, some, ap length next.parts, length-append front later))) (everywhere rest));
          }
        where
          longer : (x : List ℕ) → 0 < size width x → 0 < length x
          longer [] some = some
          longer (u ∷ x) some = omega arith

          never : {b : Bool} → b ≡ false → b ≡ true → ⊥
          never closed open_too = let bad : true ≡ false = sym open_too ∙ closed in cc

      -- nothing is given at the end
      pub SkipsTo-ended : {between : List ℕ} {ms : List (Match V)} → SkipsTo width view passes from rest before [] to between taken → ms ≡ [] → between ≡ [] → later ≡ [] → SkipsTo width view passes from rest before ms to later taken
      SkipsTo-ended h empty was_none now_none =
          let P : List ℕ → Type 0 = λ l. SkipsTo width view passes from rest before [] to l taken in
          let Q : List (Match V) → Type 0 = λ x. SkipsTo width view passes from rest before x to later taken in
          subst Q (sym empty) (subst P (was_none ∙ sym now_none) h)

      -- one skip after another
      pub SkipsTo-then : {ms : List (Match V)} {mid : W} {between : List ℕ} {begun : ℕ} → SkipsTo width view passes from rest before [] mid between begun → SkipsTo width view passes mid between begun ms to later taken → SkipsTo width view passes from rest before ms to later taken
      SkipsTo-then {ms = ms} {mid = mid} {between = between} {begun = begun} a b =
          let looks = view.looks_at (view.automaton from) in
          let C : List ℕ → Type 0 = λ x. count_passing passes looks x (a.gap ++ b.gap) ≡ count_passing passes looks x a.gap + count_passing passes looks (view.read mid ++ between) b.gap in
          let split = subst C a.haystack (count_passing-more passes looks a.gap b.gap (view.read mid ++ between)) in
          let L : A → Type 0 = λ x. begun + count_passing passes (view.looks_at x) (view.read mid ++ between) b.gap ≤ taken in
          let least' : L (view.automaton from) = subst L a.same b.least in
          let ms' : List (Match V) = matches_left (view.found (view.automaton to)) ms (view.read to) later in
          record {
            gap = a.gap ++ b.gap;
            same = b.same ∙ a.same;
            haystack = append_assoc a.gap b.gap (view.read to ++ later) ∙ ap (λ x. a.gap ++ x) b.haystack ∙ a.haystack;
            fewer = omega (arith, a.fewer, b.fewer);
            left =
                a.left
                ∙ ap (map (shifted (size width a.gap))) b.left
                ∙ shifted-twice (size width a.gap) (size width b.gap) ms'
                ∙ ap (λ n. map (shifted n) ms') (sym (size-append width a.gap b.gap));
            most = omega (arith, a.most, b.most, length-append a.gap b.gap);
            single = λ once. omega (arith, a.single once, b.single (subst view.ends_at_once (sym a.same) once), length-append a.gap b.gap);
            least = omega (arith, a.least, least', split);
            plain = λ everywhere. (let x = a.plain everywhere in let y = b.plain everywhere in (ap (λ l. l ++ b.gap) x.0 ∙ y.0, y.1 ∙ x.1));
          }

      -- units read after a skip
      pub SkipsTo-reads : {ms : List (Match V)} {mid : W} {between : List ℕ} → SkipsTo width view passes from rest before [] mid between taken → ReadsTo view mid between ms to later → length later ≤ length between → SkipsTo width view passes from rest before ms to later taken
      SkipsTo-reads a b fewer = record {
        gap = a.gap;
        same = b.same ∙ a.same;
        haystack = ap (λ x. a.gap ++ x) b.haystack ∙ a.haystack;
        fewer = omega (arith, a.fewer, fewer);
        left = a.left ∙ ap (map (shifted (size width a.gap))) b.left;
        most = a.most;
        single = a.single;
        least = a.least;
        plain = a.plain;
      }

-- ---- between two calls

module _ {V A W : Type 0} {width : ℕ → ℕ} {view : StepView V A W} {passes : List ℕ → Bool} {asked : Type 0} {whole : List ℕ} {bytes : ℕ} {opened : Type 0} {walk : W} {rest : List ℕ} {position before : ℕ} (was : IsReading width view passes asked whole bytes opened walk rest position before) where
  -- what is left, counted from where the walk began
  left_is : (w : W) (l : List ℕ) (n : ℕ) (base : List ℕ) → whole ≡ base ++ (view.read w ++ l) → matches_behind width view whole w l n ≡ map (shifted (size width base)) (matches_left (view.found (view.automaton w)) (view.given_from w n) (view.read w) l)
  left_is w l n base parts = ap (λ b. map (shifted (size width b)) (matches_left (view.found (view.automaton w)) (view.given_from w n) (view.read w) l)) (before_rest-is whole base (view.read w ++ l) parts)

  -- the units passed
  pub passed_is : before_rest whole rest ≡ was.base ++ view.read walk
  passed_is = before_rest-is whole (was.base ++ view.read walk) rest (was.parts ∙ sym (append_assoc was.base (view.read walk) rest))

  -- the walk read on to the next output, or to the end
  pub reading-on : {later_open : Type 0} {to : W} {later : List ℕ} {taken next : ℕ} → view.given_from walk position ≡ []
      → SkipsTo width view passes walk rest before (view.given_from to next) to later taken → view.has_output to next → (HasNoPlace passes opened (view.read walk) rest → (taken + view.turns to ≡ before + view.turns walk) × (later ≡ []))
      → IsReading width view passes asked whole bytes later_open to later next taken × (matches_behind width view whole walk rest position ≡ matches_behind width view whole to later next)
  reading-on {to = to} {later = later} {taken = taken} {next = next} none on output idle =
      let looks = view.looks_at (view.automaton walk) in
      let C : List ℕ → Type 0 = λ x. count_passing passes looks x (was.base ++ on.gap) ≡ count_passing passes looks x was.base + count_passing passes looks (view.read walk ++ rest) on.gap in
      let split = subst C (sym was.parts) (count_passing-more passes looks was.base on.gap (view.read walk ++ rest)) in
      let L : A → Type 0 = λ x. count_passing passes (view.looks_at x) whole (was.base ++ on.gap) ≤ taken in
      let parts' : whole ≡ (was.base ++ on.gap) ++ (view.read to ++ later) = was.parts ∙ ap (λ x. was.base ++ x) (sym on.haystack) ∙ sym (append_assoc was.base on.gap (view.read to ++ later)) in
      let S : A → Type 0 = λ x. IsSoundFor passes (view.content x) in
      let ms : List (Match V) = matches_left (view.found (view.automaton to)) (view.given_from to next) (view.read to) later in (
        record {
          output = output;
          base = was.base ++ on.gap;
          parts = parts';
          spans = was.spans;
          sound = subst S (sym on.same) was.sound;
          most = omega (arith, was.most, on.most, length-append was.base on.gap);
          single = λ once. (let once' = subst view.ends_at_once on.same once in omega (arith, was.single once', on.single once', length-append was.base on.gap));
          least = subst L (sym on.same) (omega (arith, split, was.least, on.least));
          plain = λ everywhere. (let x = was.plain everywhere in let y = on.plain everywhere in (ap (λ l. l ++ on.gap) x.0 ∙ y.0, y.1 ∙ x.1));
          idle = λ ask nowhere. (let x = was.idle ask nowhere in let y = idle x.1 in (y.0 ∙ x.0, inl y.1));
        },
        left_is walk rest position was.base was.parts
            ∙ ap (λ l. map (shifted (size width was.base)) (l ++ past_each_end (view.found (view.automaton walk)) (view.read walk) rest)) none
            ∙ ap (map (shifted (size width was.base))) on.left
            ∙ shifted-twice (size width was.base) (size width on.gap) ms
            ∙ ap (λ n. map (shifted n) ms) (sym (size-append width was.base on.gap))
            ∙ sym (left_is to later next (was.base ++ on.gap) parts'),
      )

  -- the place of the walk
  pub place_is : bytes ≡ (size width was.base + size width (view.read walk)) + size width rest
  place_is = omega (arith, was.spans, ap (size width) was.parts, size-append width was.base (view.read walk ++ rest), size-append width (view.read walk) rest)

  -- the first of the pending matches was given
  pub reading-gives : {next place : ℕ} {m : Match V} → place + size width rest ≡ bytes
      → ((b : ℕ) → place ≡ b + size width (view.read walk) → map (shifted b) (view.given_from walk position) ≡ m ∷ map (shifted b) (view.given_from walk next)) → m.end ≡ place → view.has_output walk next
      → IsReading width view passes asked whole bytes opened walk rest next before × (matches_behind width view whole walk rest position ≡ m ∷ matches_behind width view whole walk rest next) × (m.end ≡ size width (before_rest whole rest))
  reading-gives {next = next} {place = place} {m = m} here given ends output =
      let b : ℕ = size width was.base in
      let past : List (Match V) = past_each_end (view.found (view.automaton walk)) (view.read walk) rest in
      let at : place ≡ b + size width (view.read walk) = omega (arith, here, place_is) in (
        record { output = output; base = was.base; parts = was.parts; spans = was.spans; sound = was.sound; most = was.most; single = was.single; least = was.least; plain = was.plain; idle = was.idle },
        left_is walk rest position was.base was.parts
            ∙ map-append (shifted b) (view.given_from walk position) past
            ∙ ap (λ l. l ++ map (shifted b) past) (given b at)
            ∙ ap (λ l. m ∷ l) (sym (map-append (shifted b) (view.given_from walk next) past))
            ∙ ap (λ l. m ∷ l) (sym (left_is walk rest next was.base was.parts)),
        ends ∙ at ∙ sym (ap (size width) passed_is ∙ size-append width was.base (view.read walk)),
      )

  -- nothing is left at the end
  pub reading-ended : view.given_from walk position ≡ [] → rest ≡ [] → (matches_behind width view whole walk rest position ≡ []) × (before_rest whole rest ≡ whole)
  reading-ended none over = (
    left_is walk rest position was.base was.parts
        ∙ ap (λ l. map (shifted (size width was.base)) (l ++ past_each_end (view.found (view.automaton walk)) (view.read walk) rest)) none
        ∙ ap (λ r. map (shifted (size width was.base)) (past_each_end (view.found (view.automaton walk)) (view.read walk) r)) over,
    before_rest-is whole whole rest (sym (append-nil whole) ∙ ap (λ x. whole ++ x) (sym over)),
  )

  -- the bounds on the turns
  pub reading-bounded : view.turns walk ≤ 2 * length (view.read walk) → count_by (view.looks_at (view.automaton walk)) (view.read walk) ≤ view.turns walk
      → (before + view.turns walk ≤ 2 * length (before_rest whole rest)) × (count_passing passes (view.looks_at (view.automaton walk)) whole (before_rest whole rest) ≤ before + view.turns walk)
  reading-bounded most' least' =
      let looks = view.looks_at (view.automaton walk) in
      let C : List ℕ → Type 0 = λ x. count_passing passes looks x (was.base ++ view.read walk) ≡ count_passing passes looks x was.base + count_passing passes looks (view.read walk ++ rest) (view.read walk) in
      let split = subst C (sym was.parts) (count_passing-more passes looks was.base (view.read walk) (view.read walk ++ rest)) in
      let few : count_passing passes looks (view.read walk ++ rest) (view.read walk) ≤ count_by looks (view.read walk) = count_passing-most passes looks (view.read walk) rest in (
        omega (arith, was.most, most', ap length passed_is, length-append was.base (view.read walk)),
        omega (arith, ap (count_passing passes looks whole) passed_is, split, was.least, few, least'),
      )

  -- where each look ends its step
  pub reading-single : (view.ends_at_once (view.automaton walk) → view.turns walk ≤ length (view.read walk)) → view.ends_at_once (view.automaton walk) → before + view.turns walk ≤ length (before_rest whole rest)
  reading-single single' once = omega (arith, was.single once, single' once, ap length passed_is, length-append was.base (view.read walk))

  -- where the filter passes everywhere, the walk began at the beginning
  pub reading-plain : ((w : List ℕ) → passes w ≡ true) → (before_rest whole rest ≡ view.read walk) × (before + view.turns walk ≡ view.turns walk)
  reading-plain everywhere = let plain = was.plain everywhere in (passed_is ∙ ap (λ x. x ++ view.read walk) plain.0, omega (arith, plain.1))
