-- One call of a search: an output is pending, or a scan leads to the next.
use Rattle.std.proofs.Common.{◌≡◌, ℕ, ◌+◌, ◌*◌, ◌<◌, ◌≤◌, Bool, List, [], ◌∷◌, ◌++◌, map, length, Option, Some, refl, sym, ap, ◌∙◌, subst, append_assoc, append-nil, length-append, arith}
use Rattle.std.proofs.lemmas.List.{map-append}
use Rattle.std.proofs.Math.Nat.{mul-le-mul_left}
use Rattle.std.specs.Iterator.{Count, MakesProgress, Yields, count_map, items_left}
use Rattle.std.specs.declared.num.NonZeroU32.{NonZeroU32}
use Rattle.daachorse_model.specs.declared.Match.{Match}
use Rattle.daachorse_model.specs.Units.{size}
use Rattle.daachorse_haystack.specs.Sources.{IsReady}
use Rattle.daachorse_search.specs.Scans.{past_each_end, ScanGives}
use Rattle.daachorse_search.specs.Searches.{SourceProgress, Gave}
use Rattle.daachorse_search.specs.Stepwise.{StepView, Stops}
use Rattle.daachorse_haystack.proofs.SourceLaws.{Yields_push}
use Rattle.daachorse_search.proofs.ScanLaws.{past_each_end-append}

-- the bound on what is left falls by at least what one more end has
pub fewer_left : (most had left new : ℕ) → left < had → new ≤ most → new + most * left ≤ most * had
fewer_left most had left new less fits = grind (arith, mul-le-mul_left most less)

module _ {V A W S : Type 0} (view : StepView V A W) where
  -- what callers see of a search that stands so
  abbrev pub progress_of : W → S → Bool → ℕ → ℕ → SourceProgress V A S
  progress_of walk source folds position given = record {
    automaton = view.automaton walk;
    source = source;
    folds = folds;
    read = view.read walk;
    pending = view.given_from walk position;
    turns = view.turns walk;
    given = given;
    most = view.most_found (view.automaton walk);
  }

module _ {V A W S U : Type 0} (view : StepView V A W) (can : S → Type 0) (steps : S → Option U → S → Type 0) (left : S → Count) (unit : U → ℕ) (width : ℕ → ℕ) where
  -- a call that began at s came to outputs that are not all given, and the place is that after what was read
  pub record IsReached (s : SourceProgress V A S) (walk : W) (source : S) (folds : Bool) (place given position : ℕ) : Type 0 where
    pub took : List U
    pub run : Yields steps s.source took source
    pub same : view.automaton walk ≡ s.automaton
    pub as_before : folds ≡ s.folds
    pub read : view.read walk ≡ s.read ++ map unit took
    pub here : place ≡ size width (view.read walk)
    pub matches : s.pending ++ past_each_end (view.found s.automaton) s.read (map unit took) ≡ view.given_from walk position
    pub counted : given ≡ s.given
    pub ready : IsReady can steps left unit width source (size width (view.read walk))
    pub taken : length took + items_left left source ≤ items_left left s.source
    pub fewer : length (view.given_from walk position) + view.most_found (view.automaton walk) * items_left left source ≤ length s.pending + s.most * items_left left s.source

module _ {V A W S U : Type 0} {view : StepView V A W} {can : S → Type 0} {steps : S → Option U → S → Type 0} {left : S → Count} {unit : U → ℕ} {width : ℕ → ℕ} {walk : W} {source : S} {folds : Bool} {place given position : ℕ} where
  -- an output was pending
  pub IsReached-pending : IsReady can steps left unit width source (size width (view.read walk)) → place ≡ size width (view.read walk)
      → IsReached view can steps left unit width (progress_of view walk source folds position given) walk source folds place given position
  IsReached-pending ready here = record {
    took = [];
    run = refl;
    same = refl;
    as_before = refl;
    read = sym (append-nil (view.read walk));
    here = here;
    matches = append-nil (view.given_from walk position);
    counted = refl;
    ready = ready;
    taken = omega arith;
    fewer = omega arith;
  }

  -- a scan led to outputs
  pub IsReached-scan : {first : NonZeroU32} {to : W} {rest : S} → view.given_from walk position ≡ []
      → ScanGives view steps left unit walk source (Some first) to rest
      → Stops view to (Some first)
      → IsReady can steps left unit width rest (size width (view.read to))
      → place ≡ size width (view.read to)
      → IsReached view can steps left unit width (progress_of view walk source folds position given) to rest folds place given first.value
  IsReached-scan {first = first} {to = to} {rest = rest} none (xs, last, before, x, over, step, less, same, read) stops ready here =
      let more : List ℕ = map unit xs in let u : ℕ = unit x in let f = view.found (view.automaton walk) in
      let all : map unit (xs ++ x ∷ []) ≡ more ++ u ∷ [] = map-append unit xs (x ∷ []) in
      let is : view.automaton to ≡ view.automaton walk = same ∙ over.same in
      let read' : view.read to ≡ (view.read walk ++ more) ++ u ∷ [] = read ∙ ap (λ t. t ++ u ∷ []) over.read in
      let ends : f (view.read to) ≡ view.given_from to first.value = ap (λ a. view.found a (view.read to)) (sym is) ∙ stops.matches in
      let past : past_each_end f (view.read walk) (more ++ u ∷ []) ≡ view.given_from to first.value =
      past_each_end-append f (view.read walk) more (u ∷ []) ∙ ap (λ l. l ++ f ((view.read walk ++ more) ++ u ∷ [])) over.none ∙ ap f (sym read') ∙ ends in
      let new : List (Match V) = view.given_from to first.value in
      let few : length new ≤ view.most_found (view.automaton walk) = omega (arith, stops.few, ap view.most_found is) in
      let N : ℕ → Type 0 = λ n. length new + n * items_left left rest ≤ length (view.given_from walk position) + view.most_found (view.automaton walk) * items_left left source in
      record {
        took = xs ++ x ∷ [];
        run = Yields_push steps source xs last x rest over.took step;
        same = is;
        as_before = refl;
        read = read' ∙ append_assoc (view.read walk) more (u ∷ []) ∙ ap (λ w. view.read walk ++ w) (sym all);
        here = here;
        matches = ap (λ l. l ++ past_each_end f (view.read walk) (map unit (xs ++ x ∷ []))) none ∙ ap (past_each_end f (view.read walk)) all ∙ past;
        counted = refl;
        ready = ready;
        taken = omega (arith, over.fewer, less, length-append xs (x ∷ []));
        fewer = subst N (sym (ap view.most_found is)) (omega (arith, fewer_left (view.most_found (view.automaton walk)) (items_left left source) (items_left left rest) (length new) (omega (arith, over.fewer, less)) few));
      }

  module _ {s : SourceProgress V A S} {next after : ℕ} {m : Match V} (r : IsReached view can steps left unit width s walk source folds place given position) (first : view.given_from walk position ≡ m ∷ view.given_from walk next) where
    -- A call gave the first of the outputs that it came to.
    pub Gave-reached : after ≡ given + 1 → m.end ≡ place → (xs : List U) × Gave view.found steps left unit width s xs m (progress_of view walk source folds next after)
    Gave-reached one ends = (r.took, record { took = r.run; fewer = r.taken; same = r.same; read = r.read; matches = r.matches ∙ first; ends = ends ∙ r.here; counted = one ∙ ap (λ n. n + 1) r.counted })

    pub progress-reached : {may_go_on : SourceProgress V A S → Type 0} → may_go_on (progress_of view walk source folds next after)
        → MakesProgress may_go_on (λ x. count_map (λ n. length x.pending + x.most * n) (left x.source)) s (Some m) (progress_of view walk source folds next after)
    progress-reached may =
        let fewer : length (view.given_from walk position) ≡ length (view.given_from walk next) + 1 = omega (arith, ap length first) in
        record {
          on = λ _. (may, r.ready.ends, omega (arith, fewer, r.fewer));
          keeps = may;
          rests = λ _. tt;
        }
