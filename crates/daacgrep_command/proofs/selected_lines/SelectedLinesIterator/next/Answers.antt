-- The next selected line is taken off.
use Rattle.std.proofs.Common.{◌≡◌, ℕ, ◌+◌, ◌-◌, List, ◌∷◌, length, take, drop, refl, sym, ap, ◌∙◌, subst, arith}
use Rattle.std.proofs.lemmas.List.{length-drop, take_rest}
use Rattle.daacgrep_command.specs.Ahead.{AreClear, IsNext}
use Rattle.daacgrep_command.specs.Lines.{TextLine}
use Rattle.daacgrep_command.specs.Sought.{sought_of}
use Rattle.daacgrep_command.proofs.Passing.{left, next_fits, next_left, none_left}
use Rattle.daacgrep_command.proofs.selected_lines.SelectedLinesIterator.next.Goals as goal

pub returns-in_default-clause-steps : goal.returns-in_default-clause-steps
returns-in_default-clause-steps g c =
    let s = c.self.inside in
    let none = subst (IsNext (sought_of s.searcher.now) s.mark s.inverts s.rest.now) c.in_default.is c.look_ahead.ensures in
    (sym c.self.view_is ∙ none_left (sought_of s.searcher.now) s.mark s.inverts s.has_numbers s.given s.start s.rest.now none, refl)

pub returns-clause-steps : goal.returns-clause-steps
returns-clause-steps g c =
    let s = c.self.inside in
    let sought = sought_of s.searcher.now in
    let a = c.in-Some.next in
    let some = subst (IsNext sought s.mark s.inverts s.rest.now) c.in-Some.is c.look_ahead.ensures in
    let rest = drop a.skip s.rest.now in
    let number = c.number_after.result in
    let line : List ℕ → TextLine = λ bytes. record { number = number; start = s.start + a.skip; bytes = bytes } in
    let later : List ℕ → List TextLine = left sought s.mark s.inverts s.has_numbers number (s.start + (a.skip + a.end)) in
    sym c.self.view_is
    ∙ next_left sought s.mark s.inverts s.has_numbers s.given s.start number s.rest.now a some c.number_after.ensures
    ∙ ap (λ t. line (take a.len rest) ∷ later t) (sym (take_rest rest a.end))
    ∙ ap (λ t. line (take a.len t) ∷ later (take (length t - a.end) (drop a.end t))) (sym (take_rest s.rest.now a.skip))

pub returns-clause-goes : goal.returns-clause-goes
returns-clause-goes g c =
    let shorter = ap length (returns-clause-steps g c) in
    record { on = λ finite. (tt, tt, omega (arith, shorter)); keeps = tt; rests = λ finite. tt }

pub overflow_add-self : goal.overflow_add-self
overflow_add-self g c =
    let s = c.self.inside in
    let a = c.in-Some.next in
    let some = subst (IsNext (sought_of s.searcher.now) s.mark s.inverts s.rest.now) c.in-Some.is c.look_ahead.ensures in
    let fits = next_fits (sought_of s.searcher.now) s.mark s.inverts s.has_numbers s.given s.start c.number_after.result s.rest.now a some
    c.number_after.ensures c.self.invariant.0 in
    let sized = ap length (take_rest s.rest.now a.skip) in
    omega (arith, fits.0, c.self.invariant.1)

pub overflow_add-self-2 : goal.overflow_add-self-2
overflow_add-self-2 g c =
    let s = c.self.inside in
    let a = c.in-Some.next in
    let some = subst (IsNext (sought_of s.searcher.now) s.mark s.inverts s.rest.now) c.in-Some.is c.look_ahead.ensures in
    let fits = next_fits (sought_of s.searcher.now) s.mark s.inverts s.has_numbers s.given s.start c.number_after.result s.rest.now a some
    c.number_after.ensures c.self.invariant.0 in
    let sized = ap length (take_rest s.rest.now a.skip) in
    omega (arith, fits.0, c.self.invariant.1)

pub slice_bounds-self-count : goal.slice_bounds-self-count
slice_bounds-self-count g c =
    let s = c.self.inside in
    let a = c.in-Some.next in
    let some = subst (IsNext (sought_of s.searcher.now) s.mark s.inverts s.rest.now) c.in-Some.is c.look_ahead.ensures in
    let fits = next_fits (sought_of s.searcher.now) s.mark s.inverts s.has_numbers s.given s.start c.number_after.result s.rest.now a some
    c.number_after.ensures c.self.invariant.0 in
    let sized = ap length (take_rest s.rest.now a.skip) in
    omega (arith, fits.1, sized)

pub slice_bounds-self-start : goal.slice_bounds-self-start
slice_bounds-self-start g c =
    let s = c.self.inside in
    let a = c.in-Some.next in
    let some = subst (IsNext (sought_of s.searcher.now) s.mark s.inverts s.rest.now) c.in-Some.is c.look_ahead.ensures in
    let fits = next_fits (sought_of s.searcher.now) s.mark s.inverts s.has_numbers s.given s.start c.number_after.result s.rest.now a some
    c.number_after.ensures c.self.invariant.0 in
    let sized = ap length (take_rest s.rest.now a.skip) in
    omega (arith, fits.1, sized)

pub invariant_of-self-2 : goal.invariant_of-self-2
invariant_of-self-2 g c =
    let s = c.self.inside in
    let a = c.in-Some.next in
    let some = subst (IsNext (sought_of s.searcher.now) s.mark s.inverts s.rest.now) c.in-Some.is c.look_ahead.ensures in
    let fits = next_fits (sought_of s.searcher.now) s.mark s.inverts s.has_numbers s.given s.start c.number_after.result s.rest.now a some
    c.number_after.ensures c.self.invariant.0 in
    let sized = ap length (take_rest s.rest.now a.skip) in
    let rest = drop a.skip s.rest.now in
    let behind : take (length (take (length s.rest.now - a.skip) rest) - a.end) (drop a.end (take (length s.rest.now - a.skip) rest))
    ≡ drop a.end rest =
    take_rest (take (length s.rest.now - a.skip) rest) a.end ∙ ap (drop a.end) (take_rest s.rest.now a.skip) in (
      fits.2,
      omega (arith, fits.0, c.self.invariant.1, ap length behind, length-drop a.end rest, length-drop a.skip s.rest.now),
      subst (AreClear (sought_of s.searcher.now) s.mark a.clear) (sym behind) some.clear,
    )
