-- The lines before the first match have none, and it lies in the next line, or that is searched by itself.
use Rattle.std.proofs.Common.{◌≡◌, ℕ, ◌+◌, ◌<◌, ◌≤◌, ◌⊎◌, inl, inr, Bool, false, true, List, length, drop, take, ap, sym, ◌∙◌, subst, arith}
use Rattle.std.specs.Prelude.{slice_range}
use Rattle.std.proofs.lemmas.Bool.Decides.{nat_tests}
use Rattle.std.proofs.lemmas.List.{length-take-le, take_rest}
use Rattle.daacgrep_command.specs.Ahead.{first_len}
use Rattle.daacgrep_command.specs.Printed.{occurs}
use Rattle.daacgrep_command.specs.Sought.{Sought, sought_of}
use Rattle.daacgrep_command.proofs.Fronts.{clear_all, first_within, front_found, front_passed}
use Rattle.daacgrep_command.proofs.ahead.read_front.Goals.{then-found-start, else-found-start}
use Rattle.daacgrep_command.proofs.ahead.read_front.Goals as goal

pub returns-in_default : goal.returns-in_default
returns-in_default g c = record {
  clear = clear_all (sought_of c.args.searcher.now) c.args.mark c.args.text.now (sym c.matches.ensures ∙ (c.in_default.ensures.steps).0);
  found = tt;
  some = λ none. c.requires;
}

pub slice_bounds-after_last-end : goal.slice_bounds-after_last-end
slice_bounds-after_last-end g c =
    let less = first_within (sought_of c.args.searcher.now) c.args.mark c.args.text.now c.in-Some.found _
    (sym c.matches.ensures ∙ c.in-Some.ensures.steps) c.requires in
    sym (length-take-le c.in-Some.found.start c.args.text.now (omega (arith, less)))

-- the line of the match, as it is cut out
line_cut : (s : Sought) (start len : ℕ) (text : List ℕ) (has : Bool) → has ≡ occurs s (slice_range text start (start + len)) → has
    ≡ occurs s (take len (drop start text))
line_cut s start len text has is = is ∙ ap (λ n. occurs s (take n (drop start text))) (omega arith)

pub returns-then-is_match : goal.returns-then-is_match
returns-then-is_match g c =
    let s = sought_of c.args.searcher.now in
    let text = c.args.text.now in
    let m = c.in-Some.found in
    let start = c.after_last-start.result in
    let line = c.first_line-len in
    let cut = take_rest text start in
    let found : (m.end ≤ start + line.result.0) ⊎ (occurs s (take line.result.0 (drop start text)) ≡ true) = elim c.if-found-start.branch [
      | then-found-start w ↦ inl w.if-found-start.true
      | else-found-start w ↦ inr (sym (line_cut s start line.result.0 text w.is_match.result w.is_match.ensures) ∙ sym w.value-is
          ∙ c.if-is_match.true)
    ] in
    front_found s c.args.mark text m _ (sym c.matches.ensures ∙ c.in-Some.ensures.steps) start line.result.0 line.result.1
    c.after_last-start.ensures.within c.after_last-start.ensures.after c.requires
    (line.ensures.len ∙ ap (first_len c.args.mark) cut)
    (subst (λ t. ((line.result.0 < length t) × (line.result.1 ≡ line.result.0 + 1))
    ⊎ ((length t ≤ line.result.0) × (line.result.1 ≡ line.result.0))) cut line.ensures.end)
    found

pub returns-else-is_match : goal.returns-else-is_match
returns-else-is_match g c =
    let s = sought_of c.args.searcher.now in
    let text = c.args.text.now in
    let m = c.in-Some.found in
    let start = c.after_last-start.result in
    let line = c.first_line-len in
    let cut = take_rest text start in
    let none : occurs s (take line.result.0 (drop start text)) ≡ false = elim c.if-found-start.branch [
      | then-found-start w ↦ absurd (grind (arith, nat_tests, sym w.value-is ∙ c.if-is_match.false, w.if-found-start.true))
      | else-found-start w ↦ sym (line_cut s start line.result.0 text w.is_match.result w.is_match.ensures) ∙ sym w.value-is
          ∙ c.if-is_match.false
    ] in
    front_passed s c.args.mark text m _ (sym c.matches.ensures ∙ c.in-Some.ensures.steps) start line.result.0 line.result.1
    c.after_last-start.ensures.within c.after_last-start.ensures.after c.requires
    (line.ensures.len ∙ ap (first_len c.args.mark) cut)
    (subst (λ t. ((line.result.0 < length t) × (line.result.1 ≡ line.result.0 + 1))
    ⊎ ((length t ≤ line.result.0) × (line.result.1 ≡ line.result.0))) cut line.ensures.end)
    none
