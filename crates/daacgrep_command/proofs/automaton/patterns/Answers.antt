-- A pattern more was taken, or none is left.
use Rattle.std.proofs.Common.{◌≡◌, ℕ, List, [], ◌∷◌, ◌++◌, get_or, map, take, ap, sym, ◌∙◌}
use Rattle.std.proofs.lemmas.List.{map-append, take_all}
use Rattle.std.specs.Borrow.{Bor}
use Rattle.daacgrep_command.specs.Rules.{pattern_of}
use Rattle.daacgrep_command.proofs.Asking.{name_at_end, names_more}
use Rattle.daacgrep_command.proofs.automaton.patterns.Goals as goal

pub loop-rule-init : goal.loop-rule-init
loop-rule-init c = ap (map (λ (p : Bor (List ℕ)). p.now)) c.new-patterns.ensures.items

pub loop-rule-preserved : goal.loop-rule-preserved
unfolding name_at_end
loop-rule-preserved c =
    let l = c.loop-rule in
    let P = pattern_of c.args.have_values in
    let N = map (λ (p : Bor (List ℕ)). p.now) in
    let before = N (take l.rule-index c.args.rules.now) in
    let line = (get_or c.args.rules.now l.rule-index name_at_end).now in
    rw (names_more c.args.rules.now l.rule-index name_at_end c.loop-rule-test.true)
    (ap N c.in_ok-push.ensures.items ∙ map-append (λ (p : Bor (List ℕ)). p.now) l.patterns.items (c.pattern_of.result ∷ [])
    ∙ ap (λ x. N l.patterns.items ++ (x ∷ [])) c.pattern_of.ensures ∙ ap (λ ps. ps ++ (P line ∷ [])) l.invariant ∙ sym (map-append P before (line ∷ [])))

pub returns : goal.returns
returns c =
    let l = c.loop-rule in
    let e : take l.rule-index c.args.rules.now ≡ c.args.rules.now = take_all l.rule-index c.args.rules.now c.loop-rule-test.false in
    rw e at l.invariant
