-- A pattern more was added, or none is left.
use Rattle.std.proofs.Common.{◌≡◌, ◌++◌, ◌∷◌, [], flat_map, map, take, get_or, ap, sym, append-nil, append_assoc, ◌∙◌}
use Rattle.std.proofs.lemmas.List.{take_all}
use Rattle.daacgrep_command.proofs.Asking.{name_at_end, patterns_more}
use Rattle.daacgrep_command.proofs.patterns.add_patterns.Goals as goal

pub loop-pattern-init : goal.loop-pattern-init
loop-pattern-init c = sym (append-nil c.args.text.now.items)

pub loop-pattern-preserved : goal.loop-pattern-preserved
unfolding name_at_end
loop-pattern-preserved c =
    let l = c.loop-pattern in
    let texts = c.args.patterns.now in
    let line = (get_or texts l.pattern-index name_at_end).now ++ 10 ∷ [] in
    rw (patterns_more texts l.pattern-index name_at_end c.loop-pattern-test.true)
    (c.in_ok-add_line.ensures ∙ ap (λ t. t ++ line) l.invariant ∙ append_assoc c.args.text.now.items (flat_map (λ p. p ++ 10 ∷ []) (map (λ n. n.now) (take l.pattern-index texts))) line)

pub returns : goal.returns
returns c =
    let l = c.loop-pattern in
    let e : take l.pattern-index c.args.patterns.now ≡ c.args.patterns.now = take_all l.pattern-index c.args.patterns.now c.loop-pattern-test.false in
    rw e at l.invariant
