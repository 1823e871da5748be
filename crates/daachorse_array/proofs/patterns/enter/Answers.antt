-- The numbers of the units that are kept, and then that of the unit that is written.
use Rattle.std.proofs.Common.{◌-◌, ◌++◌, [], ◌∷◌, map, take, sym, ap, ◌∙◌}
use Rattle.std.proofs.lemmas.List.{map_push, take-map}
use Rattle.std.proofs.lemmas.Result.{on_ok_weaker}
use Rattle.daachorse_array.proofs.patterns.enter.Goals as goal

pub returns-clause-text : goal.returns-clause-text
returns-clause-text g c =
    let number = g.E.Keys.number in
    let d = c.args.depth in
    let old = c.args.text.now.items in
    on_ok_weaker c.put_aside.result
    (λ aside some.
    ap (map number) (c.in_ok-write_last.ensures.ok some)
    ∙ (map_push number (take (d - 1) old) c.unit.result ∙ (ap (λ l. l ++ number c.unit.result ∷ []) (sym (take-map number (d - 1) old)) ∙ ap (λ u. take (d - 1) (map number old) ++ u ∷ []) c.unit.ensures)))
    c.put_aside.ensures.ok
