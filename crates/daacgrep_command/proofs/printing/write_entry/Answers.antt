-- The text comes after its labels.
use Rattle.std.proofs.Common.{[], ◌∷◌, ◌++◌, sym}
use Rattle.std.proofs.lemmas.Result.{err_from_is_err_and}
use Rattle.daacgrep_command.specs.Fields.{name_field, number_field}
use Rattle.daacgrep_command.proofs.Writing.{then_more, then_none}
use Rattle.daacgrep_command.proofs.printing.write_entry.Goals as goal

pub returns-in_err-write_name : goal.returns-in_err-write_name
returns-in_err-write_name g c =
    let p = err_from_is_err_and c.from_residual.result c.from_residual.ensures.1 in
    let l = c.args.labels in
    let text = c.args.text.now ++ l.end ∷ [] in
    let values = name_field l.values c.args.value.now in
    let places = number_field l.places c.args.place in
    let numbers = number_field l.numbers c.args.number in
    rw (p.1, sym c.as_bytes.ensures.value) (then_none _ _ (name_field l.names c.as_bytes.result.now)
    (numbers ++ (places ++ (values ++ text))) _ c.in_err-write_name.ensures)

pub returns-in_err-write_field : goal.returns-in_err-write_field
returns-in_err-write_field g c =
    let p = err_from_is_err_and c.from_residual-in_err-write_field.result c.from_residual-in_err-write_field.ensures.1 in
    let l = c.args.labels in
    let text = c.args.text.now ++ l.end ∷ [] in
    let values = name_field l.values c.args.value.now in
    let places = number_field l.places c.args.place in
    let numbers = number_field l.numbers c.args.number in
    rw (p.1, sym c.as_bytes.ensures.value) (then_more _ _ _ (name_field l.names c.as_bytes.result.now)
    (numbers ++ (places ++ (values ++ text))) _ _ c.in_ok-write_name.ensures
    (then_none _ _ numbers (places ++ (values ++ text)) _ c.in_err-write_field.ensures))

pub returns-in_err-write_field-2 : goal.returns-in_err-write_field-2
returns-in_err-write_field-2 g c =
    let p = err_from_is_err_and c.from_residual-in_err-write_field-2.result c.from_residual-in_err-write_field-2.ensures.1 in
    let l = c.args.labels in
    let text = c.args.text.now ++ l.end ∷ [] in
    let values = name_field l.values c.args.value.now in
    let places = number_field l.places c.args.place in
    let numbers = number_field l.numbers c.args.number in
    rw (p.1, sym c.as_bytes.ensures.value) (then_more _ _ _ (name_field l.names c.as_bytes.result.now)
    (numbers ++ (places ++ (values ++ text))) _ _ c.in_ok-write_name.ensures
    (then_more _ _ _ numbers (places ++ (values ++ text)) _ _ c.in_ok-write_field.ensures
    (then_none _ _ places (values ++ text) _ c.in_err-write_field-2.ensures)))

pub returns-in_err-write_name-2 : goal.returns-in_err-write_name-2
returns-in_err-write_name-2 g c =
    let p = err_from_is_err_and c.from_residual-in_err-write_name-2.result c.from_residual-in_err-write_name-2.ensures.1 in
    let l = c.args.labels in
    let text = c.args.text.now ++ l.end ∷ [] in
    let values = name_field l.values c.args.value.now in
    let places = number_field l.places c.args.place in
    let numbers = number_field l.numbers c.args.number in
    rw (p.1, sym c.as_bytes.ensures.value) (then_more _ _ _ (name_field l.names c.as_bytes.result.now)
    (numbers ++ (places ++ (values ++ text))) _ _ c.in_ok-write_name.ensures
    (then_more _ _ _ numbers (places ++ (values ++ text)) _ _ c.in_ok-write_field.ensures
    (then_more _ _ _ places (values ++ text) _ _ c.in_ok-write_field-2.ensures
    (then_none _ _ values text _ c.in_err-write_name-2.ensures))))

pub returns : goal.returns
returns g c =
    let l = c.args.labels in
    let text = c.args.text.now ++ l.end ∷ [] in
    let values = name_field l.values c.args.value.now in
    let places = number_field l.places c.args.place in
    let numbers = number_field l.numbers c.args.number in
    rw (sym c.as_bytes.ensures.value) (then_more _ _ _ (name_field l.names c.as_bytes.result.now) (numbers ++ (places ++ (values ++ text)))
    _ _ c.in_ok-write_name.ensures
    (then_more _ _ _ numbers (places ++ (values ++ text)) _ _ c.in_ok-write_field.ensures
    (then_more _ _ _ places (values ++ text) _ _ c.in_ok-write_field-2.ensures
    (then_more _ _ _ values text _ _ c.in_ok-write_name-2.ensures c.write_marked.ensures))))
