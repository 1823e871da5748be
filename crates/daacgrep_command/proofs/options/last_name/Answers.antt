-- The last name is the last text.
use Rattle.std.proofs.Common.{ℕ, ◌-◌, List, length, map, ap, sym, ◌∙◌}
use Rattle.std.proofs.lemmas.List.{length-map}
use Rattle.std.proofs.lemmas.Option.{slice_get-map}
use Rattle.std.specs.Prelude.{slice_get}
use Rattle.std.specs.Borrow.{Bor}
use Rattle.std.specs.Option.{option_map}
use Rattle.daacgrep_command.proofs.options.last_name.Goals as goal

pub returns : goal.returns
returns c =
    let N = λ (n : Bor (List ℕ)). n.now in
    let names = c.args.names.now in
    ap (option_map N) (c.copied.ensures ∙ c.last.ensures.value) ∙ sym (slice_get-map N names (length names - 1)) ∙ ap (λ n. slice_get (map N names) (n - 1)) (sym (length-map names N))
