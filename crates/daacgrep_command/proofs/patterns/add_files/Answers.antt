-- A file more was read, or none is left.
use Rattle.std.proofs.Common.{◌≡◌, ◌++◌, ap, take, get_or, refl, ◌∙◌}
use Rattle.std.proofs.lemmas.List.{take_all}
use Rattle.daacgrep_command.specs.Asked.{closed}
use Rattle.daacgrep_command.proofs.Asking.{name_at_end, names_more, read_more, read_none}
use Rattle.daacgrep_command.proofs.patterns.add_files.Goals as goal

pub loop-name-init : goal.loop-name-init
loop-name-init g c = record {
  same = refl;
  read = read_none (g.F.FileSystem.sees c.args.files.now).given c.args.text.now.items;
}

pub loop-name-preserved : goal.loop-name-preserved
unfolding name_at_end
loop-name-preserved g c =
    let l = c.loop-name in
    let names = c.args.names.now in
    let given = (g.F.FileSystem.sees c.args.files.now).given in
    let has = rw l.invariant.same at c.in-Some.ensures.has in
    let name = (get_or names l.name-index name_at_end).now in
    let added = c.in_ok-add_closed.ensures ∙ ap (λ t. l.text.items ++ closed t) c.deref.ensures.value in
    record {
      same = c.in-Some.ensures.counted ∙ l.invariant.same;
      read = rw (names_more names l.name-index name_at_end c.loop-name-test.true)
          (read_more given _ name c.in-Some.bytes.items c.args.text.now.items l.text.items _ l.invariant.read has added);
    }

pub returns-clause-ok : goal.returns-clause-ok
returns-clause-ok g c =
    let l = c.loop-name in
    let e : take l.name-index c.args.names.now ≡ c.args.names.now = take_all l.name-index c.args.names.now c.loop-name-test.false in
    rw e at l.invariant.read
