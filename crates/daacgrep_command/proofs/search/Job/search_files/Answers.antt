-- A file more was searched, or none is left.
use Rattle.std.proofs.Common.{◌≡◌, ◌+◌, false, [], ◌∷◌, drop, get_or, map, take, refl}
use Rattle.std.proofs.lemmas.List.{take_all}
use Rattle.std.proofs.lemmas.Result.{err_from_is_err_and}
use Rattle.daacgrep_command.specs.Jobs.{wanted_of}
use Rattle.daacgrep_command.proofs.Asking.{name_at_end, names_more, names_split, searched_cut, searched_none, searched_then}
use Rattle.daacgrep_command.proofs.Troubles.{reads_same, reads_then, trouble_same, trouble_then}
use Rattle.daacgrep_command.proofs.search.Job.search_files.Goals as goal

pub returns-in_err-found-clause-reads : goal.returns-in_err-found-clause-reads
returns-in_err-found-clause-reads g c = reads_then _ _ _ c.loop-name.invariant.reads c.in_err-found.ensures.reads

pub returns-in_err-found-clause-searched : goal.returns-in_err-found-clause-searched
unfolding name_at_end
returns-in_err-found-clause-searched g c =
    let l = c.loop-name in
    let names = c.args.names.now in
    let given = (g.F.FileSystem.sees c.args.files.now).given in
    let p = err_from_is_err_and c.from_residual.result c.from_residual.ensures.1 in
    let here = rw l.invariant.reads.given at c.in_err-found.ensures.searched in
    let name = (get_or names l.name-index name_at_end).now in
    let rest = map (λ n. n.now) (drop (l.name-index + 1) names) in
    rw (p.1, names_split names l.name-index name_at_end c.loop-name-test.true)
    (searched_cut (wanted_of c.args.self.now) given _ _ _ _ _ _ _ (name ∷ []) rest _ _ l.invariant.searched here)

pub loop-name-init : goal.loop-name-init
loop-name-init g c = record {
  reads = reads_same _ _ refl;
  trouble = trouble_same false _ _ refl refl;
  searched = searched_none (wanted_of c.args.self.now) (g.F.FileSystem.sees c.args.files.now).given _ _;
}

pub loop-name-preserved : goal.loop-name-preserved
unfolding name_at_end
loop-name-preserved g c =
    let l = c.loop-name in
    let names = c.args.names.now in
    let given = (g.F.FileSystem.sees c.args.files.now).given in
    let here = rw l.invariant.reads.given at c.in_ok-found.ensures.searched in
    let name = (get_or names l.name-index name_at_end).now in
    record {
      reads = reads_then _ _ _ l.invariant.reads c.in_ok-found.ensures.reads;
      trouble = rw c.and-outcome.ensures (trouble_then _ _ _ _ _ l.invariant.trouble c.in_ok-found.ensures.trouble);
      searched = rw (names_more names l.name-index name_at_end c.loop-name-test.true, c.and-outcome.ensures)
          (searched_then (wanted_of c.args.self.now) given _ _ _ _ _ _ _ (name ∷ []) _ _ l.invariant.searched here);
    }

pub returns-clause-searched : goal.returns-clause-searched
returns-clause-searched g c =
    let l = c.loop-name in
    let e : take l.name-index c.args.names.now ≡ c.args.names.now = take_all l.name-index c.args.names.now c.loop-name-test.false in
    rw e at l.invariant.searched
