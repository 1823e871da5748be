-- What is wanted of files.
use Rattle.std.specs.Prelude.{ℕ, List, map}
use Rattle.daacgrep_command.specs.declared.search.Job.{Job}
use Rattle.daacgrep_command.specs.declared.search.Task.{Task}
use Rattle.daacgrep_command.specs.Sought.{Sought, sought_of}

-- what is sought, the lines of the patterns, and how files are searched
pub record Wanted : Type 0 where
  pub sought : Sought
  pub rules : List (List ℕ)
  pub task : Task

-- what a job wants
abbrev pub wanted_of : {A : Type 0} → Job A → Wanted
wanted_of job = record { sought = sought_of job.searcher.now; rules = map (λ r. r.now) job.rules.now; task = job.task }
