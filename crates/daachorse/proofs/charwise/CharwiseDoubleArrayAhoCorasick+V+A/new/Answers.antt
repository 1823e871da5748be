-- The kind of the default builder is `Standard`, it wants a filter, and it reads patterns as they are.
use Rattle.daachorse.proofs.charwise.CharwiseDoubleArrayAhoCorasick+V+A.new.Goals as goal

pub returns-clause-ok : goal.returns-clause-ok
returns-clause-ok g c = rw (c.new.ensures.kind, c.new.ensures.folds) at c.build.ensures.ok

pub returns-clause-err : goal.returns-clause-err
returns-clause-err g c = rw (c.new.ensures.kind, c.new.ensures.folds) at c.build.ensures.err

pub returns-clause-filter : goal.returns-clause-filter
returns-clause-filter g c = rw (c.new.ensures.filter, c.new.ensures.folds) at c.build.ensures.filter
