use Rattle.daachorse_prefilter.proofs.BucketMarks.{unset_opens}
use Rattle.daachorse_prefilter.proofs.buckets.builder.unset.Goals as goal

pub returns-clause-clears : goal.returns-clause-clears
returns-clause-clears c = λ y i h. unset_opens c.args.entries.now c.args.slot c.args.bit y i c.requires.slot c.requires.bit h
