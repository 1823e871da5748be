-- A stream that may end goes through what it went through.
use Rattle.daachorse_c.proofs.Ended.{through_ended-bytes, through_ended-characters}
use Rattle.daachorse_c.proofs.streams.Streams.ended.Goals as goal

pub returns-in-Bytes-clause-goes_on : goal.returns-in-Bytes-clause-goes_on
returns-in-Bytes-clause-goes_on c = rw (c.in-Bytes.is, c.ended.ensures) (λ a on none. through_ended-bytes a c.in-Bytes.stream on none)

pub returns-in-Characters-clause-goes_on : goal.returns-in-Characters-clause-goes_on
returns-in-Characters-clause-goes_on c = rw (c.in-Characters.is, c.ended-in-Characters.ensures) (λ a on none. through_ended-characters a c.in-Characters.stream on none)
