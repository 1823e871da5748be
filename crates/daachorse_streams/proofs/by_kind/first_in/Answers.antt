-- What the search gives first is the first of all its matches.
use Rattle.daachorse_streams.proofs.FirstMatches.{first_of_search}
use Rattle.daachorse_streams.proofs.by_kind.first_in.Goals as goal

pub returns : goal.returns
returns g c = first_of_search _ c.find_in.result c.next.result c.next.new.self _ c.next.ensures.steps c.find_in.ensures.left
