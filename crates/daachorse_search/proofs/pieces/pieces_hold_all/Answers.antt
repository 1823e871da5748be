-- No key is longer than the carried units and one more.
use Rattle.daachorse_search.proofs.PieceLaws.{pieces_hold}
use Rattle.daachorse_search.proofs.pieces.pieces_hold_all.Goals as goal

pub returns : goal.returns
returns g c width K front carried rest some longest = pieces_hold width K front carried rest some longest
