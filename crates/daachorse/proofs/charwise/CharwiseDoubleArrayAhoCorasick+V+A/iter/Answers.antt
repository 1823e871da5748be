-- The listing is sorted by characters, which is by their bytes.
use Rattle.daachorse_model.proofs.TextOrder.{sorted_bytes}
use Rattle.daachorse.proofs.charwise.CharwiseDoubleArrayAhoCorasick+V+A.iter.Goals as goal

pub returns-clause-by_bytes : goal.returns-clause-by_bytes
returns-clause-by_bytes g c = sorted_bytes c.in_ok-walk.walk c.in_ok-walk.ensures.ok.sorted
