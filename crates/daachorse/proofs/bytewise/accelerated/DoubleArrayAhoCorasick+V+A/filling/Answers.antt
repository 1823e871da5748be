-- A text is past.
use Rattle.std.proofs.Common.{Bool, subst}
use Rattle.daachorse_array.specs.Listing.{HasMoved}
use Rattle.daachorse_array.proofs.LengthLaws.{fewer-left}
use Rattle.daachorse.proofs.bytewise.accelerated.DoubleArrayAhoCorasick+V+A.filling.Goals as goal

pub texts-smaller : goal.texts-smaller
texts-smaller g c =
    let P : Bool → Type 0 = λ found. HasMoved c.texts.texts.left found c.advance.new.self in
    fewer-left c.texts.texts.left c.advance.new.self (subst P c.if-branch.true c.in_ok-advance.ensures.moved)
