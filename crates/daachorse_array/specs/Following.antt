-- The way up by links from above a rank, on which the links of its children are looked for.
use Rattle.std.specs.Prelude.{◌≡◌, ℕ, ◌<◌, Bool, List, length}
use Rattle.daachorse_array.specs.Near.{up, near, top}

-- On the way up from p, which has come to `here` from the rank below: what is near above p by c is near here, and the link where nothing is
-- near is that of the rank below.
pub record IsFollowing (parents labels : List ℕ) (stops : List Bool) (fails : List ℕ) (p c below here : ℕ) : Type 0 where
  pub low : below < length fails
  pub above : here ≡ up fails below
  pub same_near : near parents labels fails (up fails p) c ≡ near parents labels fails here c
  pub same_top : top stops fails p ≡ top stops fails below
