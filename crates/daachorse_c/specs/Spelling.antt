-- How many bytes spell units.
use Rattle.std.specs.Prelude.{ℕ, List, length}
use Rattle.std.proofs.Common.{◌≡◌, sym}
use Rattle.daachorse_model.specs.Units.{byte_width, char_width, size}
use Rattle.daachorse_model.proofs.Suffixes.{size-bytes}
use Rattle.daachorse_haystack.specs.DecodedSources.{size-encodes}
use Rattle.daachorse_c.specs.declared.unit.Unit.TheVariants.{Byte, Character}
use Rattle.daachorse_c.specs.Units.{spelled_in}

pub spelled-bytes : (w : List ℕ) → length (spelled_in Byte w) ≡ size byte_width w
spelled-bytes w = sym (size-bytes w)

pub spelled-characters : (w : List ℕ) → length (spelled_in Character w) ≡ size char_width w
spelled-characters w = sym (size-encodes w)
