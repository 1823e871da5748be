-- The bytes of a string are a source that a search may read, as it is or folded.
use Rattle.std.proofs.Common.{◌≡◌, ℕ, ◌<◌, ◌^◌, Bool, List, [], length, inl, sym, ap, subst, arith}
use Rattle.std.specs.Iterator.{at_most}
use Rattle.std.specs.Str.{IsUtf8}
use Rattle.std.specs.Str.Iter.{bytes_rest, bytes_steps}
use Rattle.std.specs.declared.str.Bytes.{Bytes}
use Rattle.daachorse_model.specs.Units.{char_width, size}
use Rattle.daachorse_haystack.specs.Readings.{MayReadAsRead}
use Rattle.daachorse_haystack.specs.TextSources.{IsTextFrom}
use Rattle.daachorse_haystack.proofs.DecodedRuns.{IsText-bytes}
use Rattle.daachorse_table.proofs.FirstReads.{from_first}

abbrev pub may_read : Bytes → List ℕ → Type 0
may_read source read = IsTextFrom (λ s. Unit {0}) bytes_steps (λ s. at_most (length (bytes_rest s))) source (size char_width read)

pub from_text : (folds : Bool) (source : Bytes) (text read : List ℕ) → bytes_rest source ≡ text → IsUtf8 text → length text < 2 ^ 64 → read ≡ []
    → MayReadAsRead may_read folds source read
from_text folds source text read is utf8 fits none =
    let first : may_read source [] = record {
      text = IsText-bytes (λ s. Unit {0}) (λ s. at_most (length (bytes_rest s))) source tt tt (subst IsUtf8 (sym is) utf8);
      fits = inl (omega (arith, ap length is, fits));
    } in
    from_first may_read folds source read none first
