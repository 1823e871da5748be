-- What a filter has read of the beginning of a text.
use Rattle.std.specs.Prelude.{◌≡◌, ℕ, ◌-◌, ◌<◌, min, List, length, slice_index}
use Rattle.daachorse_model.specs.Filter.{pairs_pass}
use Rattle.daachorse_prefilter.specs.declared.prefilter.window.Window.{Window}
use Rattle.daachorse_prefilter.specs.Filters.{Filter, entry_of}

-- the window has read this text, of which it keeps no more than the filter looks at
pub record HasRead (f : Filter) (text : List ℕ) (s : Window) : Type 0 where
  pub len : s.len ≡ min (length text) f.window
  pub last : 0 < s.len → s.len < f.window → s.last ≡ slice_index text (s.len - 1)
  pub passes : s.passes ≡ pairs_pass (entry_of f) 0 (s.len - 1) text
