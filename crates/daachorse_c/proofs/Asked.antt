-- What a search finds, by the search that was asked for.
use Rattle.std.proofs.Common.{◌≡◌, ℕ, List, ap, sym, ◌∙◌}
use Rattle.daachorse_model.specs.declared.Match.{Match}
use Rattle.daachorse_model.specs.Dictionary.{Dictionary}
use Rattle.daachorse_c.specs.declared.search.SearchKind.{SearchKind}
use Rattle.daachorse_c.specs.Searches.{found_by}

pub found_in : (width : ℕ → ℕ) (search asked : SearchKind) (K : Dictionary ℕ) (h : List ℕ) (left : List (Match ℕ)) → asked ≡ search → left ≡ found_by width search K h → left ≡ found_by width asked K h
found_in width search asked K h left is e = e ∙ ap (λ s. found_by width s K h) (sym is)
