-- Each search makes its matches of parts of the haystack that are keys, with values of these, and the overlapping search looks at every part and takes every value.
use Rattle.std.proofs.Common.{ℕ, Bool, List}
use Rattle.daachorse_model.specs.Folding.{as_read, texts_as_read}
use Rattle.daachorse_model.specs.Dictionary.{dictionary}
use Rattle.daachorse_model.proofs.AsRead.{all_read, values_registered}
use Rattle.daachorse_model.proofs.Occur.{overlapping_occur}
use Rattle.daachorse_model.proofs.Complete.{overlapping_complete}
use Rattle.daachorse_model.proofs.Find.{no_suffix_occur, standard_occur, leftmost_occur}
use Rattle.daachorse_model.proofs.laws.matches_occur.Goals as goal

pub returns : goal.returns
returns g c =
    let keys = λ (folds : Bool) (patterns : List (List ℕ × _)). dictionary c.args.kind (texts_as_read folds patterns) in
    record {
      overlapping = λ folds width patterns h. all_read folds width (keys folds patterns) h _ (overlapping_occur width (keys folds patterns) (as_read folds h));
      no_suffix = λ folds width patterns h. all_read folds width (keys folds patterns) h _ (no_suffix_occur width (keys folds patterns) (as_read folds h));
      standard = λ folds width patterns h. all_read folds width (keys folds patterns) h _ (standard_occur width (keys folds patterns) (as_read folds h));
      leftmost = λ folds width patterns h. all_read folds width (keys folds patterns) h _ (leftmost_occur width (keys folds patterns) (as_read folds h));
      complete = λ folds width patterns h m is. overlapping_complete width (keys folds patterns) (as_read folds h) m is;
      registered = λ folds patterns w. values_registered folds c.args.kind patterns w;
    }
