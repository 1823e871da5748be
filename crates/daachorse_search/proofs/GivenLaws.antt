-- How much there is at each end of a text, one unit more: what is there comes to what was before.
use Rattle.std.proofs.Common.{◌≡◌, ℕ, ◌+◌, List, [], ◌∷◌, ◌++◌, length, sym, ap, ◌∙◌, append_assoc, length-append}
use Rattle.daachorse_model.specs.Matches.{at_each_end}
use Rattle.daachorse_search.specs.Scans.{past_each_end}
use Rattle.daachorse_search.proofs.ScanLaws.{at_each_end-split, past_each_end-append}

at_each_end-push : {A : Type 0} (f : List ℕ → List A) (t : List ℕ) (u : ℕ) → at_each_end f [] (t ++ u ∷ []) ≡ at_each_end f [] t ++ f (t ++ u ∷ [])
at_each_end-push f t u =
    at_each_end-split f [] (t ++ u ∷ [])
    ∙ ap (λ l. f [] ++ l) (past_each_end-append f [] t (u ∷ []))
    ∙ sym (append_assoc (f []) (past_each_end f [] t) (f (t ++ u ∷ [])))
    ∙ ap (λ l. l ++ f (t ++ u ∷ [])) (sym (at_each_end-split f [] t))

pub length-push : {A : Type 0} (f : List ℕ → List A) (t : List ℕ) (u : ℕ) → length (at_each_end f [] (t ++ u ∷ [])) ≡ length (at_each_end f [] t) + length (f (t ++ u ∷ []))
length-push f t u = ap length (at_each_end-push f t u) ∙ length-append (at_each_end f [] t) (f (t ++ u ∷ []))
