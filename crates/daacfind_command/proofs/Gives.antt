-- The text of the matches that an iterator gives, as far as it has come.
use Rattle.std.proofs.Common.{◌≡◌, ℕ, List, [], ◌∷◌, ◌++◌, length, take, drop}
use Rattle.std.proofs.Common.{Option, Some, None, sym, ap, ◌∙◌, append_assoc, append-nil, take-append-drop}
use Rattle.std.proofs.iter.Next.{Yields-more}
use Rattle.std.proofs.lemmas.Grind.{flat_map-append}
use Rattle.std.proofs.lemmas.Iterator.{items_from_drains}
use Rattle.std.proofs.lemmas.Iterator.Consumers.{YieldsList-so_far}
use Rattle.std.proofs.lemmas.List.{map-id}
use Rattle.std.specs.Iterator.{AlwaysYields, Yields}
use Rattle.daachorse_model.specs.declared.Match.{Match}
use Rattle.daachorse_model.specs.Program.{match_line, match_text}

module _ {S : Type 0} (steps : S → Option (Match ℕ) → S → Type 0) where
  -- no match is left
  pub text_whole : (s t u : S) (xs all : List (Match ℕ)) → Yields steps s xs t → steps t None u → AlwaysYields steps (λ m. m) s all
      → match_text xs ≡ match_text all
  text_whole s t u xs all run end y = ap match_text
      (sym (map-id xs) ∙ items_from_drains {steps = steps} {s = s} xs (t, run, λ _. (u, end)) (record { runs = y }))

  -- one match more
  pub text_goes_on : (s t u : S) (x : Match ℕ) (xs all : List (Match ℕ)) → Yields steps s xs t → steps t (Some x) u
      → AlwaysYields steps (λ m. m) s all
      → (rest : List ℕ) × (match_text all ≡ match_text xs ++ (match_line x ++ rest))
  text_goes_on s t u x xs all run step y =
      let n = length (xs ++ x ∷ []) in
      let front : xs ++ x ∷ [] ≡ take n all = sym (map-id (xs ++ x ∷ []))
      ∙ YieldsList-so_far {steps = steps} {s = s} (record { runs = y }) (xs ++ x ∷ []) u (Yields-more steps s xs t x u run step) in
      let rest = match_text (drop n all) in (
        rest,
        ap match_text (sym (take-append-drop n all)) ∙ flat_map-append match_line (take n all) (drop n all)
            ∙ ap (λ l. match_text l ++ rest) (sym front)
            ∙ ap (λ l. l ++ rest)
            (flat_map-append match_line xs (x ∷ []) ∙ ap (λ l. match_text xs ++ l) (append-nil (match_line x)))
            ∙ append_assoc (match_text xs) (match_line x) rest,
      )
