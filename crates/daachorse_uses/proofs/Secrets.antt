-- An automaton of the secrets that a text lists finds where they are.
use Rattle.std.proofs.Common.{◌≡◌, ℕ, ◌+◌, List, [], ◌∷◌, refl, ap, ◌∙◌, subst, Option, Result}
use Rattle.std.specs.declared.io.Error.{Error}
use Rattle.daachorse_model.specs.declared.Match.{Match}
use Rattle.daachorse_model.specs.declared.MatchKind.TheVariants.{LeftmostLongest}
use Rattle.daachorse_model.specs.Dictionary.{Dictionary, dictionary}
use Rattle.daachorse_model.specs.Folding.{as_read}
use Rattle.daachorse_model.specs.Leftmost.{leftmost}
use Rattle.daachorse_model.specs.Program.{with_numbers}
use Rattle.daachorse_model.specs.Units.{byte_width}
use Rattle.daachorse.specs.Patterns.{AreIndexed}
use Rattle.daachorse.specs.bytewise.Automata.{Automaton, dictionary_of}
use Rattle.daachorse_streams.specs.ByKind.{non_overlapping}
use Rattle.daachorse_uses.specs.Copies.{CopiesRead, matches_of}
use Rattle.daachorse_uses.specs.Secrets.{IsOfSecrets, dictionary_in, secrets_found, secrets_in, value_gives}

numbered_of : (i : ℕ) (texts : List (List ℕ)) (rs : List (List ℕ × ℕ)) → AreIndexed value_gives i texts rs → rs ≡ with_numbers i texts
numbered_of i [] [] h = refl
numbered_of i [] ((u, v) ∷ rs) h = absurd h
numbered_of i (t ∷ ts) [] h = absurd h
numbered_of i (t ∷ ts) ((u, v) ∷ rs) h = let first = h.1.1 in let rest = numbered_of (i + 1) ts rs h.2 in cc (first, rest, h.0)

module _ (text : List ℕ) (words : Automaton ℕ) (h : IsOfSecrets text words) where
  dictionary_is : dictionary_of words ≡ dictionary_in text
  dictionary_is =
      let held : dictionary_of words ≡ dictionary LeftmostLongest h.0 = λ i w. h.2.holds w i in
      held ∙ ap (dictionary LeftmostLongest) (numbered_of 0 (secrets_in text) h.0 h.1)

  matches_are : matches_of words ≡ secrets_found text
  matches_are =
      ap (λ kind log. non_overlapping kind byte_width (dictionary_of words) (as_read words.folds log)) h.2.kind
      ∙ ap (λ folds log. leftmost byte_width (dictionary_of words) (as_read folds log)) h.2.folds
      ∙ ap (λ K log. leftmost byte_width K log) dictionary_is

  -- so what it copies is a copy without the secrets
  pub copies_secrets : {O : Type 0} (known : Option (List ℕ)) (part : Option (List ℕ) → Option (List ℕ) → List ℕ → Type 0)
      (taken : O → Option (List ℕ))
      (shown : Match ℕ → List ℕ) (r : Result (Unit {0}) Error) (old new : O)
      → CopiesRead (dictionary_of words) known (matches_of words) part taken shown r old new
      → CopiesRead (dictionary_in text) known (secrets_found text) part taken shown r old new
  copies_secrets known part taken shown r old new copies =
      let by : (List ℕ → List (Match ℕ)) → Type 0 = λ matches. CopiesRead (dictionary_of words) known matches part taken shown r old new in
      let of : Dictionary ℕ → Type 0 = λ K. CopiesRead K known (secrets_found text) part taken shown r old new in
      subst of dictionary_is (subst by matches_are copies)
