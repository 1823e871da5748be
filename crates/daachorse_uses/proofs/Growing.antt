-- The standard matches in a text that goes on are those in its beginning, and then more.
use Rattle.std.proofs.Common.{◌≡◌, ℕ, ◌≤◌, ◌==◌, Bool, true, false, cond, List, [], ◌∷◌, ◌++◌, Option, Some, None, option_to_list, refl}
use Rattle.std.proofs.Common.{sym, ap, ◌∙◌, subst, append_assoc, arith}
use Rattle.std.proofs.lemmas.Bool.{eqb-true, false≢true}
use Rattle.std.proofs.lemmas.List.Elements.{All-cons, All-nil}
use Rattle.std.specs.List.{slice_get}
use Rattle.std.specs.Iterator.Runs.{SomeRun}
use Rattle.std.specs.Prelude.{All, find, is_some}
use Rattle.daachorse_model.specs.declared.Match.{Match}
use Rattle.daachorse_model.specs.Dictionary.{Dictionary}
use Rattle.daachorse_model.specs.Folding.{as_read, folded_unit}
use Rattle.daachorse_model.specs.Matches.{standard, standard_after}
use Rattle.daachorse_model.specs.Units.{char_width, size}
use Rattle.daachorse_model.proofs.FoldLaws.{as_read-append, size-as_read}
use Rattle.daachorse_model.proofs.StandardEnds.{standard-joined}
use Rattle.daachorse_search.specs.Scans.{past_each_end}
use Rattle.daachorse_search.proofs.ScanLaws.{at_each_end-split, past_each_end-append}
use Rattle.daachorse_uses.specs.Found.{IsFirstGiven, IsFirstMatch}
use Rattle.daachorse_uses.proofs.Readings.{as_read-nil, as_read-push}

module _ {V : Type 0} (width : ℕ → ℕ) (wide : (u : ℕ) → 1 ≤ width u) (K : Dictionary V) where
  -- the match that ends with a text, as a list
  abbrev pub one_after : List ℕ → List (Match V)
  one_after t = option_to_list (standard_after width K t)

  pub standard-more : (text more : List ℕ) → standard width K (text ++ more) ≡ standard width K text ++ past_each_end one_after text more
  standard-more text more =
      sym (standard-joined width K wide (text ++ more))
      ∙ at_each_end-split one_after [] (text ++ more)
      ∙ ap (λ l. one_after [] ++ l) (past_each_end-append one_after [] text more)
      ∙ sym (append_assoc (one_after []) (past_each_end one_after [] text) (past_each_end one_after text more))
      ∙ ap (λ l. l ++ past_each_end one_after text more) (sym (at_each_end-split one_after [] text) ∙ standard-joined width K wide text)

  pub standard-push : (text : List ℕ) (u : ℕ) → standard width K (text ++ u ∷ []) ≡ standard width K text ++ one_after (text ++ u ∷ [])
  standard-push text u = standard-more text (u ∷ [])

  pub first-goes_on : (folds : Bool) (text more : List ℕ) (m : Match V) (ms : List (Match V))
      → standard width K (as_read folds text) ≡ m ∷ ms
      → slice_get (standard width K (as_read folds (text ++ more))) 0 ≡ Some m
  first-goes_on folds text more m ms is =
      ap (λ w. slice_get (standard width K w) 0) (as_read-append folds text more)
      ∙ ap (λ l. slice_get l 0) (standard-more (as_read folds text) (as_read folds more))
      ∙ ap (λ l. slice_get (l ++ past_each_end one_after (as_read folds text) (as_read folds more)) 0) is

-- a match that was looked for by its end ends there
found_ends : {V : Type 0} (place : ℕ) (ms : List (Match V)) (m : Match V) → find (λ x. x.end == place) ms ≡ Some m → m.end ≡ place
found_ends place [] m is = cc
found_ends {V} place (x ∷ ms) m is = by (x.end == place) refl (found_ends place ms m) is
  where
    by : (b : Bool) → (x.end == place) ≡ b → (find (λ y. y.end == place) ms ≡ Some m → m.end ≡ place)
        → cond b (Some x) (find (λ y. y.end == place) ms) ≡ Some m → m.end ≡ place
    by true e later got = let same : x ≡ m = cc in ap (λ (y : Match V). y.end) (sym same) ∙ eqb-true x.end place e
    by false e later got = later got

-- a text in which no match ends, and one unit more, read as the option says
module _ {V : Type 0} (width : ℕ → ℕ) (wide : (u : ℕ) → 1 ≤ width u) (as_wide : (u : ℕ) → width (folded_unit u) ≡ width u)
    (K : Dictionary V) (folds : Bool) where
  pub none-first : None ≡ standard_after width K [] → standard width K (as_read folds []) ≡ []
  none-first none =
      ap (standard width K) (as_read-nil folds) ∙ sym (standard-joined width K wide []) ∙ ap option_to_list (sym none)

  pub some-first : (m : Match V) → Some m ≡ standard_after width K []
      → IsFirstMatch width (λ text. standard width K (as_read folds text)) [] m
  some-first m some = (
    found_ends 0 (standard width K []) m (sym some),
    λ more. first-goes_on width wide K folds [] more m []
        (ap (standard width K) (as_read-nil folds) ∙ sym (standard-joined width K wide []) ∙ ap option_to_list (sym some)),
  )

  module _ (text : List ℕ) (u : ℕ) (none : standard width K (as_read folds text) ≡ []) where
    one-more : standard width K (as_read folds (text ++ u ∷ [])) ≡ option_to_list (standard_after width K (as_read folds (text ++ u ∷ [])))
    one-more =
        let (v, is) = as_read-push folds text u in
        ap (standard width K) is ∙ standard-push width wide K (as_read folds text) v
        ∙ ap (λ l. l ++ option_to_list (standard_after width K (as_read folds text ++ v ∷ []))) none
        ∙ ap (λ t. option_to_list (standard_after width K t)) (sym is)

    pub none-more : None ≡ standard_after width K (as_read folds (text ++ u ∷ [])) → standard width K (as_read folds (text ++ u ∷ [])) ≡ []
    none-more is = one-more ∙ ap option_to_list (sym is)

    ends-more : (m : Match V) → Some m ≡ standard_after width K (as_read folds (text ++ u ∷ [])) → m.end ≡ size width (text ++ u ∷ [])
    ends-more m is =
        found_ends (size width (as_read folds (text ++ u ∷ []))) (standard width K (as_read folds (text ++ u ∷ []))) m (sym is)
        ∙ size-as_read width as_wide folds (text ++ u ∷ [])

    pub some-more : (m : Match V) → Some m ≡ standard_after width K (as_read folds (text ++ u ∷ []))
        → IsFirstMatch width (λ t. standard width K (as_read folds t)) (text ++ u ∷ []) m
    some-more m is =
        (ends-more m is, λ more. first-goes_on width wide K folds (text ++ u ∷ []) more m [] (one-more ∙ ap option_to_list (sym is)))

    -- what ends there ends at a place that is as large
    pub all-far : (n : ℕ) → n ≤ size width (text ++ u ∷ []) → All (λ m. n ≤ m.end) (standard width K (as_read folds (text ++ u ∷ [])))
    all-far n far = by (standard_after width K (as_read folds (text ++ u ∷ []))) refl
      where
        by : (o : Option (Match V)) → o ≡ standard_after width K (as_read folds (text ++ u ∷ []))
            → All (λ m. n ≤ m.end) (standard width K (as_read folds (text ++ u ∷ [])))
        by None is = subst (All (λ m. n ≤ m.end)) (sym (none-more is)) (All-nil (λ m. n ≤ m.end))
        by (Some m) is =
            subst (All (λ m. n ≤ m.end)) (sym (one-more ∙ ap option_to_list (sym is)))
            (All-cons (λ m. n ≤ m.end) m [] (omega (arith, ends-more m is, far)) (All-nil (λ m. n ≤ m.end)))

-- what a stepper returns, in the words of the automaton that it borrows
pub told : {P V : Type 0} (width : ℕ → ℕ) (K : P → Dictionary V) (one words : P) (read text : List ℕ) (r : Option (Match V))
    → r ≡ standard_after width (K one) read
    → one ≡ words → read ≡ text → r ≡ standard_after width (K words) text
told {P} width K one words read text r is parts same =
    is ∙ ap (λ (p : P). standard_after width (K p) read) parts ∙ ap (standard_after width (K words)) same

-- an option that was looked at
pub looked_none : {A : Type 0} (o : Option A) (b : Bool) → b ≡ is_some o → b ≡ false → None ≡ o
looked_none None b is off = refl
looked_none (Some x) b is off = absurd (false≢true (sym off ∙ is))

pub first_given : {V S : Type 0} (steps : S → Option ℕ → S → Type 0) (source : S) (matches : List ℕ → List (Match V)) (o : Option (Match V))
    (b : Bool) → b ≡ is_some o → b ≡ true
    → ((m : Match V) → Some m ≡ o → SomeRun steps source (λ p. IsFirstMatch char_width matches p.items m)) → IsFirstGiven steps source matches o
first_given steps source matches None b is on so = absurd (false≢true (sym is ∙ on))
first_given steps source matches (Some m) b is on so = so m refl
