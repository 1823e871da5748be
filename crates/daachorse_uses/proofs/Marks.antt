-- The marks of a stream, one byte more: the standard search finds the match that ends there, if there is one.
use Rattle.std.proofs.Common.{◌≡◌, ℕ, ◌+◌, ◌≤◌, ◌<◌, Bool, true, false, cond, List, [], ◌∷◌, ◌++◌, length, get_or, Option, Some, None}
use Rattle.std.proofs.Common.{option_to_list, inl, inr, refl, sym, ap, ◌∙◌, subst, append-nil, length-append, arith}
use Rattle.std.specs.Iterator.{Yields}
use Rattle.std.specs.Iterator.Runs.{SomeRun, Trigger, WholeRun, YieldsRun}
use Rattle.std.specs.List.{slice_get}
use Rattle.std.specs.Option.{option_map}
use Rattle.std.specs.Prelude.{All}
use Rattle.std.proofs.lemmas.Bool.{and_right, cases_lt, le-ltb}
use Rattle.std.proofs.lemmas.List.{get_or_append_left, get_or_at}
use Rattle.std.proofs.lemmas.List.Elements.{All-pop, All-weaker}
use Rattle.std.proofs.lemmas.List.Folds.{list_any_none}
use Rattle.std.proofs.lemmas.Option.{slice_get-get_or}
use Rattle.daachorse_model.specs.declared.Match.{Match}
use Rattle.daachorse_model.specs.Dictionary.{Dictionary}
use Rattle.daachorse_model.specs.Laws.{IsOccurrence}
use Rattle.daachorse_model.specs.Folding.{as_read}
use Rattle.daachorse_model.specs.Matches.{standard, standard_after}
use Rattle.daachorse_model.specs.Units.{byte_width}
use Rattle.daachorse_model.proofs.Find.{standard_occur}
use Rattle.daachorse_uses.specs.Covered.{AreMarks, FitsIn, is_covered, is_within}
use Rattle.daachorse_uses.proofs.Covers.{covered_more, fit_as_given, fits_in}
use Rattle.daachorse_uses.proofs.Growing.{standard-push}
use Rattle.daachorse_uses.proofs.Readings.{as_read-push}

module _ {V : Type 0} where
  pub standard_fit : (K : Dictionary V) (h : List ℕ) → All (FitsIn (length h)) (standard byte_width K h)
  standard_fit K h =
      All-weaker (IsOccurrence byte_width K h) (FitsIn (length h)) (fits_in K h) (standard byte_width K h) (standard_occur byte_width K h)

  -- so do those in a text as it is read
  read_fit : (K : Dictionary V) (folds : Bool) (h : List ℕ) → All (FitsIn (length h)) (standard byte_width K (as_read folds h))
  read_fit K folds h = fit_as_given folds h (standard byte_width K (as_read folds h)) (standard_fit K (as_read folds h))

  -- no place past the ends of the matches lies in one
  uncovered : (n i : ℕ) (ms : List (Match V)) → All (FitsIn n) ms → n ≤ i → is_covered ms i ≡ false
  uncovered n i ms all past =
      list_any_none (λ m. is_within m.start m.end i) ms
      (All-weaker (FitsIn n) (λ m. is_within m.start m.end i ≡ false)
      (λ m f. and_right _ _ (le-ltb i m.end (omega (arith, f.within)))) ms all)

-- a text as it is read, and one byte more
module _ {V : Type 0} (K : Dictionary V) (folds : Bool) (xs : List ℕ) (u : ℕ) where
  read-push : standard byte_width K (as_read folds (xs ++ u ∷ [])) ≡ standard byte_width K (as_read folds xs) ++ option_to_list
      (standard_after byte_width K (as_read folds (xs ++ u ∷ [])))
  read-push =
      let more = as_read-push folds xs u in
      subst (λ t. standard byte_width K t ≡ standard byte_width K (as_read folds xs) ++ option_to_list (standard_after byte_width K t))
      (sym more.1) (standard-push byte_width (λ v. omega arith) K (as_read folds xs) more.0)

  pub found_fits : (m : Match V) → Some m ≡ standard_after byte_width K (as_read folds (xs ++ u ∷ [])) → FitsIn (length (xs ++ u ∷ [])) m
  found_fits m is =
      let before = standard byte_width K (as_read folds xs) in
      let text = as_read folds (xs ++ u ∷ []) in
      (All-pop (FitsIn (length (xs ++ u ∷ []))) (standard byte_width K text) before (Some m)
      (read-push ∙ ap (λ r. before ++ option_to_list r) (sym is)) (read_fit K folds (xs ++ u ∷ []))).1

  -- ---- marks

  module _ (marks : List Bool) (are : AreMarks (standard byte_width K (as_read folds xs)) (length xs) marks) where
    pushed : (i : ℕ) → i < length (xs ++ u ∷ [])
        → get_or (marks ++ false ∷ []) i false ≡ is_covered (standard byte_width K (as_read folds xs)) i
    pushed i inside = elim (cases_lt i (length xs)) [
      | inl before ↦ get_or_append_left marks (false ∷ []) false i (omega (arith, are.long, before)) ∙ are.marked i before
      | inr past ↦
          let at : i ≡ length marks = omega (arith, are.long, past, inside, length-append xs (u ∷ [])) in
          get_or_at marks false [] false i (sym at)
          ∙ sym (uncovered (length xs) i (standard byte_width K (as_read folds xs)) (read_fit K folds xs) past)
    ]

    pub longer : length (marks ++ false ∷ []) ≡ length (xs ++ u ∷ [])
    longer = length-append marks (false ∷ []) ∙ ap (λ n. n + 1) are.long ∙ sym (length-append xs (u ∷ []))

    pub none_marked : None ≡ standard_after byte_width K (as_read folds (xs ++ u ∷ []))
        → AreMarks (standard byte_width K (as_read folds (xs ++ u ∷ []))) (length (xs ++ u ∷ [])) (marks ++ false ∷ [])
    none_marked is = record {
      long = longer;
      marked = λ i inside.
          let before = standard byte_width K (as_read folds xs) in
          pushed i inside ∙ ap (λ ms. is_covered ms i) (sym (append-nil before) ∙ ap (λ r. before ++ option_to_list r) is ∙ sym read-push);
    }

    pub some_marked : (m : Match V) (later : List Bool) → Some m ≡ standard_after byte_width K (as_read folds (xs ++ u ∷ []))
        → length later ≡ length (marks ++ false ∷ [])
        → ((i : ℕ) → i < length (marks ++ false ∷ [])
        → get_or later i false ≡ cond (is_within m.start m.end i) true (get_or (marks ++ false ∷ []) i false))
        → AreMarks (standard byte_width K (as_read folds (xs ++ u ∷ []))) (length (xs ++ u ∷ [])) later
    some_marked m later is long set = record {
      long = long ∙ longer;
      marked = λ i inside.
          let before = standard byte_width K (as_read folds xs) in
          set i (omega (arith, inside, longer))
          ∙ ap (cond (is_within m.start m.end i) true) (pushed i inside)
          ∙ sym (covered_more before m i)
          ∙ ap (λ ms. is_covered ms i) (ap (λ r. before ++ option_to_list r) is ∙ sym read-push);
    }

-- calls that gave xs are a run
pub some_run : {S X : Type 0} (steps : S → Option X → S → Type 0) (s t : S) (xs : List X) (P : List X → Type 0) → Yields steps s xs t
    → P xs → SomeRun steps s (λ p. P p.items)
unfolding Trigger YieldsRun
some_run steps s t xs P calls holds = (
  record {
    from = s;
    items = xs;
    whole = false;
    len = length xs;
    at = slice_get xs;
    seen = tt;
    long = refl;
    reads = λ k d l. ap (option_map (λ y. y)) (slice_get-get_or xs k d l);
    gave = ((t, calls, λ e. absurd (cc)), λ k. refl);
  },
  refl,
  holds,
)

-- calls that gave xs, and then nothing, are a whole run
pub whole_run : {S X : Type 0} (steps : S → Option X → S → Type 0) (s t u : S) (xs : List X) (P : List X → Type 0) → Yields steps s xs t
    → steps t None u → P xs → WholeRun steps s (λ p. P p.items)
unfolding Trigger YieldsRun
whole_run steps s t u xs P calls end holds = (
  record {
    from = s;
    items = xs;
    whole = true;
    len = length xs;
    at = slice_get xs;
    seen = tt;
    long = refl;
    reads = λ k d l. ap (option_map (λ y. y)) (slice_get-get_or xs k d l);
    gave = ((t, calls, λ _. (u, end)), λ k. refl);
  },
  refl,
  refl,
  holds,
)
