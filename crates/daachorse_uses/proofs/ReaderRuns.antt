-- A search over a source that may fail: the matches that its calls give, up to the end of the source, are those in what the source gave.
use Rattle.std.proofs.Common.{◌≡◌, ℕ, Bool, List, [], ◌∷◌, ◌++◌, map, Option, Some, None, Result, Ok, Err, refl, sym, ap, ◌∙◌}
use Rattle.std.proofs.Common.{subst, append_assoc}
use Rattle.std.proofs.lemmas.List.{map-append}
use Rattle.std.specs.Prelude.{slice_get}
use Rattle.std.specs.Iterator.{Count, Yields}
use Rattle.std.specs.Option.{option_map}
use Rattle.std.specs.declared.io.Error.{Error}
use Rattle.daachorse_model.specs.declared.Match.{Match}
use Rattle.daachorse_model.specs.Folding.{as_read}
use Rattle.daachorse_model.specs.Matches.{at_each_end}
use Rattle.daachorse_model.specs.Units.{size}
use Rattle.daachorse_haystack.specs.ByteSources.{Yields_append}
use Rattle.daachorse_haystack.specs.Readings.{unit_as_read}
use Rattle.daachorse_haystack.proofs.ReadingLaws.{units-as_read}
use Rattle.daachorse_search.specs.Beginnings.{BeginsFrom}
use Rattle.daachorse_search.specs.Readers.{GivesRead}
use Rattle.daachorse_search.specs.Scans.{past_each_end}
use Rattle.daachorse_search.specs.Searches.{GivesFrom, Gave, Ended, SourceProgress}
use Rattle.daachorse_search.proofs.ScanLaws.{at_each_end-split, past_each_end-append}

no_error : (o : Option Error) → {M : Type 0} → None ≡ option_map {U = Result M Error} Err o → o ≡ None
no_error None is = refl
no_error (Some e) is = cc

pub not_ok : {M : Type 0} (m : M) (o : Option Error) → Some (Ok m) ≡ option_map {U = Result M Error} Err o → ⊥
not_ok m None is = cc
not_ok m (Some e) is = cc

module _ {V A S U : Type 0} (found : A → List ℕ → List (Match V)) (steps : S → Option U → S → Type 0) (unit : U → ℕ)
    (failure : S → Option Error) where
  -- the source gives these units and comes to its end, and these matches are in them
  pub record EndsWith (s : SourceProgress V A S) (ms : List (Match V)) : Type 0 where
    pub took : List U
    pub last : S
    pub ended : S
    pub takes : Yields steps s.source took last
    pub ends : steps last None ended
    pub whole : failure ended ≡ None
    pub matches : ms ≡ s.pending ++ past_each_end (found s.automaton) s.read (map (unit_as_read s.folds unit) took)

module _ {V A S U : Type 0} (found : A → List ℕ → List (Match V)) (steps : S → Option U → S → Type 0) (left : S → Count) (unit : U → ℕ)
    (width : ℕ → ℕ) (failure : S → Option Error) (bounds : A → List ℕ → ℕ → Type 0) where
  abbrev Ends : SourceProgress V A S → List (Match V) → Type 0
  Ends = EndsWith found steps unit failure

  abbrev pub calls : Option (SourceProgress V A S) → Option (Result (Match V) Error) → Option (SourceProgress V A S) → Type 0
  calls = GivesRead found steps left unit width failure bounds

  -- a match more, and then what comes
  pub joined : (s t : SourceProgress V A S) (m : Match V) (ms : List (Match V)) → GivesFrom found steps left unit width s (Some m) t
      → Ends t ms → Ends s (m ∷ ms)
  joined s t m ms call later =
      let xs = call.gives.0 in let gave : Gave found steps left (unit_as_read s.folds unit) width s xs m t = call.gives.1 in
      let f = found s.automaton in let u = unit_as_read s.folds unit in
      let more : List ℕ = map u xs in let rest : List ℕ = map u later.took in
      record {
        took = xs ++ later.took;
        last = later.last;
        ended = later.ended;
        takes = Yields_append steps s.source xs t.source later.took later.last gave.took later.takes;
        ends = later.ends;
        whole = later.whole;
        matches =
            ap (λ l. m ∷ l) later.matches
            ∙ ap (λ (b : Bool). (m ∷ t.pending) ++ past_each_end (found t.automaton) t.read
            (map (unit_as_read b unit) later.took)) call.folds
            ∙ ap (λ l. l ++ past_each_end (found t.automaton) t.read rest) (sym gave.matches)
            ∙ ap (λ (a : A). (s.pending ++ past_each_end f s.read more) ++ past_each_end (found a) t.read rest) gave.same
            ∙ ap (λ r. (s.pending ++ past_each_end f s.read more) ++ past_each_end f r rest) gave.read
            ∙ append_assoc s.pending (past_each_end f s.read more) (past_each_end f (s.read ++ more) rest)
            ∙ ap (λ l. s.pending ++ l) (sym (past_each_end-append f s.read more rest))
            ∙ ap (λ w. s.pending ++ past_each_end f s.read w) (sym (map-append u xs later.took));
      }

  -- no match more, and no error
  pub ended_whole : (s : SourceProgress V A S) (after : Option (SourceProgress V A S)) → calls (Some s) None after → Ends s []
  ended_whole s (Some t) call = absurd call
  ended_whole s None (t, last, few, is, lasting) =
      let xs = last.gives.0 in let end : Ended found steps left (unit_as_read s.folds unit) width s xs t = last.gives.1 in
      record {
        took = xs;
        last = end.took.0;
        ended = t.source;
        takes = end.took.1;
        ends = end.took.2;
        whole = no_error (failure t.source) is;
        matches = sym end.matches;
      }

  -- from the beginning: all matches in what the source gave
  pub all_matches : (a : A) (source : S) (folds : Bool) (s : SourceProgress V A S) (ms : List (Match V))
      → BeginsFrom a source (found a []) folds s → (h : Ends s ms)
      → ms ≡ at_each_end (found a) [] (as_read folds (map unit h.took))
  all_matches a source folds s ms fresh h =
      h.matches
      ∙ ap (λ l. l ++ past_each_end (found s.automaton) s.read (map (unit_as_read s.folds unit) h.took)) fresh.pending
      ∙ ap (λ (x : A). found a [] ++ past_each_end (found x) s.read (map (unit_as_read s.folds unit) h.took)) fresh.automaton
      ∙ ap (λ r. found a [] ++ past_each_end (found a) r (map (unit_as_read s.folds unit) h.took)) fresh.read
      ∙ ap (λ (b : Bool). found a [] ++ past_each_end (found a) [] (map (unit_as_read b unit) h.took)) fresh.folds
      ∙ ap (λ w. found a [] ++ past_each_end (found a) [] w) (units-as_read folds unit h.took)
      ∙ sym (at_each_end-split (found a) [] (as_read folds (map unit h.took)))

  -- the first match from the beginning is that of the units that it took, and however they go on
  pub record FindsFirst (a : A) (source : S) (folds : Bool) (m : Match V) : Type 0 where
    pub took : List U
    pub last : S
    pub takes : Yields steps source took last
    pub ends : m.end ≡ size width (as_read folds (map unit took))
    pub first : (more : List ℕ) → slice_get (at_each_end (found a) [] (as_read folds (map unit took) ++ more)) 0 ≡ Some m

  pub finds_first : (a : A) (source : S) (folds : Bool) (s : SourceProgress V A S) (m : Match V) (after : Option (SourceProgress V A S))
      → BeginsFrom a source (found a []) folds s → calls (Some s) (Some (Ok m)) after → FindsFirst a source folds m
  finds_first a source folds s m None fresh call = absurd (not_ok m (failure call.0.source) call.3)
  finds_first a source folds s m (Some t) fresh call =
      let xs = call.gives.0 in let gave : Gave found steps left (unit_as_read s.folds unit) width s xs m t = call.gives.1 in
      let read : map (unit_as_read s.folds unit) xs ≡ as_read folds (map unit xs) =
      ap (λ (b : Bool). map (unit_as_read b unit) xs) fresh.folds ∙ units-as_read folds unit xs in
      let text = as_read folds (map unit xs) in
      let found-here : found a [] ++ past_each_end (found a) [] text ≡ m ∷ t.pending =
      sym (ap (λ l. l ++ past_each_end (found s.automaton) s.read (map (unit_as_read s.folds unit) xs)) fresh.pending
      ∙ ap (λ (x : A). found a [] ++ past_each_end (found x) s.read (map (unit_as_read s.folds unit) xs)) fresh.automaton
      ∙ ap (λ r. found a [] ++ past_each_end (found a) r (map (unit_as_read s.folds unit) xs)) fresh.read
      ∙ ap (λ w. found a [] ++ past_each_end (found a) [] w) read)
      ∙ gave.matches in
      record {
        took = xs;
        last = t.source;
        takes = subst (λ (x : S). Yields steps x xs t.source) fresh.source gave.took;
        ends = gave.ends ∙ ap (size width) (gave.read ∙ ap (λ r. r ++ map (unit_as_read s.folds unit) xs) fresh.read ∙ read);
        first = λ more.
            ap (λ l. slice_get l 0)
            (at_each_end-split (found a) [] (text ++ more)
            ∙ ap (λ l. found a [] ++ l) (past_each_end-append (found a) [] text more)
            ∙ sym (append_assoc (found a []) (past_each_end (found a) [] text) (past_each_end (found a) text more))
            ∙ ap (λ l. l ++ past_each_end (found a) text more) found-here);
      }
