-- A whole run of a search over a source: what its calls gave, joined, are the matches in all that the source gave.
use Rattle.std.proofs.Common.{◌≡◌, ℕ, Bool, List, [], ◌∷◌, ◌++◌, map, Option, Some, None, sym, ap, ◌∙◌, subst, append_assoc}
use Rattle.std.proofs.lemmas.List.{map-append}
use Rattle.std.proofs.lemmas.Iterator.{IsCollectResult}
use Rattle.std.specs.Prelude.{Result, Ok, Err, IfOk, Vec}
use Rattle.std.specs.Vec.{vec_items}
use Rattle.std.specs.Iterator.{Count, Yields, Drains}
use Rattle.daachorse_model.specs.declared.Match.{Match}
use Rattle.daachorse_model.specs.Folding.{as_read}
use Rattle.daachorse_model.specs.Matches.{at_each_end}
use Rattle.daachorse_search.specs.Beginnings.{BeginsFrom}
use Rattle.daachorse_haystack.specs.Readings.{unit_as_read}
use Rattle.daachorse_search.specs.Scans.{past_each_end}
use Rattle.daachorse_search.specs.Searches.{SourceProgress, Gave, Ended, GivesFrom, GivesNext}
use Rattle.daachorse_haystack.specs.ByteSources.{Yields_append}
use Rattle.daachorse_haystack.proofs.ReadingLaws.{units-as_read}
use Rattle.daachorse_search.proofs.ScanLaws.{at_each_end-split, past_each_end-append}

module _ {V A S U : Type 0} (found : A → List ℕ → List (Match V)) (steps : S → Option U → S → Type 0) (left : S → Count) (unit : U → ℕ) (width : ℕ → ℕ) where
  -- what a run from s gives, where its source then gives xs and ends
  record Gives (s : SourceProgress V A S) (ms : List (Match V)) : Type 0 where
    pub took : List U
    pub drained : Drains steps s.source took
    pub matches : ms ≡ s.pending ++ past_each_end (found s.automaton) s.read (map unit took)

  last_call : (s t : SourceProgress V A S) (xs : List U) → Ended found steps left unit width s xs t → Gives s []
  last_call s t xs h = record { took = xs; drained = (t.source, h.took); matches = sym h.matches }

  first_call : (s t : SourceProgress V A S) (xs : List U) (m : Match V) (ms : List (Match V)) → Gave found steps left unit width s xs m t → Gives t ms → Gives s (m ∷ ms)
  first_call s t xs m ms h later =
      let f = found s.automaton in let more : List ℕ = map unit xs in let rest : List ℕ = map unit later.took in
      record {
        took = xs ++ later.took;
        drained = (later.drained.0, (later.drained.1.0, Yields_append steps s.source xs t.source later.took later.drained.1.0 h.took later.drained.1.1, later.drained.1.2));
        matches =
            ap (λ l. m ∷ l) later.matches
            ∙ ap (λ l. l ++ past_each_end (found t.automaton) t.read rest) (sym h.matches)
            ∙ ap (λ (a : A). (s.pending ++ past_each_end f s.read more) ++ past_each_end (found a) t.read rest) h.same
            ∙ ap (λ r. (s.pending ++ past_each_end f s.read more) ++ past_each_end f r rest) h.read
            ∙ append_assoc s.pending (past_each_end f s.read more) (past_each_end f (s.read ++ more) rest)
            ∙ ap (λ l. s.pending ++ l) (sym (past_each_end-append f s.read more rest))
            ∙ ap (λ w. s.pending ++ past_each_end f s.read w) (sym (map-append unit xs later.took));
      }

  whole_run : (ms : List (Match V)) (s t u : SourceProgress V A S) → Yields (GivesNext found steps left unit width) s ms t → GivesNext found steps left unit width t None u → Gives s ms
  whole_run [] s t u run ends = let Q : SourceProgress V A S → Type 0 = λ x. Gives x [] in subst Q (sym run) (last_call t u ends.0 ends.1)
  whole_run (m ∷ ms) s t u run ends = first_call s run.0 run.1.0 m ms run.1.1 (whole_run ms run.0 t u run.2 ends)

  -- All calls of a search from the beginning give all matches in what its source gives.
  pub Drains-GivesNext : (s : SourceProgress V A S) (ms : List (Match V)) → Drains (GivesNext found steps left unit width) s ms → s.read ≡ [] → s.pending ≡ found s.automaton []
      → (xs : List U) × Drains steps s.source xs × (ms ≡ at_each_end (found s.automaton) [] (map unit xs))
  Drains-GivesNext s ms run fresh pending =
      let all = whole_run ms s run.1.0 run.0 run.1.1 run.1.2 in let f = found s.automaton in (
        all.took,
        all.drained,
        all.matches ∙ ap (λ l. l ++ past_each_end f s.read (map unit all.took)) pending ∙ ap (λ r. f [] ++ past_each_end f r (map unit all.took)) fresh ∙ sym (at_each_end-split f [] (map unit all.took)),
      )

  -- what `collect` made of it
  pub collect-GivesNext : {Z E : Type 0} (s : SourceProgress V A S) (a : A) (p : S) (r : Result (Vec (Match V) Z) E) → s.automaton ≡ a → s.source ≡ p → s.read ≡ [] → s.pending ≡ found a []
      → IsCollectResult (GivesNext found steps left unit width) s r → IfOk r (λ v. (xs : List U) × Drains steps p xs × (vec_items v ≡ at_each_end (found a) [] (map unit xs)))
  collect-GivesNext s a p (Err e) is_a is_p fresh pending d = tt
  collect-GivesNext s a p (Ok v) is_a is_p fresh pending d =
      let run = d.1 in let ended = run.2 tt in
      let whole = Drains-GivesNext s d.0 (ended.0, (run.0, run.1, ended.1)) fresh (pending ∙ ap (λ (x : A). found x []) (sym is_a)) in
      let D : S → Type 0 = λ x. Drains steps x whole.0 in
      (whole.0, subst D is_p whole.1, d.2.0 ∙ whole.2 ∙ ap (λ (x : A). at_each_end (found x) [] (map unit whole.0)) is_a)

module _ {V A S U : Type 0} (found : A → List ℕ → List (Match V)) (steps : S → Option U → S → Type 0) (left : S → Count) (unit : U → ℕ) (width : ℕ → ℕ) where
  -- a call reads its units as the first did
  gives_as_before : (folds : Bool) (s : SourceProgress V A S) (r : Option (Match V)) (t : SourceProgress V A S) → s.folds ≡ folds → GivesFrom found steps left unit width s r t
      → GivesNext found steps left (unit_as_read folds unit) width s r t
  gives_as_before folds s r t is gave =
      let P : Bool → Type 0 = λ b. GivesNext found steps left (unit_as_read b unit) width s r t in
      subst P is gave.gives

  yields_as_before : (folds : Bool) (s : SourceProgress V A S) (ms : List (Match V)) (t : SourceProgress V A S) → s.folds ≡ folds → Yields (GivesFrom found steps left unit width) s ms t
      → Yields (GivesNext found steps left (unit_as_read folds unit) width) s ms t × (t.folds ≡ folds)
  yields_as_before folds s [] t is run = (run, ap (λ (p : SourceProgress V A S). p.folds) (sym run) ∙ is)
  yields_as_before folds s (m ∷ ms) t is run =
      let later = yields_as_before folds run.0 ms t (run.1.folds ∙ is) run.2 in
      ((run.0, gives_as_before folds s (Some m) run.0 is run.1, later.0), later.1)

  collect_as_before : {Z E : Type 0} (folds : Bool) (s : SourceProgress V A S) (r : Result (Vec (Match V) Z) E) → s.folds ≡ folds → IsCollectResult (GivesFrom found steps left unit width) s r
      → IsCollectResult (GivesNext found steps left (unit_as_read folds unit) width) s r
  collect_as_before folds s (Err e) is d = d
  collect_as_before folds s (Ok v) is d =
      let run = d.1 in let ended = run.2 tt in let on = yields_as_before folds s d.0 run.0 is run.1 in
      (d.0, (run.0, on.0, λ _. (ended.0, gives_as_before folds run.0 None ended.0 on.1 ended.1)), d.2)

  -- what `collect` makes of a search from its beginning: all matches in what its source gives, as it is read
  pub collect-GivesFrom : {Z E : Type 0} (a : A) (p : S) (folds : Bool) (s : SourceProgress V A S) (r : Result (Vec (Match V) Z) E) → BeginsFrom a p (found a []) folds s
      → IsCollectResult (GivesFrom found steps left unit width) s r → IfOk r (λ v. (xs : List U) × Drains steps p xs × (vec_items v ≡ at_each_end (found a) [] (as_read folds (map unit xs))))
  collect-GivesFrom a p folds s (Err e) fresh d = tt
  collect-GivesFrom {E = E} a p folds s (Ok v) fresh d =
      let all = collect-GivesNext found steps left (unit_as_read folds unit) width {E = E} s a p (Ok v) fresh.automaton fresh.source fresh.read fresh.pending (collect_as_before {E = E} folds s (Ok v) fresh.folds d) in
      (all.0, all.1, all.2 ∙ ap (at_each_end (found a) []) (units-as_read folds unit all.0))
