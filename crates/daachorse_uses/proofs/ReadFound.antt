-- What a search over the bytes of a reader finds, from its beginning: the first match, or all of them.
use Rattle.std.proofs.Common.{◌≡◌, ℕ, ◌+◌, ◌-◌, ◌^◌, min, Bool, List, [], ◌∷◌, ◌++◌, map, length, Option, Some, None, Result, Ok, Err}
use Rattle.std.proofs.Common.{refl, sym, ap, ◌∙◌, subst, append-nil, append_assoc, length-append, arith}
use Rattle.std.proofs.lemmas.List.{map-id}
use Rattle.std.specs.Prelude.{IfErr, IfOk, IfSome, slice_get}
use Rattle.std.specs.Iterator.{at_most}
use Rattle.std.specs.Option.{option_map, option_transpose}
use Rattle.std.specs.declared.io.Error.{Error}
use Rattle.daachorse_model.specs.declared.Match.{Match}
use Rattle.daachorse_model.specs.Folding.{as_read}
use Rattle.daachorse_model.specs.Matches.{at_each_end}
use Rattle.daachorse_model.specs.Units.{byte_width, size}
use Rattle.daachorse_model.proofs.FoldLaws.{as_read-append, size-as_read}
use Rattle.daachorse_search.specs.Beginnings.{BeginsFrom, BeginsReading}
use Rattle.daachorse_search.specs.Readers.{GivesByte, GivesRead, IsLasting, Reading, to_read}
use Rattle.daachorse_search.specs.Searches.{SourceProgress}
use Rattle.daachorse_uses.specs.Found.{IsCountRead, IsFirstRead}
use Rattle.daachorse_uses.proofs.ReaderRuns.{EndsWith, all_matches, ended_whole, finds_first, joined, not_ok}
use Rattle.daachorse_uses.proofs.Taken.{all_read, some_read}

lasting_error : (o : Option Error) (e : Error) {M : Type 0} → Some (Err e) ≡ option_map {U = Result M Error} Err o → IfSome o IsLasting
    → IsLasting e
lasting_error None e is lasts = cc
lasting_error (Some x) e is lasts = let same : x ≡ e = cc in subst IsLasting same lasts

module _ {V A R : Type 0} (known : R → Option (List ℕ)) (found : A → List ℕ → List (Match V)) (bounds : A → List ℕ → ℕ → Type 0) where
  -- what a call gives
  abbrev CallGives : Option (SourceProgress V A (Reading R)) → Option (Result (Match V) Error) → Option (SourceProgress V A (Reading R))
      → Type 0
  CallGives = GivesRead found (GivesByte known) (λ s. at_most s.left) (λ b. b) byte_width (λ s. s.failure) bounds

module _ {V A R : Type 0} (known : R → Option (List ℕ)) (found : A → List ℕ → List (Match V)) (a : A) (reader : R) (folds : Bool) where
  abbrev Ends : SourceProgress V A (Reading R) → List (Match V) → Type 0
  Ends = EndsWith found (GivesByte known) (λ b. b) (λ s. s.failure)

  -- a search from the beginning, whose calls gave so many matches
  pub record Counts (search : Option (SourceProgress V A (Reading R))) (count : ℕ) : Type 0 where
    pub first : SourceProgress V A (Reading R)
    pub begins : BeginsFrom a (to_read reader) (found a []) folds first
    pub at : SourceProgress V A (Reading R)
    pub is : search ≡ Some at
    pub done : List (Match V)
    pub counted : count ≡ min (length done) (2 ^ 64 - 1)
    pub goes_on : (ms : List (Match V)) → Ends at ms → Ends first (done ++ ms)

  pub none_counted : (search : Option (SourceProgress V A (Reading R))) → BeginsReading a reader (found a []) folds search → Counts search 0
  none_counted None fresh = absurd fresh
  none_counted (Some s) fresh =
      record { first = s; begins = fresh; at = s; is = refl; done = []; counted = omega arith; goes_on = λ ms h. h }

  -- one match more
  pub one_counted : (bounds : A → List ℕ → ℕ → Type 0) (search after : Option (SourceProgress V A (Reading R)))
      (r : Result (Match V) Error) (m : Match V) (count more : ℕ) → Counts search count
      → CallGives known found bounds search (Some r) after
      → r ≡ Ok m → more ≡ min (count + 1) (2 ^ 64 - 1) → Counts after more
  one_counted bounds search after r m count more so_far call given is =
      by after
      (subst (λ (x : Option (SourceProgress V A (Reading R))). CallGives known found bounds x (Some (Ok m)) after) so_far.is
      (subst (λ (x : Result (Match V) Error). CallGives known found bounds search (Some x) after) given call))
    where
      by : (o : Option (SourceProgress V A (Reading R))) → CallGives known found bounds (Some so_far.at) (Some (Ok m)) o → Counts o more
      by None gave = absurd (not_ok m gave.0.source.failure gave.3)
      by (Some t) gave = record {
        first = so_far.first;
        begins = so_far.begins;
        at = t;
        is = refl;
        done = so_far.done ++ m ∷ [];
        counted = omega (arith, is, so_far.counted, length-append so_far.done (m ∷ []));
        goes_on = λ ms h.
            subst (λ (l : List (Match V)). Ends so_far.first l) (sym (append_assoc so_far.done (m ∷ []) ms))
            (so_far.goes_on (m ∷ ms)
            (joined found (GivesByte known) (λ s. at_most s.left) (λ b. b) byte_width (λ s. s.failure) bounds so_far.at t m ms gave h));
      }

module _ {V A R : Type 0} (known : R → Option (List ℕ)) (found : A → List ℕ → List (Match V)) (bounds : A → List ℕ → ℕ → Type 0)
    (a : A) (reader : R) (folds : Bool) (matches : List ℕ → List (Match V))
    (each : (text : List ℕ) → at_each_end (found a) [] (as_read folds text) ≡ matches text) where
  abbrev calls : Option (SourceProgress V A (Reading R)) → Option (Result (Match V) Error) → Option (SourceProgress V A (Reading R))
      → Type 0
  calls = CallGives known found bounds

  -- the first call
  pub first_read : (search after : Option (SourceProgress V A (Reading R))) (o : Option (Result (Match V) Error))
      → BeginsReading a reader (found a []) folds search → calls search o after
      → IfOk (option_transpose o) (IsFirstRead (known reader) matches) × IfErr (option_transpose o) IsLasting
  first_read None after o fresh call = absurd fresh
  first_read (Some s) after None fresh call =
      let h = ended_whole found (GivesByte known) (λ s. at_most s.left) (λ b. b) byte_width (λ s. s.failure) bounds s after call in
      let none =
      all_matches found (GivesByte known) (λ s. at_most s.left) (λ b. b) byte_width (λ s. s.failure) bounds a
      (to_read reader) folds s [] fresh h in (
        (
          h.took,
          all_read known reader (known reader) s.source fresh.source refl h.took h.last h.takes h.ended h.ends h.whole,
          sym (none ∙ ap (λ w. at_each_end (found a) [] (as_read folds w)) (map-id h.took) ∙ each h.took),
        ),
        tt,
      )
  first_read (Some s) after (Some (Ok m)) fresh call =
      let h =
      finds_first found (GivesByte known) (λ s. at_most s.left) (λ b. b) byte_width (λ s. s.failure) bounds a
      (to_read reader) folds s m after fresh call in (
        (
          h.took,
          some_read known reader (known reader) (to_read reader) refl refl h.took h.last h.takes,
          (
            h.ends ∙ size-as_read byte_width (λ u. refl) folds (map (λ b. b) h.took) ∙ ap (size byte_width) (map-id h.took),
            λ more.
                ap (λ l. slice_get l 0) (sym (each (h.took ++ more)))
                ∙ ap (λ w. slice_get (at_each_end (found a) [] w) 0) (as_read-append folds h.took more)
                ∙ ap (λ w. slice_get (at_each_end (found a) [] (as_read folds w ++ as_read folds more)) 0) (sym (map-id h.took))
                ∙ h.first (as_read folds more),
          ),
        ),
        tt,
      )
  first_read (Some s) (Some t) (Some (Err e)) fresh call = absurd call
  first_read (Some s) None (Some (Err e)) fresh (t, gave, bounded, is, lasts) = (tt, lasting_error t.source.failure e is lasts)

  -- an error of any call
  pub error_lasts : (search after : Option (SourceProgress V A (Reading R))) (r : Result (Match V) Error) (e : Error)
      → calls search (Some r) after → r ≡ Err e → IsLasting e
  error_lasts search after r e call given = by search after (subst (λ (x : Result (Match V) Error). calls search (Some x) after) given call)
    where
      by : (s t : Option (SourceProgress V A (Reading R))) → calls s (Some (Err e)) t → IsLasting e
      by None None gave = absurd gave
      by None (Some t) gave = absurd gave
      by (Some s) (Some t) gave = absurd gave
      by (Some s) None (t, gave, bounded, is, lasts) = lasting_error t.source.failure e is lasts

  -- after the calls that were counted
  pub all_counted : (search after : Option (SourceProgress V A (Reading R))) (count : ℕ)
      → Counts known found a reader folds search count → calls search None after → IsCountRead (known reader) matches count
  all_counted search after count so_far call =
      let h =
      so_far.goes_on []
      (ended_whole found (GivesByte known) (λ s. at_most s.left) (λ b. b) byte_width (λ s. s.failure) bounds so_far.at after
      (subst (λ (x : Option (SourceProgress V A (Reading R))). calls x None after) so_far.is call)) in
      let all =
      all_matches found (GivesByte known) (λ s. at_most s.left) (λ b. b) byte_width (λ s. s.failure) bounds a
      (to_read reader) folds so_far.first (so_far.done ++ []) so_far.begins h in (
        h.took,
        all_read known reader (known reader) so_far.first.source so_far.begins.source refl h.took h.last h.takes h.ended h.ends h.whole,
        so_far.counted
            ∙ ap (λ (l : List (Match V)). min (length l) (2 ^ 64 - 1))
            (sym (append-nil so_far.done) ∙ all ∙ ap (λ w. at_each_end (found a) [] (as_read folds w)) (map-id h.took) ∙ each h.took),
      )
