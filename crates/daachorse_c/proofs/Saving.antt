-- A stream that saves a stepper has reported what this reported.
use Rattle.std.proofs.Common.{◌≡◌, ℕ, ◌≤◌, Bool, true, false, List, [], take, length, sym, ap, ◌∙◌, subst}
use Rattle.std.proofs.lemmas.List.{take_at}
use Rattle.daachorse_model.specs.declared.Match.{Match}
use Rattle.daachorse_model.specs.declared.MatchKind.{MatchKind}
use Rattle.daachorse_model.specs.Dictionary.{Dictionary}
use Rattle.daachorse_search.specs.Views.{AutomatonView}
use Rattle.daachorse_c.specs.declared.search.StreamKind.{StreamKind}
use Rattle.daachorse_c.specs.declared.stepper.Stepper.{Stepper}
use Rattle.daachorse_c.specs.declared.stepper.Stepper.TheVariants.{Find as Finding, Overlapping as FindingAll, Leftmost as FindingLeftmost}
use Rattle.daachorse_c.specs.declared.stream.Stream.{Stream}
use Rattle.daachorse_c.specs.declared.unit.Unit.{Unit}
use Rattle.daachorse_c.specs.Searches.{ServesKind, search_of}
use Rattle.daachorse_c.specs.Streams.{AreAllCertain, AreMarksFor, BeginEachFound, GoesOnOver, HasReported, HasReportedBy, IsOver, IsQuiet, IsUnended, KnowsEnd, StandsIn, dictionary_in, folds_in, found_in, kind_by, kind_in, read_by, read_in, reported_in}
use Rattle.daachorse_c.specs.Units.{IsOpenIn}
use Rattle.daachorse_c.proofs.Steppers.{moved, reported-certain, reported-first, reported-stays, reported-whole}

-- a stepper over p searches by its dictionary
pub dictionary_over : {P T U V W : Type 0} (width : ℕ → ℕ) (sees : P → AutomatonView ℕ) (p : P) (s : Stepper P P T U V W) → IsOver p p s → dictionary_in width sees sees s ≡ (sees p).content
dictionary_over width sees p (Finding f) over = ap (λ q. (sees q).content) over
dictionary_over width sees p (FindingAll s) over = ap (λ q. (sees q).content) over
dictionary_over width sees p (FindingLeftmost s) over = ap (λ q. (sees q).content) over

-- the stepper s goes through p for this search, has reported these, and is saved in t
pub record Saves {P T U V W : Type 0} (width : ℕ → ℕ) (sees : P → AutomatonView ℕ) (p : P) (folded : Bool) (k : StreamKind) (t : Stream ℕ) (s : Stepper P P T U V W) (given : List (Match ℕ)) : Type 0 where
  pub count : length given ≡ t.reported
  pub over : IsOver p p s
  pub folds : folds_in s ≡ folded
  pub kind : kind_in s ≡ k
  pub end : KnowsEnd t.ended s
  pub reports : HasReported width sees sees s given
  pub stands : (a b : P) → IsOver a b s → StandsIn width sees sees (λ unit. unit) a b t.standing
  pub search : kind_by t.standing ≡ kind_in s
  pub read : read_by t.standing ≡ read_in s
  pub unended : KnowsEnd false s → IsUnended t.standing
  pub reported : (a b : P) (ms : List (Match ℕ)) → IsOver a b s → HasReported width sees sees s ms → HasReportedBy width sees sees a b (folds_in s) t.standing ms

module _ {P T U V W : Type 0} {width : ℕ → ℕ} (wide : (u : ℕ) → 1 ≤ width u) {sees : P → AutomatonView ℕ} {p : P} {folded : Bool} {k : StreamKind} {t : Stream ℕ} {s : Stepper P P T U V W} {given : List (Match ℕ)} (saves : Saves width sees p folded k t s given) where
  abbrev K : Dictionary ℕ
  K = (sees p).content

  has_reported : HasReportedBy width sees sees p p folded t.standing given
  has_reported = subst (λ f. HasReportedBy width sees sees p p f t.standing given) saves.folds (saves.reported p p given saves.over saves.reports)

  is_open : t.ended ≡ false → IsUnended t.standing
  is_open is = saves.unended (subst (λ ended. KnowsEnd ended s) is saves.end)

  abbrev reported : List (Match ℕ)
  reported = reported_in width K t

  pub saved-reported : reported ≡ given
  saved-reported = let first = reported-first width wide sees p folded t.standing given has_reported in ap (take t.reported) first.1 ∙ take_at given first.0 t.reported saves.count

  pub saved-goes_on : (which : Unit) (kind : MatchKind) → ServesKind (search_of k) kind → AreMarksFor width k (sees p) t.marks → IsOpenIn which t.partial → (t.ended ≡ true → t.partial ≡ []) → GoesOnOver which width sees p kind folded t
  saved-goes_on which kind serves marks partial whole =
      let same = sym (saves.search ∙ saves.kind) in
      record {
        serves = subst (λ j. ServesKind (search_of j) kind) same serves;
        marks = subst (λ j. AreMarksFor width j (sees p) t.marks) same marks;
        stands = saves.stands p p saves.over;
        unended = is_open;
        reported = subst (HasReportedBy width sees sees p p folded t.standing) (sym saved-reported) has_reported;
        counted = ap length saved-reported ∙ saves.count;
        partial = partial;
        whole = whole;
      }

  pub saved-certain : t.ended ≡ false → BeginEachFound width (kind_by t.standing) K (read_by t.standing) reported
  saved-certain is = subst (BeginEachFound width (kind_by t.standing) K (read_by t.standing)) (sym saved-reported) (reported-stays width wide sees p folded t.standing given has_reported (is_open is))

  pub saved-so_far : IsQuiet width sees sees s → t.ended ≡ false → AreAllCertain width (kind_by t.standing) K (read_by t.standing) reported
  saved-so_far quiet is =
      subst (AreAllCertain width (kind_by t.standing) K (read_by t.standing)) (sym saved-reported)
      (moved (λ j D r. AreAllCertain width j D r given) (sym saves.search) (dictionary_over width sees p s saves.over) (sym saves.read) (reported-certain width sees sees s given saves.reports quiet (subst (λ ended. KnowsEnd ended s) is saves.end)))

  pub saved-whole : IsQuiet width sees sees s → t.ended ≡ true → reported ≡ found_in width (kind_by t.standing) K (read_by t.standing)
  saved-whole quiet is = saved-reported ∙ moved (λ j D r. given ≡ found_in width j D r) (sym saves.search) (dictionary_over width sees p s saves.over) (sym saves.read) (reported-whole width sees sees s given saves.reports quiet (subst (λ ended. KnowsEnd ended s) is saves.end))
