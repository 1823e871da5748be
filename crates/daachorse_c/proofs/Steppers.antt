-- What a stepper reported, as it begins, is saved and resumed, consumes and reports.
use Rattle.std.proofs.Common.{◌≡◌, ℕ, ◌≤◌, Bool, true, false, List, [], ◌∷◌, ◌++◌, cond, take, drop, refl, sym, ap, ◌∙◌, subst, append_assoc, append-nil}
use Rattle.daachorse_model.specs.declared.Match.{Match}
use Rattle.daachorse_model.specs.Dictionary.{Dictionary}
use Rattle.daachorse_model.specs.Folding.{as_read}
use Rattle.daachorse_model.specs.Certain.{AreCertain}
use Rattle.daachorse_search.specs.Views.{AutomatonView}
use Rattle.daachorse_streams.specs.Streamed.{LeftmostStreamed}
use Rattle.daachorse_c.specs.declared.found.CMatch.{CMatch}
use Rattle.daachorse_c.specs.declared.search.StreamKind.{StreamKind}
use Rattle.daachorse_c.specs.declared.search.StreamKind.TheVariants.{Find, Leftmost}
use Rattle.daachorse_c.specs.declared.stepper.Finder.{Finder}
use Rattle.daachorse_c.specs.declared.stepper.Standing.{Standing}
use Rattle.daachorse_c.specs.declared.stepper.Standing.TheVariants.{Find as AtFind, Overlapping as AtOverlapping, Leftmost as AtLeftmost}
use Rattle.daachorse_c.specs.declared.stepper.Stepper.{Stepper}
use Rattle.daachorse_c.specs.declared.stepper.Stepper.TheVariants.{Find as Finding, Overlapping as FindingAll, Leftmost as FindingLeftmost}
use Rattle.daachorse_c.specs.Streams.{AreAllCertain, BeginEachFound, HasGiven, HasReported, HasReportedAll, HasReportedBy, HasReportedOne, IsQuiet, IsUnended, KnowsEnd, ReportsMore, all_or_longest, dictionary_in, found_in, kind_by, kind_in, left_to, read_by, read_in}
use Rattle.daachorse_c.specs.OverlappingStreams.{Reporting}
use Rattle.daachorse_c.specs.Writes.{Writes, WritesAll}
use Rattle.daachorse_c.proofs.Reporting.{all-stays, all-unit, all_found, find-stays, find-unit, last_found, reported_more, written_some}

-- what holds of a search, a dictionary and what was read holds of equal ones
pub moved : (Q : StreamKind → Dictionary ℕ → List ℕ → Type 0) {k l : StreamKind} {K D : Dictionary ℕ} {r s : List ℕ} → k ≡ l → K ≡ D → r ≡ s → Q k K r → Q l D s
moved Q {k} {l} {K} {D} {r} {s} same there read has = subst (λ t. Q l D t) read (subst (λ d. Q l d r) there (subst (λ j. Q j K r) same has))

-- what was reported of what was left
reports-left : {found : List (Match ℕ)} (reported left rest : List (Match ℕ)) {old new : List CMatch} {n : ℕ} → found ≡ reported ++ left → Writes left old new n → rest ≡ drop n left
    → (more : List (Match ℕ)) × ((found ≡ (reported ++ more) ++ rest) × WritesAll more old new n)
reports-left reported left rest {n = n} has w is = (take n left, (reported_more reported left n has ∙ ap (λ l. (reported ++ take n left) ++ l) (sym is), written_some w))

-- where nothing is left, all was reported
no_left : {found : List (Match ℕ)} (reported left : List (Match ℕ)) → found ≡ reported ++ left → left ≡ [] → reported ≡ found
no_left reported left has none = sym (has ∙ ap (λ l. reported ++ l) none ∙ append-nil reported)

module _ (width : ℕ → ℕ) (K : Dictionary ℕ) where
  pub all_certain : (longest_only : Bool) (text : List ℕ) (reported : List (Match ℕ)) → reported ≡ found_in width (all_or_longest longest_only) K text → AreAllCertain width (all_or_longest longest_only) K text reported
  all_certain true text reported is = is
  all_certain false text reported is = is

-- ---- standard searches

module _ {S T U : Type 0} (width : ℕ → ℕ) (wide : (u : ℕ) → 1 ≤ width u) (standard : S → AutomatonView ℕ) where
  -- what was reported with one unit more, where nothing was left
  pub find-consumed : (f g : Finder S T U) (folds : Bool) (u : ℕ) → g.stepper.automaton ≡ f.stepper.automaton → g.stepper.read ≡ f.stepper.read ++ as_read folds (u ∷ []) → g.reported ≡ false
      → left_to width standard f ≡ [] → (reported : List (Match ℕ)) → HasReportedOne width standard f reported → HasReportedOne width standard g reported
  find-consumed f g folds u there read none quiet reported has =
      let K = (standard g.stepper.automaton).content in let h = f.stepper.read in let t = g.stepper.read in
      find-unit width wide K folds h t u read
      ∙ ap (λ l. l ++ last_found width K t) (ap (λ p. found_in width Find (standard p).content h) there ∙ has ∙ ap (λ l. reported ++ l) quiet ∙ append-nil reported)
      ∙ ap (λ b. reported ++ cond b [] (last_found width K t)) (sym none)

  -- what was reported is reported still, where the search is resumed
  pub find-resumed : (f : Finder S T U) {p : S} {text : List ℕ} {last : Bool} → f.stepper.automaton ≡ p → f.stepper.read ≡ text → f.reported ≡ last → (reported : List (Match ℕ))
      → found_in width Find (standard p).content text ≡ reported ++ cond last [] (last_found width (standard p).content text) → HasReportedOne width standard f reported
  find-resumed f {p} {text} {last} there read is reported has =
      subst (λ b. found_in width Find (standard f.stepper.automaton).content f.stepper.read ≡ reported ++ cond b [] (last_found width (standard f.stepper.automaton).content f.stepper.read)) (sym is)
      (moved (λ k K t. found_in width k K t ≡ reported ++ cond last [] (last_found width K t)) {k = Find} refl (ap (λ q. (standard q).content) (sym there)) (sym read) has)

  pub find-reports : (f g : Finder S T U) {old new : List CMatch} {n : ℕ} → g.stepper ≡ f.stepper → Writes (left_to width standard f) old new n → left_to width standard g ≡ drop n (left_to width standard f) → (reported : List (Match ℕ))
      → HasReportedOne width standard f reported → ReportsMore (HasReportedOne width standard g) reported old new n
  find-reports f g same w left reported has =
      let some = reports-left reported (left_to width standard f) (left_to width standard g) (ap (λ p. found_in width Find (standard p.automaton).content p.read) same ∙ has) w left in
      record { more = some.0; reported = some.1.0; writes = some.1.1 }

module _ {S : Type 0} (width : ℕ → ℕ) (wide : (u : ℕ) → 1 ≤ width u) (standard : S → AutomatonView ℕ) where
  pub all-reports : (s t : Reporting S) {old new : List CMatch} {n : ℕ} → t.automaton ≡ s.automaton → t.longest_only ≡ s.longest_only → t.read ≡ s.read → Writes s.left old new n → t.left ≡ drop n s.left → (reported : List (Match ℕ))
      → HasReportedAll width standard s reported → ReportsMore (HasReportedAll width standard t) reported old new n
  all-reports s t there mode read w left reported has =
      let some = reports-left reported s.left t.left
      (ap (λ o. found_in width (all_or_longest o) (standard t.automaton).content t.read) mode ∙ ap (λ p. found_in width (all_or_longest s.longest_only) (standard p).content t.read) there
      ∙ ap (found_in width (all_or_longest s.longest_only) (standard s.automaton).content) read ∙ has) w left in
      record { more = some.0; reported = some.1.0; writes = some.1.1 }

  module _ (s : Reporting S) where
    pub all-consumed : (t : Reporting S) (folds : Bool) (u : ℕ) → t.automaton ≡ s.automaton → t.longest_only ≡ s.longest_only → t.read ≡ s.read ++ as_read folds (u ∷ []) → t.left ≡ all_found width (standard s.automaton).content s.longest_only t.read
        → s.left ≡ [] → (reported : List (Match ℕ)) → HasReportedAll width standard s reported → HasReportedAll width standard t reported
    all-consumed t folds u there mode read left quiet reported has =
        let K = (standard s.automaton).content in let b = s.longest_only in
        ap (λ o. found_in width (all_or_longest o) (standard t.automaton).content t.read) mode
        ∙ ap (λ p. found_in width (all_or_longest b) (standard p).content t.read) there
        ∙ all-unit width wide K b folds s.read t.read u read
        ∙ ap (λ l. l ++ all_found width K b t.read) (has ∙ ap (λ l. reported ++ l) quiet ∙ append-nil reported)
        ∙ ap (λ l. reported ++ l) (sym left)

-- ---- leftmost searches

module _ {L : Type 0} (width : ℕ → ℕ) (leftmost : L → AutomatonView ℕ) where
  module _ (s t : LeftmostStreamed ℕ L) (there : t.automaton ≡ s.automaton) (reported : List (Match ℕ)) (has : HasGiven width leftmost s reported) where
    abbrev D : Dictionary ℕ
    D = (leftmost s.automaton).content

    begins : (r : List ℕ) → BeginEachFound width Leftmost D r reported → (rest : List (Match ℕ)) × (found_in width Leftmost D r ≡ reported ++ rest)
    begins r each = let found = each [] in (found.0, ap (found_in width Leftmost D) (sym (append-nil r)) ∙ found.1)

    -- with more units
    pub leftmost-consumed : (more : List ℕ) → t.read ≡ s.read ++ more → t.given ≡ s.given → s.ended ≡ false → HasGiven width leftmost t reported
    leftmost-consumed unit read given unended =
        let each : BeginEachFound width Leftmost D t.read reported = λ more. let found = has.certain unended (unit ++ more) in
        (found.0, ap (λ r. found_in width Leftmost D (r ++ more)) read ∙ ap (found_in width Leftmost D) (append_assoc s.read unit more) ∙ found.1) in
        let P : Dictionary ℕ → Type 0 = λ d. (BeginEachFound width Leftmost d t.read reported) × ((rest : List (Match ℕ)) × (found_in width Leftmost d t.read ≡ reported ++ rest)) in
        let moved_on = subst P (ap (λ b. (leftmost b).content) (sym there)) (each, begins t.read each) in
        record { given = given ∙ has.given; certain = λ _. moved_on.0; first = moved_on.1 }

    -- where the haystack has ended, or nothing has changed
    pub leftmost-kept : t.read ≡ s.read → t.given ≡ s.given → (t.ended ≡ false → s.ended ≡ false) → HasGiven width leftmost t reported
    leftmost-kept read given unended =
        let e : (leftmost t.automaton).content ≡ D = ap (λ b. (leftmost b).content) there in
        record {
          given = given ∙ has.given;
          certain = λ e_open. λ more. let found = has.certain (unended e_open) more in
              (found.0, ap (λ d. found_in width Leftmost d (t.read ++ more)) e ∙ ap (λ r. found_in width Leftmost D (r ++ more)) read ∙ found.1);
          first = (has.first.0, ap (λ d. found_in width Leftmost d t.read) e ∙ ap (found_in width Leftmost D) read ∙ has.first.1);
        }

  -- one match more was given
  pub leftmost-given : (s t : LeftmostStreamed ℕ L) (reported more : List (Match ℕ)) (m : Match ℕ) → HasGiven width leftmost s (reported ++ more) → t.given ≡ s.given ++ m ∷ []
      → (t.ended ≡ false → BeginEachFound width Leftmost (leftmost t.automaton).content t.read t.given) → ((rest : List (Match ℕ)) × (found_in width Leftmost (leftmost t.automaton).content t.read ≡ t.given ++ rest))
      → HasGiven width leftmost t (reported ++ (more ++ m ∷ []))
  leftmost-given s t reported more m has given certain first =
      let K = (leftmost t.automaton).content in let is = given ∙ ap (λ l. l ++ m ∷ []) has.given ∙ append_assoc reported more (m ∷ []) in
      record { given = is; certain = λ unended. subst (BeginEachFound width Leftmost K t.read) is (certain unended); first = (first.0, first.1 ∙ ap (λ l. l ++ first.0) is) }

-- ---- all searches

module _ {S L T U V W : Type 0} (width : ℕ → ℕ) (standard : S → AutomatonView ℕ) (leftmost : L → AutomatonView ℕ) where
  pub reported-certain : (s : Stepper S L T U V W) (reported : List (Match ℕ)) → HasReported width standard leftmost s reported → IsQuiet width standard leftmost s → KnowsEnd false s → AreAllCertain width (kind_in s) (dictionary_in width standard leftmost s) (read_in s) reported
  reported-certain (Finding f) reported has quiet unended = no_left reported _ has quiet
  reported-certain (FindingAll s) reported has quiet unended = all_certain width (standard s.automaton).content s.longest_only s.read reported (no_left reported _ has quiet)
  reported-certain (FindingLeftmost s) reported has quiet unended = subst (AreCertain width (leftmost s.automaton).content s.read) has.given (quiet.certain unended)

  pub reported-whole : (s : Stepper S L T U V W) (reported : List (Match ℕ)) → HasReported width standard leftmost s reported → IsQuiet width standard leftmost s → KnowsEnd true s → reported ≡ found_in width (kind_in s) (dictionary_in width standard leftmost s) (read_in s)
  reported-whole (Finding f) reported has quiet ended = no_left reported _ has quiet
  reported-whole (FindingAll s) reported has quiet ended = no_left reported _ has quiet
  reported-whole (FindingLeftmost s) reported has quiet ended = sym has.given ∙ quiet.all ended

-- ---- where a stepper over p stands

module _ {P N : Type 0} (width : ℕ → ℕ) (wide : (u : ℕ) → 1 ≤ width u) (sees : P → AutomatonView ℕ) (p : P) (folds : Bool) where
  -- what is reported first of what is found
  pub reported-first : (s : Standing N) (reported : List (Match ℕ)) → HasReportedBy width sees sees p p folds s reported → (rest : List (Match ℕ)) × (found_in width (kind_by s) (sees p).content (read_by s) ≡ reported ++ rest)
  reported-first (AtFind s last) reported has = (_, has)
  reported-first (AtOverlapping s) reported has = (_, has)
  reported-first (AtLeftmost s) reported has = has.first

  -- it stays, where the haystack has not ended
  pub reported-stays : (s : Standing N) (reported : List (Match ℕ)) → HasReportedBy width sees sees p p folds s reported → IsUnended s → BeginEachFound width (kind_by s) (sees p).content (read_by s) reported
  reported-stays (AtFind s last) reported has unended = find-stays width wide (sees p).content _ reported _ has
  reported-stays (AtOverlapping s) reported has unended = all-stays width wide (sees p).content s.longest_only _ reported _ has
  reported-stays (AtLeftmost s) reported has unended = has.certain unended
