-- Files that are asked for one after the other, and how an attempt ends.
use Rattle.std.proofs.Common.{◌≡◌, ℕ, ◌+◌, ◌<◌, ◌||◌, inl, inr, length, Bool, true, false, Option, Some, None, Result, Ok, Err, List, []}
use Rattle.std.proofs.Common.{◌∷◌, ◌++◌, map, flat_map, take, drop, get_or, drop-cons, add-one, take-append-drop, refl, ap, sym, subst}
use Rattle.std.proofs.Common.{◌∙◌, append_assoc, append-nil, cond, arith}
use Rattle.std.proofs.KnownBytes.{Appends-nil, Keeps-refl}
use Rattle.std.proofs.lemmas.Grind.{flat_map-append}
use Rattle.std.proofs.lemmas.List.{map-append, take_more}
use Rattle.std.proofs.lemmas.List.Elements.{All-append, All-cons, All-nil}
use Rattle.std.proofs.lemmas.List.Folds.{list_any-append}
use Rattle.std.specs.Prelude.{◌^◌, IfErr, IfOk, OnErr, OnOk}
use Rattle.std.specs.Int.{w32}
use Rattle.std.specs.Borrow.{Bor}
use Rattle.std.specs.Io.KnownBytes.{Appends, Keeps}
use Rattle.daachorse_model.specs.Dictionary.{Dictionary, dictionary}
use Rattle.daachorse_model.specs.Folding.{texts_as_read}
use Rattle.daachorse.specs.bytewise.Automata.{Automaton, dictionary_of}
use Rattle.daachorse.specs.Forms.{number_form}
use Rattle.daachorse.specs.bytewise.WrittenForms.{IsAutomaton, written_form}
use Rattle.daachorse.specs.Replaced.{AppendsBeginning}
use Rattle.daacfind_command.proofs.Built.{numbered_of}
use Rattle.daacfind_command.specs.Commands.{Tells}
use Rattle.daacgrep_command.specs.declared.error.CommandError.{CommandError}
use Rattle.daacgrep_command.specs.declared.error.CommandError.TheVariants.{Write}
use Rattle.daacgrep_command.specs.declared.files.Outcome.{Outcome}
use Rattle.daacgrep_command.specs.declared.flag.Flag.{Flag}
use Rattle.daacgrep_command.specs.declared.flag.Flag.TheVariants.{Help, IgnoreCase, Quiet, Values, Version}
use Rattle.daacgrep_command.specs.declared.options.Role.TheVariants.{Any}
use Rattle.daacgrep_command.specs.declared.search.Task.{Task}
use Rattle.daacgrep_command.specs.Asked.{AreFilesOf, AreSearched, AreSought, GivenFile, GivesPatterns, HasRead, IsAnswer, IsAutomatonAsked}
use Rattle.daacgrep_command.specs.Asked.{IsOfItself, IsUsage, IsSave, IsSearch, IsSearched, IsWork, both, closed_file, dictionary_asked}
use Rattle.daacgrep_command.specs.Asked.{files_text, is_unread, kind_asked, names_asked, names_patterns, outcome_of, report_of, reports_of}
use Rattle.daacgrep_command.specs.Asked.{rules_asked, selects_of, shown, sought_asked, status_of_outcome, task_of, tells_of_itself}
use Rattle.daacgrep_command.specs.Asked.{text_of_file, version_text, wanted_asked}
use Rattle.daacgrep_command.specs.Causes.{IsUnsaved}
use Rattle.daacgrep_command.specs.Ends.{AttemptEndsBy, Ends}
use Rattle.daacgrep_command.specs.FileSystems.{Disk, Has, IsOpened, SavedFile, Stores, TellsOf}
use Rattle.daacgrep_command.specs.Flags.{asks}
use Rattle.daacgrep_command.specs.Jobs.{Wanted}
use Rattle.daacgrep_command.specs.Lines.{TextLine, lines_from, lines_of}
use Rattle.daacgrep_command.specs.Messages.{Notice, Sends, Warns}
use Rattle.daacgrep_command.specs.Messages.Notice.{NotRead}
use Rattle.daacgrep_command.specs.Options.{Asked, CanBeMet, last_of, options_of, requests}
use Rattle.daacgrep_command.specs.Printed.{file_text, has_selected}
use Rattle.daacgrep_command.specs.Reading.{IsFileSearched}
use Rattle.daacgrep_command.specs.Rules.{pattern_of}
use Rattle.daacgrep_command.specs.Sending.{IsWritten, Sent}
use Rattle.daacgrep_command.specs.Sought.{Sought, sought_of}
use Rattle.daacgrep_command.proofs.Reports.{sends_none, sends_then}
use Rattle.daacgrep_command.proofs.Writing.{flushed, sent_none, then_more, then_none, unflushed, written_all}

-- what was written whole is so with any value
so_ended : {T U E : Type 0} {a b : Sent} {x : T} {t : List ℕ} (y : U) → IsWritten {T = T} {E = E} a b (Ok x) t
    → IsWritten {T = U} {E = E} a b (Ok y) t
so_ended y w = record { whole = w.whole; unfailed = w.unfailed; beginning = tt; failed = tt }

abbrev Files : Type 0
Files = Option (List ℕ → Option (List ℕ))

-- no file, one, and files one after the other
pub files_none : (given : Files) → AreFilesOf given [] []
files_none given = record { named = refl; known = All-nil (λ (f : GivenFile). TellsOf given f.name f.bytes f.cut) }

pub file_one : (given : Files) (name : List ℕ) (bytes : Option (List ℕ)) (cut : Bool) → TellsOf given name bytes cut
    → AreFilesOf given (name ∷ []) (record { name = name; bytes = bytes; cut = cut } ∷ [])
file_one given name bytes cut t =
    let P : GivenFile → Type 0 = λ f. TellsOf given f.name f.bytes f.cut in
    record { named = refl; known = All-cons P (record { name = name; bytes = bytes; cut = cut }) [] t (All-nil P) }

pub files_then : (given : Files) (names more : List (List ℕ)) (files later : List GivenFile) → AreFilesOf given names files
    → AreFilesOf given more later → AreFilesOf given (names ++ more) (files ++ later)
files_then given names more files later p q = record {
  named = map-append (λ (f : GivenFile). f.name) files later ∙ ap (λ l. l ++ map (λ (f : GivenFile). f.name) later) p.named
      ∙ ap (λ l. names ++ l) q.named;
  known = All-append (λ (f : GivenFile). TellsOf given f.name f.bytes f.cut) files later p.known q.known;
}

bytes_known : (given : Files) (name : List ℕ) → (bytes : Option (List ℕ)) × Tells given name bytes
bytes_known None name = (None, tt)
bytes_known (Some f) name = (f name, refl)

-- a file that was opened has what was left of it
opened_known : (given : Files) (name : List ℕ) (left : Option (List ℕ)) (bytes : List ℕ) (cut : Bool) → IsOpened given name left
    → Has cut left bytes → TellsOf given name (Some bytes) cut
opened_known None name left bytes false opened has = tt
opened_known None name left bytes true opened has = ([], tt)
opened_known (Some f) name left bytes false (all, is, kept) has = is ∙ ap Some (subst (λ l. Has false l bytes) kept has)
opened_known (Some f) name left bytes true (all, is, kept) has = let r = subst (λ l. Has true l bytes) kept has in (r.0, is ∙ ap Some r.1)

-- there are files of any names
pub files_of_all : (given : Files) (names : List (List ℕ)) → (files : List GivenFile) × AreFilesOf given names files
files_of_all given [] = ([], files_none given)
files_of_all given (name ∷ names) =
    let first = bytes_known given name in
    let later = files_of_all given names in (
      record { name = name; bytes = first.0; cut = false } ∷ later.0,
      files_then given (name ∷ []) names _ later.0
          (file_one given name first.0 false first.1) later.1,
    )

-- one file more was read
pub read_more : (given : Files) (names : List (List ℕ)) (name bytes old mid new : List ℕ) → HasRead given names old mid
    → Tells given name (Some bytes) → new ≡ mid ++ closed_file (record { name = name; bytes = Some bytes; cut = false })
    → HasRead given (names ++ name ∷ []) old new
read_more given names name bytes old mid new h t e =
    let file : GivenFile = record { name = name; bytes = Some bytes; cut = false } in
    record {
      files = h.files ++ file ∷ [];
      are_files = files_then given names (name ∷ []) h.files _ h.are_files (file_one given name (Some bytes) false t);
      are_read = list_any-append is_unread h.files (file ∷ []) ∙ ap (λ b. b || false) h.are_read;
      added = e ∙ ap (λ l. l ++ closed_file file) h.added ∙ append_assoc old (flat_map closed_file h.files) (closed_file file)
          ∙ ap (λ l. old ++ (flat_map closed_file h.files ++ l)) (sym (append-nil (closed_file file)))
          ∙ ap (λ l. old ++ l) (sym (flat_map-append closed_file h.files (file ∷ [])));
    }

pub read_none : (given : Files) (old : List ℕ) → HasRead given [] old old
read_none given old = record { files = []; are_files = files_none given; are_read = refl; added = sym (append-nil old) }

module _ (j : Wanted) where
  outcome_append : (files later : List GivenFile) → outcome_of j (files ++ later) ≡ both (outcome_of j files) (outcome_of j later)
  outcome_append files later =
      let a = list_any-append (selects_of j) files later in
      let b = list_any-append is_unread files later in cc

  reports_append : (files later : List GivenFile) → reports_of (files ++ later) ≡ reports_of files ++ reports_of later
  reports_append files later = flat_map-append report_of files later

  module _ {E : Type 0} (given : Files) (a b c : Sent) (m n o : Option (List Notice)) where
    -- more files were searched
    pub searched_then : (names more : List (List ℕ)) (x y : Outcome) → AreSearched j given names {E = E} a b m n (Ok x)
        → AreSearched j given more {E = E} b c n o (Ok y) → AreSearched j given (names ++ more) {E = E} a c m o (Ok (both x y))
    searched_then names more x y v w = record {
      files = v.files ++ w.files;
      are_files = files_then given names more v.files w.files v.are_files w.are_files;
      written = subst (λ t. IsWritten {T = Outcome} {E = E} a c (Ok (both x y)) t) (sym (flat_map-append (text_of_file j) v.files w.files))
          (so_ended (both x y) (then_more a b c (files_text j v.files) (files_text j w.files) x (Ok y) v.written w.written));
      outcome = ap (λ z. both z y) v.outcome ∙ ap (both (outcome_of j v.files)) w.outcome ∙ sym (outcome_append v.files w.files);
      reported = subst (Sends m o) (sym (reports_append v.files w.files))
          (sends_then m n o (reports_of v.files) (reports_of w.files) v.reported w.reported);
    }

    -- the search of some files failed, and others were left
    pub searched_cut : (names more rest : List (List ℕ)) (x : Outcome) (e : E) → AreSearched j given names {E = E} a b m n (Ok x)
        → AreSearched j given more {E = E} b c n o (Err e) → AreSearched j given (names ++ (more ++ rest)) {E = E} a c m o (Err e)
    searched_cut names more rest x e v w =
        let left = files_of_all given rest in
        let T = files_text j in
        let here = then_none {U = Outcome} {E = E} b c (T w.files) (T left.0) e w.written in
        let all = then_more {U = Outcome} {E = E} a b c (T v.files) (T w.files ++ T left.0) x (Err e) v.written here in
        let joined : T (v.files ++ (w.files ++ left.0)) ≡ T v.files ++ (T w.files ++ T left.0) =
        flat_map-append (text_of_file j) v.files (w.files ++ left.0)
        ∙ ap (λ l. T v.files ++ l) (flat_map-append (text_of_file j) w.files left.0) in
        record {
          files = v.files ++ (w.files ++ left.0);
          are_files = files_then given names (more ++ rest) v.files _ v.are_files
              (files_then given more rest w.files left.0 w.are_files left.1);
          written = subst (λ t. IsWritten {T = Outcome} {E = E} a c (Err e) t) (sym joined) all;
          outcome = tt;
          reported = tt;
        }

-- the lines' bytes are the pieces
pub lines_bytes : (before start : ℕ) (pieces : List (List ℕ)) → map (λ (l : TextLine). l.bytes) (lines_from before start pieces) ≡ pieces
lines_bytes before start [] = refl
lines_bytes before start (p ∷ ps) = ap (λ l. p ∷ l) (lines_bytes (before + 1) (start + length p + 1) ps)

module _ (flags : List Flag) (given : Files) (rules : List (List ℕ)) where
  -- the patterns that an automaton holds that is asked for
  record Seeks (load : Option (List ℕ)) (s : Sought) : Type 0 where
    patterns : Dictionary ℕ
    are_sought : AreSought flags given rules load patterns
    is : s ≡ sought_asked flags patterns

  sought_by : (load : Option (List ℕ)) (a : Automaton ℕ) → IsAutomatonAsked flags given rules load a → Seeks load (sought_of a)
  sought_by None a h =
      let kind = kind_asked flags in
      let folds = asks IgnoreCase flags in
      let held : dictionary_of a ≡ dictionary kind (texts_as_read folds h.0) = λ i w. h.2.holds w i in
      let holds : dictionary_of a ≡ dictionary_asked flags rules = held ∙ ap (λ l. dictionary kind (texts_as_read folds l))
      (numbered_of 0 (map (pattern_of (asks Values flags)) rules) h.0 h.1) in
      record {
        patterns = dictionary_asked flags rules;
        are_sought = refl;
        is = λ i. record { dictionary = holds i; folds = h.2.folds i; kind = h.2.kind i };
      }
  sought_by (Some name) a h =
      record {
        patterns = dictionary_of a;
        are_sought = (a, h, refl);
        is = λ i. record { dictionary = dictionary_of a; folds = h.fits.folds i; kind = h.fits.kind i };
      }

stores_none : (old : Option (List SavedFile)) → Stores old old []
stores_none None = refl
stores_none (Some files) = ap Some (sym (append-nil files))

either : {X : Type 0} (b : Bool) → b ≡ true → b ≡ false → X
either true t f = cc
either false t f = cc

-- the usage is of itself where it is asked for, and else the version
pub its_usage : (asked : Asked) (text : List ℕ) (a : Bool) → a ≡ asks Help asked.flags → a ≡ true → IsUsage text → IsOfItself asked text
its_usage asked text a e t is = record { usage = λ _. is; version = λ no. either a t (e ∙ no) }

pub its_version : (asked : Asked) (text : List ℕ) (a : Bool) → a ≡ asks Help asked.flags → a ≡ false → text ≡ version_text
    → IsOfItself asked text
its_version asked text a e f is = record { usage = λ yes. either a (e ∙ yes) f; version = λ _. is }

module _ (asked : Asked) (d : Disk) (a b : Sent) (m : Option (List Notice)) where
  -- the usage or the version was printed
  pub ends_printed : (r : Result ℕ CommandError) (text : List ℕ) → tells_of_itself asked ≡ true → IsOfItself asked text
      → IsWritten a b r text → IfOk r (λ s. s ≡ 0) → IfErr r (λ e. e ≡ Write) → Ends asked d d a b m m r
  ends_printed (Ok s) text t its w zero cause = record {
    text = text;
    saved = [];
    notices = [];
    is_answer = inl (t, its, refl, refl, zero);
    written = w.whole;
    stored = stores_none d.saved;
    unfailed = w.unfailed;
    warnings = [];
    are_warnings = inl refl;
    reported = sends_none m;
    trouble = λ two. absurd (omega (arith, zero, two));
  }
  ends_printed (Err x) text t its w zero cause = inr (
    cause,
    record {
      text = text;
      notices = [];
      status = 0;
      is_answer = inl (t, its, refl, refl, refl);
      written = w.beginning;
      kept = refl;
      failed = w.failed;
    },
  )

module _ (asked : Asked) (d : Disk) (text : List ℕ) (gives : GivesPatterns asked d.given text) (named : names_patterns asked ≡ true)
    (itself : tells_of_itself asked ≡ false) (m n : Option (List Notice)) (warned : Warns m n) where
  module _ (nothing : last_of asked.saves ≡ None) (K : Dictionary ℕ)
      (sought : AreSought asked.flags d.given (rules_asked asked gives.files) (last_of asked.loads) K) where
    abbrev Job : Wanted
    Job = wanted_asked asked K (rules_asked asked gives.files)

    abbrev Status : List GivenFile → ℕ
    Status files = status_of_outcome (asks Quiet asked.flags) (outcome_of Job files)

    found : (files : List GivenFile) → AreFilesOf d.given (names_asked asked.files) files
        → IsAnswer asked d.given (files_text Job files) [] (reports_of files) (Status files)
    found files are =
        let work : IsSearch asked d.given (files_text Job files) (reports_of files) (Status files) = record {
          pattern_files = gives.files;
          are_pattern_files = gives.are_files;
          are_read = gives.are_read;
          named = named;
          patterns = K;
          are_sought = sought;
          files = files;
          are_files = are;
          text_is = refl;
          notices_are = refl;
          status_is = refl;
        } in
        let is_work : Option (List ℕ) → Type 0 = λ l. IsWork asked d.given l (files_text Job files) [] (reports_of files) (Status files) in
        inr (itself, subst is_work (sym nothing) (work, refl))

    ends_found : (e : Disk) (a b : Sent) (o : Option (List Notice)) (r : Result ℕ CommandError) → e.saved ≡ d.saved
        → IfOk r (λ s. s ≡ 2 → d.failures < e.failures) → IfErr r (λ x. x ≡ Write) → IsSearched Job asked d.given a b n o r
        → Ends asked d e a b m o r
    ends_found e a b o (Ok s) kept trouble cause h = record {
      text = files_text Job h.files;
      saved = [];
      notices = reports_of h.files;
      is_answer = subst (IsAnswer asked d.given (files_text Job h.files) [] (reports_of h.files)) (sym h.status)
          (found h.files h.are_files);
      written = h.written.whole;
      stored = kept ∙ stores_none d.saved;
      unfailed = h.written.unfailed;
      warnings = warned.0;
      are_warnings = warned.1;
      reported = sends_then m n o warned.0 (reports_of h.files) warned.2 h.reported;
      trouble = trouble;
    }
    ends_found e a b o (Err x) kept trouble cause h = inr (
      cause,
      record {
        text = files_text Job h.files;
        notices = reports_of h.files;
        status = Status h.files;
        is_answer = found h.files h.are_files;
        written = h.written.beginning;
        kept = kept;
        failed = h.written.failed;
      },
    )

  module _ (rules : List (List ℕ)) (are_rules : rules ≡ rules_asked asked gives.files) (automaton : Automaton ℕ)
      (is_asked : IsAutomatonAsked asked.flags d.given rules (last_of asked.loads) automaton) where
    -- it is asked for, where these are the lines of the patterns
    here_asked : IsAutomatonAsked asked.flags d.given (rules_asked asked gives.files) (last_of asked.loads) automaton
    here_asked = subst (λ l. IsAutomatonAsked asked.flags d.given l (last_of asked.loads) automaton) are_rules is_asked

    -- the files were searched
    pub ends_searched : (e : Disk) (a b : Sent) (o : Option (List Notice)) (r : Result ℕ CommandError) (task : Task)
        → last_of asked.saves ≡ None → task ≡ task_of asked → e.saved ≡ d.saved → IfOk r (λ s. s ≡ 2 → d.failures < e.failures)
        → IfErr r (λ x. x ≡ Write)
        → IsSearched (record { sought = sought_of automaton; rules = rules; task = task }) asked d.given a b n o r
        → Ends asked d e a b m o r
    ends_searched e a b o r task nothing is_task kept trouble cause h =
        let s = sought_by asked.flags d.given (rules_asked asked gives.files) (last_of asked.loads) automaton here_asked in
        let job : ◌≡◌ {A = Wanted} (record { sought = sought_of automaton; rules = rules; task = task })
        (wanted_asked asked s.patterns (rules_asked asked gives.files)) =
        λ i. record { sought = s.is i; rules = are_rules i; task = is_task i } in
        ends_found nothing s.patterns s.are_sought e a b o r kept trouble cause (subst (λ j. IsSearched j asked d.given a b n o r) job h)

    -- the automaton was saved
    pub ends_saved : (e : Disk) (a : Sent) (name : Bor (List ℕ)) (r : Result ℕ CommandError) → last_of asked.saves ≡ Some name.now
        → IfOk r (λ s. s ≡ 0) → OnOk r (IsAutomaton (λ v. v < 2 ^ 32) automaton)
        → OnOk r (Stores d.saved e.saved (record { name = name.now; bytes = written_form (number_form w32) automaton } ∷ []))
        → OnErr r (e.saved ≡ d.saved) → IfErr r (IsUnsaved name) → Ends asked d e a a m n r
    ends_saved e a name (Ok s) is zero is_one stored kept cause =
        let bytes = written_form (number_form w32) automaton in
        let file : SavedFile = record { name = name.now; bytes = bytes } in
        let save : IsSave asked d.given bytes = record {
          pattern_files = gives.files;
          are_pattern_files = gives.are_files;
          are_read = gives.are_read;
          named = named;
          automaton = automaton;
          is_asked = here_asked;
          is_one = is_one;
          form = refl;
        } in
        let is_work : Option (List ℕ) → Type 0 = λ l. IsWork asked d.given l [] (file ∷ []) [] s in
        record {
          text = [];
          saved = file ∷ [];
          notices = [];
          is_answer = inr (itself, subst is_work (sym is) (refl, refl, zero, (bytes, save, refl)));
          written = Appends-nil a.taken;
          stored = stored;
          unfailed = refl;
          warnings = warned.0;
          are_warnings = warned.1;
          reported = sends_then m n n warned.0 [] warned.2 (sends_none n);
          trouble = λ two. absurd (omega (arith, zero, two));
        }
    ends_saved e a name (Err x) is zero is_one stored kept cause =
        inl (record { saved = kept; taken = Keeps-refl a.taken; unfailed = refl }, inr (inr (name, is, cause)))

module _ {E : Type 0} (j : Wanted) (asked : Asked) (given : Files) (names : List (List ℕ)) (are_names : names ≡ names_asked asked.files)
    (a b : Sent) (m n : Option (List Notice)) where
  -- a search as it was asked for
  as_asked : (r : Result Outcome E) → AreSearched j given names {E = E} a b m n r
      → AreSearched j given (names_asked asked.files) {E = E} a b m n r
  as_asked r w = subst (λ ns. AreSearched j given ns {E = E} a b m n r) are_names w

  -- it failed; or it ended, and the flush failed; or both did their work
  pub search_failed : {F : Type 0} (e : E) (x : F) → AreSearched j given names {E = E} a b m n (Err e)
      → IsSearched j asked given {E = F} a b m n (Err x)
  search_failed {F} e x w =
      let v = as_asked (Err e) w in
      record {
        files = v.files;
        are_files = v.are_files;
        written = record { whole = tt; unfailed = tt; beginning = v.written.beginning; failed = v.written.failed };
        status = tt;
        reported = tt;
      }

  pub search_unflushed : {F : Type 0} (c : Sent) (o : Outcome) (x : F) → AreSearched j given names {E = E} a b m n (Ok o)
      → Keeps b.taken c.taken → c.failures ≡ b.failures + 1 → IsSearched j asked given {E = F} a c m n (Err x)
  search_unflushed {F} c o x w kept more =
      let v = as_asked (Ok o) w in
      record {
        files = v.files;
        are_files = v.are_files;
        written = unflushed {T = Outcome} {U = ℕ} {E = E} {F = F} a b c _ o x v.written kept more;
        status = tt;
        reported = tt;
      }

  pub search_done : {F : Type 0} (c : Sent) (o : Outcome) (quiet : Bool) (s : ℕ) → AreSearched j given names {E = E} a b m n (Ok o)
      → Keeps b.taken c.taken → c.failures ≡ b.failures → quiet ≡ asks Quiet asked.flags → s ≡ status_of_outcome quiet o
      → IsSearched j asked given {E = F} a c m n (Ok s)
  search_done {F} c o quiet s w kept same is_quiet is =
      let v = as_asked (Ok o) w in
      record {
        files = v.files;
        are_files = v.are_files;
        written = flushed {T = Outcome} {U = ℕ} {E = E} {F = F} a b c _ o s v.written kept same;
        status = is ∙ ap (λ q. status_of_outcome q o) is_quiet ∙ ap (status_of_outcome (asks Quiet asked.flags)) v.outcome;
        reported = v.reported;
      }

-- how an attempt ends by its options is how it ends by its words
pub ends_by : (words : List (List ℕ)) (asked : Asked) (d e : Disk) (a b : Sent) (m n : Option (List Notice)) (r : Result ℕ CommandError)
    → CanBeMet (requests Any words) → asked ≡ options_of (requests Any words) → Ends asked d e a b m n r
    → AttemptEndsBy words d e a b m n r
ends_by words asked d e a b m n (Ok s) met is h = (met, subst (λ o. Ends o d e a b m n (Ok s)) is h)
ends_by words asked d e a b m n (Err x) met is h = inr (met, subst (λ o. Ends o d e a b m n (Err x)) is h)

module _ (texts : List (Bor (List ℕ))) (i : ℕ) (d : Bor (List ℕ)) (h : i < length texts) where
  -- one name more
  pub names_more : map (λ n. n.now) (take (i + 1) texts) ≡ map (λ n. n.now) (take i texts) ++ (get_or texts i d).now ∷ []
  names_more = ap (map (λ (n : Bor (List ℕ)). n.now)) (take_more texts i d h) ∙ map-append (λ (n : Bor (List ℕ)). n.now) (take i texts)
      (get_or texts i d ∷ [])

  -- this name, and those before and after it
  pub names_split : map (λ n. n.now) texts ≡ map (λ n. n.now) (take i texts) ++ ((get_or texts i d).now ∷ []
      ++ map (λ n. n.now) (drop (i + 1) texts))
  names_split =
      let e : drop i texts ≡ get_or texts i d ∷ drop (i + 1) texts = rw (add-one) (drop-cons texts i d h) in
      ap (map (λ (n : Bor (List ℕ)). n.now)) (sym (take-append-drop i texts) ∙ ap (λ l. take i texts ++ l) e)
      ∙ map-append (λ (n : Bor (List ℕ)). n.now) (take i texts) (get_or texts i d ∷ drop (i + 1) texts)

  -- one pattern more
  pub patterns_more : flat_map (λ p. p ++ 10 ∷ []) (map (λ n. n.now) (take (i + 1) texts))
      ≡ flat_map (λ p. p ++ 10 ∷ []) (map (λ n. n.now) (take i texts)) ++ ((get_or texts i d).now ++ 10 ∷ [])
  patterns_more =
      let F : List ℕ → List ℕ = λ p. p ++ 10 ∷ [] in
      ap (flat_map F) names_more ∙ flat_map-append F (map (λ (n : Bor (List ℕ)). n.now) (take i texts)) ((get_or texts i d).now ∷ [])
      ∙ ap (λ l. flat_map F (map (λ (n : Bor (List ℕ)). n.now) (take i texts)) ++ l) (append-nil (F (get_or texts i d).now))

-- what stands in place of a name after the last
unfoldable pub name_at_end : Bor (List ℕ)
name_at_end = record { ref_ptr = (0, 0); now = [] }

-- a line more was taken, and none is left
pub line_taken : (vs ws : List (Bor (List ℕ))) (b : Bor (List ℕ)) (t : TextLine) (ls ms : List TextLine) (all : List (List ℕ))
    → map (λ v. v.now) vs ++ map (λ l. l.bytes) ls ≡ all → ls ≡ t ∷ ms → t.bytes ≡ b.now → ws ≡ vs ++ b ∷ []
    → map (λ v. v.now) ws ++ map (λ l. l.bytes) ms ≡ all
line_taken vs ws b t ls ms all e is same pushed =
    let N : List (Bor (List ℕ)) → List (List ℕ) = map (λ (v : Bor (List ℕ)). v.now) in
    let B : List TextLine → List (List ℕ) = map (λ (l : TextLine). l.bytes) in
    ap (λ l. N l ++ B ms) pushed ∙ ap (λ l. l ++ B ms) (map-append (λ (v : Bor (List ℕ)). v.now) vs (b ∷ []))
    ∙ append_assoc (N vs) (b.now ∷ []) (B ms)
    ∙ ap (λ x. N vs ++ (x ∷ B ms)) (sym same) ∙ ap (λ l. N vs ++ B l) (sym is) ∙ e

pub lines_taken : (vs : List (Bor (List ℕ))) (ls : List TextLine) (all : List (List ℕ)) → map (λ v. v.now) vs ++ map (λ l. l.bytes) ls ≡ all
    → ls ≡ [] → map (λ v. v.now) vs ≡ all
lines_taken vs ls all e none = sym (append-nil (map (λ (v : Bor (List ℕ)). v.now) vs))
    ∙ ap (λ l. map (λ (v : Bor (List ℕ)). v.now) vs ++ map (λ (t : TextLine). t.bytes) l) (sym none) ∙ e

or_false : (b : Bool) → (b || false) ≡ b
or_false true = refl
or_false false = refl

module _ (j : Wanted) (given : Files) where
  -- no file was searched
  pub searched_none : {E : Type 0} (a : Sent) (m : Option (List Notice))
      → AreSearched j given [] {E = E} a a m m (Ok (record { selected = false; trouble = false }))
  searched_none a m = record {
    files = [];
    are_files = files_none given;
    written = written_all a a [] [] _ refl (sent_none a);
    outcome = refl;
    reported = sends_none m;
  }

  -- one file was searched
  module _ (a b : Sent) (m n : Option (List Notice)) (name shows : List ℕ) (left : Option (List ℕ)) (opened : IsOpened given name left)
      (named : shows ≡ shown name) where
    text_one : (bytes : List ℕ) (cut : Bool)
        → file_text j shows bytes ≡ files_text j (record { name = name; bytes = Some bytes; cut = cut } ∷ [])
    text_one bytes cut = ap (λ t. file_text j t bytes) named ∙ sym (append-nil (file_text j (shown name) bytes))

    pub one_failed : {E D : Type 0} (d : D) (e : E) → IsFileSearched j shows left {E = D} a b (Err d)
        → AreSearched j given (name ∷ []) {E = E} a b m n (Err e)
    one_failed d e w = record {
      files = record { name = name; bytes = Some w.bytes; cut = w.cut } ∷ [];
      are_files = file_one given name (Some w.bytes) w.cut (opened_known given name left w.bytes w.cut opened w.has);
      written = record {
        whole = tt;
        unfailed = tt;
        beginning = subst (AppendsBeginning a.taken b.taken) (text_one w.bytes w.cut) w.written.beginning;
        failed = w.written.failed;
      };
      outcome = tt;
      reported = tt;
    }

    -- it was reported where it was cut off
    reported_one : (bytes : List ℕ) (cut trouble : Bool) → trouble ≡ cut → Sends m n (cond trouble (NotRead name ∷ []) [])
        → Sends m n (reports_of (record { name = name; bytes = Some bytes; cut = cut } ∷ []))
    reported_one bytes true trouble is sends = subst (λ t. Sends m n (cond t (NotRead name ∷ []) [])) is sends
    reported_one bytes false trouble is sends = subst (λ t. Sends m n (cond t (NotRead name ∷ []) [])) is sends

    pub one_searched : {E : Type 0} (o : Outcome) → IsFileSearched j shows left {E = E} a b (Ok o)
        → Sends m n (cond o.trouble (NotRead name ∷ []) []) → AreSearched j given (name ∷ []) {E = E} a b m n (Ok o)
    one_searched o w sends = record {
      files = record { name = name; bytes = Some w.bytes; cut = w.cut } ∷ [];
      are_files = file_one given name (Some w.bytes) w.cut (opened_known given name left w.bytes w.cut opened w.has);
      written = record {
        whole = subst (Appends a.taken b.taken) (text_one w.bytes w.cut) w.written.whole;
        unfailed = w.written.unfailed;
        beginning = tt;
        failed = tt;
      };
      outcome = (λ i. record {
        selected = (w.selected ∙ sym (or_false (has_selected j.sought j.task.inverts (lines_of j.task.labels.end w.bytes)))) i;
        trouble = (w.trouble ∙ sym (or_false w.cut)) i;
      });
      reported = reported_one w.bytes w.cut o.trouble w.trouble sends;
    }

  -- a file could not be read
  pub one_unread : {E : Type 0} (a : Sent) (m n : Option (List Notice)) (name : List ℕ) → Tells given name None
      → Sends m n (NotRead name ∷ [])
      → AreSearched j given (name ∷ []) {E = E} a a m n (Ok (record { selected = false; trouble = true }))
  one_unread a m n name unread sends = record {
    files = record { name = name; bytes = None; cut = false } ∷ [];
    are_files = file_one given name None false unread;
    written = written_all a a [] [] _ refl (sent_none a);
    outcome = refl;
    reported = sends;
  }

-- the patterns that were given, and those of files
pub gives_patterns : (asked : Asked) (given : Files) (patterns names : List (List ℕ)) (t u v : List ℕ) → t ≡ [] → patterns ≡ asked.patterns
    → names ≡ asked.pattern_files → u ≡ t ++ flat_map (λ p. p ++ 10 ∷ []) patterns
    → HasRead given names u v → GivesPatterns asked given v
gives_patterns asked given patterns names t u v none are_patterns are_names added h =
    let F : List ℕ → List ℕ = λ p. p ++ 10 ∷ [] in
    let first : u ≡ flat_map F asked.patterns = added ∙ ap (λ l. l ++ flat_map F patterns) none ∙ ap (flat_map F) are_patterns in
    record {
      files = h.files;
      are_files = subst (λ ns. AreFilesOf given ns h.files) are_names h.are_files;
      are_read = h.are_read;
      is = h.added ∙ ap (λ l. l ++ flat_map closed_file h.files) first;
    }

module _ (flags : List Flag) where
  abbrev AsksItself : Bool
  AsksItself = asks Help flags || asks Version flags

  -- what is asked of itself
  pub tells_usage : (a : Bool) → a ≡ asks Help flags → a ≡ true → AsksItself ≡ true
  tells_usage a e t = ap (λ b. b || asks Version flags) (sym e ∙ t)

  pub tells_version : (a b : Bool) → a ≡ asks Help flags → a ≡ false → b ≡ asks Version flags → b ≡ true → AsksItself ≡ true
  tells_version a b e f d t = ap (λ x. x || asks Version flags) (sym e ∙ f) ∙ sym d ∙ t

  pub tells_nothing : (a b : Bool) → a ≡ asks Help flags → a ≡ false → b ≡ asks Version flags → b ≡ false → AsksItself ≡ false
  tells_nothing a b e f d t = ap (λ x. x || asks Version flags) (sym e ∙ f) ∙ sym d ∙ t
