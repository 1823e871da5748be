-- What is taken of requests one after the other is taken of all of them.
use Rattle.std.proofs.Common.{ℕ, ◌+◌, ◌<◌, ◌≤◌, map, length, take, drop, get_or, drop-cons, add-one, ◌≡◌, ◌||◌, List, [], ◌∷◌, ◌++◌, Result, Ok, Err, sym, ap, ◌∙◌, append_assoc, append-nil}
use Rattle.std.proofs.lemmas.List.{drop_all, map-append, take_more}
use Rattle.std.proofs.lemmas.List.Elements.{Contains-append_left, Contains-append_right, filter_map-append}
use Rattle.std.proofs.lemmas.List.Folds.{list_any-append}
use Rattle.std.specs.Borrow.{Bor}
use Rattle.std.specs.List.{list_any}
use Rattle.daacgrep_command.specs.declared.options.OptionError.{OptionError}
use Rattle.daacgrep_command.specs.declared.options.OptionError.TheVariants.{Unknown, Missing, Clashing, OutOfMemory}
use Rattle.daacgrep_command.specs.declared.options.Role.{Role}
use Rattle.daacgrep_command.specs.Flags.{flag_of}
use Rattle.daacgrep_command.specs.Options.{asked_by, flag_or_unknown, letters_ask, requests, role_after, unmet, Asked, AreKnown, IsCause, Request, Takes, file_in, flag_in, is_wrong, joined, options_of, loaded_in, pattern_file_in, pattern_in, saved_in}

pub options_of-append : (rs ss : List Request) → options_of (rs ++ ss) ≡ joined (options_of rs) (options_of ss)
options_of-append rs ss =
    let a = filter_map-append flag_in rs ss in
    let b = filter_map-append pattern_in rs ss in
    let c = filter_map-append pattern_file_in rs ss in
    let d = filter_map-append saved_in rs ss in
    let e = filter_map-append loaded_in rs ss in
    let f = filter_map-append file_in rs ss in cc

pub joined-assoc : (a b c : Asked) → joined (joined a b) c ≡ joined a (joined b c)
joined-assoc a b c =
    let p = append_assoc a.flags b.flags c.flags in
    let q = append_assoc a.patterns b.patterns c.patterns in
    let r = append_assoc a.pattern_files b.pattern_files c.pattern_files in
    let s = append_assoc a.saves b.saves c.saves in
    let t = append_assoc a.loads b.loads c.loads in
    let u = append_assoc a.files b.files c.files in cc

pub joined-none : (a : Asked) → joined a (options_of []) ≡ a
joined-none a = λ i. record { flags = append-nil a.flags i; patterns = append-nil a.patterns i; pattern_files = append-nil a.pattern_files i; saves = append-nil a.saves i; loads = append-nil a.loads i; files = append-nil a.files i }

pub AreKnown-append : (rs ss : List Request) → AreKnown rs → AreKnown ss → AreKnown (rs ++ ss)
AreKnown-append rs ss p q = list_any-append is_wrong rs ss ∙ (ap (λ b. b || list_any is_wrong ss) p ∙ q)

pub IsCause-left : (e : OptionError) (rs ss : List Request) → IsCause e rs → IsCause e (rs ++ ss)
IsCause-left (Unknown word) rs ss h = Contains-append_left rs ss _ h
IsCause-left (Missing option) rs ss h = Contains-append_left rs ss _ h
IsCause-left (Clashing clash) rs ss h = h
IsCause-left (OutOfMemory e) rs ss h = tt

pub IsCause-right : (e : OptionError) (rs ss : List Request) → IsCause e ss → IsCause e (rs ++ ss)
IsCause-right (Unknown word) rs ss h = Contains-append_right rs ss _ h
IsCause-right (Missing option) rs ss h = Contains-append_right rs ss _ h
IsCause-right (Clashing clash) rs ss h = h
IsCause-right (OutOfMemory e) rs ss h = tt

module _ {T : Type 0} where
  -- more is taken of what is left
  pub takes_then : (a b c : Asked) (rs ss : List Request) (r : Result T OptionError) → AreKnown rs → b ≡ joined a (options_of rs) → Takes b c ss r → Takes a c (rs ++ ss) r
  takes_then a b c rs ss (Ok x) known taken h = record {
    known = AreKnown-append rs ss known h.known;
    taken = h.taken ∙ ap (λ o. joined o (options_of ss)) taken ∙ joined-assoc a (options_of rs) (options_of ss) ∙ ap (joined a) (sym (options_of-append rs ss));
    cause = tt;
  }
  takes_then a b c rs ss (Err e) known taken h = record { known = tt; taken = tt; cause = IsCause-right e rs ss h.cause }

  -- what fails at once takes nothing of what is left
  pub takes_none : (a c : Asked) (rs ss : List Request) (e : OptionError) → IsCause e rs → Takes {T = T} a c (rs ++ ss) (Err e)
  takes_none a c rs ss e cause = record { known = tt; taken = tt; cause = IsCause-left e rs ss cause }

-- what one letter more asks for
pub letters_more : (word letters : List ℕ) (i : ℕ) → i < length letters
    → letters_ask word (take (i + 1) letters) ≡ letters_ask word (take i letters) ++ flag_or_unknown word (flag_of (45 ∷ get_or letters i 0 ∷ [])) ∷ []
letters_more word letters i h = ap (letters_ask word) (take_more letters i 0 h) ∙ map-append (λ c. flag_or_unknown word (flag_of (45 ∷ c ∷ []))) (take i letters) (get_or letters i 0 ∷ [])

-- what the words from i on ask for, of which this is the first
pub words_more : (role : Role) (words : List (Bor (List ℕ))) (i : ℕ) (word : Bor (List ℕ)) → i < length words
    → requests role (map (λ w. w.now) (drop i words)) ≡ asked_by role (get_or words i word).now ++ requests (role_after role (get_or words i word).now) (map (λ w. w.now) (drop (i + 1) words))
words_more role words i word h =
    let e : drop i words ≡ get_or words i word ∷ drop (i + 1) words = rw (add-one) (drop-cons words i word h) in
    ap (λ ws. requests role (map (λ w. w.now) ws)) e

-- no word is left
pub words_ended : (role : Role) (words : List (Bor (List ℕ))) (i : ℕ) → length words ≤ i → requests role (map (λ w. w.now) (drop i words)) ≡ unmet role
words_ended role words i h = ap (λ ws. requests role (map (λ w. w.now) ws)) (drop_all i words h)
