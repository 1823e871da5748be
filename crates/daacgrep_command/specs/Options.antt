-- What the words of a command line ask for.
use Rattle.std.specs.Prelude.{◌≡◌, ⊤, ℕ, ◌-◌, ◌==◌, ◌&&◌, ◌||◌, Bool, true, false, not, nat_lt, slice_index, length, take, drop, Result}
use Rattle.std.specs.Prelude.{OnOk, IfErr, List, [], ◌∷◌, ◌++◌, Option, Some, None, codes, is_none, is_some, map, slice_get, unwrap_or}
use Rattle.std.specs.Prelude.{if◌then◌else◌}
use Rattle.std.specs.List.{Contains, filter_map, list_any}
use Rattle.daachorse_model.specs.Units.{same_text}
use Rattle.daacgrep_command.specs.declared.clash.Clash.{Clash}
use Rattle.daacgrep_command.specs.declared.clash.Clash.TheVariants.{NoLines, Patterns, Files}
use Rattle.daacgrep_command.specs.declared.flag.Flag.{Flag}
use Rattle.daacgrep_command.specs.declared.flag.Flag.TheVariants.{Values}
use Rattle.daacgrep_command.specs.declared.options.OptionError.{OptionError}
use Rattle.daacgrep_command.specs.declared.options.OptionError.TheVariants.{Unknown, Missing, Clashing, OutOfMemory}
use Rattle.daacgrep_command.specs.declared.options.Role.{Role}
use Rattle.daacgrep_command.specs.declared.options.Role.TheVariants.{Any, Pattern, PatternFile, Save, Load, File}
use Rattle.daacgrep_command.specs.declared.options.Shape.{Shape}
use Rattle.daacgrep_command.specs.declared.options.Shape.TheVariants.{Name, Letters, Long, End}
use Rattle.daacgrep_command.specs.Flags.{asks, flag_of}

-- what a word, or a letter of it, asks for: a flag; a pattern, a file of patterns, one that is written or was written, or a file that is
-- searched; or nothing that is known, and nothing without an argument
pub data Request : Type 0 where
  AsksFor : Flag → Request
  Gives : List ℕ → Request
  NamesPatterns : List ℕ → Request
  NamesSaved : List ℕ → Request
  NamesLoaded : List ℕ → Request
  Names : List ℕ → Request
  IsUnknown : List ℕ → Request
  Lacks : List ℕ → Request

-- the flag that is written so; else the word is unknown
abbrev pub flag_or_unknown : List ℕ → Option Flag → Request
flag_or_unknown word None = IsUnknown word
flag_or_unknown word (Some flag) = AsksFor flag

-- what letters ask for
abbrev pub letters_ask : List ℕ → List ℕ → List Request
letters_ask word letters = map (λ c. flag_or_unknown word (flag_of (45 ∷ c ∷ []))) letters

-- the last of some letters
abbrev pub last_letter : List ℕ → ℕ
last_letter letters = slice_index letters (length letters - 1)

-- the letters of a group that ask for flags: all but an e or an f at the end
abbrev pub flag_letters : List ℕ → List ℕ
flag_letters letters = if last_letter letters == 101 || last_letter letters == 102 then take (length letters - 1) letters else letters

-- how the word after a group is read: after an e at its end as a pattern, after an f as the name of a file of patterns
abbrev pub role_after_letters : List ℕ → Role
role_after_letters letters = if last_letter letters == 101 then Pattern else (if last_letter letters == 102 then PatternFile else Any)

-- a word of one letter, or that begins with no dash, is a name; after one dash stand letters, after two a long option, or nothing where
-- options end
abbrev pub shape_of : List ℕ → Shape
shape_of word =
    if nat_lt (length word) 2 || not (slice_index word 0 == 45) then Name
    else (if not (slice_index word 1 == 45) then Letters else (if nat_lt 2 (length word) then Long else End))

-- how the word after a long option is read, where it is an argument: as the name of a file that is written, or that was written
abbrev pub long_role : List ℕ → Option Role
long_role word = if same_text word (codes "--save") then Some Save else (if same_text word (codes "--load") then Some Load else None)

-- what a long option asks for: nothing yet, where an argument stands after it
abbrev pub long_asks : Option Role → List ℕ → List Request
long_asks None word = flag_or_unknown word (flag_of word) ∷ []
long_asks (Some role) word = []

-- what a word of this shape asks for, and how the word after it is read
abbrev pub asked_as : Shape → List ℕ → List Request
asked_as Name word = Names word ∷ []
asked_as Letters word = letters_ask word (flag_letters (drop 1 word))
asked_as Long word = long_asks (long_role word) word
asked_as End word = []

abbrev pub role_as : Shape → List ℕ → Role
role_as Name word = Any
role_as Letters word = role_after_letters (drop 1 word)
role_as Long word = unwrap_or (long_role word) Any
role_as End word = File

abbrev pub asked : List ℕ → List Request
asked word = asked_as (shape_of word) word

abbrev pub role_of_word : List ℕ → Role
role_of_word word = role_as (shape_of word) word

-- what a word asks for, by how it is read
abbrev pub asked_by : Role → List ℕ → List Request
asked_by Any word = asked word
asked_by Pattern word = Gives word ∷ []
asked_by PatternFile word = NamesPatterns word ∷ []
asked_by Save word = NamesSaved word ∷ []
asked_by Load word = NamesLoaded word ∷ []
asked_by File word = Names word ∷ []

-- how the word after it is read
abbrev pub role_after : Role → List ℕ → Role
role_after Any word = role_of_word word
role_after Pattern word = Any
role_after PatternFile word = Any
role_after Save word = Any
role_after Load word = Any
role_after File word = File

-- what is missing where no word is left
abbrev pub unmet : Role → List Request
unmet Any = []
unmet Pattern = Lacks (codes "-e") ∷ []
unmet PatternFile = Lacks (codes "-f") ∷ []
unmet Save = Lacks (codes "--save") ∷ []
unmet Load = Lacks (codes "--load") ∷ []
unmet File = []

-- what the words ask for, one after the other
abbrev pub requests : Role → List (List ℕ) → List Request
requests role [] = unmet role
requests role (word ∷ words) = asked_by role word ++ requests (role_after role word) words

-- what was asked for: flags, patterns, files of patterns, files that are written and that were written, and files that are searched
pub record Asked : Type 0 where
  pub flags : List Flag
  pub patterns : List (List ℕ)
  pub pattern_files : List (List ℕ)
  pub saves : List (List ℕ)
  pub loads : List (List ℕ)
  pub files : List (List ℕ)

abbrev pub flag_in : Request → Option Flag
flag_in (AsksFor flag) = Some flag
flag_in _ = None

abbrev pub pattern_in : Request → Option (List ℕ)
pattern_in (Gives text) = Some text
pattern_in _ = None

abbrev pub pattern_file_in : Request → Option (List ℕ)
pattern_file_in (NamesPatterns name) = Some name
pattern_file_in _ = None

abbrev pub saved_in : Request → Option (List ℕ)
saved_in (NamesSaved name) = Some name
saved_in _ = None

abbrev pub loaded_in : Request → Option (List ℕ)
loaded_in (NamesLoaded name) = Some name
loaded_in _ = None

abbrev pub file_in : Request → Option (List ℕ)
file_in (Names name) = Some name
file_in _ = None

-- what requests ask for, in their order
abbrev pub options_of : List Request → Asked
options_of rs = record {
  flags = filter_map flag_in rs;
  patterns = filter_map pattern_in rs;
  pattern_files = filter_map pattern_file_in rs;
  saves = filter_map saved_in rs;
  loads = filter_map loaded_in rs;
  files = filter_map file_in rs;
}

-- what is asked for first, and then more
abbrev pub joined : Asked → Asked → Asked
joined a b = record {
  flags = a.flags ++ b.flags;
  patterns = a.patterns ++ b.patterns;
  pattern_files = a.pattern_files ++ b.pattern_files;
  saves = a.saves ++ b.saves;
  loads = a.loads ++ b.loads;
  files = a.files ++ b.files;
}

-- a request that cannot be met
abbrev pub is_wrong : Request → Bool
is_wrong (IsUnknown word) = true
is_wrong (Lacks option) = true
is_wrong _ = false

-- each of them can be met
abbrev pub AreKnown : List Request → Type 0
AreKnown rs = list_any is_wrong rs ≡ false

-- the last of some names, if there is one
abbrev pub last_of : List (List ℕ) → Option (List ℕ)
last_of names = slice_get names (length names - 1)

-- something is named
abbrev pub are_any : List (List ℕ) → Bool
are_any names = not (length names == 0)

-- --save searches no file
abbrev pub save_clash : Asked → Option Clash
save_clash a = if is_some (last_of a.saves) && are_any a.files then Some Files else None

-- what does not go together: --load with values and no file of patterns, or with patterns and no values
abbrev pub clash_of : Asked → Option Clash
clash_of a =
    if is_none (last_of a.loads) then save_clash a
    else (if asks Values a.flags && not (are_any a.pattern_files) then Some NoLines
    else (if not (asks Values a.flags) && (are_any a.patterns || are_any a.pattern_files) then Some Patterns
    else save_clash a))

-- each of them can be met, and they go together
abbrev pub CanBeMet : List Request → Type 0
CanBeMet rs = AreKnown rs × (clash_of (options_of rs) ≡ None)

-- the error names a request among these that cannot be met
abbrev pub IsCause : OptionError → List Request → Type 0
IsCause (Unknown word) rs = Contains rs (IsUnknown word.now)
IsCause (Missing option) rs = Contains rs (Lacks option.now)
IsCause (Clashing clash) rs = ⊥
IsCause (OutOfMemory e) rs = ⊤

-- why words are refused: a request that cannot be met, or what does not go together
abbrev pub IsRefusal : OptionError → List Request → Type 0
IsRefusal (Unknown word) rs = IsCause (Unknown word) rs
IsRefusal (Missing option) rs = IsCause (Missing option) rs
IsRefusal (Clashing clash) rs = clash_of (options_of rs) ≡ Some clash
IsRefusal (OutOfMemory e) rs = ⊤

-- they are all taken, where each can be met; else the error names one that cannot
pub record Takes {T : Type 0} (old new : Asked) (rs : List Request) (r : Result T OptionError) : Type 0 where
  pub known : OnOk r (AreKnown rs)
  pub taken : OnOk r (new ≡ joined old (options_of rs))
  pub cause : IfErr r (λ e. IsCause e rs)
