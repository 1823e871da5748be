-- What an automaton over characters stores, and the machine that it is.
use Rattle.std.specs.Prelude.{ℕ, ◌==◌, bit_xor, nat_lt, cond, List, length, slice_index_or, Option, Some, None, option_and_then}
use Rattle.std.proofs.Math.Utf8.{scalar}
use Rattle.daachorse_core.specs.declared.outputs.Output.{Output}
use Rattle.daachorse_model.specs.declared.MatchKind.{MatchKind}
use Rattle.daachorse_model.specs.Units.{char_width}
use Rattle.daachorse_model.specs.Dictionary.{Dictionary}
use Rattle.daachorse_array.specs.Machines.{Machine, content as machine_content}
use Rattle.daachorse_charwise_states.specs.Codings.{Coding, code_of}
use Rattle.daachorse_charwise_states.specs.declared.state.State.{State}
use Rattle.daachorse_charwise_states.specs.Elements.{base_in, check_in, fail_in, output_in, vacant}

pub record Parts (V : Type 0) : Type 0 where
  -- the searches that it is for
  pub kind : MatchKind
  -- the elements of the double array
  pub states : List State
  -- the codes of the characters
  pub coding : Coding
  pub outputs : List (Output V)
  -- how many texts begin a pattern, the empty one among them
  pub num_states : ℕ

-- What code c leads to from element i with this base, of n in a double array: the element `base XOR c`, if its check is i. A base of 0 leads nowhere.
abbrev pub child_by : ℕ → (ℕ → ℕ) → ℕ → ℕ → ℕ → Option ℕ
child_by n check i base c =
    let j = bit_xor base c in cond (base == 0) None (cond (nat_lt j n) (cond (check j == i) (Some j) None) None)

-- what code c leads to from element i, among these
abbrev pub child_among : List State → ℕ → ℕ → Option ℕ
child_among elements i c =
    child_by (length elements) (λ j. check_in (slice_index_or elements j vacant)) i (base_in (slice_index_or elements i vacant)) c

-- the code of a character; a number that is no character has none, whatever the table has for it
abbrev pub char_code : Coding → ℕ → Option ℕ
char_code coding u = cond (scalar u) (code_of coding u) None

-- what a character leads to from an element; one without a code leads nowhere, and so does a number that is no character
abbrev pub coded_child : List State → Coding → ℕ → ℕ → Option ℕ
coded_child elements coding i u = option_and_then (λ c. child_among elements i c) (char_code coding u)

module _ {V : Type 0} (p : Parts V) where
  -- the number of elements
  abbrev pub count : ℕ
  count = length p.states

  abbrev pub base_of : ℕ → ℕ
  base_of i = base_in (slice_index_or p.states i vacant)

  abbrev pub check_of : ℕ → ℕ
  check_of i = check_in (slice_index_or p.states i vacant)

  abbrev pub fail_of : ℕ → ℕ
  fail_of i = fail_in (slice_index_or p.states i vacant)

  abbrev pub output_of : ℕ → ℕ
  output_of i = output_in (slice_index_or p.states i vacant)

  -- what a character leads to from an element
  abbrev pub child : ℕ → ℕ → Option ℕ
  child = coded_child p.states p.coding

  abbrev pub machine : Machine V
  machine = record { child = child; fail = fail_of; output = output_of; outputs = p.outputs }

  -- the dictionary that the automaton holds
  abbrev pub content : Dictionary V
  content = machine_content char_width machine
