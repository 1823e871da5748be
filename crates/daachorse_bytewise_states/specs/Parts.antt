-- What an automaton over bytes stores, and the machine that it is.
use Rattle.std.specs.Prelude.{ℕ, ◌==◌, bit_xor, nat_lt, cond, List, [], length, map, slice_index, slice_index_or, Option, Some, None}
use Rattle.daachorse_core.specs.declared.outputs.Empty.{Empty}
use Rattle.daachorse_core.specs.declared.outputs.Output.{Output}
use Rattle.daachorse_model.specs.declared.MatchKind.{MatchKind}
use Rattle.daachorse_model.specs.Kinds.{is_leftmost}
use Rattle.daachorse_model.specs.Units.{byte_width}
use Rattle.daachorse_model.specs.Dictionary.{Dictionary}
use Rattle.daachorse_array.specs.Machines.{Machine, content as machine_content}
use Rattle.daachorse_bytewise_states.specs.declared.state.State.{State}
use Rattle.daachorse_bytewise_states.specs.Elements.{base_in, check_in, fail_in, output_in, vacant, vacant_left, word_in}

pub record Parts (V : Type 0) : Type 0 where
  -- the searches that it is for
  pub kind : MatchKind
  -- the elements of the double array, if the searches are standard
  pub standard : List (State ℕ)
  -- the elements, if the searches are leftmost, and their links
  pub leftmost : List (State Empty)
  pub fails : List ℕ
  pub outputs : List (Output V)
  -- how many texts begin a pattern, the empty one among them
  pub num_states : ℕ

-- What byte c leads to from an element with this base, of n in a double array: the element `base XOR c`, if its check is c. A base of 0 leads nowhere.
abbrev pub child_by : ℕ → ℕ → (ℕ → ℕ) → ℕ → Option ℕ
child_by n base check c =
    let j = bit_xor base c in cond (base == 0) None (cond (nat_lt j n) (cond (check j == c) (Some j) None) None)

-- what it leads to from element i
abbrev pub child_by_check : ℕ → (ℕ → ℕ) → (ℕ → ℕ) → ℕ → ℕ → Option ℕ
child_by_check n base check i c = child_by n (base i) check c

-- the same among these elements, where `default` stands past the last
abbrev pub child_among : {F : Type 0} → State F → List (State F) → ℕ → ℕ → Option ℕ
child_among default elements =
    child_by_check (length elements) (λ i. base_in (slice_index_or elements i default)) (λ i. check_in (slice_index_or elements i default))

module _ {V : Type 0} (p : Parts V) where
  -- the number of elements
  abbrev pub count : ℕ
  count = cond (is_leftmost p.kind) (length p.leftmost) (length p.standard)

  abbrev pub base_of : ℕ → ℕ
  base_of i = cond (is_leftmost p.kind) (base_in (slice_index_or p.leftmost i vacant_left)) (base_in (slice_index_or p.standard i vacant))

  abbrev pub check_of : ℕ → ℕ
  check_of i = cond (is_leftmost p.kind) (check_in (slice_index_or p.leftmost i vacant_left)) (check_in (slice_index_or p.standard i vacant))

  abbrev pub output_of : ℕ → ℕ
  output_of i = cond (is_leftmost p.kind) (output_in (slice_index_or p.leftmost i vacant_left)) (output_in (slice_index_or p.standard i vacant))

  -- the word of an element for the standard searches
  abbrev pub word_at : ℕ → ℕ
  word_at i = word_in (slice_index_or p.standard i vacant)

  abbrev pub fail_of : ℕ → ℕ
  fail_of i = cond (is_leftmost p.kind) (slice_index p.fails i) (fail_in (slice_index_or p.standard i vacant))

  -- what a byte leads to from an element
  abbrev pub child : ℕ → ℕ → Option ℕ
  child = child_by_check count base_of check_of

  abbrev pub machine : Machine V
  machine = record { child = child; fail = fail_of; output = output_of; outputs = p.outputs }

  -- the dictionary that the automaton holds
  abbrev pub content : Dictionary V
  content = machine_content byte_width machine

-- an element whose link stands elsewhere
abbrev pub without_link : State ℕ → State Empty
without_link e = record { base = e.base; fail = record {}; packed = e.packed }

-- the parts that these lists make up
abbrev pub parts_with : {V : Type 0} → MatchKind → List (State ℕ) → List (State Empty) → List ℕ → List (Output V) → ℕ → Parts V
parts_with kind standard leftmost fails outputs n =
    record { kind = kind; standard = standard; leftmost = leftmost; fails = fails; outputs = outputs; num_states = n }

-- the parts that elements with their links make up
abbrev pub parts_of : {V : Type 0} → MatchKind → List (State ℕ) → List (Output V) → ℕ → Parts V
parts_of kind elements outputs n =
    let left = is_leftmost kind in
    parts_with kind (cond left [] elements) (cond left (map without_link elements) []) (cond left (map fail_in elements) []) outputs n
