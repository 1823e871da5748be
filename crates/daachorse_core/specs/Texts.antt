-- What each error prints, and its kind as an error of input and output.
use Rattle.std.specs.Prelude.{ℕ, List, ◌++◌, codes}
use Rattle.std.specs.declared.io.ErrorKind.{ErrorKind}
use Rattle.std.specs.declared.io.ErrorKind.TheVariants.{InvalidData, InvalidInput, OutOfMemory as NoMemory}
use Rattle.daachorse_core.specs.declared.errors.Limit.{Limit}
use Rattle.daachorse_core.specs.declared.errors.Limit.TheVariants.{PatternValues, StateId, NumElements, Outputs, OutputPos}
use Rattle.daachorse_core.specs.declared.errors.DaachorseError.{DaachorseError}
use Rattle.daachorse_core.specs.declared.errors.DaachorseError.TheVariants.{InvalidArgument, AutomatonScale, InvalidConversion, InvalidAutomaton, OutOfMemory}

abbrev pub argument_text : List ℕ
argument_text = codes "InvalidArgumentError: pattern.len() must be <= 4294967295"

-- what is limited, and by how much
abbrev pub limit_text : Limit → List ℕ
limit_text PatternValues = codes "patvals.len() must be <= 16777215"
limit_text StateId = codes "state_id must be <= 4294967295"
limit_text NumElements = codes "num_elements must be <= 4294967295"
limit_text Outputs = codes "outputs.len() must be <= 4294967295"
limit_text OutputPos = codes "output_pos must be <= 16777215"

abbrev pub scale_text : Limit → List ℕ
scale_text limit = codes "AutomatonScaleError: " ++ limit_text limit

abbrev pub conversion_text : List ℕ
conversion_text = codes "InvalidConversionError: index cannot be converted to V"

abbrev pub automaton_text : List ℕ
automaton_text = codes "InvalidAutomatonError: invalid serialized automaton"

abbrev pub memory_text : List ℕ
memory_text = codes "OutOfMemoryError: memory allocation failed"

abbrev pub duplicate_text : List ℕ → List ℕ
duplicate_text pattern = codes "DuplicatePatternError: " ++ pattern

-- an error prints what its struct prints
abbrev pub error_text : DaachorseError → List ℕ
error_text (InvalidArgument _) = argument_text
error_text (AutomatonScale e) = scale_text e.limit
error_text (InvalidConversion _) = conversion_text
error_text (InvalidAutomaton _) = automaton_text
error_text (OutOfMemory _) = memory_text

abbrev pub io_kind : DaachorseError → ErrorKind
io_kind (InvalidArgument _) = InvalidInput
io_kind (AutomatonScale _) = InvalidInput
io_kind (InvalidConversion _) = InvalidInput
io_kind (InvalidAutomaton _) = InvalidData
io_kind (OutOfMemory _) = NoMemory
