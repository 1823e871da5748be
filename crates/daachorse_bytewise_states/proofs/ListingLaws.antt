-- What a walk over the patterns of valid parts gives is the listing of their dictionary.
use Rattle.std.proofs.Common.{ℕ, ◌<◌, List}
use Rattle.daachorse_model.specs.Kinds.{is_leftmost}
use Rattle.daachorse_model.specs.Prefixes.{IsListing}
use Rattle.daachorse_model.specs.Units.{byte_width}
use Rattle.daachorse_array.specs.Listing.{HasPatterns, IsPatterns, own_end}
use Rattle.daachorse_array.proofs.MachineListings.{machine_listing, machine_patterns}
use Rattle.daachorse_bytewise_states.specs.Parts.{Parts, child, content, count, fail_of, machine, output_of}
use Rattle.daachorse_bytewise_states.specs.Valid.{IsValid}
use Rattle.daachorse_bytewise_states.specs.Edges.{group_of, edge_of}
use Rattle.daachorse_bytewise_states.proofs.ByteLaws.{valid_machine}
use Rattle.daachorse_bytewise_states.proofs.EdgeLaws.{valid_tells}

module _ {V : Type 0} (p : Parts V) (valid : IsValid p) where
  pub valid_patterns : p.num_states < 4294967296 → HasPatterns (child p) (group_of p) (edge_of p) (count p) 256 p.outputs (output_of p) (own_end (fail_of p) (output_of p))
  valid_patterns few = machine_patterns byte_width (machine p) (is_leftmost p.kind) (count p) 256 (valid_machine p valid) p.num_states valid.sound.counted few (group_of p) (edge_of p) (valid_tells p valid)

  pub patterns_listing : (entries : List (List ℕ × V)) → IsPatterns (child p) (count p) 256 p.outputs (output_of p) (own_end (fail_of p) (output_of p)) entries → IsListing (content p) entries
  patterns_listing = machine_listing byte_width (machine p) (is_leftmost p.kind) (count p) 256 (valid_machine p valid)
