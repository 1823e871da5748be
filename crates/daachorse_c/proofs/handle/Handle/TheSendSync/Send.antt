-- What a handle owns says the same to every thread.
use base.Fraction.{full_share}
use base.Shift.{Keyless}
use mir.Raw.{raw}
use denote.Memory.{lone}
use denote.Param.Send.{IsSend, part_keyless}
use denote.RawPtr.{Ptr, block_ptr, null_ptr}
use Rattle.std.specs.Prelude.{Option, None, Some}
use Rattle.std.specs.declared.alloc.Global.{Global}
use Rattle.std.specs.contracts.impls.GlobalAllocator.TheImpl.{ghosts}
use Rattle.std.proofs.alloc.Global.TheSendSync as heap
use Rattle.std.proofs.Crossing.{frees}
use Rattle.daachorse_c.specs.Handle.{held_owns}
use Rattle.daachorse_c.specs.contracts.automaton.Searcher as automaton
use Rattle.daachorse_c.specs.contracts.handle.Handle.{the_row}
use Rattle.daachorse_c.proofs.Crossing.{automaton_send}

held_keyless : (a : Global) (p : Ptr) (m : Option automaton.the_row.Denot) → Keyless (held_owns (ghosts.dealloc_token a) automaton.the_row p m)
held_keyless a p None = λ _. tt
held_keyless a null_ptr (Some x) = (tt, frees.frees a (raw (lone automaton.the_row.mir)) null_ptr)
held_keyless a (block_ptr b o) (Some x) = (part_keyless automaton.the_row automaton_send full_share x b o, frees.frees a (raw (lone automaton.the_row.mir)) (block_ptr b o))

pub send : IsSend the_row
send = record { owned = λ d vs. ((λ vss. (tt, (tt, (heap.the_field_send.owned _ vss.1.0, tt)))), held_keyless d.alloc d.at d.automaton); leaving = λ k d w. tt }
