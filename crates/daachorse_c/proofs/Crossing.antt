-- What a handle keeps says the same to every thread: an automaton, and where its stream stands, whose counts take no bytes, with what it has to know of the automaton.
use denote.Param.Send.{IsSend, IsSync, enum_send, enum_sync, recorded_send, recorded_sync, sendable, struct_send, view_send}
use denote.Builtin.{u8}
use denote.Text.{Char}
use denote.RattleType.{RattleType}
use denote.Struct.Declared.{shape}
use denote.Enum.Declared.{shape as enum_shape}
use Rattle.core.proofs.snapshot.Sent.{snapshot_send}
use Rattle.core.proofs.option.Option.TheSendSync as option
use Rattle.core.specs.declared.cmp.Ord as ord
use Rattle.core.specs.declared.cmp.PartialEq as equal
use Rattle.core.specs.declared.cmp.PartialOrd as partial
use Rattle.core.specs.contracts.cmp.numbers.U8Ord.TheImpl as byte_ord
use Rattle.core.specs.contracts.cmp.numbers.U8PartialEq.TheImpl as byte_equal
use Rattle.core.specs.contracts.cmp.numbers.U8PartialOrd.TheImpl as byte_partial
use Rattle.core.specs.contracts.cmp.text.CharOrd.TheImpl as char_ord
use Rattle.core.specs.contracts.cmp.text.CharPartialEq.TheImpl as char_equal
use Rattle.core.specs.contracts.cmp.text.CharPartialOrd.TheImpl as char_partial
use Rattle.std.proofs.num.nonzero.NonZeroU32.TheSendSync as nonzero
use Rattle.std.proofs.alloc.Global.TheSendSync as heap
use Rattle.std.specs.contracts.alloc.Global as Heap
use Rattle.std.specs.contracts.impls.GlobalAllocator.TheImpl.{ghosts}
use Rattle.std.proofs.Crossing.{Arc-send, Deque-send, Vec-send, frees}
use Rattle.daachorse_core.specs.contracts.counter.Counter as counter
use Rattle.daachorse_core.specs.contracts.turns.Turns as turns
use Rattle.daachorse_core.specs.contracts.turns.Seen as seen
use Rattle.daachorse_core.specs.contracts.edge_label.CharEdgeLabel.TheImpl as char_edge
use Rattle.daachorse_core.specs.contracts.edge_label.U8EdgeLabel.TheImpl as byte_edge
use Rattle.daachorse_core.specs.declared.edge_label.EdgeLabel as edge
use Rattle.daachorse_search.specs.contracts.walk.Standing as walk
use Rattle.daachorse_search.specs.contracts.find_stepper.FindStanding as find
use Rattle.daachorse_search.specs.contracts.find_stepper.FindStanding.TheInside as find_inside
use Rattle.daachorse_streams.specs.contracts.leftmost_standing.LeftmostStanding as leftmost
use Rattle.daachorse_streams.specs.contracts.leftmost_standing.LeftmostStanding.TheInside as leftmost_inside
use Rattle.daachorse_streams.specs.contracts.scan.Pending as pending
use Rattle.daachorse_streams.specs.contracts.scan.Scan as scan
use Rattle.daachorse_streams.specs.contracts.search.Search as searching
use Rattle.daachorse_streams.specs.contracts.stream_marks.StreamMarks as marks
use Rattle.daachorse.proofs.automaton.AhoCorasick.TheSendSync as over
use Rattle.daachorse.proofs.bytewise.Plain.TheSendSync as plain_bytes
use Rattle.daachorse.proofs.bytewise.accelerated.Rowed.TheSendSync as rowed_bytes
use Rattle.daachorse.proofs.charwise.Plain.TheSendSync as plain_characters
use Rattle.daachorse.proofs.charwise.accelerated.Rowed.TheSendSync as rowed_characters
use Rattle.daachorse_c.specs.contracts.automaton.Searcher as automaton
use Rattle.daachorse_c.specs.contracts.automaton.Searcher.TheInside as inside
use Rattle.daachorse_c.specs.contracts.partial.Partial as partial_unit
use Rattle.daachorse_c.specs.contracts.partial.Partial.TheInside as partial_inside
use Rattle.daachorse_c.specs.contracts.bytewise.Bytewise as bytewise
use Rattle.daachorse_c.specs.contracts.charwise.Charwise as charwise
use Rattle.daachorse_c.specs.contracts.searches.Searches as searches
use Rattle.daachorse_c.specs.contracts.stepper.Standing as standing
use Rattle.daachorse_c.specs.contracts.stream.Stream as stream
use Rattle.daachorse_c.specs.contracts.streams.Streams as streams
use Rattle.daachorse_c.specs.contracts.overlapping_stream.OverlappingStreamStanding as overlapping_stream

counter_send : IsSend counter.the_row
counter_send = let s = snapshot_send in search sendable depth 20

turns_send : IsSend turns.the_row
turns_send = let s = counter_send in search sendable depth 20

seen_send : IsSend seen.the_row
seen_send = let s = snapshot_send in search sendable depth 20

walk_send : IsSend walk.the_row
walk_send = let t = turns_send in let s = seen_send in search sendable depth 20

find_send : IsSend find.the_row
find_send =
    let o = option.the_field_send _ nonzero.the_send in
    view_send _ _ _ _ _ (recorded_send find_inside.the_field.row _ _ find_inside.the_type.to_one (struct_send (shape find_inside.the_type) (walk_send, (o, (search sendable, (o, tt))))))

overlapping_send : IsSend overlapping_stream.the_field.row
overlapping_send =
    let o = option.the_field_send _ nonzero.the_send in
    struct_send (shape overlapping_stream.the_type) (walk_send, (search sendable, (search sendable, (o, tt))))

pending_send : IsSend pending.the_row
pending_send = recorded_send pending.the_field.row _ _ pending.the_type.to_one (struct_send (shape pending.the_type) (nonzero.the_field_send, (search sendable, tt)))

scan_send : IsSend scan.the_field.row
scan_send = struct_send (shape scan.the_type) (search sendable, (search sendable, (option.the_field_send _ pending_send, (search sendable, tt))))

searching_send : (unit : RattleType) → IsSend unit → IsSend (searching.the_field unit Heap.the_row ghosts).row
searching_send unit sent =
    struct_send (shape (searching.the_type unit Heap.the_row ghosts))
    (Deque-send unit sent, (search sendable, (scan_send, (search sendable, (search sendable, (search sendable, (turns_send, (seen_send, tt))))))))

leftmost_send : (unit : RattleType) → IsSend unit
    → (e : edge.Ghosts unit.Denot) (o : ord.Ghosts unit.Denot) (p : equal.Ghosts unit.Denot) (q : partial.Ghosts unit.Denot)
    → IsSend (leftmost.the_row unit Heap.the_row e o p q ghosts)
leftmost_send unit sent e o p q =
    view_send _ _ _ _ _ (recorded_send (leftmost_inside.the_field unit Heap.the_row e o p q ghosts).row _ _
    (leftmost_inside.the_type unit Heap.the_row e o p q ghosts).to_one
    (struct_send (shape (leftmost_inside.the_type unit Heap.the_row e o p q ghosts)) (searching_send unit sent, (search sendable, tt))))

marks_send : IsSend (marks.the_field Heap.the_row ghosts).row
marks_send = struct_send (shape (marks.the_type Heap.the_row ghosts)) (Vec-send _ (search sendable), (search sendable, tt))

standing_send : (unit : RattleType) → IsSend unit
    → (e : edge.Ghosts unit.Denot) (o : ord.Ghosts unit.Denot) (p : equal.Ghosts unit.Denot) (q : partial.Ghosts unit.Denot)
    → IsSend (standing.the_field unit e o p q).row
standing_send unit sent e o p q = enum_send (enum_shape (standing.the_type unit e o p q)) ((find_send, (search sendable, tt)), ((overlapping_send, tt), ((leftmost_send unit sent e o p q, tt), tt)))

partial_send : IsSend partial_unit.the_row
partial_send = view_send _ _ _ _ _ (recorded_send partial_inside.the_field.row _ _ partial_inside.the_type.to_one (struct_send (shape partial_inside.the_type) (search sendable, (search sendable, tt))))

stream_send : (unit : RattleType) → IsSend unit
    → (e : edge.Ghosts unit.Denot) (o : ord.Ghosts unit.Denot) (p : equal.Ghosts unit.Denot) (q : partial.Ghosts unit.Denot)
    → IsSend (stream.the_field unit e o p q).row
stream_send unit sent e o p q = struct_send (shape (stream.the_type unit e o p q)) (standing_send unit sent e o p q, (partial_send, (marks_send, (search sendable, (search sendable, tt)))))

streams_send : IsSend streams.the_row
streams_send =
    let bytes = stream_send u8 (search sendable) byte_edge.ghosts byte_ord.ghosts byte_equal.ghosts byte_partial.ghosts in
    let characters = stream_send Char (search sendable) char_edge.ghosts char_ord.ghosts char_equal.ghosts char_partial.ghosts in
    recorded_send streams.the_field.row _ _ streams.the_type.to_one
    (enum_send (enum_shape streams.the_type) ((bytes, tt), ((characters, tt), tt)))

bytewise_send : IsSend bytewise.the_field.row
bytewise_send = let a = heap.the_send in let f = frees in search (sendable, over.the_send, plain_bytes.the_send, rowed_bytes.the_send) depth 20

charwise_send : IsSend charwise.the_field.row
charwise_send = let a = heap.the_send in let f = frees in search (sendable, over.the_send, plain_characters.the_send, rowed_characters.the_send) depth 20

searches_send : IsSend searches.the_row
searches_send = recorded_send searches.the_field.row _ _ searches.the_type.to_one (enum_send (enum_shape searches.the_type) ((bytewise_send, tt), ((charwise_send, tt), tt)))

bytewise_sync : IsSync bytewise.the_field.row
bytewise_sync = let a = heap.the_sync in search (sendable, over.the_sync, plain_bytes.the_sync, rowed_bytes.the_sync) depth 20

charwise_sync : IsSync charwise.the_field.row
charwise_sync = let a = heap.the_sync in search (sendable, over.the_sync, plain_characters.the_sync, rowed_characters.the_sync) depth 20

searches_sync : IsSync searches.the_row
searches_sync = recorded_sync searches.the_field.row _ _ searches.the_type.to_one (enum_sync (enum_shape searches.the_type) ((bytewise_sync, tt), ((charwise_sync, tt), tt)))

pub automaton_send : IsSend automaton.the_row
automaton_send =
    let a = Arc-send searches.the_row searches_send searches_sync in
    view_send _ _ _ _ _ (recorded_send inside.the_field.row _ _ inside.the_type.to_one (struct_send (shape inside.the_type) (a, (option.the_field_send _ streams_send, tt))))
