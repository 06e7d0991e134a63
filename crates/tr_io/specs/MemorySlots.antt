-- What the halves of a slot in memory tell.
use Rattle.std.specs.Prelude.{List, Option, length, take, map, option_map, ◌==◌}
use Rattle.tr_io.specs.declared.memory_session.MemorySession.{MemorySession}
use Rattle.tr_io.specs.declared.memory_slot_out.MemoryPiece.{MemoryPiece}
use Rattle.tr_io.specs.Sessions.{Session, SlotSessions}
use Rattle.tr_io.specs.Pieces.{Piece}

abbrev pub session_of : MemorySession → Session
session_of m =
    record {
      number = m.number;
      to = m.to;
      input = take m.read_count m.bytes.items;
      is_at_end =
          length m.bytes.items == m.read_count;
      greeting = m.greeting.items;
    }

abbrev pub sessions_of : List MemorySession → Option MemorySession → SlotSessions
sessions_of past_sessions present_session =
    record { past = map session_of past_sessions; present = option_map session_of present_session }

abbrev pub pieces_of : List MemoryPiece → List Piece
pieces_of pieces = map (λ p. record { session = p.session; bytes = p.bytes.items }) pieces
