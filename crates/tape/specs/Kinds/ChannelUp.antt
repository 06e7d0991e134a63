-- Kind 01, `channel_up`: its fields, how they are read, and its answer.
use Rattle.std.specs.Prelude.{◌<◌, ℕ, ◌^◌, ◌++◌, List, [], ◌∷◌, length, ◌==◌, nat_lt, if◌then◌else◌, drop, slice_index}
use Rattle.std.specs.Int.{w32, w64, from_be_bytes, to_be_bytes}
use Rattle.tr_io.specs.declared.names.Side.TheVariants.{PeerOpened, WeOpened}
use Rattle.tape.specs.declared.record.Record.TheVariants.{ChannelUp}
use Rattle.tr_io.specs.declared.answers.UpAnswer.{UpAnswer}
use Rattle.tr_io.specs.declared.answers.UpAnswer.TheVariants as Ups
use Rattle.tr_io.specs.declared.names.Side.{Side}
use Rattle.tape.specs.Fronts.{FrontOf, record_and, less, no_record, field}

-- The side that opened the connection: 00 the peer, 01 we.
abbrev pub side_byte : Side → ℕ
side_byte PeerOpened = 0
side_byte WeOpened = 1

-- Slot (4 bytes), side (1).
abbrev pub channel_up_spelling : ℕ → Side → List ℕ
channel_up_spelling slot side = 1 ∷ (to_be_bytes w32 slot ++ side_byte side ∷ [])

abbrev pub ChannelUpFits : ℕ → Type 0
ChannelUpFits slot = slot < 2 ^ 32

unfoldable pub channel_up_front : List ℕ → FrontOf
channel_up_front fields =
    if nat_lt (length fields) 5 then less
    else (if slice_index fields 4 == 0
    then record_and (ChannelUp (from_be_bytes w32 (field 0 4 fields)) PeerOpened) (drop 5 fields)
    else (if slice_index fields 4 == 1
    then record_and (ChannelUp (from_be_bytes w32 (field 0 4 fields)) WeOpened) (drop 5 fields)
    else no_record))

-- 00 and the channel (8 bytes), or 01 and how many are live (4).
abbrev pub up_bytes : UpAnswer → List ℕ
up_bytes (Ups.Up chan) = 1 ∷ 0 ∷ to_be_bytes w64 chan.0
up_bytes (Ups.Full count) = 1 ∷ 1 ∷ to_be_bytes w32 count
up_bytes Ups.Memory = []
