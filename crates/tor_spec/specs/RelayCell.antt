-- Relay cells (tor-spec, "Relay cells"): what the 509 bytes of a relay cell's body hold once
-- every layer of encryption is off. Bytes are numbers below 256, numbers are big-endian.
use Rattle.std.specs.Prelude.{ℕ, ◌+◌, ◌-◌, [], ◌∷◌, ◌++◌, List, length, Bool, nat_le, take, drop, replicate, slice_index, slice_range}
use Rattle.std.specs.Int.{w16, to_be_bytes, from_be_bytes}

-- The fields in front of the data.
pub record RelayHead : Type 0 where
  pub command : ℕ
  pub recognized : ℕ
  pub stream : ℕ
  pub digest : List ℕ
  pub length : ℕ

-- Command (1 byte), Recognized (2), StreamID (2), Digest (4), Length (2).
unfoldable pub relay_head : List ℕ → RelayHead
relay_head body = record {
  command = slice_index body 0;
  recognized = from_be_bytes w16 (slice_range body 1 3);
  stream = from_be_bytes w16 (slice_range body 3 5);
  digest = slice_range body 5 9;
  length = from_be_bytes w16 (slice_range body 9 11);
}

-- The data has room for 498 bytes; a greater Length is no relay cell.
unfoldable pub fits_length : List ℕ → Bool
fits_length body = nat_le (relay_head body).length 498

-- The data: Length bytes behind the head. What follows them is padding.
unfoldable pub payload_of : List ℕ → List ℕ
payload_of body = take (relay_head body).length (drop 11 body)

-- The head of a cell whose Recognized and Digest are zero.
unfoldable pub relay_head_bytes : ℕ → ℕ → ℕ → List ℕ
relay_head_bytes command stream size =
    command ∷ 0 ∷ 0 ∷ to_be_bytes w16 stream ++ (0 ∷ 0 ∷ 0 ∷ 0 ∷ []) ++ to_be_bytes w16 size

-- The body that a sender begins with: Recognized and Digest are zero, the padding too.
unfoldable pub relay_body : ℕ → ℕ → List ℕ → List ℕ
relay_body command stream payload =
    relay_head_bytes command stream (length payload) ++ payload ++ replicate (498 - length payload) 0

-- What the head of such a body says.
abbrev pub unsealed_head : ℕ → ℕ → ℕ → RelayHead
unsealed_head command stream size =
    record { command = command; recognized = 0; stream = stream; digest = 0 ∷ 0 ∷ 0 ∷ 0 ∷ []; length = size }

-- The body with its Digest field, at offsets 5 to 8, set to these four bytes.
unfoldable pub with_digest : List ℕ → List ℕ → List ℕ
with_digest body first_four = take 5 body ++ first_four ++ drop 9 body

-- The body with the bytes of another one as its padding. The payload ends with up to four zero bytes
-- (tor-spec, "Relay cells"), which stay.
unfoldable pub with_padding : List ℕ → List ℕ → List ℕ
with_padding body from =
    take (15 + (relay_head body).length) body ++ drop (15 + (relay_head body).length) from

-- The relay commands.
abbrev pub begin_command : ℕ
begin_command = 1

abbrev pub data_command : ℕ
data_command = 2

abbrev pub end_command : ℕ
end_command = 3

abbrev pub connected_command : ℕ
connected_command = 4

abbrev pub sendme_command : ℕ
sendme_command = 5

abbrev pub truncate_command : ℕ
truncate_command = 8

abbrev pub truncated_command : ℕ
truncated_command = 9

abbrev pub drop_command : ℕ
drop_command = 10

abbrev pub resolve_command : ℕ
resolve_command = 11

abbrev pub resolved_command : ℕ
resolved_command = 12

abbrev pub begin_dir_command : ℕ
begin_dir_command = 13

abbrev pub extend2_command : ℕ
extend2_command = 14

abbrev pub extended2_command : ℕ
extended2_command = 15
