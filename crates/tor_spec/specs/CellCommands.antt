-- The commands of cells (tor-spec, "Cell format"; for PADDING_NEGOTIATE padding-spec).
use Rattle.std.specs.Prelude.{ℕ, Bool, ◌==◌, ◌||◌}

-- Cells with a fixed length.

abbrev pub padding_command : ℕ
padding_command = 0

abbrev pub create_command : ℕ
create_command = 1

abbrev pub created_command : ℕ
created_command = 2

abbrev pub relay_command : ℕ
relay_command = 3

abbrev pub destroy_command : ℕ
destroy_command = 4

abbrev pub create_fast_command : ℕ
create_fast_command = 5

abbrev pub created_fast_command : ℕ
created_fast_command = 6

abbrev pub netinfo_command : ℕ
netinfo_command = 8

abbrev pub relay_early_command : ℕ
relay_early_command = 9

abbrev pub create2_command : ℕ
create2_command = 10

abbrev pub created2_command : ℕ
created2_command = 11

abbrev pub padding_negotiate_command : ℕ
padding_negotiate_command = 12

-- Cells with a length of their own.

abbrev pub versions_command : ℕ
versions_command = 7

abbrev pub vpadding_command : ℕ
vpadding_command = 128

abbrev pub certs_command : ℕ
certs_command = 129

abbrev pub auth_challenge_command : ℕ
auth_challenge_command = 130

abbrev pub authenticate_command : ℕ
authenticate_command = 131

abbrev pub authorize_command : ℕ
authorize_command = 132

-- CREATE, CREATE_FAST and CREATE2 ask for a circuit.
abbrev pub asks_for_circuit : ℕ → Bool
asks_for_circuit command =
    (command == create_command) || ((command == create_fast_command) || (command == create2_command))

-- CREATED_FAST and CREATED2 say that it is open.
abbrev pub opens_circuit : ℕ → Bool
opens_circuit command = (command == created_fast_command) || (command == created2_command)
