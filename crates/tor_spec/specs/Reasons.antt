-- Why circuits and streams end, and what a name resolves to: the numbers that this relay writes.
use Rattle.std.specs.Prelude.{ℕ}

-- Of a DESTROY, and of a TRUNCATED (tor-spec, "Tearing down circuits").

abbrev pub destroy_protocol : ℕ
destroy_protocol = 1

abbrev pub destroy_internal : ℕ
destroy_internal = 2

abbrev pub destroy_requested : ℕ
destroy_requested = 3

abbrev pub destroy_resource_limit : ℕ
destroy_resource_limit = 5

abbrev pub destroy_connect_failed : ℕ
destroy_connect_failed = 6

abbrev pub destroy_channel_closed : ℕ
destroy_channel_closed = 8

abbrev pub destroy_destroyed : ℕ
destroy_destroyed = 11

-- Of an END (tor-spec, "Closing streams").

abbrev pub end_misc : ℕ
end_misc = 1

abbrev pub end_exit_policy : ℕ
end_exit_policy = 4

abbrev pub end_destroy : ℕ
end_destroy = 5

abbrev pub end_resource_limit : ℕ
end_resource_limit = 11

abbrev pub end_tor_protocol : ℕ
end_tor_protocol = 13

abbrev pub end_not_directory : ℕ
end_not_directory = 14

-- Types of the answers in a RESOLVED (tor-spec, "Remote hostname lookup").

abbrev pub resolved_ipv4 : ℕ
resolved_ipv4 = 4

-- An error that will last.
abbrev pub resolved_lasting_error : ℕ
resolved_lasting_error = 241
