-- The rules of a tape's switch, and how a tape says them in front of its records. Numbers are
-- big-endian.
use Rattle.std.specs.Prelude.{◌≡◌, ◌⊎◌, ◌≤◌, ℕ, List, [], ◌∷◌, ◌++◌, length, Bool, ◌==◌, ◌&&◌, nat_le, nat_lt, if◌then◌else◌, drop, slice_index, codes}
use Rattle.std.specs.Int.{w16, from_be_bytes, to_be_bytes}
use Rattle.circuit_model.specs.Rules.{Rules}
use Rattle.tor_spec.specs.CircuitWindow.{circuit_start, least_start}
use Rattle.tape.specs.declared.rules.RulesFront.{RulesFront}
use Rattle.tape.specs.declared.rules.RulesFront.TheVariants.{Whole, Cut, Bad}
use Rattle.tape.specs.Fronts.{field}

-- echo.test, port 7, leads to 127.0.0.1, port 7. A circuit may package so many DATA cells before its
-- first SENDME, and a circuit's SENDME has this version at least.
abbrev pub tape_rules : ℕ → ℕ → Rules
tape_rules window least = record {
  allow = record {
    host = codes "echo.test";
    port = 7;
    to = record { ip = 127 ∷ 0 ∷ 0 ∷ 1 ∷ []; port = 7 };
  } ∷ [];
  window = window;
  least = least;
}

-- A tape that says no rules has these: the standard's window, and each SENDME with its proof.
abbrev pub standard_rules : Rules
standard_rules = tape_rules circuit_start 1

-- What a tape begins with, in front of its records: rules, and the bytes behind them; less than rules;
-- or bytes that are none.
pub data RulesFrontOf : Type 0 where
  rules_and : Rules → List ℕ → RulesFrontOf
  less_than_rules : RulesFrontOf
  no_rules : RulesFrontOf

abbrev pub are_rules : ℕ → ℕ → ℕ → Bool
are_rules window least last =
    (nat_le least_start window && nat_le window circuit_start) && (nat_le least 1 && (last == 0))

-- 10: window (2 bytes), least version (1), a zero byte.
unfoldable pub said_rules : List ℕ → RulesFrontOf
said_rules fields =
    if nat_lt (length fields) 4 then less_than_rules
    else (if are_rules (from_be_bytes w16 (field 0 2 fields)) (slice_index fields 2) (slice_index fields 3)
    then rules_and (tape_rules (from_be_bytes w16 (field 0 2 fields)) (slice_index fields 2)) (drop 4 fields)
    else no_rules)

-- Only the tape's first byte may be kind 10.
unfoldable pub rules_ahead : List ℕ → RulesFrontOf
rules_ahead [] = rules_and standard_rules []
rules_ahead (kind ∷ fields) =
    if kind == 16 then said_rules fields else rules_and standard_rules (kind ∷ fields)

abbrev pub rules_spelling : ℕ → ℕ → List ℕ
rules_spelling window least = 16 ∷ (to_be_bytes w16 window ++ least ∷ 0 ∷ [])

-- The window and the least version are in their ranges.
pub record AreRules (window least : ℕ) : Type 0 where
  pub wide : least_start ≤ window
  pub within : window ≤ circuit_start
  pub version : least ≤ 1

-- The bytes say these rules, or say none, and then the rest stands.
abbrev pub SaysRules : List ℕ → Rules → List ℕ → Type 0
SaysRules bytes rules rest =
    ((rules ≡ standard_rules) × (bytes ≡ rest)) ⊎ (bytes ≡ rules_spelling rules.window rules.least ++ rest)

-- The code's front, by what its rest points to.
abbrev pub plain_rules_front : RulesFront → RulesFrontOf
plain_rules_front (Whole rules rest) = rules_and (tape_rules rules.window rules.least) rest.now
plain_rules_front Cut = less_than_rules
plain_rules_front Bad = no_rules

abbrev pub RulesFrontIs : RulesFront → RulesFrontOf → Type 0
RulesFrontIs front what = plain_rules_front front ≡ what

-- What is behind the rules has at most so many bytes.
abbrev pub RestIsWithin : RulesFront → ℕ → Type 0
RestIsWithin (Whole rules rest) n = length rest.now ≤ n
RestIsWithin Cut n = Unit {0}
RestIsWithin Bad n = Unit {0}
