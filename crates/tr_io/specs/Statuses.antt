-- The exit statuses of the programs, and what a program says of its end.
use Rattle.std.specs.Prelude.{ℕ, List, [], ◌++◌, codes, Option, Some, None}
use Rattle.std.specs.Fmt.{decimal}
use Rattle.tr_io.specs.declared.phrase.Phrase.{Phrase}
use Rattle.tr_io.specs.declared.status.Status.{Status}
use Rattle.tr_io.specs.declared.status.Status.TheVariants.{Done, Usage, Settings, ReadFault, WriteFault, BadTape, NotBuilt, TooLong, DoorFault, CrewFault, Memory, LinkRefused, CircuitClosed, StreamEnded}

abbrev pub status_number : Status → ℕ
status_number Done = 0
status_number Usage = 1
status_number (Settings rule) = 2
status_number ReadFault = 3
status_number WriteFault = 4
status_number (BadTape place) = 5
status_number (NotBuilt kind) = 6
status_number TooLong = 7
status_number DoorFault = 8
status_number CrewFault = 9
status_number Memory = 10
status_number (LinkRefused cause) = 11
status_number (CircuitClosed cause) = 12
status_number (StreamEnded reason) = 13

-- The text, with numbers in decimal.
abbrev pub status_text : Status → List ℕ
status_text Done = []
status_text Usage = codes "usage"
status_text (Settings rule) = codes "settings rule " ++ decimal rule
status_text ReadFault = codes "read fault"
status_text WriteFault = codes "write fault"
status_text (BadTape place) = codes "bad tape at " ++ decimal place
status_text (NotBuilt kind) = codes "kind " ++ decimal kind ++ codes " not built"
status_text TooLong = codes "too long"
status_text DoorFault = codes "door fault"
status_text CrewFault = codes "crew fault"
status_text Memory = codes "out of memory"
status_text (LinkRefused cause) = codes "link refused " ++ decimal cause
status_text (CircuitClosed cause) = codes "circuit closed " ++ decimal cause
status_text (StreamEnded reason) = codes "stream ended " ++ decimal reason

-- A phrase's words, with its number, if there is one, in decimal.
abbrev pub number_text : Option ℕ → List ℕ
number_text None = []
number_text (Some n) = decimal n

abbrev pub phrase_text : Phrase → List ℕ
phrase_text phrase = phrase.front.now ++ (number_text phrase.number ++ phrase.tail.now)
