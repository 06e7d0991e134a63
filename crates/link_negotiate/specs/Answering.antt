-- What the code answers, as what a side does at a cell.
use Rattle.std.specs.Prelude.{◌≡◌, map, All, Some, None}
use Rattle.cell_codec.specs.Cells.{wire_cell, IsWellFormed}
use Rattle.link_negotiate.specs.declared.answer.LinkAnswer.{LinkAnswer}
use Rattle.link_negotiate.specs.declared.answer.LinkAnswer.TheVariants.{Send, Ready, PassedOver, Refused, Memory}
use Rattle.link_negotiate.specs.Negotiation.{StepAnswer}
use Rattle.link_negotiate.specs.Negotiation.StepAnswer.{Sends, IsReady, PassesOver, Refuses}

-- What takes memory: to send cells.
abbrev pub WantsMemory : StepAnswer → Type 0
WantsMemory (Sends cells) = Unit {0}
WantsMemory (IsReady version cell) = ⊥
WantsMemory PassesOver = ⊥
WantsMemory (Refuses fault) = ⊥

-- Every cell that is given is well formed, and memory is wanting only where cells are to be sent.
abbrev pub AnswersAs : LinkAnswer → StepAnswer → Type 0
AnswersAs (Send cells) a = (a ≡ Sends (map wire_cell cells.items)) × All IsWellFormed cells.items
AnswersAs (Ready version None) a = a ≡ IsReady version None
AnswersAs (Ready version (Some c)) a = (a ≡ IsReady version (Some (wire_cell c))) × IsWellFormed c
AnswersAs PassedOver a = a ≡ PassesOver
AnswersAs (Refused fault) a = a ≡ Refuses fault
AnswersAs Memory a = WantsMemory a
