-- Where nothing waits on a leg, all that it may send was sent.
use Rattle.std.proofs.Common.{◌≡◌, ℕ, true, List, [], ◌++◌, sym, ◌∙◌, ap}
use Rattle.std.proofs.lemmas.List.{append-nil}
use Rattle.tr_io.specs.declared.step.Step.{Step}
use Rattle.switch_model.specs.Start.{SwitchStart}
use Rattle.switch_model.specs.History.Legs.{holds_id}
use Rattle.switch_model.specs.History.Circuit.{is_live_circuit, sent}
use Rattle.switch_model.specs.Waiting.Queues.{circuit_log, sealed_count, sendable, queue}
use Rattle.switch_model.specs.Legal.{IsLegal}
use Rattle.switch_model.proofs.Waits.{sent_and_queued}
use Rattle.switch_model.proofs.SentBegins.{sent-begins}

pub all_sent : (start : SwitchStart) (h : List Step) (c k : ℕ) → IsLegal start h → is_live_circuit start.rules h c ≡ true
    → holds_id h c k ≡ true → queue start.rules h c k ≡ [] →
    sent start.rules h c k ≡ sendable (circuit_log start.rules h c) (sealed_count h c) k
all_sent start h c k legal alive holds none =
    let begins = sent-begins start h legal c k in
    sym (append-nil (sent start.rules h c k)) ∙ ap (λ l. sent start.rules h c k ++ l) (sym none)
    ∙ sent_and_queued start.rules h c k begins.rest alive holds begins.all
