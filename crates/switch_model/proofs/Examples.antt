-- The small histories are legal, and what follows from them.
use Rattle.std.proofs.Common.{◌≡◌, ℕ, ◌==◌, ◌<◌, nat_le, true, false, List, [], ◌∷◌, Some, None, map, refl}
use Rattle.cell_codec.specs.declared.cell.Cell.{Cell}
use Rattle.kdf_tor.specs.declared.LayerKeys.{LayerKeys}
use Rattle.circuit_model.specs.Effects.{open_effects}
use Rattle.circuit_model.specs.Rules.{Rules}
use Rattle.tor_spec.specs.CellCommands.{relay_command, destroy_command, created_fast_command}
use Rattle.tor_spec.specs.Reasons.{destroy_requested}
use Rattle.tr_io.specs.declared.answers.BackAnswer.{BackAnswer}
use Rattle.tr_io.specs.declared.answers.OpenAnswer.TheVariants.{Opened, Refused}
use Rattle.tr_io.specs.declared.answers.OpenRefusal.{OpenRefusal}
use Rattle.tr_io.specs.declared.answers.TakeAnswer.{TakeAnswer}
use Rattle.tr_io.specs.declared.answers.Why.{Why}
use Rattle.tr_io.specs.declared.step.Step.{Step}
use Rattle.tr_io.specs.declared.step.Step.TheVariants.{OpenCircuit, Take, TearDown}
use Rattle.switch_model.specs.Names.{chan_no, circ_no}
use Rattle.switch_model.specs.History.Channels.{channel_at, is_live_channel}
use Rattle.switch_model.specs.History.Legs.{circuits}
use Rattle.switch_model.specs.Answers.OpenCircuit.{is_in_use, is_peers_id, live_circuits, open_answer}
use Rattle.switch_model.specs.Answers.NextCell.{cell_at}
use Rattle.switch_model.specs.Start.{SwitchStart}
use Rattle.switch_model.specs.Legal.{IsLegal}
use Rattle.switch_model.specs.Waiting.Counts.{count_at, least_of}
use Rattle.switch_model.proofs.Common.{self_eq}
use Rattle.cell_codec.specs.Cells.{IsWellFormed}
use Rattle.std.specs.Prelude.{◌≤◌, length}
use Rattle.std.proofs.Common.{arith}
use Rattle.switch_model.specs.Conditions.{IsReply}
use Rattle.switch_model.specs.Examples.{peer_came, opened, nothing_left, ended_channel, quiet_switch, one_circuit, bad_id, torn_while_claimed, two_claimed, crossing_destroys, three_circuits, three_legs, leg_0, more_cells, cell_of, id_of}

-- the answer to an opening may be a reply
is-reply : (keys : LayerKeys) (id : ℕ) (reply : List ℕ)
    → IsReply (cell_at id (record { command = created_fast_command; body = reply })) (Some keys)
is-reply keys id reply = record { fixed = refl; command = refl }

-- a good opening on channel 0, where one circuit more may be live
opens : (start : SwitchStart) (h : List Step) (id : ℕ) (keys : LayerKeys) →
    is_live_channel h 0 ≡ true → (id == 0) ≡ false → is_in_use start.rules h 0 id ≡ false →
    is_peers_id (channel_at h 0) id ≡ true → live_circuits start.rules h < start.circuits →
    Opened (circ_no (circuits h)) ≡ open_answer start h 0 id (Some keys)
opens start h id keys up some_id unused peers room =
    let some_left : nat_le start.circuits (live_circuits start.rules h) ≡ false = grind arith in
    rw (up, some_id, unused, peers, some_left) refl

-- a cell of a circuit is well formed, if it isn't too long
fits : (c : ℕ) (body : List ℕ) → length body ≤ 65535 → IsWellFormed (cell_of c relay_command body)
fits c body short = record { kind = refl; size = short }

fits-destroy : (c : ℕ) (body : List ℕ) → length body ≤ 65535 → IsWellFormed (cell_of c destroy_command body)
fits-destroy c body short = record { kind = refl; size = short }

-- the first steps of most of them: a circuit is opened
first-opened : (start : SwitchStart) (keys : LayerKeys) (reply : List ℕ) → 1 ≤ start.circuits →
    IsLegal start (opened keys 0 reply ∷ peer_came ∷ [])
unfolding open_effects
first-opened start keys reply some =
    let room : 0 < start.circuits = omega (arith, some) in
    let answer = opens start (peer_came ∷ []) (id_of 0) keys refl refl refl refl room in
    ((is-reply keys (id_of 0) reply, answer), ((tt, refl), tt))

-- and behind them a cell of the circuit is taken
first-taken : (start : SwitchStart) (keys : LayerKeys) (reply body : List ℕ) → length body ≤ 65535 → 1 ≤ start.circuits →
    IsLegal start (Take (chan_no 0) (cell_of 0 relay_command body) TakeAnswer.Queued ∷ opened keys 0 reply ∷ peer_came ∷ [])
unfolding open_effects
first-taken start keys reply body short some = ((fits 0 body short, refl), first-opened start keys reply some)

pub one_circuit-legal : (start : SwitchStart) (keys : LayerKeys) (reply : List ℕ) → 1 ≤ start.circuits →
    IsLegal start (one_circuit keys reply)
unfolding open_effects
one_circuit-legal start keys reply some = ((tt, refl), first-opened start keys reply some)

pub bad_id-legal : (start : SwitchStart) (keys : LayerKeys) (reply : Cell) → IsReply reply (Some keys)
    → IsLegal start (bad_id keys reply)
unfolding open_effects
bad_id-legal start keys reply replies = ((tt, refl), ((replies, refl), ((tt, refl), tt)))

pub crossing_destroys-legal : (start : SwitchStart) (keys : LayerKeys) (refused : Cell) (reply reason : List ℕ) →
    IsReply refused (Some keys) → length reason ≤ 65535 → 1 ≤ start.circuits →
    IsLegal start (crossing_destroys keys refused reply reason)
unfolding open_effects
crossing_destroys-legal start keys refused reply reason replies short some =
    let room : 0 < start.circuits = omega (arith, some) in
    let before : List Step =
    nothing_left 0
    ∷ Take (chan_no 0) (cell_of 0 destroy_command reason) (TakeAnswer.PassedOver Why.NoCircuit)
    ∷ OpenCircuit (chan_no 0) (id_of 0) refused (Some keys) None (Refused OpenRefusal.InUse)
    ∷ TearDown (circ_no 0) destroy_requested (BackAnswer.Down destroy_requested)
    ∷ opened keys 0 reply
    ∷ peer_came
    ∷ [] in (
      (is-reply keys (id_of 0) reply, opens start before (id_of 0) keys refl refl refl refl room),
      ((tt, refl), ((fits-destroy 0 reason short, refl), ((replies, refl), ((tt, refl), first-opened start keys reply some)))),
    )

pub three_circuits-legal : (start : SwitchStart) (keys : LayerKeys) (reply : List ℕ) → 3 ≤ start.circuits →
    IsLegal start (three_circuits keys reply)
unfolding open_effects
three_circuits-legal start keys reply three =
    let some : 1 ≤ start.circuits = omega (arith, three) in
    let for_two : 1 < start.circuits = omega (arith, three) in
    let for_three : 2 < start.circuits = omega (arith, three) in
    let second = opens start (one_circuit keys reply) (id_of 1) keys refl refl refl refl for_two in
    let third = opens start (opened keys 1 reply ∷ one_circuit keys reply) (id_of 2) keys refl refl refl refl for_three in
    let two : IsLegal start (opened keys 1 reply ∷ one_circuit keys reply) =
    ((is-reply keys (id_of 1) reply, second), one_circuit-legal start keys reply some) in
    ((tt, refl), ((tt, refl), ((is-reply keys (id_of 2) reply, third), two)))

pub torn_while_claimed-legal : (start : SwitchStart) (keys : LayerKeys) (reply body : List ℕ) → length body ≤ 65535 →
    1 ≤ start.circuits → IsLegal start (torn_while_claimed start keys reply body)
unfolding open_effects
torn_while_claimed-legal start keys reply body short some =
    let taken = first-taken start keys reply body short some in
    ((tt, refl), ((tt, refl), ((tt, rw (self_eq start.name) refl), ((tt, refl), ((omega arith, refl), taken)))))

pub two_claimed-legal : (start : SwitchStart) (keys : LayerKeys) (reply first second : List ℕ) → length first ≤ 65535 →
    length second ≤ 65535 → 1 ≤ start.circuits → IsLegal start (two_claimed start keys reply first second)
unfolding open_effects
two_claimed-legal start keys reply first second short shorter some =
    ((omega arith, refl), ((fits 0 second shorter, refl), first-taken start keys reply first short some))

pub ended_channel-legal : (start : SwitchStart) (keys : LayerKeys) (reply : List ℕ) (late : Cell) → IsWellFormed late →
    1 ≤ start.circuits → IsLegal start (ended_channel keys reply late)
unfolding open_effects
ended_channel-legal start keys reply late formed some =
    ((tt, refl), ((tt, refl), ((formed, refl), ((tt, refl), ((tt, refl), first-opened start keys reply some)))))

pub quiet_switch-legal : (start : SwitchStart) → IsLegal start quiet_switch
quiet_switch-legal start =
    ((tt, refl), ((tt, tt), ((tt, refl), ((tt, refl), ((tt, refl), ((tt, refl), ((omega arith, refl), ((tt, refl), tt))))))))

-- At tick 17 the counts are 0, 65536 and 65536.
pub counts_at_17 : (rules : Rules) (keys : LayerKeys) (reply : List ℕ) →
    map (count_at rules (three_circuits keys reply) 17) three_legs ≡ 0 ∷ 65536 ∷ 65536 ∷ []
counts_at_17 rules keys reply = refl

-- At tick 18 the legs are served in the order 0, 1, 2, 0.
pub first_at_18 : (rules : Rules) (keys : LayerKeys) (reply body : List ℕ) →
    least_of (count_at rules (more_cells keys reply body []) 18) three_legs ≡ Some (leg_0 0)
first_at_18 rules keys reply body = refl

pub second_at_18 : (rules : Rules) (keys : LayerKeys) (reply body : List ℕ) →
    least_of (count_at rules (more_cells keys reply body (0 ∷ [])) 18) three_legs ≡ Some (leg_0 1)
second_at_18 rules keys reply body = refl

pub third_at_18 : (rules : Rules) (keys : LayerKeys) (reply body : List ℕ) →
    least_of (count_at rules (more_cells keys reply body (1 ∷ 0 ∷ [])) 18) three_legs ≡ Some (leg_0 2)
third_at_18 rules keys reply body = refl

pub fourth_at_18 : (rules : Rules) (keys : LayerKeys) (reply body : List ℕ) →
    least_of (count_at rules (more_cells keys reply body (2 ∷ 1 ∷ 0 ∷ [])) 18) three_legs ≡ Some (leg_0 0)
fourth_at_18 rules keys reply body = refl

-- At tick 19 the counts are 65536, 49152 and 49152, and leg 1 is served.
pub counts_at_19 : (rules : Rules) (keys : LayerKeys) (reply body : List ℕ) →
    map (count_at rules (more_cells keys reply body (0 ∷ 2 ∷ 1 ∷ 0 ∷ [])) 19) three_legs ≡ 65536 ∷ 49152 ∷ 49152 ∷ []
counts_at_19 rules keys reply body = refl

pub first_at_19 : (rules : Rules) (keys : LayerKeys) (reply body : List ℕ) →
    least_of (count_at rules (more_cells keys reply body (0 ∷ 2 ∷ 1 ∷ 0 ∷ [])) 19) three_legs ≡ Some (leg_0 1)
first_at_19 rules keys reply body = refl
