-- One more event: the legs of a circuit and its bodies that go back.
use Rattle.std.proofs.Common.{◌≡◌, ℕ, ◌+◌, ◌==◌, ◌<◌, ◌≤◌, Bool, true, if◌then◌else◌, is_some, List, [], ◌∷◌, ◌++◌, length, map, take, Option, Some, None, option_map, option_to_list, refl, sym, ◌∙◌, ap, subst, arith, inl, inr, zero, suc, append_assoc}
use Rattle.std.proofs.Math.Dec.{eqb-suc-zero}
use Rattle.std.proofs.lemmas.Bool.Decides.{eqb_tells}
use Rattle.std.proofs.lemmas.List.{append-nil, length-append, length-map, map-append, take-append-le}
use Rattle.circuit_model.specs.Events.{CircuitCell}
use Rattle.circuit_model.specs.Log.{Effects, Entry, Log, Message, pushed}
use Rattle.circuit_model.specs.NextHop.{leg_count}
use Rattle.circuit_model.specs.Opened.{born_keys, born_reply}
use Rattle.circuit_model.specs.Packaged.{back_bodies}
use Rattle.circuit_model.specs.Sent.{all_sealed, given_forth, sealed, sent_to_hop}
use Rattle.circuit_model.specs.declared.event.Event.TheVariants.{Forward}
use Rattle.switch_machine.proofs.Slots.{length-with, slot_at-with}
use Rattle.switch_machine.specs.Calls.Settling.{Settling, back_waits, hop_queued, more_queued, more_waits, settle_entry}
use Rattle.switch_machine.specs.Machine.{kept_cells}
use Rattle.switch_machine.specs.Stands.OneCircuit.{relay_cells}
use Rattle.switch_machine.specs.Stands.OneLeg.{LegBy}
use Rattle.switch_machine.specs.Stands.OneWay.{WayStands, cell_waiting, number_waiting}
use Rattle.switch_machine.specs.State.{LegState, WayState, slot_at}
use Rattle.switch_model.proofs.Common.{not_equal, self_eq}
use Rattle.switch_model.specs.History.Legs.{Port}
use Rattle.switch_model.specs.History.Past.{Past}
use Rattle.switch_model.specs.Waiting.Queues.{sendable}
use Rattle.tor_spec.specs.CellCommands.{relay_command}
use Rattle.tr_io.specs.declared.names.ClaimNote.{ClaimNote}
use Rattle.tr_io.specs.declared.names.Dir.{Dir}
use Rattle.tr_io.specs.declared.names.Dir.TheVariants.{Back}

-- What events that settle change of a circuit, behind this log, where these are the body numbers of its
-- direction back. What was sent, sealed and claimed stays.
pub record CoreStands (y : Settling) (c : ℕ) (l : Log) (p : Past) (has_id : ℕ → Bool) (all : List ℕ) : Type 0 where
  pub born : is_some (born_reply l) ≡ true
  pub sealed : p.sealed_count ≤ length (back_bodies l)
  pub hops : length y.circuit.legs ≡ p.hops + 1
  pub linked : leg_count l ≡ p.hops
  pub legs : (k : ℕ) → LegBy (slot_at y.circuit.legs k) (p.sent k) (sendable l p.sealed_count k) (p.port k) (has_id k)
  pub back : WayStands c Back y.circuit.back (take p.sealed_count (relay_cells (back_bodies l))) (relay_cells (back_bodies l))
      (p.claimed_count Back) (p.claim_out Back) all

abbrev pub numbers_with : List ℕ → ℕ → Option (List ℕ) → List ℕ
numbers_with all n None = all
numbers_with all n (Some body) = all ++ n ∷ []

-- one more body waits in a direction
pub way-queued : (c : ℕ) (d : Dir) (way : WayState) (settled given : List CircuitCell) (count : ℕ) (known : Option ClaimNote)
    (all : List ℕ) (n : ℕ) (cell : CircuitCell) →
    WayStands c d way settled given count known all
    → WayStands c d (more_waits n cell way) settled (given ++ cell ∷ []) count known (all ++ n ∷ [])
way-queued c d way settled given count known all n cell own = record {
  claimed_count = own.claimed_count;
  out = own.out;
  claim_out = own.claim_out;
  noted = own.noted;
  cells = ap (λ l. settled ++ kept_cells way.claim_out ++ l)
      (map-append cell_waiting way.waiting_bodies (record { number = n; cell = cell } ∷ []))
      ∙ sym (append_assoc (settled ++ kept_cells way.claim_out) (map cell_waiting way.waiting_bodies) (cell ∷ []))
      ∙ ap (λ l. l ++ cell ∷ []) own.cells;
  claimed_numbers = own.claimed_numbers;
  claimed_all = own.claimed_all;
  numbers = ap (λ l. own.claimed_numbers ++ l)
      (map-append number_waiting way.waiting_bodies (record { number = n; cell = cell } ∷ []))
      ∙ sym (append_assoc own.claimed_numbers (map number_waiting way.waiting_bodies) (n ∷ []))
      ∙ ap (λ l. l ++ n ∷ []) own.numbers;
}

-- leg 0: nothing more may leave
sealed-more : (key : List ℕ) (n : ℕ) (bodies : List (List ℕ)) (body : List ℕ)
    → (m : ℕ) × (all_sealed key n (bodies ++ body ∷ []) ≡ all_sealed key n bodies ++ sealed key m body ∷ [])
sealed-more key n [] body = (n, refl)
sealed-more key n (first ∷ bodies) body = let more = sealed-more key (n + 1) bodies body in
    (more.0, ap (λ l. sealed key n first ∷ l) more.1)

pub length-sealed : (key : List ℕ) (n : ℕ) (bodies : List (List ℕ)) → length (all_sealed key n bodies) ≡ length bodies
length-sealed key n [] = refl
length-sealed key n (first ∷ bodies) = ap suc (length-sealed key (n + 1) bodies)

client-same : (reply : Option CircuitCell) (key : List ℕ) (bodies : List (List ℕ)) (more : Option (List ℕ)) (n : ℕ)
    → is_some reply ≡ true → n ≤ length bodies →
    take (1 + n) (option_to_list reply ++ all_sealed key 0 (pushed bodies more))
    ≡ take (1 + n) (option_to_list reply ++ all_sealed key 0 bodies)
client-same None key bodies more n some le = absurd cc
client-same (Some r) key bodies None n some le = refl
client-same (Some r) key bodies (Some body) n some le =
    let longer = sealed-more key 0 bodies body in
    let long : 1 + n ≤ length (r ∷ all_sealed key 0 bodies) = omega (arith, length-sealed key 0 bodies) in
    ap (λ l. take (1 + n) (r ∷ l)) longer.1 ∙ take-append-le (1 + n) (r ∷ all_sealed key 0 bodies) (sealed key longer.0 body ∷ [])
    long

-- the body waits, if there is one
back-more : (c n : ℕ) (way : WayState) (home : ℕ) (bodies : List (List ℕ)) (count : ℕ) (known : Option ClaimNote) (all : List ℕ)
    (more : Option (List ℕ)) → home ≤ length bodies →
    WayStands c Back way (take home (relay_cells bodies)) (relay_cells bodies) count known all →
    WayStands c Back (back_waits n more way) (take home (relay_cells (pushed bodies more))) (relay_cells (pushed bodies more))
    count known (numbers_with all n more)
back-more c n way home bodies count known all None le own = own
back-more c n way home bodies count known all (Some body) le own =
    let cell : CircuitCell = record { command = relay_command; body = body } in
    let long : home ≤ length (relay_cells bodies) =
    omega (arith, length-map {B = CircuitCell} bodies (λ (b : List ℕ). record { command = relay_command; body = b })) in
    let longer : relay_cells (bodies ++ body ∷ []) ≡ relay_cells bodies ++ cell ∷ [] =
    map-append (λ (b : List ℕ). record { command = relay_command; body = b }) bodies (body ∷ []) in
    subst (λ l. WayStands c Back (more_waits n cell way) (take home l) l count known (all ++ n ∷ [])) (sym longer)
    (subst (λ l. WayStands c Back (more_waits n cell way) l (relay_cells bodies ++ cell ∷ []) count known (all ++ n ∷ []))
    (sym (take-append-le home (relay_cells bodies) (cell ∷ []) long))
    (way-queued c Back way (take home (relay_cells bodies)) (relay_cells bodies) count known all n cell own))

-- legs towards next hops
pub leg-more : (leg : Option LegState) (sent may_leave cells : List CircuitCell) (lies : Option Port) (has_id : Bool)
    → LegBy leg sent may_leave lies has_id →
    LegBy (option_map (more_queued cells) leg) sent (may_leave ++ cells) lies has_id
leg-more None sent may_leave cells lies has_id own = own
leg-more (Some leg) sent may_leave cells lies has_id own =
    record {
      holds = own.holds;
      port = own.port;
      cells =
          sym (append_assoc sent leg.queue cells) ∙ ap (λ l. l ++ cells) own.cells;
    }

hop-by : (legs : List (Option LegState)) (n k : ℕ) (sent may_leave cells : List CircuitCell) (lies : Option Port) (has_id : Bool)
    → n < length legs → LegBy (slot_at legs (suc k)) sent may_leave lies has_id →
    LegBy (slot_at (hop_queued legs n cells) (suc k)) sent (may_leave ++ (if n == suc k then cells else [])) lies has_id
hop-by legs zero k sent may_leave cells lies has_id inside own =
    rw (not_equal 0 (suc k) (λ e. absurd (omega (arith, e))), append-nil may_leave) own
hop-by legs (suc n) k sent may_leave cells lies has_id inside own = elim (eqb_tells (suc k) (suc n)) [
  | inl (is, same) ↦
      let turned : (suc n == suc k) ≡ true = rw same (self_eq (suc n)) in
      rw (slot_at-with legs (suc n) (option_map (more_queued cells) (slot_at legs (suc n))) (suc k) inside, is, turned)
      (leg-more (slot_at legs (suc n)) sent may_leave cells lies has_id
      (subst (λ i. LegBy (slot_at legs i) sent may_leave lies has_id) same own))
  | inr (is, other) ↦
      rw (
        slot_at-with legs (suc n) (option_map (more_queued cells) (slot_at legs (suc n))) (suc k) inside,
        is,
        not_equal (suc n) (suc k) other,
        append-nil may_leave,
      ) own
]

client-kept : (legs : List (Option LegState)) (n : ℕ) (cells : List CircuitCell) → n < length legs
    → slot_at (hop_queued legs n cells) 0 ≡ slot_at legs 0
client-kept legs zero cells inside = refl
client-kept legs (suc n) cells inside =
    rw (
      slot_at-with legs (suc n) (option_map (more_queued cells) (slot_at legs (suc n))) 0 inside,
      not_equal 0 (suc n) (λ e. absurd (omega (arith, e))),
    ) refl

length-queued : (legs : List (Option LegState)) (n : ℕ) (cells : List CircuitCell)
    → length (hop_queued legs n cells) ≡ length legs
length-queued legs zero cells = refl
length-queued legs (suc n) cells = length-with legs (suc n) (option_map (more_queued cells) (slot_at legs (suc n)))

legs-more : (legs : List (Option LegState)) (l : Log) (p : Past) (has_id : ℕ → Bool) (entry : Entry) → leg_count l < length legs
    → born_reply (entry ∷ l) ≡ born_reply l → born_keys (entry ∷ l) ≡ born_keys l → leg_count (entry ∷ l) ≡ leg_count l →
    is_some (born_reply l) ≡ true → p.sealed_count ≤ length (back_bodies l)
    → ((k : ℕ) → LegBy (slot_at legs k) (p.sent k) (sendable l p.sealed_count k) (p.port k) (has_id k)) →
    (k : ℕ) → LegBy (slot_at (hop_queued legs (leg_count l) (given_forth l entry)) k) (p.sent k)
    (sendable (entry ∷ l) p.sealed_count k) (p.port k) (has_id k)
legs-more legs l p has_id entry inside reply keys count born few own zero =
    rw (
      client-kept legs (leg_count l) (given_forth l entry) inside,
      reply,
      keys,
      client-same (born_reply l) (born_keys l).kb (back_bodies l) entry.effects.back p.sealed_count born few,
    ) (own zero)
legs-more legs l p has_id entry inside reply keys count born few own (suc k) =
    rw (eqb-suc-zero k, count)
    (hop-by legs (leg_count l) k (p.sent (suc k)) (sent_to_hop l (suc k)) (given_forth l entry) (p.port (suc k))
    (has_id (suc k)) inside
    (rw (eqb-suc-zero k) at (own (suc k))))

within-pushed : (bodies : List (List ℕ)) (more : Option (List ℕ)) (n : ℕ) → n ≤ length bodies → n ≤ length (pushed bodies more)
within-pushed bodies None n le = le
within-pushed bodies (Some body) n le = omega (arith, length-append bodies (body ∷ []), le)

-- an event that opens no circuit and links no next hop, whatever its effects
pub core-more : (y : Settling) (c : ℕ) (l : Log) (p : Past) (has_id : ℕ → Bool) (all : List ℕ) (entry : Entry)
    → born_reply (entry ∷ l) ≡ born_reply l → born_keys (entry ∷ l) ≡ born_keys l → leg_count (entry ∷ l) ≡ leg_count l →
    CoreStands y c l p has_id all
    → CoreStands (settle_entry l entry y) c (entry ∷ l) p has_id (numbers_with all y.bodies entry.effects.back)
core-more y c l p has_id all entry reply keys count own =
    let inside : leg_count l < length y.circuit.legs = omega (arith, own.hops, own.linked) in
    record {
      born = rw reply own.born;
      sealed = within-pushed (back_bodies l) entry.effects.back p.sealed_count own.sealed;
      hops = length-queued y.circuit.legs (leg_count l) (given_forth l entry) ∙ own.hops;
      linked = count ∙ own.linked;
      legs = legs-more y.circuit.legs l p has_id entry inside reply keys count own.born own.sealed own.legs;
      back = back-more c y.bodies y.circuit.back p.sealed_count (back_bodies l) (p.claimed_count Back) (p.claim_out Back) all
          entry.effects.back own.sealed own.back;
    }

-- a forward cell
pub core-step : (y : Settling) (c : ℕ) (l : Log) (p : Past) (has_id : ℕ → Bool) (all : List ℕ) (command : ℕ) (body : List ℕ)
    (m : Option Message) (fx : Effects) → CoreStands y c l p has_id all →
    CoreStands (settle_entry l (record { event = Forward command body; message = m; effects = fx }) y) c
    (record { event = Forward command body; message = m; effects = fx } ∷ l) p has_id (numbers_with all y.bodies fx.back)
core-step y c l p has_id all command body m fx own =
    core-more y c l p has_id all (record { event = Forward command body; message = m; effects = fx }) refl refl refl own
