-- A batch of bodies through a hop's layers, and the one-thread relay body by body.
use Rattle.std.proofs.Common.{◌≡◌, ℕ, ◌+◌, ◌*◌, if◌then◌else◌, List, [], ◌∷◌, map, Option, Some, None, refl, sym, ap, ◌∙◌, arith}
use Rattle.crypto_spec.specs.HopLayer.{layered, opened, after_opening, opened_all, after_opening_all, sealed_all}
use Rattle.circuit_model.specs.Events.{CircuitCell, Event}
use Rattle.circuit_model.specs.declared.event.Event.TheVariants.{Forward}
use Rattle.circuit_model.specs.Batches.{next_layer, events_behind, opened_each, body_of}
use Rattle.circuit_model.specs.Log.{Log, Message, Effects}
use Rattle.circuit_model.specs.Opened.{forward_count, plain_body, recognises, digest_with}
use Rattle.circuit_model.specs.Rules.{Rules}
use Rattle.circuit_model.specs.Sent.{all_sealed}
use Rattle.circuit_model.specs.Words.{log, entry_after}

-- what comes out of a body is what the relay reads
pub opened_is_read : (l : Log) (body : List ℕ) →
    opened (next_layer l) body ≡ record {
      body = plain_body l body;
      recognised =
          if recognises l (plain_body l body) then Some (digest_with l (plain_body l body)) else None;
    }
unfolding opened
opened_is_read l body = refl

-- the layer behind a forward body
layer-next : (l : Log) (command : ℕ) (body : List ℕ) (m : Option Message) (fx : Effects)
    → next_layer (record { event = Forward command body; message = m; effects = fx } ∷ l) ≡ after_opening (next_layer l) body
unfolding after_opening
layer-next l command body m fx =
    let next : 509 * (forward_count l + 1) ≡ 509 * forward_count l + 509 = omega arith in rw next refl

pub batch_opened : (rules : Rules) (events : List Event) (cells : List CircuitCell)
    → opened_all (next_layer (log rules events)) (map body_of cells) ≡ opened_each rules events cells
batch_opened rules events [] = refl
batch_opened rules events (cell ∷ cells) =
    let entry = entry_after rules (log rules events) (Forward cell.command cell.body) in
    let next = layer-next (log rules events) cell.command cell.body entry.message entry.effects in
    ap (λ l. opened (next_layer (log rules events)) cell.body ∷ opened_all l (map body_of cells)) (sym next)
    ∙ ap (λ l. opened (next_layer (log rules events)) cell.body ∷ l)
    (batch_opened rules (Forward cell.command cell.body ∷ events) cells)

pub batch_layer : (rules : Rules) (events : List Event) (cells : List CircuitCell)
    → after_opening_all (next_layer (log rules events)) (map body_of cells) ≡ next_layer (log rules (events_behind events cells))
batch_layer rules events [] = refl
batch_layer rules events (cell ∷ cells) =
    let entry = entry_after rules (log rules events) (Forward cell.command cell.body) in
    ap (λ l. after_opening_all l (map body_of cells))
    (sym (layer-next (log rules events) cell.command cell.body entry.message entry.effects))
    ∙ batch_layer rules (Forward cell.command cell.body ∷ events) cells

-- sealed bodies are those that leave on leg 0
pub batch_sealed : (key : List ℕ) (n : ℕ) (bodies : List (List ℕ))
    → sealed_all key (509 * n) bodies ≡ map body_of (all_sealed key n bodies)
batch_sealed key n [] = refl
batch_sealed key n (body ∷ bodies) =
    let next : 509 * n + 509 ≡ 509 * (n + 1) = omega arith in
    ap (λ i. layered key (509 * n) body ∷ sealed_all key i bodies) next
    ∙ ap (λ l. layered key (509 * n) body ∷ l) (batch_sealed key (n + 1) bodies)
