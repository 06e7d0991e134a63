-- A circuit that was just opened.
use Rattle.std.proofs.Common.{◌≡◌, ℕ, [], ◌∷◌, List, false, Option, Some, None, refl, sym, subst, ◌∙◌, replicate}
use Rattle.std.specs.Option.{option_or}
use Rattle.tor_spec.specs.CircuitWindow.{CircuitWindow, fresh_window}
use Rattle.tr_io.specs.declared.names.Dest.{Dest}
use Rattle.sendme_windows.specs.WindowsState.{HasCountsOf}
use Rattle.stream_edge.specs.PlacesState.{PlacesState}
use Rattle.kdf_tor.specs.declared.LayerKeys.{LayerKeys}
use Rattle.circuit_model.specs.Events.{CircuitCell}
use Rattle.circuit_model.specs.declared.event.Event.TheVariants.{Born}
use Rattle.circuit_model.specs.Rules.{Rules}
use Rattle.circuit_model.specs.Log.{Entry, Log, is_closed}
use Rattle.circuit_model.specs.Opened.{born_keys, born_pad}
use Rattle.circuit_model.specs.NextHop.{next_hop}
use Rattle.circuit_model.specs.Packaged.{own_bodies}
use Rattle.circuit_model.specs.Places.{place_of}
use Rattle.circuit_model.specs.Effects.{open_effects, effects_after}
use Rattle.circuit_model.specs.Words.{entry_after, log}
use Rattle.circ_relay.specs.declared.circuit.Circuit.{Circuit}
use Rattle.circuit_model.specs.declared.next_hop.NextHop.TheVariants.{Absent}
use Rattle.circ_relay.specs.CircuitOfLog.{HasParts, IsCircuit, IsMadeBy, AreAddresses}
use Rattle.circ_relay.specs.Packaging.{IsPackager}
use Rattle.circ_relay.specs.PlacesOfLog.{ArePlaces}
use Rattle.circ_relay.proofs.Beginning.{nothing_is_held}
use Rattle.circ_relay.proofs.Longer.{same_streams, addresses_after}
use Rattle.circ_relay.proofs.Others.{no_message_leaves_places}
use Rattle.circ_relay.proofs.WindowMoves.{opening_is_fresh}

no_addresses : (addresses : List Dest) (state : PlacesState) → AreAddresses addresses state []
no_addresses addresses state place stream of_log none held found = cc

first_hop : (rules : Rules) (reply : CircuitCell) (keys : LayerKeys) (pad : Option (List ℕ))
    → next_hop (entry_after rules [] (Born reply keys pad) ∷ []) ≡ Absent
unfolding open_effects
first_hop rules reply keys pad = refl

nothing_packaged : (rules : Rules) (reply : CircuitCell) (keys : LayerKeys) (pad : Option (List ℕ))
    → own_bodies (entry_after rules [] (Born reply keys pad) ∷ []) ≡ []
unfolding open_effects
nothing_packaged rules reply keys pad = refl

nothing_closed : (rules : Rules) (reply : CircuitCell) (keys : LayerKeys) (pad : Option (List ℕ))
    → is_closed (entry_after rules [] (Born reply keys pad) ∷ []) ≡ false
unfolding open_effects
nothing_closed rules reply keys pad = refl

or_none : (pad : Option (List ℕ)) → option_or pad None ≡ pad
or_none None = refl
or_none (Some key) = refl

no_place : (rules : Rules) (reply : CircuitCell) (keys : LayerKeys) (pad : Option (List ℕ))
    → place_of (effects_after rules [] (Born reply keys pad)).edge ≡ None
unfolding open_effects
no_place rules reply keys pad = refl

no_places : (state : PlacesState) → state ≡ record { streams = replicate 32 None; next_serial = 0; calls = 0 }
    → ArePlaces state []
no_places state is = subst (λ (s : PlacesState). ArePlaces s []) (sym is) nothing_is_held

opened_parts : (c : Circuit) (rules : Rules) (reply : CircuitCell) (keys : LayerKeys) (pad : Option (List ℕ))
    → c.next_hop ≡ Absent →
    ((log : Log) → own_bodies log ≡ [] → (born_keys log).db ≡ keys.db → born_pad log ≡ pad → IsPackager c.packager log)
    → HasCountsOf c.windows fresh_window →
    c.places ≡ record { streams = replicate 32 None; next_serial = 0; calls = 0 }
    → HasParts c (entry_after rules [] (Born reply keys pad) ∷ [])
opened_parts c rules reply keys pad hop packs stands free =
    let entry : Entry = entry_after rules [] (Born reply keys pad) in
    record {
      hop = hop ∙ sym (first_hop rules reply keys pad);
      asked = λ dialling. cc;
      packager = packs (entry ∷ []) (nothing_packaged rules reply keys pad) refl (or_none pad);
      windows = subst (λ (w : CircuitWindow). HasCountsOf c.windows w) (sym (opening_is_fresh rules reply keys pad)) stands;
      places = no_message_leaves_places c.places rules [] (Born reply keys pad) (no_places c.places free) refl refl;
      addresses =
          addresses_after c.addresses c.places c.places entry [] (same_streams c.places) (no_place rules reply keys pad)
          (no_addresses c.addresses c.places);
    }

pub opened : (c : Circuit) (rules : Rules) (reply : CircuitCell) (keys : LayerKeys) (pad : Option (List ℕ)) → c.next_hop ≡ Absent
    → c.early_cells ≡ 0 → IsMadeBy c rules →
    ((log : Log) → own_bodies log ≡ [] → (born_keys log).db ≡ keys.db → born_pad log ≡ pad → IsPackager c.packager log)
    → HasCountsOf c.windows fresh_window →
    c.places ≡ record { streams = replicate 32 None; next_serial = 0; calls = 0 } → IsCircuit c rules (Born reply keys pad ∷ [])
opened c rules reply keys pad hop early made packs stands free = record {
  unclosed = nothing_closed rules reply keys pad;
  early = early;
  made = made;
  parts = opened_parts c rules reply keys pad hop packs stands free;
}
