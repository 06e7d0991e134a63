-- A direction's cipher stays what it is until a claim of the direction comes home.
use Rattle.std.proofs.Common.{◌≡◌, ℕ, ◌≤◌, List, [], ◌∷◌, ◌++◌, length, Option, Some, None, false, refl, ap, ◌∙◌, subst, arith, length-append}
use Rattle.std.specs.List.{AllByRecursion}
use Rattle.circuit_model.specs.Batches.{next_layer}
use Rattle.circuit_model.specs.Events.{CircuitCell, Event}
use Rattle.circuit_model.specs.declared.event.Event.TheVariants.{Born, Forward}
use Rattle.circuit_model.specs.Log.{pushed}
use Rattle.circuit_model.specs.Opened.{born_keys, keys_in}
use Rattle.circuit_model.specs.Rules.{Rules}
use Rattle.circuit_model.specs.Words.{log}
use Rattle.hop_crypto.specs.OpenerState.{opener_of}
use Rattle.hop_crypto.specs.SealerState.{sealer_of}
use Rattle.hop_crypto.specs.declared.cipher.Cipher.{Cipher}
use Rattle.tr_io.specs.declared.names.Dir.{Dir}
use Rattle.tr_io.specs.declared.names.Dir.TheVariants.{Forth, Back}
use Rattle.tr_io.specs.declared.step.Step.{Step}
use Rattle.switch_model.specs.History.Circuit.{events, opens}
use Rattle.switch_model.specs.History.Past.{past}
use Rattle.switch_model.specs.History.Relayed.{forward_cell, settled_forth}
use Rattle.switch_model.specs.Waiting.Queues.{circuit_log, sealed_count}
use Rattle.switch_model.proofs.LogGrows.{events-longer}
use Rattle.switch_model.proofs.Ways.{brings_home, came-same}
use Rattle.tape.specs.JobsStand.{way_cipher}

-- events without an opening leave the keys
keys-over : (rules : Rules) (new ev : List Event) → AllByRecursion (λ e. keys_in e ≡ None) new →
    born_keys (log rules (new ++ ev)) ≡ born_keys (log rules ev)
keys-over rules [] ev unborn = refl
keys-over rules (e ∷ new) ev unborn = rw unborn.0 (keys-over rules new ev unborn.1)

-- and one that isn't a forward body either leaves the layer of the next
layer-more : (rules : Rules) (e : Event) (ev : List Event) → keys_in e ≡ None → forward_cell e ≡ None →
    next_layer (log rules (e ∷ ev)) ≡ next_layer (log rules ev)
layer-more rules (Born reply keys pad) ev unborn other = absurd cc
layer-more rules (Forward command body) ev unborn other = absurd cc
layer-more rules e ev unborn other = refl

pushed-longer : (xs : List CircuitCell) (o : Option CircuitCell) → length xs ≤ length (pushed xs o)
pushed-longer xs None = omega arith
pushed-longer xs (Some x) = omega (arith, length-append xs (x ∷ []))

forth-longer : (rules : Rules) (new ev : List Event) →
    length (settled_forth (log rules ev)) ≤ length (settled_forth (log rules (new ++ ev)))
forth-longer rules [] ev = omega arith
forth-longer rules (e ∷ new) ev =
    let before = forth-longer rules new ev in
    let after = pushed-longer (settled_forth (log rules (new ++ ev))) (forward_cell e) in
    omega (arith, before, after)

layer-by : (rules : Rules) (e : Event) (new ev : List Event) (o : Option CircuitCell) → forward_cell e ≡ o →
    keys_in e ≡ None →
    length (pushed (settled_forth (log rules (new ++ ev))) o) ≡ length (settled_forth (log rules ev)) →
    (length (settled_forth (log rules (new ++ ev))) ≡ length (settled_forth (log rules ev)) →
    next_layer (log rules (new ++ ev)) ≡ next_layer (log rules ev)) →
    next_layer (log rules (e ∷ (new ++ ev))) ≡ next_layer (log rules ev)
layer-by rules e new ev None is unborn same rest = layer-more rules e (new ++ ev) unborn is ∙ rest same
layer-by rules e new ev (Some cell) is unborn same rest =
    let longer = forth-longer rules new ev in
    absurd (omega (arith, same, longer, length-append (settled_forth (log rules (new ++ ev))) (cell ∷ [])))

-- so it stays where no forward body was added
layer-over : (rules : Rules) (new ev : List Event) → AllByRecursion (λ e. keys_in e ≡ None) new →
    length (settled_forth (log rules (new ++ ev))) ≡ length (settled_forth (log rules ev)) →
    next_layer (log rules (new ++ ev)) ≡ next_layer (log rules ev)
layer-over rules [] ev unborn same = refl
layer-over rules (e ∷ new) ev unborn same =
    layer-by rules e new ev (forward_cell e) refl unborn.0 same (λ none. layer-over rules new ev unborn.1 none)

pub cipher_stays : (rules : Rules) (h : List Step) (s : Step) (c : ℕ) (dir : Dir) → opens c s ≡ false →
    brings_home c dir s ≡ false →
    way_cipher rules (past rules (s ∷ h) c) dir ≡ way_cipher rules (past rules h c) dir
cipher_stays rules h s c Forth unopened away =
    let longer = events-longer rules h s c in
    let layer : next_layer (circuit_log rules (s ∷ h) c) ≡ next_layer (circuit_log rules h c) =
    subst (λ ev. length (settled_forth (log rules ev)) ≡ length (settled_forth (circuit_log rules h c)) →
    next_layer (log rules ev) ≡ next_layer (circuit_log rules h c)) longer.all
    (layer-over rules longer.new (events rules h c) (longer.unborn unopened)) (came-same rules h s c Forth away) in
    ap (λ l. Cipher.Forth (opener_of l)) layer
cipher_stays rules h s c Back unopened away =
    let longer = events-longer rules h s c in
    let keys : born_keys (circuit_log rules (s ∷ h) c) ≡ born_keys (circuit_log rules h c) =
    subst (λ ev. born_keys (log rules ev) ≡ born_keys (circuit_log rules h c)) longer.all
    (keys-over rules longer.new (events rules h c) (longer.unborn unopened)) in
    ap (λ k. Cipher.Back (sealer_of (record { key = k.kb; sealed_count = sealed_count (s ∷ h) c }))) keys
    ∙ ap (λ n. Cipher.Back (sealer_of (record { key = (born_keys (circuit_log rules h c)).kb; sealed_count = n })))
    (came-same rules h s c Back away)
