-- In a legal history a circuit that was torn down is never live again: its number isn't given a second time.
use Rattle.std.proofs.Common.{◌≡◌, ℕ, ◌<◌, ◌==◌, Bool, true, false, List, [], ◌∷◌, ◌++◌, refl, arith}
use Rattle.tr_io.specs.declared.answers.OpenAnswer.TheVariants.{Opened}
use Rattle.tr_io.specs.declared.step.Step.{Step}
use Rattle.tr_io.specs.declared.step.Step.TheVariants.{OpenCircuit}
use Rattle.switch_model.specs.Start.{SwitchStart}
use Rattle.switch_model.specs.History.Legs.{circuits}
use Rattle.switch_model.specs.History.Circuit.{is_live_circuit, opens}
use Rattle.switch_model.specs.Legal.{IsLegal}
use Rattle.switch_model.proofs.Common.{same-number}
use Rattle.switch_model.proofs.Unopened.{opened-number, stays-torn}

no-number : (b : Bool) (n c : ℕ) → (n == c) ≡ b → c < n → (n == c) ≡ false
no-number true n c is above = let same = same-number n c is in absurd (omega (arith, same, above))
no-number false n c is above = is

pub not-opened : (start : SwitchStart) (h : List Step) (s : Step) (c : ℕ) → IsLegal start (s ∷ h) → c < circuits h
    → opens c s ≡ false
not-opened start h (OpenCircuit chan id reply keys pad (Opened n)) c legal was =
    let number = opened-number start h chan.0 id keys n legal.0.1 in
    no-number (n.0 == c) n.0 c refl (omega (arith, number, was))
not-opened start h s c legal was = refl

more-circuits : (h : List Step) (s : Step) (c : ℕ) → c < circuits h → c < circuits (s ∷ h)
more-circuits h (OpenCircuit chan id reply keys pad (Opened n)) c was = omega (arith, was)
more-circuits h s c was = was

record Torn (start : SwitchStart) (h : List Step) (c : ℕ) : Type 0 where
  pub was : c < circuits h
  pub gone : is_live_circuit start.rules h c ≡ false

stays : (start : SwitchStart) (newer older : List Step) (c : ℕ) → IsLegal start (newer ++ older) → Torn start older c
    → Torn start (newer ++ older) c
stays start [] older c legal torn = torn
stays start (s ∷ newer) older c legal torn =
    let before = stays start newer older c legal.1 torn in
    record {
      was = more-circuits (newer ++ older) s c before.was;
      gone = stays-torn start.rules (newer ++ older) s c _ refl (not-opened start (newer ++ older) s c legal before.was)
          before.gone;
    }

pub torn_stays_torn : (start : SwitchStart) (newer older : List Step) (c : ℕ) → IsLegal start (newer ++ older)
    → c < circuits older → is_live_circuit start.rules older c ≡ false → is_live_circuit start.rules (newer ++ older) c ≡ false
torn_stays_torn start newer older c legal was gone = (stays start newer older c legal (record { was = was; gone = gone })).gone
