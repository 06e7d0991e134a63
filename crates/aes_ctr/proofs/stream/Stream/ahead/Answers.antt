use Rattle.std.proofs.Common.{◌≡◌, ◌+◌, ◌-◌, ◌*◌, ◌/◌, ◌≤◌, ℕ, ap, ◌∙◌, arith, length-take, length-drop}
use Rattle.crypto_spec.specs.Keystream.{keystream_part}
use Rattle.aes_ctr.proofs.Stores.{counted, filled_up}
use Rattle.aes_ctr.proofs.stream.Stream.ahead.Goals as goal
use Rattle.aes_ctr.proofs.stream.Stream.ahead.Goals.{then-made-lt1024, else-made-lt1024}

pub invariant_of-self : goal.invariant_of-self
invariant_of-self c =
    let s = c.self.inside in
    let store = c.self.invariant in
    let within = store.within in
    let more = (1151 - (1152 - s.used)) / 128 * 128 in
    elim c.if-made-lt1024.branch [
      | then-made-lt1024 w ↦
          let few = w.if-made-lt1024.true in
          let long = w.move_down.ensures.long in
          let fits : more ≤ 1152 = omega arith in
          let filled : w.fill.new.pad ≡ keystream_part s.keys (16 * ((s.position + (1152 - s.used)) / 16)) more =
          w.fill.ensures
          ∙ ap (λ (n : ℕ). keystream_part s.keys (16 * ((s.position + (1152 - s.used)) / 16)) n)
          (simp (length-take, length-drop) (omega (arith, long, fits))) in
          rw w.self-inside-is
          (filled_up s.keys s.position s.store w.move_down.new.store w.fill.new.pad s.used s.ready more _ store long
          (omega (arith, within, few)) (omega arith) (omega (arith, within, few)) (omega (arith, fits)) w.move_down.ensures.moved
          c.self.told filled)
      | else-made-lt1024 w ↦
          rw w.self-inside-is
          (counted s.keys s.position s.store s.used s.ready store (omega (arith, within, w.if-made-lt1024.false)))
    ]
