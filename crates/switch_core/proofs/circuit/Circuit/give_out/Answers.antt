use Rattle.std.proofs.Common.{◌≡◌, ◌≤◌, arith, length, None, OnOk, sym, subst}
use Rattle.tr_io.specs.declared.names.Dir.{Dir}
use Rattle.switch_machine.specs.Calls.Claim.{claimed_way, with_way}
use Rattle.switch_machine.specs.Machine.{way_of_circuit}
use Rattle.switch_core.proofs.circuit.Circuit.give_out.Goals as goal

pub give_out_forth-requires : goal.give_out_forth-requires
give_out_forth-requires c = record {
  none_out = subst (λ (d : Dir). (way_of_circuit c.args.self.now d).claim_out ≡ None) c.in-Forth.is c.requires.none_out;
  enough = subst (λ (d : Dir). c.args.note.count ≤ length (way_of_circuit c.args.self.now d).waiting_bodies) c.in-Forth.is
      c.requires.enough;
  fits = c.requires.fits;
}

pub give_out_back-requires : goal.give_out_back-requires
give_out_back-requires c = record {
  none_out = subst (λ (d : Dir). (way_of_circuit c.args.self.now d).claim_out ≡ None) c.in-Back.is c.requires.none_out;
  enough = subst (λ (d : Dir). c.args.note.count ≤ length (way_of_circuit c.args.self.now d).waiting_bodies) c.in-Back.is
      c.requires.enough;
  fits = omega (arith, c.requires.fits);
}

pub returns-in-Forth-clause-ok : goal.returns-in-Forth-clause-ok
returns-in-Forth-clause-ok c =
    subst (λ (d : Dir). OnOk c.give_out_forth.result
    (c.give_out_forth.new.self ≡ with_way c.args.self.now d (claimed_way c.args.note (way_of_circuit c.args.self.now d))))
    (sym c.in-Forth.is) c.give_out_forth.ensures.ok

pub returns-in-Back-clause-ok : goal.returns-in-Back-clause-ok
returns-in-Back-clause-ok c =
    subst (λ (d : Dir). OnOk c.give_out_back.result
    (c.give_out_back.new.self ≡ with_way c.args.self.now d (claimed_way c.args.note (way_of_circuit c.args.self.now d))))
    (sym c.in-Back.is) c.give_out_back.ensures.ok
