use Rattle.std.proofs.Common.{arith, [], ◌∷◌, sym, ap, subst, ◌∙◌, refl}
use Rattle.tor_spec.specs.RelayCell.{relay_body, end_command}
use Rattle.circ_relay.specs.BroughtMessages.{after_cell}
use Rattle.circ_relay.specs.CircuitOfLog.{HasParts}
use Rattle.circ_relay.specs.Values.{rules_of}
use Rattle.circuit_model.specs.Streams.{ending}
use Rattle.circ_relay.proofs.MessageKinds.{of_begin, of_end, of_sendme, of_truncate, of_resolve, of_begin_dir, of_extend2, other_command, other_packaged_parts, IsUnknown, unknown_does, unknown_parts}
use Rattle.circ_relay.proofs.HopMessages.{truncated_parts}
use Rattle.circ_relay.proofs.circuit.Circuit.other_message.Goals as goal

pub returns-in-1-clause-effects : goal.returns-in-1-clause-effects
returns-in-1-clause-effects c = λ log command body m b made has.
    c.begin.ensures.effects log command body m b has
    ∙ sym (of_begin (rules_of c.args.rules.now) log m (sym b.relay_command ∙ c.in-1.is))

pub returns-in-1-clause-parts : goal.returns-in-1-clause-parts
returns-in-1-clause-parts c = λ log command body m b made has unclosed.
    c.begin.ensures.parts log command body m b has (sym b.relay_command ∙ c.in-1.is) unclosed

pub returns-in-3-clause-effects : goal.returns-in-3-clause-effects
returns-in-3-clause-effects c = λ log command body m b made has.
    c.end.ensures.effects log command body m b has
    ∙ sym (of_end (rules_of c.args.rules.now) log m (sym b.relay_command ∙ c.in-3.is))

pub returns-in-3-clause-parts : goal.returns-in-3-clause-parts
returns-in-3-clause-parts c = λ log command body m b made has unclosed.
    c.end.ensures.parts (rules_of c.args.rules.now) log command body m b has (sym b.relay_command ∙ c.in-3.is) unclosed

pub returns-in-5-clause-effects : goal.returns-in-5-clause-effects
returns-in-5-clause-effects c = λ log command body m b made has.
    c.sendme.ensures.effects (rules_of c.args.rules.now) log command body m b made has
    ∙ sym (of_sendme (rules_of c.args.rules.now) log m (sym b.relay_command ∙ c.in-5.is))

pub returns-in-5-clause-parts : goal.returns-in-5-clause-parts
returns-in-5-clause-parts c = λ log command body m b made has unclosed.
    c.sendme.ensures.parts (rules_of c.args.rules.now) log command body m b made has (sym b.relay_command ∙ c.in-5.is) unclosed

pub returns-in-11-clause-effects : goal.returns-in-11-clause-effects
returns-in-11-clause-effects c = λ log command body m b made has.
    c.resolve.ensures.effects log command body m b has
    ∙ sym (of_resolve (rules_of c.args.rules.now) log m (sym b.relay_command ∙ c.in-11.is))

pub returns-in-11-clause-parts : goal.returns-in-11-clause-parts
returns-in-11-clause-parts c = λ log command body m b made has unclosed.
    c.resolve.ensures.parts log command body m b has (sym b.relay_command ∙ c.in-11.is)

pub returns-in-14-clause-effects : goal.returns-in-14-clause-effects
returns-in-14-clause-effects c = λ log command body m b made has.
    c.extend.ensures.effects log command body m b has
    ∙ sym (of_extend2 (rules_of c.args.rules.now) log m (sym b.relay_command ∙ c.in-14.is))

pub returns-in-14-clause-parts : goal.returns-in-14-clause-parts
returns-in-14-clause-parts c = λ log command body m b made has unclosed.
    c.extend.ensures.parts (rules_of c.args.rules.now) log command body m b has (sym b.relay_command ∙ c.in-14.is) unclosed

pub returns-in-8-clause-effects : goal.returns-in-8-clause-effects
returns-in-8-clause-effects c = λ log command body m b made has.
    c.truncate.ensures.effects log has ∙ sym (of_truncate (rules_of c.args.rules.now) log m (sym b.relay_command ∙ c.in-8.is))

pub returns-in-8-clause-parts : goal.returns-in-8-clause-parts
returns-in-8-clause-parts c = λ log command body m b made has unclosed.
    let rules = rules_of c.args.rules.now in
    subst (λ d. HasParts d (after_cell rules log command body)) (sym c.truncate.ensures.rest)
    (truncated_parts c.args.self.now c.truncate.new.self.packager c.args.message.now rules log command body m b has
    (sym b.relay_command ∙ c.in-8.is) c.truncate.ensures.next)

pub returns-in-13-clause-effects : goal.returns-in-13-clause-effects
returns-in-13-clause-effects c = λ log command body m b made has.
    c.ending.ensures.effects log has.packager ∙ ap (λ n. ending log n 14) b.stream
    ∙ sym (of_begin_dir (rules_of c.args.rules.now) log m (sym b.relay_command ∙ c.in-13.is))

pub returns-in-13-clause-parts : goal.returns-in-13-clause-parts
returns-in-13-clause-parts c = λ log command body m b made has unclosed.
    let rules = rules_of c.args.rules.now in
    let does = of_begin_dir rules log m (sym b.relay_command ∙ c.in-13.is) ∙ ap (λ n. ending log n 14) (sym b.stream) in
    subst (λ d. HasParts d (after_cell rules log command body)) (sym c.ending.ensures.rest)
    (other_packaged_parts c.args.self.now c.ending.new.self.packager c.args.message.now rules log command body m
    (relay_body end_command c.args.message.now.stream (14 ∷ [])) b has does
    c.ending.ensures.next (other_command m.command 13 (sym b.relay_command ∙ c.in-13.is) refl refl refl refl))

pub returns-in_default-clause-effects : goal.returns-in_default-clause-effects
returns-in_default-clause-effects c = λ log command body m b made has.
    let unknown : IsUnknown c.args.message.now.command =
    record {
      other = record { begin = grind arith; data_ = grind arith; end = grind arith; sendme = grind arith };
      truncate = grind arith;
      resolve = grind arith;
      begin_dir = grind arith;
      extend2 = grind arith;
    } in
    c.none.ensures ∙ sym (unknown_does (rules_of c.args.rules.now) log m (subst IsUnknown b.relay_command unknown))

pub returns-in_default-clause-parts : goal.returns-in_default-clause-parts
returns-in_default-clause-parts c = λ log command body m b made has unclosed.
    let unknown : IsUnknown c.args.message.now.command =
    record {
      other = record { begin = grind arith; data_ = grind arith; end = grind arith; sendme = grind arith };
      truncate = grind arith;
      resolve = grind arith;
      begin_dir = grind arith;
      extend2 = grind arith;
    } in
    unknown_parts c.args.self.now c.args.message.now (rules_of c.args.rules.now) log command body m b has
    (subst IsUnknown b.relay_command unknown)
