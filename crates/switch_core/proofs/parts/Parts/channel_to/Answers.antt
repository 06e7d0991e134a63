use Rattle.std.proofs.Common.{◌≡◌, ◌<◌, length, ap, sym, ◌∙◌, subst, arith}
use Rattle.switch_model.specs.Names.{chan_no}
use Rattle.std.specs.Prelude.{option_map}
use Rattle.switch_machine.specs.State.{State}
use Rattle.switch_machine.proofs.PlainLists.{length-all_there}
use Rattle.switch_core.proofs.Dialled.{first_leads, leads_further, none_leads}
use Rattle.switch_core.proofs.parts.Parts.channel_to.Goals as goal

pub loop-number-preserved : goal.loop-number-preserved
loop-number-preserved c =
    leads_further c.args.self.now.channels c.args.to.now c.loop-number.number c.leads_to.result c.leads_to.ensures
    c.if-leads_to.false c.loop-number.invariant

pub returns-then-leads_to : goal.returns-then-leads_to
returns-then-leads_to c =
    let all = ap (λ (s : State). length s.channels) c.self.view_is in
    let count = length-all_there c.self.inside.channels.items in
    ap (option_map chan_no)
    (first_leads c.args.self.now.channels c.args.to.now c.loop-number.number c.leads_to.result c.leads_to.ensures
    c.if-leads_to.true c.loop-number.invariant
    (omega (arith, c.len-number-end.ensures, c.loop-number-test.true, c.self.inside.channels.ok, all, count)))

pub returns : goal.returns
returns c =
    let all = ap (λ (s : State). length s.channels) c.self.view_is in
    let count = length-all_there c.self.inside.channels.items in
    none_leads c.args.self.now.channels c.args.to.now c.loop-number.number
    (omega (
      arith,
      c.loop-number-test.false,
      c.loop-number.auto.number-end,
      c.len-number-end.ensures,
      c.self.inside.channels.ok,
      all,
      count,
    ))
    c.loop-number.invariant
