use Rattle.std.proofs.Common.{◌<◌, length, sym, ◌∙◌, arith}
use Rattle.switch_core.proofs.Gone.{slot-get}
use Rattle.switch_core.proofs.Serving.{JobFits, job_fits, job_carries, relay_inside, relay_there}
use Rattle.switch_core.proofs.claiming.job_of.Goals as goal

pub index-requires : goal.index-requires
index-requires c =
    let below : c.args.note.circ.0 < length c.args.relays.now.items =
    relay_inside c.args.relays.now.items c.args.parts.now.circuits c.args.note c.requires.relays c.requires.claim in
    omega (arith, below, c.args.relays.now.ok)

pub cipher_of-cipher-requires : goal.cipher_of-cipher-requires
cipher_of-cipher-requires c =
    let below : c.args.note.circ.0 < length c.args.relays.now.items =
    relay_inside c.args.relays.now.items c.args.parts.now.circuits c.args.note c.requires.relays c.requires.claim in
    relay_there c.args.relays.now.items c.args.parts.now.circuits c.args.note c.index.result.now c.requires.relays
    c.requires.claim
    (slot-get c.args.relays.now.items c.args.note.circ.0 c.index.result.now below ∙ sym c.index.ensures)

pub of-requires : goal.of-requires
of-requires c =
    let below : c.args.note.circ.0 < length c.args.relays.now.items =
    relay_inside c.args.relays.now.items c.args.parts.now.circuits c.args.note c.requires.relays c.requires.claim in
    let fits : JobFits c.args.note c.cipher_of-cipher.result c.in_ok-bodies.bodies.items =
    job_fits c.args.relays.now.items c.args.parts.now.circuits c.args.note c.index.result.now c.cipher_of-cipher.result
    c.in_ok-bodies.bodies.items c.requires.relays c.requires.claim
    (slot-get c.args.relays.now.items c.args.note.circ.0 c.index.result.now below ∙ sym c.index.ensures)
    c.cipher_of-cipher.ensures c.in_ok-bodies.ensures c.requires.fits in
    record {
      direction = fits.direction;
      count = fits.count;
      some = fits.some;
      most = fits.most;
      position = fits.position;
    }

pub returns-in-Ok-clause-carries : goal.returns-in-Ok-clause-carries
returns-in-Ok-clause-carries c =
    let below : c.args.note.circ.0 < length c.args.relays.now.items =
    relay_inside c.args.relays.now.items c.args.parts.now.circuits c.args.note c.requires.relays c.requires.claim in
    job_carries c.args.relays.now.items c.args.parts.now.circuits c.args.note c.index.result.now c.cipher_of-cipher.result
    c.in_ok-bodies.bodies c.in-Ok.job c.requires.relays c.requires.claim
    (slot-get c.args.relays.now.items c.args.note.circ.0 c.index.result.now below ∙ sym c.index.ensures)
    c.cipher_of-cipher.ensures c.in_ok-bodies.ensures c.in-Ok.ensures.ok
