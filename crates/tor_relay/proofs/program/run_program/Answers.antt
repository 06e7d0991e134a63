use Rattle.tor_relay.proofs.program.run_program.Goals as goal

pub returns : goal.returns
returns g c = record {
  status = c.tape_main-status.result;
  tells = c.end_program.ensures;
  ends = record {
    usage = c.tape_main-status.ensures.usage;
    unused = c.tape_main-status.ensures.unused;
    possible = c.tape_main-status.ensures.status;
    read = c.tape_main-status.ensures.read;
    write = c.tape_main-status.ensures.write;
    run = c.tape_main-status.ensures.run;
    done = c.tape_main-status.ensures.done;
  };
}
