-- A `RelayHead` as tor-spec's fields.
use Rattle.relay_cell.specs.declared.head.RelayHead.{RelayHead as CodeHead}
use Rattle.tor_spec.specs.RelayCell.{RelayHead}

abbrev pub head_of : CodeHead → RelayHead
head_of h = record {
  command = h.command;
  recognized = h.recognized;
  stream = h.stream;
  digest = h.digest;
  length = h.length;
}
