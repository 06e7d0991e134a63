use Rattle.std.proofs.Common.{rules, ◌≡◌, ◌++◌, map, None, sym, ap, ◌∙◌, subst}
use Rattle.tor_spec.specs.CellReading.{with_piece, refusal, wrong_start, first_at, first_reading}
use Rattle.cell_codec.specs.Cells.{wire_cell}
use Rattle.cell_codec.specs.Decoding.{ReadsCells, unread_of, IsSettled}
use Rattle.cell_codec.proofs.Feeding.{open_reading, open_accepted, opening_reading, opening_refusal, opening_cells, opening_left, start_kept, start_left, refused_again, refused_left}
use Rattle.cell_codec.proofs.decoder.Decoder.feed.Goals as goal

pub invariant_of-self-in-Open : goal.invariant_of-self-in-Open
invariant_of-self-in-Open c =
    subst (λ s. IsSettled s c.feed_open.new.rest.items) (sym c.in-Open.is) c.in_ok-feed_open-in-Open.ensures.ok.settled

pub invariant_of-self-in-Some : goal.invariant_of-self-in-Some
invariant_of-self-in-Some c = (c.clear.ensures.items, start_kept _ _ _ (sym c.in-Some.ensures.start) c.in-Some.ensures.bytes)

pub returns-in-Some-clause-refused : goal.returns-in-Some-clause-refused
returns-in-Some-clause-refused c =
    opening_refusal _ _ _ _ (sym c.self.view_is) c.in-Opening.is ∙ (rw c.as_slice.ensures.value at (sym c.in-Some.ensures.start))

pub returns-in-Some-clause-unread : goal.returns-in-Some-clause-unread
returns-in-Some-clause-unread c = λ _.
    start_left _ _ _ (sym c.in-Some.ensures.start) c.in-Some.ensures.bytes
    ∙ ap (λ rest. (first_reading (rest ++ c.args.piece.now)).left) c.as_slice.ensures.value
    ∙ sym (ap (λ r. r.left) (opening_reading _ _ _ _ (sym c.self.view_is) c.in-Opening.is))

pub returns-in-Refused-clause-refused : goal.returns-in-Refused-clause-refused
returns-in-Refused-clause-refused c = refused_again _ _ _ _ _ _ (sym c.self.view_is) c.in-Refused.is c.self.invariant

pub returns-in-Refused-clause-unread : goal.returns-in-Refused-clause-unread
returns-in-Refused-clause-unread c = λ _. refused_left _ _ _ _ _ _ (sym c.self.view_is) c.in-Refused.is c.self.invariant

pub returns-in_ok-feed_open-in-Open-clause-cells : goal.returns-in_ok-feed_open-in-Open-clause-cells
returns-in_ok-feed_open-in-Open-clause-cells c =
    c.in_ok-feed_open-in-Open.ensures.ok.read ∙ sym (ap (λ r. r.cells) (open_reading _ _ _ _ (sym c.self.view_is) c.in-Open.is))

pub returns-in_ok-feed_open-in-Open-clause-accepted : goal.returns-in_ok-feed_open-in-Open-clause-accepted
returns-in_ok-feed_open-in-Open-clause-accepted c = open_accepted _ _ _ _ (sym c.self.view_is) c.in-Open.is

pub returns-in_ok-feed_open-in-Open-clause-unread : goal.returns-in_ok-feed_open-in-Open-clause-unread
returns-in_ok-feed_open-in-Open-clause-unread c = λ _.
    ap (λ s. unread_of s c.feed_open.new.rest.items) c.in-Open.is ∙ sym c.in_ok-feed_open-in-Open.ensures.ok.tail
    ∙ sym (ap (λ r. r.left) (open_reading _ _ _ _ (sym c.self.view_is) c.in-Open.is))

pub returns-in-Some-2-clause-cells : goal.returns-in-Some-2-clause-cells
returns-in-Some-2-clause-cells c =
    let reads : ReadsCells (first_reading (c.self.inside.rest.items ++ c.args.piece.now)) c.in-Some-2.cells.items
    c.feed_opening.new.rest.items =
    rw c.in-Some-2.is at c.in_ok-cells-in-Opening.ensures.opened in
    reads.read ∙ sym (ap (λ r. r.cells) (opening_reading _ _ _ _ (sym c.self.view_is) c.in-Opening.is))

pub returns-in-Some-2-clause-accepted : goal.returns-in-Some-2-clause-accepted
returns-in-Some-2-clause-accepted c =
    opening_refusal _ _ _ _ (sym c.self.view_is) c.in-Opening.is
    ∙ (rw c.as_slice.ensures.value at (sym c.in_default.ensures.start))

pub returns-in-Some-2-clause-unread : goal.returns-in-Some-2-clause-unread
returns-in-Some-2-clause-unread c = λ _.
    let reads : ReadsCells (first_reading (c.self.inside.rest.items ++ c.args.piece.now)) c.in-Some-2.cells.items
    c.feed_opening.new.rest.items =
    rw c.in-Some-2.is at c.in_ok-cells-in-Opening.ensures.opened in
    sym reads.tail ∙ sym (ap (λ r. r.left) (opening_reading _ _ _ _ (sym c.self.view_is) c.in-Opening.is))

pub returns-in-None-clause-cells : goal.returns-in-None-clause-cells
returns-in-None-clause-cells c =
    let kept : (c.feed_opening.new.rest.items ≡ c.self.inside.rest.items ++ c.args.piece.now)
    × (first_at c.feed_opening.new.rest.items ≡ None) =
    rw c.in-None.is at c.in_ok-cells-in-Opening.ensures.opening in
    let start : wrong_start (c.self.inside.rest.items ++ c.args.piece.now) ≡ None =
    rw c.as_slice.ensures.value at (sym c.in_default.ensures.start) in
    ap (map wire_cell) c.new.ensures ∙ sym (opening_cells _ start (rw kept.0 at kept.1))
    ∙ sym (ap (λ r. r.cells) (opening_reading _ _ _ _ (sym c.self.view_is) c.in-Opening.is))

pub returns-in-None-clause-accepted : goal.returns-in-None-clause-accepted
returns-in-None-clause-accepted c =
    opening_refusal _ _ _ _ (sym c.self.view_is) c.in-Opening.is
    ∙ (rw c.as_slice.ensures.value at (sym c.in_default.ensures.start))

pub returns-in-None-clause-unread : goal.returns-in-None-clause-unread
returns-in-None-clause-unread c = λ _.
    let kept : (c.feed_opening.new.rest.items ≡ c.self.inside.rest.items ++ c.args.piece.now)
    × (first_at c.feed_opening.new.rest.items ≡ None) =
    rw c.in-None.is at c.in_ok-cells-in-Opening.ensures.opening in
    let start : wrong_start (c.self.inside.rest.items ++ c.args.piece.now) ≡ None =
    rw c.as_slice.ensures.value at (sym c.in_default.ensures.start) in
    ap (λ s. unread_of s c.feed_opening.new.rest.items) c.in-Opening.is
    ∙ opening_left _ _ start (rw kept.0 at kept.1) kept.0
    ∙ sym (ap (λ r. r.left) (opening_reading _ _ _ _ (sym c.self.view_is) c.in-Opening.is))

pub returns-in_err-feed_open-in-Open-clause-refused : goal.returns-in_err-feed_open-in-Open-clause-refused
returns-in_err-feed_open-in-Open-clause-refused c =
    let accepted : refusal (with_piece c.args.self.now c.args.piece.now) ≡ None =
    open_accepted _ _ _ _ (sym c.self.view_is) c.in-Open.is in
    search (rules, accepted)

pub returns-in_err-cells-in-Opening-clause-refused : goal.returns-in_err-cells-in-Opening-clause-refused
returns-in_err-cells-in-Opening-clause-refused c =
    let accepted : refusal (with_piece c.args.self.now c.args.piece.now) ≡ None =
    opening_refusal _ _ _ _ (sym c.self.view_is) c.in-Opening.is
    ∙ (rw c.as_slice.ensures.value at (sym c.in_default.ensures.start)) in
    search (rules, accepted)
