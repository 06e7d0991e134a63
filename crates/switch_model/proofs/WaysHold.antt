-- Each direction of each circuit of a legal history: what was claimed of it has come home, but for the claim
-- that is out.
use Rattle.std.proofs.Common.{◌≡◌, ℕ, ◌+◌, ◌-◌, ◌≤◌, ◌==◌, Bool, true, false, min, List, [], ◌∷◌, ◌++◌, length, Option, Some, None, refl, sym, ◌∙◌, ap, subst, arith}
use Rattle.std.proofs.lemmas.List.{append-nil, length-append}
use Rattle.circuit_model.specs.Rules.{Rules}
use Rattle.circuit_model.specs.Events.{CircuitCell}
use Rattle.circuit_model.specs.Words.{log}
use Rattle.kdf_tor.specs.declared.LayerKeys.{LayerKeys}
use Rattle.cell_codec.specs.declared.cell.Cell.{Cell}
use Rattle.tr_io.specs.declared.answers.BackAnswer.{BackAnswer}
use Rattle.tr_io.specs.declared.answers.BackAnswer.TheVariants.{Settled, Down}
use Rattle.tr_io.specs.declared.answers.OpenAnswer.TheVariants.{Opened}
use Rattle.tr_io.specs.declared.names.ChanNo.{ChanNo}
use Rattle.tr_io.specs.declared.names.CircNo.{CircNo}
use Rattle.tr_io.specs.declared.names.ClaimNote.{ClaimNote}
use Rattle.tr_io.specs.declared.names.Dir.{Dir}
use Rattle.tr_io.specs.declared.names.Dir.TheVariants.{Forth, Back}
use Rattle.tr_io.specs.declared.step.Step.{Step}
use Rattle.tr_io.specs.declared.step.Step.TheVariants.{OpenCircuit, Claim, GiveBack}
use Rattle.switch_model.specs.Start.{SwitchStart}
use Rattle.switch_model.specs.Names.{Way, same_way, way_of}
use Rattle.switch_model.specs.History.Taken.{taken_forth, claimed_cells}
use Rattle.switch_model.specs.History.Circuit.{is_live_circuit, sent, events, opens, is_accepted_return}
use Rattle.switch_model.specs.Waiting.Claims.{claimed_count, claim_out, bodies}
use Rattle.switch_model.specs.Answers.GiveBack.{done, done_by}
use Rattle.circuit_model.specs.Batches.{events_behind}
use Rattle.switch_model.specs.History.Returns.{settled, settling_reason}
use Rattle.switch_model.specs.History.Relayed.{settled_forth}
use Rattle.switch_model.specs.Legal.{IsLegal}
use Rattle.switch_model.proofs.Common.{self_eq, and-first, and-second, same-number}
use Rattle.switch_model.proofs.BodiesListed.{given-grows}
use Rattle.switch_model.proofs.ClaimFinds.{way-is}
use Rattle.switch_model.proofs.Claiming.{Claimed, claimed-by}
use Rattle.switch_model.proofs.Returning.{settles, forth-behind}
use Rattle.switch_model.proofs.WrongSendmes.{down_ends_circuit}
use Rattle.switch_model.proofs.Ways.{WayIs, WayHas, IsOut, out-is, keeps, claims-more, comes-home, there, gone-way, brings_home, came_home, came-same, kept-other, was-live, count-part}
use Rattle.switch_model.proofs.Unopened.{not-yet, opened-number, home-passed}

-- a step that neither claims of the direction nor brings it a claim home
stays : (rules : Rules) (h : List Step) (s : Step) (c : ℕ) (dir : Dir) → opens c s ≡ false → brings_home c dir s ≡ false →
    claim_out (s ∷ h) (record { circ = c; dir = dir }) ≡ claim_out h (record { circ = c; dir = dir })
    → claimed_count (s ∷ h) (record { circ = c; dir = dir }) ≡ claimed_count h (record { circ = c; dir = dir }) →
    WayHas rules h c dir → WayHas rules (s ∷ h) c dir
stays rules h s c dir none other same_out same_sum has =
    keeps (is_live_circuit rules h c) (is_live_circuit rules (s ∷ h) c) _ _ _ _ _ _ _ _ (was-live rules h s c none) same_out
    same_sum (came-same rules h s c dir other) (given-grows rules h s c dir) has

-- a claim
claims : (start : SwitchStart) (h : List Step) (worker : ℕ) (note : ClaimNote) (c : ℕ) (dir : Dir) (b : Bool)
    → same_way (way_of note) (record { circ = c; dir = dir }) ≡ b → Claimed start h note → WayHas start.rules h c dir →
    WayHas start.rules (Claim worker (Some note) ∷ h) c dir
claims start h worker note c dir true is taken has =
    let same = way-is (way_of note) (record { circ = c; dir = dir }) is in
    claims-more (is_live_circuit start.rules h c) (is_live_circuit start.rules (Claim worker (Some note) ∷ h) c) note _ _ _ _ _ _
    _ _ (was-live start.rules h (Claim worker (Some note)) c refl)
    (subst (λ (w : Way). claim_out h w ≡ None) same taken.home) (rw is refl) (rw is refl)
    (came-same start.rules h (Claim worker (Some note)) c dir refl)
    (given-grows start.rules h (Claim worker (Some note)) c dir)
    (subst (λ (w : Way). note.first ≡ claimed_count h w) same taken.first)
    (subst (λ (w : Way). note.count ≡ min 32 (bodies start.rules h w w.dir - claimed_count h w)) same taken.count) has
claims start h worker note c dir false is taken has =
    stays start.rules h (Claim worker (Some note)) c dir refl refl (rw is refl) (rw is refl) has

-- a return
pub own-same : (note : ClaimNote) (dir : Dir) → note.dir ≡ dir
    → same_way (way_of note) (record { circ = note.circ.0; dir = dir }) ≡ true
own-same note Forth is = rw (self_eq note.circ.0, is) refl
own-same note Back is = rw (self_eq note.circ.0, is) refl

none-by : (o : Option ℕ) → Settled ≡ done_by o → o ≡ None
none-by None is = refl
none-by (Some reason) is = absurd cc

whole : (some later cells : List CircuitCell) → some ++ later ≡ cells → later ≡ [] → some ≡ cells
whole some later cells are none = sym (append-nil some) ∙ subst (λ l. some ++ l ≡ cells) none are

-- all cells of a forward claim settle
pub settles-all : (start : SwitchStart) (h : List Step) (note : ClaimNote) → note.dir ≡ Forth
    → Settled ≡ done start.rules h note note.dir →
    settled start.rules (length (sent start.rules h note.circ.0 0)) (events start.rules h note.circ.0) (claimed_cells h note)
    ≡ events_behind (events start.rules h note.circ.0) (claimed_cells h note)
settles-all start h note is_forth is =
    let left = length (sent start.rules h note.circ.0 0) in
    let part = settles start.rules left (events start.rules h note.circ.0) (claimed_cells h note) in
    let by_reason : Settled ≡ done_by
    (settling_reason start.rules left (events start.rules h note.circ.0) (claimed_cells h note)) = rw is_forth at is in
    let all = whole part.some part.later (claimed_cells h note) part.cells_are (part.all (none-by _ by_reason)) in
    part.events_are ∙ ap (λ l. events_behind (events start.rules h note.circ.0) l) all

came-forth : (start : SwitchStart) (h : List Step) (note : ClaimNote) (place : Option ℕ) → note.dir ≡ Forth
    → Settled ≡ done start.rules h note note.dir → length (claimed_cells h note) ≡ note.count →
    came_home start.rules (GiveBack note place Settled ∷ h) note.circ.0 Forth ≡ came_home start.rules h note.circ.0 Forth
    + note.count
came-forth start h note place is_forth is count =
    let ev = events start.rules h note.circ.0 in
    let all = settles-all start h note is_forth is in
    let cells : settled_forth
    (log start.rules (settled start.rules (length (sent start.rules h note.circ.0 0)) ev (claimed_cells h note)))
    ≡ settled_forth (log start.rules ev) ++ claimed_cells h note =
    ap (λ l. settled_forth (log start.rules l)) all ∙ forth-behind start.rules ev (claimed_cells h note) in
    let sum = length-append (settled_forth (log start.rules ev)) (claimed_cells h note) in
    rw (self_eq note.circ.0, is_forth)
    (ap (λ (l : List CircuitCell). length l) cells ∙ sum ∙ ap (λ n. length (settled_forth (log start.rules ev)) + n) count)

came-back : (rules : Rules) (h : List Step) (note : ClaimNote) (place : Option ℕ) → note.dir ≡ Back
    → came_home rules (GiveBack note place Settled ∷ h) note.circ.0 Back ≡ came_home rules h note.circ.0 Back + note.count
came-back rules h note place is_back = rw (own-same note Back is_back) refl

-- all bodies of a claim that comes home are there
pub all-there : (start : SwitchStart) (h : List Step) (note : ClaimNote) (place : Option ℕ) (a : BackAnswer) (dir : Dir)
    → note.dir ≡ dir → IsLegal start (GiveBack note place a ∷ h) → is_accepted_return a ≡ true →
    WayHas start.rules h note.circ.0 dir → (note.first ≡ came_home start.rules h note.circ.0 dir)
    × (note.first + note.count ≤ bodies start.rules h (record { circ = note.circ.0; dir = dir }) dir)
all-there start h note place a dir is legal accepted has =
    let checked = home-passed start h note place a legal accepted in
    let own = subst (λ d. IsOut note (claim_out h (record { circ = note.circ.0; dir = d }))) is
    (out-is note (claim_out h (way_of note)) checked.note) in
    there (is_live_circuit start.rules h note.circ.0) note _ _ _ _ checked.live own has

came-home : (start : SwitchStart) (h : List Step) (note : ClaimNote) (place : Option ℕ) (dir : Dir) → note.dir ≡ dir
    → IsLegal start (GiveBack note place Settled ∷ h) → WayHas start.rules h note.circ.0 dir →
    came_home start.rules (GiveBack note place Settled ∷ h) note.circ.0 dir ≡ came_home start.rules h note.circ.0 dir + note.count
came-home start h note place Forth is legal has =
    let inside = all-there start h note place Settled Forth is legal refl has in
    let checked = home-passed start h note place Settled legal refl in
    came-forth start h note place is (legal.0.1 ∙ checked.answer_is)
    (count-part (taken_forth h note.circ.0) note.first note.count inside.1)
came-home start h note place Back is legal has = came-back start.rules h note place is

returns : (start : SwitchStart) (h : List Step) (note : ClaimNote) (place : Option ℕ) (a : BackAnswer) (dir : Dir)
    → note.dir ≡ dir → IsLegal start (GiveBack note place a ∷ h) → is_accepted_return a ≡ true →
    WayHas start.rules h note.circ.0 dir → WayHas start.rules (GiveBack note place a ∷ h) note.circ.0 dir
returns start h note place Settled dir is legal accepted has =
    let checked = home-passed start h note place Settled legal accepted in
    let own = subst (λ d. IsOut note (claim_out h (record { circ = note.circ.0; dir = d }))) is
    (out-is note (claim_out h (way_of note)) checked.note) in
    comes-home (is_live_circuit start.rules h note.circ.0)
    (is_live_circuit start.rules (GiveBack note place Settled ∷ h) note.circ.0) note _ _ _ _ _ _ _
    (was-live start.rules h (GiveBack note place Settled) note.circ.0 refl)
    (rw (own-same note dir is) refl) (came-home start h note place dir is legal has)
    (given-grows start.rules h (GiveBack note place Settled) note.circ.0 dir) own has
returns start h note place (Down reason) dir is legal accepted has =
    gone-way (is_live_circuit start.rules (GiveBack note place (Down reason) ∷ h) note.circ.0) _ _ _ _
    (down_ends_circuit start.rules h note place reason)
returns start h note place a dir is legal accepted has = absurd cc

returns-by : (start : SwitchStart) (h : List Step) (note : ClaimNote) (place : Option ℕ) (a : BackAnswer) (c : ℕ) (dir : Dir)
    (b : Bool) → brings_home c dir (GiveBack note place a) ≡ b → IsLegal start (GiveBack note place a ∷ h) →
    WayHas start.rules h c dir → WayHas start.rules (GiveBack note place a ∷ h) c dir
returns-by start h note place a c dir true is legal has =
    let same = way-is (way_of note) (record { circ = c; dir = dir })
    (and-first (same_way (way_of note) (record { circ = c; dir = dir })) _ is) in
    let accepted = and-second (same_way (way_of note) (record { circ = c; dir = dir })) _ is in
    let before = subst (λ (w : Way). WayHas start.rules h w.circ w.dir) (sym same) has in
    subst (λ (w : Way). WayHas start.rules (GiveBack note place a ∷ h) w.circ w.dir) same
    (returns start h note place a note.dir refl legal accepted before)
returns-by start h note place a c dir false is legal has =
    stays start.rules h (GiveBack note place a) c dir refl is (kept-other h note place a c dir is) refl has

-- an opening
empty-way : (m : Bool) (out : Option ClaimNote) (sum came given : ℕ) → out ≡ None → sum ≡ 0 → came ≡ 0
    → WayIs m out sum came given
empty-way m out sum came given none none_claimed none_came =
    rw (none, none_claimed, none_came) (record { home = λ on. refl; noted = λ on. tt; within = λ on. omega arith })

opens-by : (start : SwitchStart) (h : List Step) (chan : ChanNo) (id : ℕ) (reply : Cell) (keys : Option LayerKeys)
    (pad : Option (List ℕ)) (n : CircNo) (c : ℕ) (dir : Dir) (b : Bool) → (n.0 == c) ≡ b →
    IsLegal start (OpenCircuit chan id reply keys pad (Opened n) ∷ h) → WayHas start.rules h c dir
    → WayHas start.rules (OpenCircuit chan id reply keys pad (Opened n) ∷ h) c dir
opens-by start h chan id reply keys pad n c dir true is legal has =
    let number = opened-number start h chan.0 id keys n legal.0.1 in
    let same = same-number n.0 c is in
    let none = not-yet start h legal.1 c dir (omega (arith, number, same)) in
    empty-way _ _ _ _ _ none.none_out none.none_claimed
    (came-same start.rules h (OpenCircuit chan id reply keys pad (Opened n)) c dir refl ∙ none.none_came)
opens-by start h chan id reply keys pad n c dir false is legal has =
    stays start.rules h (OpenCircuit chan id reply keys pad (Opened n)) c dir is refl refl refl has

ways-first : (rules : Rules) (c : ℕ) (dir : Dir) → WayHas rules [] c dir
ways-first rules c dir = gone-way false _ _ _ _ refl

pub ways : (start : SwitchStart) (h : List Step) → IsLegal start h → (c : ℕ) (dir : Dir) → WayHas start.rules h c dir
ways start [] legal c dir = ways-first start.rules c dir
ways start (OpenCircuit chan id reply keys pad (Opened n) ∷ h) legal c dir =
    opens-by start h chan id reply keys pad n c dir (n.0 == c) refl legal (ways start h legal.1 c dir)
ways start (Claim worker (Some note) ∷ h) legal c dir =
    claims start h worker note c dir _ refl (claimed-by start h worker note legal.0.1) (ways start h legal.1 c dir)
ways start (GiveBack note place a ∷ h) legal c dir =
    returns-by start h note place a c dir _ refl legal (ways start h legal.1 c dir)
ways start (s ∷ h) legal c dir = stays start.rules h s c dir refl refl refl refl (ways start h legal.1 c dir)
