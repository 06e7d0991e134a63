-- How a writer's rounds go on, and how they end.
use Rattle.std.proofs.Common.{arith, ◌≡◌, ℕ, ◌≤◌, List, [], ◌∷◌, ◌++◌, refl, sym, ap, subst, ◌∙◌, append_assoc}
use Rattle.std.specs.Prelude.{flat_map}
use Rattle.std.proofs.lemmas.List.{flat_map_more}
use Rattle.tr_io.specs.declared.loop_end.LoopEnd.{LoopEnd}
use Rattle.tr_io.specs.declared.names.ChanNo.{ChanNo}
use Rattle.tr_io.specs.declared.step.Step.{Step}
use Rattle.tr_io.specs.Faults.{Rose}
use Rattle.tr_io.specs.Pieces.{WroteAll}
use Rattle.tr_io.proofs.PieceLaws.{wrote_more}
use Rattle.channel_loops.specs.Writing.{WriterRound, round_steps, round_bytes, last_steps, last_bytes, IsWriterRun}
use Rattle.channel_loops.specs.RoundMade.{WriterTrace, IsWhole, IsLast}

-- What holds at each turn: whole rounds were made.
pub record Running (chan : ChanNo) (session : ℕ) (before now : WriterTrace) : Type 0 where
  pub rounds : List WriterRound
  pub made : now.steps ≡ before.steps ++ flat_map (round_steps chan) rounds
  pub written : WroteAll session (flat_map round_bytes rounds) before.written now.written
  pub counted : before.faults ≤ now.faults

whole_at : (chan same : ChanNo) (session again : ℕ) (now after : WriterTrace) → same ≡ chan → again ≡ session
    → IsWhole [] same again now after → IsWhole [] chan session now after
whole_at chan same session again now after chan_is session_is whole =
    subst (λ x. IsWhole [] x session now after) chan_is (subst (λ x. IsWhole [] same x now after) session_is whole)

last_at : (chan same : ChanNo) (session again : ℕ) (now after : WriterTrace) (end : LoopEnd) → same ≡ chan → again ≡ session
    → IsLast [] same again now after end → IsLast [] chan session now after end
last_at chan same session again now after end chan_is session_is last =
    subst (λ x. IsLast [] x session now after end) chan_is (subst (λ x. IsLast [] same x now after end) session_is last)

pub goes_on : (chan same : ChanNo) (session again : ℕ) (before now after : WriterTrace) → same ≡ chan → again ≡ session
    → Running chan session before now → IsWhole [] same again now after → now.faults ≤ after.faults
    → Running chan session before after
goes_on chan same session again before now after chan_is session_is was made counted =
    let whole : IsWhole [] chan session now after = whole_at chan same session again now after chan_is session_is made in
    let steps : after.steps ≡ now.steps ++ round_steps chan whole.round =
    whole.made.behind ∙ ap (λ xs. now.steps ++ xs) (sym whole.whole) in
    record {
      rounds = was.rounds ++ whole.round ∷ [];
      made = steps ∙ ap (λ xs. xs ++ round_steps chan whole.round) was.made
          ∙ flat_map_more (round_steps chan) before.steps was.rounds whole.round;
      written = subst (λ xs. WroteAll session xs before.written after.written)
          (flat_map_more round_bytes [] was.rounds whole.round)
          (wrote_more session (flat_map round_bytes was.rounds) (round_bytes whole.round) before.written now.written after.written
          was.written whole.written);
      counted = omega (arith, was.counted, counted);
    }

pub rose_later : (before now after : ℕ) → before ≤ now → Rose now after → Rose before after
rose_later before now after counted rose = omega (arith, counted, rose)

pub ends : (chan same : ChanNo) (session again : ℕ) (end : LoopEnd) (before now after : WriterTrace) → same ≡ chan
    → again ≡ session → Running chan session before now → IsLast [] same again now after end
    → (steps : List Step) × (after.steps ≡ before.steps ++ steps)
    × IsWriterRun chan session before.written after.written before.faults after.faults end steps
ends chan same session again end before now after chan_is session_is was made =
    let is : IsLast [] chan session now after end = last_at chan same session again now after end chan_is session_is made in
    let rest : after.steps ≡ now.steps ++ last_steps chan is.last = is.made ∙ ap (λ xs. now.steps ++ xs) (sym is.whole) in (
      flat_map (round_steps chan) was.rounds ++ last_steps chan is.last,
      rest ∙ ap (λ xs. xs ++ last_steps chan is.last) was.made
          ∙ append_assoc before.steps (flat_map (round_steps chan) was.rounds) (last_steps chan is.last),
      record {
        rounds = was.rounds;
        last = is.last;
        end_is = is.end_is;
        steps_are = refl;
        written = wrote_more session (flat_map round_bytes was.rounds) (last_bytes is.last) before.written now.written
            after.written was.written is.written;
        cause = λ cut. rose_later before.faults now.faults after.faults was.counted (is.cause cut);
      },
    )
