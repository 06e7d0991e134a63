use Rattle.std.proofs.Common.{ℕ, ◌+◌, List, [], ◌∷◌, take, slice_index_or, refl, sym, subst}
use Rattle.crypto_spec.specs.Aes.{expanded, round_key}
use Rattle.aes_lanes.specs.Sliced.{IsState, IsLaneKeys, masked}
use Rattle.aes_lanes.specs.declared.planes.Planes.{Planes}
use Rattle.aes_lanes.proofs.Eight.{below_ten}
use Rattle.aes_lanes.proofs.LaneKeyPlanes.{other_key}
use Rattle.aes_lanes.proofs.keys.LaneKeys.of.Goals as goal

pub invariant_of-result : goal.invariant_of-result
invariant_of-result c =
    let e = c.round_keys-keys.ensures in
    let first = c.first_planes.result in
    let others : List Planes =
    c.other_planes.result ∷ c.other_planes-2.result ∷ c.other_planes-3.result ∷ c.other_planes-4.result
    ∷ c.other_planes-5.result ∷ c.other_planes-6.result ∷ c.other_planes-7.result ∷ c.other_planes-8.result
    ∷ c.other_planes-9.result ∷ c.other_planes-10.result ∷ [] in
    subst (λ (key : List ℕ). IsLaneKeys key first others) (sym c.key.ensures) (record {
      first_key = λ b h. subst (λ (keys : List ℕ). IsState first b (take 16 keys)) e (c.first_planes.ensures b h);
      long = refl;
      other_keys = λ n b none h l.
          below_ten (λ n. IsState (slice_index_or others n none) b (masked (round_key (expanded c.args.schedule.now 40) (n + 1))))
          (other_key c.other_planes.result b _ _ 1 e (c.other_planes.ensures b l))
          (other_key c.other_planes-2.result b _ _ 2 e (c.other_planes-2.ensures b l))
          (other_key c.other_planes-3.result b _ _ 3 e (c.other_planes-3.ensures b l))
          (other_key c.other_planes-4.result b _ _ 4 e (c.other_planes-4.ensures b l))
          (other_key c.other_planes-5.result b _ _ 5 e (c.other_planes-5.ensures b l))
          (other_key c.other_planes-6.result b _ _ 6 e (c.other_planes-6.ensures b l))
          (other_key c.other_planes-7.result b _ _ 7 e (c.other_planes-7.ensures b l))
          (other_key c.other_planes-8.result b _ _ 8 e (c.other_planes-8.ensures b l))
          (other_key c.other_planes-9.result b _ _ 9 e (c.other_planes-9.ensures b l))
          (other_key c.other_planes-10.result b _ _ 10 e (c.other_planes-10.ensures b l))
          n h;
    })
