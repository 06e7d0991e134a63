-- What holds of the table once one roster of it is another.
use Rattle.std.proofs.Common.{◌≡◌, ℕ, ◌≤◌, cond, List, [], ◌∷◌, Option, Some, None, IsSome, length, eqb, refl, sym, ap, ◌∙◌, subst, inl, inr, arith}
use Rattle.std.proofs.lemmas.Bool.{eq-eqb, ne_eqb, cases_eq}
use Rattle.std.proofs.lemmas.Cmp.{nat_eq_equiv}
use Rattle.std.proofs.lemmas.Map.{lookup-set_value}
use Rattle.std.specs.Map.{set_value}
use Rattle.std.specs.VecDeque.{deque_len}
use Rattle.ewma_sched.specs.declared.roster.Roster.{Roster}
use Rattle.ewma_sched.specs.Tables.{Legs, Rosters, roster_in, RosterHasRoom, KeepsRoom, IsRoster, IsWithoutLegs, KeepsRoster, IsTable, SameLegs}
use Rattle.ewma_sched.proofs.Keeping.{RosterChanges, roster_same, keeps_by}
use Rattle.ewma_sched.proofs.Maps.{unchanged}
use Rattle.ewma_sched.proofs.RosterRoom.{without_legs}

-- the roster of a channel

pub roster_table : {legs : Legs} {rosters : Rosters} {now : ℕ} (chan : ℕ) (roster : Roster) → IsTable legs rosters now
    → roster_in rosters chan ≡ Some roster → IsRoster legs now chan roster
roster_table {legs = legs} {now = now} chan roster table there = subst (KeepsRoster legs now chan) there (table.keeps chan)

pub roster_missing : {legs : Legs} {rosters : Rosters} {now : ℕ} (chan : ℕ) → IsTable legs rosters now
    → roster_in rosters chan ≡ None → IsWithoutLegs legs chan
roster_missing {legs = legs} {now = now} chan table there = subst (KeepsRoster legs now chan) there (table.keeps chan)

is_there : {A : Type 0} (o : Option A) (x : A) → o ≡ Some x → IsSome o
is_there o x is = subst IsSome (sym is) refl

pub roster_written : (old new : Rosters) (chan : ℕ) (roster next : Roster) → roster_in old chan ≡ Some roster
    → new ≡ set_value (eqb chan) old next → RosterChanges old new chan (Some next)
roster_written old new chan roster next there is other =
    ap (λ l. roster_in l other) is
    ∙ lookup-set_value nat_eq_equiv (eqb chan) (nat_eq_equiv.congr chan) other next old
    (is_there (roster_in old chan) roster there)

-- only the tick in force is another
pub table_later : (legs : Legs) (rosters rosters' : Rosters) (now later : ℕ) → IsTable legs rosters now → now ≤ later
    → rosters' ≡ rosters → IsTable legs rosters' later
table_later legs rosters rosters' now later table le same =
    subst (λ l. IsTable legs l later) (sym same)
    (record {
      ticks = λ leg x is. let t = table.ticks leg x is in omega arith;
      keeps = λ chan. roster_same (unchanged legs legs refl) chan now later le (roster_in rosters chan) (table.keeps chan);
    })

-- one roster is another, and the legs are as they were
pub table_roster : (legs legs' : Legs) (rosters rosters' : Rosters) (chan now later : ℕ) (becomes : Option Roster)
    → IsTable legs rosters now → SameLegs legs legs' → now ≤ later → RosterChanges rosters rosters' chan becomes
    → KeepsRoster legs' later chan becomes → IsTable legs' rosters' later
table_roster legs legs' rosters rosters' chan now later becomes table same le roster here =
    keeps_by chan now later becomes table roster
    (λ leg x is. let t = table.ticks leg x (sym (same.legs leg) ∙ is) in omega arith)
    (λ other apart l k. roster_same same other now later le l k)
    here

-- every roster has room where it had

pub room_table : (rosters rosters' : Rosters) (chan : ℕ) (roster last : Roster) → roster_in rosters chan ≡ Some roster
    → RosterChanges rosters rosters' chan (Some last) → (RosterHasRoom (Some roster) → RosterHasRoom (Some last))
    → KeepsRoom rosters rosters'
room_table rosters rosters' chan roster last there change room other had =
    elim (cases_eq chan other) [
      | inl e ↦
          let was : roster_in rosters other ≡ Some roster = ap (roster_in rosters) (sym e) ∙ there in
          let is : roster_in rosters' other ≡ Some last
          = change other ∙ ap (λ b. cond {A = Option Roster} b (Some last) (roster_in rosters other)) (eq-eqb chan other e) in
          subst RosterHasRoom (sym is) (room (subst RosterHasRoom was had))
      | inr apart ↦
          let is : roster_in rosters' other ≡ roster_in rosters other
          = change other ∙ ap (λ b. cond {A = Option Roster} b (Some last) (roster_in rosters other)) (ne_eqb chan other apart) in
          subst RosterHasRoom (sym is) had
    ]

-- the legs lie in another order
pub table_same : (legs legs' : Legs) (rosters rosters' : Rosters) (now : ℕ) → IsTable legs rosters now → SameLegs legs legs'
    → rosters' ≡ rosters → IsTable legs' rosters' now
table_same legs legs' rosters rosters' now table same stay =
    subst (λ l. IsTable legs' l now) (sym stay)
    (record {
      ticks = λ leg x is. table.ticks leg x (sym (same.legs leg) ∙ is);
      keeps = λ chan. roster_same same chan now now (omega arith) (roster_in rosters chan) (table.keeps chan);
    })

no_length : {A : Type 0} (xs : List A) → length xs ≡ 0 → xs ≡ []
no_length [] none = refl
no_length (x ∷ xs) none = absurd (omega arith)

-- a roster that is empty is dropped
pub dropped_table : (legs : Legs) (rosters rosters' : Rosters) (now chan : ℕ) (roster : Roster) → IsTable legs rosters now
    → roster_in rosters chan ≡ Some roster → RosterChanges rosters rosters' chan None
    → deque_len roster.ready_queue ≡ 0 → roster.idle ≡ 0 → IsTable legs rosters' now
dropped_table legs rosters rosters' now chan roster table there written empty idle =
    keeps_by chan now now None table written table.ticks
    (λ other apart l k. roster_same (unchanged legs legs refl) other now now (omega arith) l k)
    (without_legs legs chan now roster (roster_table chan roster table there)
    (no_length roster.ready_queue.items (sym roster.ready_queue.ok.0 ∙ empty)) idle)
