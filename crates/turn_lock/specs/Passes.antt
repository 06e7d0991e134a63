-- What clauses say of a pass and of a lock.
use Rattle.std.specs.Prelude.{◌≡◌}
use Rattle.atomic_table.specs.Seated.{TableId}
use Rattle.tr_io.specs.declared.stepping.Turn.{Turn}
use Rattle.tr_io.specs.declared.stepping.Turn.TheVariants.{Did, Spent}
use Rattle.turn_lock.specs.declared.view.View.{View}
use Rattle.turn_lock.specs.declared.pass.Pass.{Pass}
use Rattle.turn_lock.specs.declared.lock.TurnLock.{TurnLock}

module _ {T E B : Type 0} where
  -- which lock a pass is of
  abbrev pub lock_of : {g : _} → Pass T E B g → TableId
  lock_of p = p.seat.table_id

  -- what a pass knows
  abbrev pub known : {g : _} → Pass T E B g → View T E
  known p = p.seat.me.0

  -- what no call but `split` and `join` changes: the lock, the parts and what the lock began with
  pub record IsSamePass {g : _} (p : Pass T E B g) (q : Pass T E B g) : Type 0 where
    pub lock : lock_of q ≡ lock_of p
    pub parts : (known q).parts ≡ (known p).parts
    pub opening : (known q).opening ≡ (known p).opening
    pub seats : (known q).seats ≡ (known p).seats

  -- which lock it is
  abbrev pub lock_id : TurnLock T E B → TableId
  lock_id l = l.table.shared.table_id

-- by what a turn gave
abbrev pub TurnCase : {A : Type 0} → Turn A → Type 0 → (A → Type 0) → Type 0
TurnCase (Did a) full did = did a
TurnCase Spent full did = full
