-- What a claimed direction and its room allow while its bodies settle.
use Rattle.std.proofs.Common.{◌≡◌, ℕ, ◌+◌, ◌-◌, ◌≤◌, ◌<◌, Bool, true, false, List, [], ◌∷◌, length, Option, Some, None, refl, sym, ◌∙◌, ap, subst, length-append, arith}
use Rattle.tor_spec.specs.Extend.{Address}
use Rattle.circuit_model.specs.Log.{Effects}
use Rattle.circuit_model.specs.Words.{effects}
use Rattle.relay_cell.specs.declared.head.Opened.{Opened}
use Rattle.switch_machine.specs.Calls.Settling.{back_waits, bodies_with, dials_after}
use Rattle.switch_machine.specs.Calls.Take.{kept_length}
use Rattle.switch_machine.specs.Machine.{kept_cells}
use Rattle.switch_machine.proofs.Take.CellCounts.{kept-count}
use Rattle.switch_machine.specs.State.{KeptClaim, WayState}
use Rattle.switch_core.specs.Meaning.{home_count}
use Rattle.switch_core.specs.Ordering.{OrdersState}
use Rattle.switch_core.specs.Settling.{is_packed, closing_by, back_by, orders_by, counts_by}
use Rattle.switch_core.specs.declared.counters.Counters.{Counters}
use Rattle.switch_core.proofs.Settles.{Applied, goes-by}

pub fewer_than_kept : (n : ℕ) (outputs : List Opened) (claim_out : Option KeptClaim) → length outputs ≡ kept_length claim_out
    → n < length outputs → n < length (kept_cells claim_out)
fewer_than_kept n outputs claim_out count inside = omega (arith, count, inside, kept-count claim_out)

-- what is known of the effects by what the code did

pub applied_as : (queued q : ℕ) (told e : Effects) (back back' : WayState) (orders mid orders' : OrdersState) (k k' : Counters)
    (reason : Option ℕ) → queued ≡ q → told ≡ e → mid ≡ orders → reason ≡ closing_by (is_packed queued back told) told →
    back' ≡ back_by (is_packed queued back told) k.bodies told back
    → orders' ≡ orders_by (is_packed queued back told) k.dial_orders told mid
    → k' ≡ counts_by (is_packed queued back told) told k → Applied q e back back' orders orders' k k' reason
applied_as queued q told e back back' orders mid orders' k k' reason same_queue same_effects same_orders reason_is back_is
    orders_is counts_is =
    subst (λ n. Applied n e back back' orders orders' k k' reason) same_queue
    (subst (λ f. Applied queued f back back' orders orders' k k' reason) same_effects
    (subst (λ o. Applied queued told back back' o orders' k k' reason) same_orders
    (record { reason_is = reason_is; back_is = back_is; orders_is = orders_is; counts_is = counts_is })))

pub record OneMore (back back' : WayState) : Type 0 where
  pub claimed_count : back'.claimed_count ≡ back.claimed_count
  pub claim_out : back'.claim_out ≡ back.claim_out
  pub waiting_bodies : length back'.waiting_bodies ≤ length back.waiting_bodies + 1

more-by : (number : ℕ) (body : Option (List ℕ)) (back : WayState) → OneMore back (back_waits number body back)
more-by number None back = record { claimed_count = refl; claim_out = refl; waiting_bodies = omega arith }
more-by number (Some body) back =
    record {
      claimed_count = refl;
      claim_out = refl;
      waiting_bodies =
          omega (arith, length-append back.waiting_bodies (record { number = number; cell = record { command = 3; body = body } } ∷ []));
    }

one-more_by : (b : Bool) (number : ℕ) (e : Effects) (back : WayState) → OneMore back (back_by b number e back)
one-more_by true number e back = record { claimed_count = refl; claim_out = refl; waiting_bodies = omega arith }
one-more_by false number e back = more-by number e.back back

pub one_more_back : (b : Bool) (number : ℕ) (e : Effects) (back back' : WayState) → back' ≡ back_by b number e back
    → OneMore back back'
one_more_back b number e back back' is = subst (OneMore back) (sym is) (one-more_by b number e back)

pub record CountsMore (k k' : Counters) : Type 0 where
  pub rest : k' ≡ record k { bodies = k'.bodies; dial_orders = k'.dial_orders }
  pub bodies : k'.bodies ≤ k.bodies + 1
  pub dials : k'.dial_orders ≤ k.dial_orders + 1

bodies-more : (n : ℕ) (body : Option (List ℕ)) → bodies_with n body ≤ n + 1
bodies-more n None = omega arith
bodies-more n (Some body) = omega arith

dials-more : (n : ℕ) (to : Option Address) → dials_after n to ≤ n + 1
dials-more n None = omega arith
dials-more n (Some to) = omega arith

counts-by : (b : Bool) (e : Effects) (k : Counters) → CountsMore k (counts_by b e k)
counts-by true e k = record { rest = refl; bodies = omega arith; dials = omega arith }
counts-by false e k = record { rest = refl; bodies = bodies-more k.bodies e.back; dials = dials-more k.dial_orders e.dial }

pub counts_more : (b : Bool) (e : Effects) (k k' : Counters) → k' ≡ counts_by b e k → CountsMore k k'
counts_more b e k k' is = subst (CountsMore k) (sym is) (counts-by b e k)

pub counts_on : (k mid k' : Counters) → mid ≡ record k { bodies = mid.bodies; dial_orders = mid.dial_orders }
    → k' ≡ record mid { bodies = k'.bodies; dial_orders = k'.dial_orders }
    → k' ≡ record k { bodies = k'.bodies; dial_orders = k'.dial_orders }
counts_on k mid k' first second =
    second ∙ ap {A = Counters} (λ (x : Counters). record x { bodies = k'.bodies; dial_orders = k'.dial_orders }) first

pub queued_still : (queue : ℕ) (first back : WayState) → queue ≤ 1 + home_count first → back.claimed_count ≡ first.claimed_count
    → back.claim_out ≡ first.claim_out → queue ≤ 1 + home_count back
queued_still queue first back queued claimed_count claim_out = omega (arith, queued, claimed_count, ap kept_length claim_out)

-- where nothing closes, the body's own effects don't
pub goes_unclosed : (queued : ℕ) (told e : Effects) (back back' : WayState) (orders orders' : OrdersState) (k k' : Counters)
    → told ≡ e → Applied queued e back back' orders orders' k k' None → told.close ≡ None
goes_unclosed queued told e back back' orders orders' k k' same applied =
    let open_is = goes-by (is_packed queued back e) e (sym applied.reason_is) in
    ap (λ (f : Effects). f.close) same ∙ ap (λ b. closing_by b e) (sym open_is.0) ∙ sym applied.reason_is
