-- Keys whose order tells them all apart, and agrees with their equality.
use Rattle.std.specs.Prelude.{◌≡◌, nat_eq, Bool, true, false, refl}
use Rattle.std.proofs.Common.{◌∙◌, sym, ap}
use Rattle.std.specs.Cmp.{IsTotalOrder, nat_cmp_total, on_total, then_total, unsigned_ties, both_tied, eq_by_cmp_equiv, tied_itself}
use Rattle.std.specs.FinMap.{IsAntisymmetric}
use Rattle.std.specs.Ordering.{nat_cmp, eq_by_cmp, is_eq}
use Rattle.std.specs.declared.cmp.Ordering.{Ordering}
use Rattle.std.proofs.lemmas.Map.Lookups.{exact_pairs, exact_unsigned}
use Rattle.hashed_maps.specs.Pairs.{Pair, pair_cmp, pair_eq}

pub record OrdersKeys {K : Type 0} (R : K → K → Ordering) (eq : K → K → Bool) : Type 0 where
  pub total : IsTotalOrder R
  pub exact : IsAntisymmetric R
  pub agrees : (p q : K) → eq p q ≡ eq_by_cmp R p q

pub number_keys : OrdersKeys nat_cmp nat_eq
number_keys = record { total = nat_cmp_total; exact = exact_unsigned; agrees = unsigned_ties }

pub pair_keys : OrdersKeys pair_cmp pair_eq
pair_keys =
    record {
      total = then_total (on_total (λ p. p.0) nat_cmp_total) (on_total (λ p. p.1) nat_cmp_total);
      exact = exact_pairs nat_cmp nat_cmp exact_unsigned exact_unsigned;
      agrees =
          λ p q. both_tied (nat_eq p.0 q.0) (nat_eq p.1 q.1) (nat_cmp p.0 q.0) (nat_cmp p.1 q.1) (unsigned_ties p.0 q.0)
          (unsigned_ties p.1 q.1);
    }

Equal-from_test : (r : Ordering) → is_eq r ≡ true → r ≡ Ordering.Equal
Equal-from_test Ordering.Less e = cc
Equal-from_test Ordering.Equal e = refl
Equal-from_test Ordering.Greater e = cc

module _ {K : Type 0} {R : K → K → Ordering} {eq : K → K → Bool} (keys : OrdersKeys R eq) where
  -- The same the other way round, as the laws of finite maps have it.
  pub agrees_back : (p q : K) → eq p q ≡ eq_by_cmp R q p
  agrees_back p q = keys.agrees p q ∙ (eq_by_cmp_equiv keys.total).symm p q

  -- Keys that tie are the same.
  pub tied_key : (p q : K) → eq_by_cmp R p q ≡ true → p ≡ q
  tied_key p q is = keys.exact p q (Equal-from_test _ is)

  -- So are keys that are equal.
  pub same_key : (p q : K) → eq p q ≡ true → p ≡ q
  same_key p q is = tied_key p q (sym (keys.agrees p q) ∙ is)

  pub eq-itself : (key : K) → eq key key ≡ true
  eq-itself key = keys.agrees key key ∙ ap is_eq (tied_itself keys.total key)
