-- A call that can only go one way.
use Rattle.std.specs.Option.{IfSome, IfNone, MatchOption}
use Rattle.std.proofs.Common.{◌≡◌, refl, sym, subst, Result, Ok, Err, Option, Some, None, OnOk, OnErr, OnSome, IsSome}

pub ok_only : {T E : Type 0} {P Q : Type 0} (r : Result T E) → OnOk r P → OnErr r Q → (Q → ⊥) → P
ok_only (Ok x) done failed never = done
ok_only (Err e) done failed never = absurd (never failed)

pub some_only : {T : Type 0} {P : Type 0} (r : Option T) → OnSome r P → IsSome r → P
some_only (Some x) done is = done
some_only None done is = cc

pub if_some : {T : Type 0} {P : T → Type 0} (r : Option T) → ((x : T) → r ≡ Some x → P x) → IfSome r P
if_some (Some x) given = given x refl
if_some None given = tt

pub match_some : {T : Type 0} (P : Type 0) (Q : T → Type 0) (r : Option T) (x : T) → r ≡ Some x → Q x → MatchOption r P Q
match_some P Q r x is given = subst (λ o. MatchOption o P Q) (sym is) given

pub match_none : {T : Type 0} (P : Type 0) (Q : T → Type 0) (r : Option T) → r ≡ None → P → MatchOption r P Q
match_none P Q r is given = subst (λ o. MatchOption o P Q) (sym is) given

pub if_none : {T : Type 0} {P : Type 0} (r : Option T) → P → IfNone r P
if_none None given = given
if_none (Some x) given = tt

pub if_err : {T E : Type 0} {P : Type 0} (r : Result T E) → P → OnErr r P
if_err (Err e) given = given
if_err (Ok x) given = tt
