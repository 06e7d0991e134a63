-- What gave an outcome that asks for something.
use Rattle.std.proofs.Common.{◌≡◌, Bool, true, false, cond, refl}
use Rattle.socks_front.specs.declared.fault.SocksFault.{SocksFault}
use Rattle.socks_front.specs.Reading.{Wish, Outcome}
use Rattle.socks_front.specs.Reading.Outcome.{Unfinished, Asks, Refuses}

pub asks_whole : (b : Bool) (o : Outcome) (wish : Wish) → cond b o Unfinished ≡ Asks wish → (b ≡ true) × (o ≡ Asks wish)
asks_whole true o wish e = (refl, e)
asks_whole false o wish e = absurd cc

pub asks_right : (b : Bool) (o : Outcome) (fault : SocksFault) (wish : Wish) → cond b o (Refuses fault) ≡ Asks wish
    → (b ≡ true) × (o ≡ Asks wish)
asks_right true o fault wish e = (refl, e)
asks_right false o fault wish e = absurd cc

pub asks_unless : (b : Bool) (o : Outcome) (fault : SocksFault) (wish : Wish) → cond b (Refuses fault) o ≡ Asks wish
    → (b ≡ false) × (o ≡ Asks wish)
asks_unless true o fault wish e = absurd cc
asks_unless false o fault wish e = (refl, e)
