-- The draws of words that count.
use Rattle.std.specs.Prelude.{ℕ, ◌%◌, List, replicate}

-- Each byte of a draw is its number modulo 256.
abbrev pub counting_draw : ℕ → List ℕ
counting_draw number = replicate 20 (number % 256)
