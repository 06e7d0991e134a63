use Rattle.std.proofs.Common.{◌≡◌, ◌∷◌, [], string_bytes, length, sym, ap, ◌∙◌, arith}
use Rattle.tape.specs.Causes.{is_tape_line}
use Rattle.tape.proofs.Words.{one_word}
use Rattle.tape.proofs.run.is_tape_line.Goals as goal

pub returns-in-len1 : goal.returns-in-len1
returns-in-len1 c =
    let one : length c.args.words.now ≡ 1 = omega (arith, c.in-len1.len_at_least, c.in-len1.len_below) in
    c.eq.ensures
    ∙ ap (λ xs. is_tape_line (xs ∷ [])) c.as_str.ensures.value
    ∙ sym (ap is_tape_line (one_word string_bytes c.args.words.now c.word-item.result one c.word-item.is))
