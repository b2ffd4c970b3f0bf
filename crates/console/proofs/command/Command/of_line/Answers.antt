use Rattle.std.proofs.Common.{refl, arith}
use Rattle.lines.proofs.Divided.{one_word}
use Rattle.console.proofs.command.Command.of_line.Goals as goal

pub returns-in_default-word : goal.returns-in_default-word
returns-in_default-word c =
    let (blank, comment, divides) = c.in-Some.ensures in (
      refl,
      blank,
      comment,
      λ rest d.
          let e = one_word divides d in
          let w = c.in_default-word.branch in
          grind arith,
    )
