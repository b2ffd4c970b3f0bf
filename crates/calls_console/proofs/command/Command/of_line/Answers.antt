use Rattle.std.proofs.Common.{List, ℕ, refl, subst}
use Rattle.calls_console.proofs.command.Command.of_line.Goals as goal
use Rattle.calls_console.specs.Lines.{Asks, Spells}
use Rattle.calls_console.specs.declared.command.Command.{Command}
use Rattle.lines.proofs.Divided.{one_rest, one_word}
use Rattle.lines.specs.Lines.{Divides}

-- a line spells a command by the one word and the one rest that it has
asked_here : {line word rest : List ℕ} → Divides line word rest → (k : Command) → Spells line k → Asks word rest k
asked_here {line} {word} {rest} d k s = subst (λ z. Asks z rest k) (one_word s.divides d) (subst (λ z. Asks s.word z k) (one_rest s.divides d) s.asks)

pub returns-in-None : goal.returns-in-None
returns-in-None c =
    let (blank, comment, divides) = c.in-Some.ensures in
    (refl, blank, comment, λ k s. c.in-None.ensures k (asked_here divides k s))
