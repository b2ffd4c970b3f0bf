use Rattle.theory.proofs.Verdicts.{last_cell}
use Rattle.theory.proofs.the_last_cell_holds_the_verdict.Goals as goal

pub returns : goal.returns
returns g c = last_cell _
