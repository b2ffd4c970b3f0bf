use Rattle.language.proofs.Theorems.{predecessors_settled}
use Rattle.language.proofs.predecessors_are_settled.Goals as goal

pub returns : goal.returns
returns c = predecessors_settled
