use Rattle.theory.proofs.Verdicts.{yes_when_all_belongs}
use Rattle.theory.proofs.yes_exactly_when_all_belongs.Goals as goal

pub returns : goal.returns
returns c = yes_when_all_belongs
