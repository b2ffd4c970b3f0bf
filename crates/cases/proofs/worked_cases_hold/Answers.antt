use Rattle.cases.proofs.Checked.{worked}
use Rattle.cases.proofs.worked_cases_hold.Goals as goal

pub returns : goal.returns
returns c = worked
