use Rattle.calls_cases.proofs.Checked.{worked}
use Rattle.calls_cases.proofs.worked_cases_hold.Goals as goal

pub returns : goal.returns
returns c = worked
