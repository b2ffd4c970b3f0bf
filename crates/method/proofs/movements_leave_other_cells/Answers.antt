use Rattle.method.proofs.Others.{leave_others}
use Rattle.method.proofs.movements_leave_other_cells.Goals as goal

pub returns : goal.returns
returns g c = leave_others _
