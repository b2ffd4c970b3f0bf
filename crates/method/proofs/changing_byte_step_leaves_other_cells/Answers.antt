use Rattle.method.proofs.Others.{stepped_over_others}
use Rattle.method.proofs.changing_byte_step_leaves_other_cells.Goals as goal

pub returns : goal.returns
returns g c = stepped_over_others
