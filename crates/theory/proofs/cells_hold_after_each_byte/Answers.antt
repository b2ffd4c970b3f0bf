use Rattle.theory.proofs.Frames.{cells_hold}
use Rattle.theory.proofs.cells_hold_after_each_byte.Goals as goal

pub returns : goal.returns
returns g c = cells_hold _
