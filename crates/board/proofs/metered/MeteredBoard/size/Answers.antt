use Rattle.std.proofs.Common.{sym, ◌∙◌, length-take}
use Rattle.board.proofs.metered.MeteredBoard.size.Goals as goal

pub returns : goal.returns
returns g c = c.cells_in.ensures ∙ sym (length-take _ _)
