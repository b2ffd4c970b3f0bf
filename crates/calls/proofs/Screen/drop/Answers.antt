use Rattle.calls.proofs.Arms.{drop_closed, unmoved}
use Rattle.calls.proofs.Loading.{not_open}
use Rattle.calls.proofs.Screen.drop.Goals as goal
use Rattle.std.proofs.Common.{refl}

pub returns-in_default : goal.returns-in_default
returns-in_default g c = unmoved g.B.Board g.B.M.Mark.kind _ refl (drop_closed g.B.Board g.B.M.Mark.kind _ (not_open _ c.in_default.not-Open))
