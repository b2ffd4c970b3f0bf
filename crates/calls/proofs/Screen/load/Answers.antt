use Rattle.calls.proofs.Arms.{load_open, unmoved}
use Rattle.calls.proofs.Screen.load.Goals as goal

pub returns-in-Open : goal.returns-in-Open
returns-in-Open g c = unmoved g.B.Board g.B.M.Mark.kind _ c.in-Open.is (load_open g.B.Board g.B.M.Mark.kind _ _ _)
