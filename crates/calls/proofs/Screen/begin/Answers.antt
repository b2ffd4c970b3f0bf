use Rattle.calls.proofs.Arms.{begin_empty, begin_open, unmoved}
use Rattle.calls.proofs.Screen.begin.Goals as goal

pub returns-in-Empty : goal.returns-in-Empty
returns-in-Empty g c = unmoved g.B.Board g.B.M.Mark.kind _ c.in-Empty.is (begin_empty g.B.Board g.B.M.Mark.kind _)

pub returns-in-Open : goal.returns-in-Open
returns-in-Open g c = unmoved g.B.Board g.B.M.Mark.kind _ c.in-Open.is (begin_open g.B.Board g.B.M.Mark.kind _ _ _ _)
