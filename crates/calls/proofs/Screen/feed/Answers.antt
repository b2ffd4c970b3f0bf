use Rattle.calls.proofs.Arms.{feed_closed, unmoved}
use Rattle.calls.proofs.Loading.{not_open}
use Rattle.calls.proofs.Screen.feed.Goals as goal
use Rattle.std.proofs.Common.{refl}

pub returns-in_default : goal.returns-in_default
returns-in_default g c = unmoved g.B.Board g.B.M.Mark.kind _ refl (feed_closed g.B.Board g.B.M.Mark.kind _ (not_open _ c.in_default.not-Open))
