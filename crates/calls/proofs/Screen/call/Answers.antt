use Rattle.calls.proofs.Arms.{begin_empty, begin_open, drop_closed, feed_closed, finish_closed, load_open, read_meter, unmoved}
use Rattle.calls.proofs.Screen.call.Goals as goal
use Rattle.std.proofs.Common.{refl}

pub returns-in_default-Meter : goal.returns-in_default-Meter
returns-in_default-Meter g c = rw c.in_default-Meter.is-1 (unmoved g.B.Board g.B.M.Mark.kind _ refl (read_meter g.B.Board g.B.M.Mark.kind _ _ c.reading.ensures))

pub returns-in-Empty-Begin : goal.returns-in-Empty-Begin
returns-in-Empty-Begin g c = rw (c.into-in-Empty-Begin.ensures, c.in-Empty-Begin.is-1) (unmoved g.B.Board g.B.M.Mark.kind _ c.in-Empty-Begin.is-0 (begin_empty g.B.Board g.B.M.Mark.kind _))

pub returns-in-Empty-Feed : goal.returns-in-Empty-Feed
returns-in-Empty-Feed g c = rw (c.into-in-Empty-Feed.ensures, c.in-Empty-Feed.is-1) (unmoved g.B.Board g.B.M.Mark.kind _ c.in-Empty-Feed.is-0 (feed_closed g.B.Board g.B.M.Mark.kind _ tt))

pub returns-in-Empty-Finish : goal.returns-in-Empty-Finish
returns-in-Empty-Finish g c = rw (c.into-in-Empty-Finish.ensures, c.in-Empty-Finish.is-1) (unmoved g.B.Board g.B.M.Mark.kind _ c.in-Empty-Finish.is-0 (finish_closed g.B.Board g.B.M.Mark.kind _ tt))

pub returns-in-Empty-Drop : goal.returns-in-Empty-Drop
returns-in-Empty-Drop g c = rw (c.into-in-Empty-Drop.ensures, c.in-Empty-Drop.is-1) (unmoved g.B.Board g.B.M.Mark.kind _ c.in-Empty-Drop.is-0 (drop_closed g.B.Board g.B.M.Mark.kind _ tt))

pub returns-in-Ready-Feed : goal.returns-in-Ready-Feed
returns-in-Ready-Feed g c = rw (c.into-in-Ready-Feed.ensures, c.in-Ready-Feed.is-1) (unmoved g.B.Board g.B.M.Mark.kind _ c.in-Ready-Feed.is-0 (feed_closed g.B.Board g.B.M.Mark.kind _ tt))

pub returns-in-Ready-Finish : goal.returns-in-Ready-Finish
returns-in-Ready-Finish g c = rw (c.into-in-Ready-Finish.ensures, c.in-Ready-Finish.is-1) (unmoved g.B.Board g.B.M.Mark.kind _ c.in-Ready-Finish.is-0 (finish_closed g.B.Board g.B.M.Mark.kind _ tt))

pub returns-in-Ready-Drop : goal.returns-in-Ready-Drop
returns-in-Ready-Drop g c = rw (c.into-in-Ready-Drop.ensures, c.in-Ready-Drop.is-1) (unmoved g.B.Board g.B.M.Mark.kind _ c.in-Ready-Drop.is-0 (drop_closed g.B.Board g.B.M.Mark.kind _ tt))

pub returns-in-Open-Load : goal.returns-in-Open-Load
returns-in-Open-Load g c = rw (c.into-in-Open-Load.ensures, c.in-Open-Load.is-1) (unmoved g.B.Board g.B.M.Mark.kind _ c.in-Open-Load.is-0 (load_open g.B.Board g.B.M.Mark.kind _ _ _))

pub returns-in-Open-Begin : goal.returns-in-Open-Begin
returns-in-Open-Begin g c = rw (c.into-in-Open-Begin.ensures, c.in-Open-Begin.is-1) (unmoved g.B.Board g.B.M.Mark.kind _ c.in-Open-Begin.is-0 (begin_open g.B.Board g.B.M.Mark.kind _ _ _ _))
