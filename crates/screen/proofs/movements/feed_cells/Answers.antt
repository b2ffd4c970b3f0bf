use Rattle.std.proofs.Common.{length, arith, rules}
use Rattle.std.proofs.lemmas.Result.{err_from_is_err_and}
use Rattle.rule.specs.Words.{first_of, second_of}
use Rattle.screen.proofs.Lengths.{length_feeding, length_stepping}
use Rattle.screen.proofs.Wholes.{carried, enough_feed, feed_cut, feed_on, call_left_out, never}
use Rattle.screen.proofs.movements.feed_cells.Given.{Over}
use Rattle.screen.proofs.movements.feed_cells.Goals as goal
use Rattle.screen.proofs.movements.feed_cells.Goals.{In_ok-admit}
use Rattle.screen.specs.ByRule.{feeding_of}
use Rattle.screen.specs.Movements.{cells_on, meter_on}
use Rattle.screen.specs.Moving.{Enough}

-- an admitted board has enough
enough : (g : Over) (c : In_ok-admit g) → Enough g.B.Board.make (length (cells_on g.B.Board c.new-mover.result)) (meter_on g.B.Board c.new-mover.result) (feeding_of c.new-mover.result.rule.now)
enough g c = enough_feed g.B.Board.make c.new-mover.result.rule.now c.in_ok-admit.ensures.0 (let e = c.last.ensures in let h = c.in_ok-admit.ensures.1 in omega arith)

pub returns-in_err-admit : goal.returns-in_err-admit
returns-in_err-admit g c =
    let p = err_from_is_err_and c.from_residual.result c.from_residual.ensures.1 in
    let l = length_feeding (first_of c.new-mover.result.rule.now.words) (second_of c.new-mover.result.rule.now.words) c.new-mover.result.rule.now.last in
    let e = c.last.ensures in
    rw p.1 (call_left_out g.B.Board c.new-mover.ensures feeding_of _ p.2 (omega arith) c.in_err-admit.ensures (search rules))

pub returns-in_err-step : goal.returns-in_err-step
returns-in_err-step g c = never g.B.Board (enough g (goal.at.returns-in_err-step g c).In_ok-admit) (feed_cut g.B.Board g.B.M.Mark.kind _ _ _ c.in_err-step.ensures)

pub settle-requires : goal.settle-requires
settle-requires g c = let k = c.in_ok-step.ensures.counted in let l = length_stepping c.new-mover.result.rule.now.last in let h = c.new-mover.result.rule.now.fits in omega arith

pub returns-in_err-settle : goal.returns-in_err-settle
returns-in_err-settle g c = never g.B.Board (enough g (goal.at.returns-in_err-settle g c).In_ok-admit) (feed_on g.B.Board g.B.M.Mark.kind _ _ _ c.in_ok-step.ensures c.in_err-settle.ensures)

pub returns : goal.returns
returns g c = carried g.B.Board c.new-mover.ensures _ _ (enough g (goal.at.returns g c).In_ok-admit) (feed_on g.B.Board g.B.M.Mark.kind _ _ _ c.in_ok-step.ensures c.in_ok-settle.ensures) (search rules)
