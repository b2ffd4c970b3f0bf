use Rattle.std.proofs.Common.{length, arith, rules}
use Rattle.std.proofs.lemmas.Result.{err_from_is_err_and}
use Rattle.screen.proofs.Wholes.{carried_with, enough_finish, finish_length, finish_mark, finish_on, reading_left_out, never}
use Rattle.screen.proofs.movements.finish_cells.Given.{Over}
use Rattle.screen.proofs.movements.finish_cells.Goals as goal
use Rattle.screen.proofs.movements.finish_cells.Goals.{In_ok-admit}
use Rattle.screen.specs.ByRule.{finishing_of}
use Rattle.screen.specs.Movements.{cells_on, meter_on}
use Rattle.screen.specs.Moving.{Enough}

-- an admitted board has enough
enough : (g : Over) (c : In_ok-admit g) → Enough g.B.Board.make (length (cells_on g.B.Board c.new-mover.result)) (meter_on g.B.Board c.new-mover.result) (finishing_of c.new-mover.result.rule.now)
enough g c = enough_finish g.B.Board.make c.new-mover.result.rule.now c.in_ok-admit.ensures.0 (let e = c.last.ensures in let h = c.in_ok-admit.ensures.1 in omega arith)

pub returns-in_err-admit : goal.returns-in_err-admit
returns-in_err-admit g c =
    let p = err_from_is_err_and c.from_residual.result c.from_residual.ensures.1 in
    let l = finish_length c.new-mover.result.rule.now.words c.new-mover.result.rule.now.last in
    let e = c.last.ensures in
    rw p.1 (reading_left_out g.B.Board c.new-mover.ensures finishing_of _ p.2 (omega arith) c.in_err-admit.ensures (search rules))

pub returns-in_err-wipe : goal.returns-in_err-wipe
returns-in_err-wipe g c =
    never g.B.Board (enough g (goal.at.returns-in_err-wipe g c).In_ok-admit)
    (finish_on g.B.Board g.B.M.Mark.kind _ c.last-2.ensures c.in_ok-mark.ensures c.in_err-wipe.ensures)

pub returns : goal.returns
returns g c =
    let n = c.last-2.ensures in
    carried_with g.B.Board c.new-mover.ensures _ _ (enough g (goal.at.returns g c).In_ok-admit) (finish_on g.B.Board g.B.M.Mark.kind _ n c.in_ok-mark.ensures c.in_ok-wipe.ensures) (search rules)
    (finish_mark g.B.Board g.B.M.Mark.kind _ n c.in_ok-mark.ensures)
