use Rattle.std.proofs.Common.{suc, length, arith, rules}
use Rattle.std.proofs.lemmas.Result.{err_from_is_err_and}
use Rattle.screen.proofs.Lengths.{length_writes}
use Rattle.screen.proofs.Wholes.{carried, enough_wipe, call_left_out, never}
use Rattle.screen.proofs.movements.wipe_cells.Given.{Over}
use Rattle.screen.proofs.movements.wipe_cells.Goals as goal
use Rattle.screen.proofs.movements.wipe_cells.Goals.{In_ok-admit}
use Rattle.screen.specs.ByRule.{wiping_of}
use Rattle.screen.specs.Movements.{cells_on, meter_on}
use Rattle.screen.specs.Moving.{Enough}

-- an admitted board has enough
enough : (g : Over) (c : In_ok-admit g) → Enough g.B.Board.make (length (cells_on g.B.Board c.new-mover.result)) (meter_on g.B.Board c.new-mover.result) (wiping_of c.new-mover.result.rule.now)
enough g c = enough_wipe g.B.Board.make c.new-mover.result.rule.now c.in_ok-admit.ensures.0 (let e = c.last.ensures in let h = c.in_ok-admit.ensures.1 in omega arith)

pub returns-in_err-admit : goal.returns-in_err-admit
returns-in_err-admit g c =
    let p = err_from_is_err_and c.from_residual.result c.from_residual.ensures.1 in
    let l = length_writes (suc c.new-mover.result.rule.now.last) 0 in
    let e = c.last.ensures in
    rw p.1 (call_left_out g.B.Board c.new-mover.ensures wiping_of _ p.2 (omega arith) c.in_err-admit.ensures (search rules))

pub returns-in_err-wipe : goal.returns-in_err-wipe
returns-in_err-wipe g c = never g.B.Board (enough g (goal.at.returns-in_err-wipe g c).In_ok-admit) c.in_err-wipe.ensures

pub returns : goal.returns
returns g c = carried g.B.Board c.new-mover.ensures _ _ (enough g (goal.at.returns g c).In_ok-admit) c.in_ok-wipe.ensures (search rules)
