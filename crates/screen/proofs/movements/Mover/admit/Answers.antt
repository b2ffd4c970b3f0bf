use Rattle.screen.proofs.movements.Mover.admit.Goals as goal
use Rattle.screen.specs.Moving.{a_cell, allowance}
use Rattle.std.proofs.Common.{arith}

pub returns-then-last-size : goal.returns-then-last-size
returns-then-last-size g c = a_cell (omega arith)

pub returns-then-allowance-touches : goal.returns-then-allowance-touches
returns-then-allowance-touches g c = allowance (omega arith) (omega arith)
