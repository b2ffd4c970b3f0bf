use Rattle.screen.proofs.Settling.{Settling}
use Rattle.screen.proofs.movements.Mover.settle.Given as goal

abbrev pub invariant-loop : goal.invariant-loop
invariant-loop g l = Settling g.B.Board g.B.M.Mark.kind l.initial.self l.counter l.self
