use Rattle.screen.proofs.Stepping.{Stepping}
use Rattle.screen.proofs.movements.Mover.step.Given as goal

abbrev pub invariant-loop-j : goal.invariant-loop-j
invariant-loop-j g l = Stepping g.B.Board g.B.M.Mark.kind l.initial.self.rule.now l.byte l.initial.self l.j l.self
