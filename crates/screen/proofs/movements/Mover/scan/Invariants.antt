use Rattle.screen.proofs.Scanning.{Scanning}
use Rattle.screen.proofs.movements.Mover.scan.Given as goal

abbrev pub invariant-loop-j : goal.invariant-loop-j
invariant-loop-j g l = Scanning g.B.Board g.B.M.Mark.kind l.initial.self.rule.now l.initial.self l.j l.self
