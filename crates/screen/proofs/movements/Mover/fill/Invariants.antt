use Rattle.method.specs.Cells.{first_mark}
use Rattle.screen.proofs.Filling.{Filling}
use Rattle.screen.proofs.movements.Mover.fill.Given as goal

abbrev pub invariant-loop-cell : goal.invariant-loop-cell
invariant-loop-cell g l = Filling g.B.Board (first_mark l.first g.B.M.Mark.kind.nothing) l.initial.self.rule.now.last l.initial.self l.cell l.self
