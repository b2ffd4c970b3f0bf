use Rattle.runs.proofs.Playing.{Playing}
use Rattle.runs.proofs.play.Given as goal
use Rattle.runs.specs.Playing.{orders, told_of}
use Rattle.std.proofs.Common.{◌≡◌, take, drop}

abbrev pub invariant-loop-i : goal.invariant-loop-i
invariant-loop-i g l =
    let b = g.B.Board in
    Playing b.make g.B.M.Mark.kind (b.cells l.initial.screen.board.now) (b.meter l.initial.screen.board.now) (orders (take l.i l.call-items)) (told_of (take l.i l.told)) (l.screen.state, l.screen.rule) (b.cells l.screen.board.now) (b.meter l.screen.board.now) ×
    (l.screen.board.ghost_name ≡ l.initial.screen.board.ghost_name) × (drop l.i l.told ≡ drop l.i l.initial.told) × b.keeps.same l.initial.screen.board.now l.screen.board.now
