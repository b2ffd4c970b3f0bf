use Rattle.drive.proofs.drive.Given as goal
use Rattle.drive.specs.Drives.{after, state}
use Rattle.std.proofs.Common.{◌≡◌, drop}

abbrev pub invariant-loop-access : goal.invariant-loop-access
invariant-loop-access g l =
    let b = g.B.Board in
    b.keeps.same l.initial.board l.board
    × (after b.make (state (b.cells l.board) (b.meter l.board)) (drop l.access-index l.accesses) ≡ after b.make (state (b.cells l.initial.board) (b.meter l.initial.board)) l.accesses)
