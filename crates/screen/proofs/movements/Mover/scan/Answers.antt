use Rattle.std.proofs.Common.{◌+◌, ◌^◌, ◌<◌, ap, ◌∙◌, arith}
use Rattle.std.proofs.lemmas.Result.{err_from_is_err_and}
use Rattle.method.specs.Cells.{source}
use Rattle.screen.proofs.Scanning.{Before, Scanning, before, first_read, scan_all, scan_count, scan_more, scan_none, second_read, third_read}
use Rattle.screen.proofs.Underway.{read_refused, write_refused}
use Rattle.screen.proofs.movements.Mover.scan.Given.{Over}
use Rattle.screen.proofs.movements.Mover.scan.Goals as goal
use Rattle.screen.proofs.movements.Mover.scan.Goals.{In-loop-j, In_ok-write}

pub loop-j-init : goal.loop-j-init
loop-j-init g c = scan_none g.B.Board g.B.M.Mark.kind _ _

-- a count far from its end
few : (g : Over) (c : In-loop-j g) → c.loop-j.self.touches + 3 < 2 ^ 32
few g c =
    let n = scan_count g.B.Board g.B.M.Mark.kind _ _ c.loop-j.invariant in
    let h = c.args.self.now.rule.now.fits in
    let r = c.requires in
    omega arith

pub read-requires : goal.read-requires
read-requires g c = let f = few g (goal.at.read-requires g c).In-loop-j in omega arith

pub read_source-requires : goal.read_source-requires
read_source-requires g c = let f = few g (goal.at.read_source-requires g c).In-loop-j in let a = c.in_ok-own.ensures.counted in omega arith

pub read_source-requires-in-loop-j : goal.read_source-requires-in-loop-j
read_source-requires-in-loop-j g c =
    let f = few g (goal.at.read_source-requires-in-loop-j g c).In-loop-j in
    let a = c.in_ok-own.ensures.counted in
    let b = c.in_ok-before.ensures.counted in
    omega arith

pub write-requires : goal.write-requires
write-requires g c =
    let f = few g (goal.at.write-requires g c).In-loop-j in
    let a = c.in_ok-own.ensures.counted in
    let b = c.in_ok-before.ensures.counted in
    let d = c.in_ok-other.ensures.counted in
    omega arith

-- right before the cell
start : (g : Over) (c : In-loop-j g) → Before g.B.Board g.B.M.Mark.kind c.args.self.now.rule.now c.args.self.now c.loop-j.j c.loop-j.self
start g c = before g.B.Board g.B.M.Mark.kind _ _ c.loop-j.invariant (omega arith)

pub returns-in_err-own : goal.returns-in_err-own
returns-in_err-own g c =
    let p = err_from_is_err_and c.from_residual.result c.from_residual.ensures.1 in
    rw p.1 (read_refused g.B.Board (start g (goal.at.returns-in_err-own g c).In-loop-j).going c.from.ensures c.in_err-own.ensures)

pub returns-in_err-before : goal.returns-in_err-before
returns-in_err-before g c =
    let p = err_from_is_err_and c.from_residual-in_err-before.result c.from_residual-in_err-before.ensures.1 in
    let own = first_read g.B.Board g.B.M.Mark.kind _ _ (start g (goal.at.returns-in_err-before g c).In-loop-j) c.from.ensures c.in_ok-own.ensures in
    rw p.1 (read_refused g.B.Board own (ap (λ z. source z c.loop-j.j) c.predecessors-first.ensures.0) c.in_err-before.ensures)

pub returns-in_err-other : goal.returns-in_err-other
returns-in_err-other g c =
    let p = err_from_is_err_and c.from_residual-in_err-other.result c.from_residual-in_err-other.ensures.1 in
    let before = second_read g.B.Board g.B.M.Mark.kind _ _ (start g (goal.at.returns-in_err-other g c).In-loop-j) c.from.ensures c.in_ok-own.ensures
    (ap (λ z. source z c.loop-j.j) c.predecessors-first.ensures.0) c.in_ok-before.ensures in
    rw p.1 (read_refused g.B.Board before (ap (λ z. source z c.loop-j.j) c.predecessors-first.ensures.1) c.in_err-other.ensures)

pub returns-in_err-write : goal.returns-in_err-write
returns-in_err-write g c =
    let p = err_from_is_err_and c.from_residual-in_err-write.result c.from_residual-in_err-write.ensures.1 in
    let other = third_read g.B.Board g.B.M.Mark.kind _ _ (start g (goal.at.returns-in_err-write g c).In-loop-j) c.from.ensures c.in_ok-own.ensures
    (ap (λ z. source z c.loop-j.j) c.predecessors-first.ensures.0) c.in_ok-before.ensures (ap (λ z. source z c.loop-j.j) c.predecessors-first.ensures.1) c.in_ok-other.ensures in
    rw p.1 (write_refused g.B.Board other c.from-in-loop-j.ensures c.in_err-write.ensures)

-- the cell is joined
joined : (g : Over) (c : In_ok-write g) → Scanning g.B.Board g.B.M.Mark.kind c.args.self.now.rule.now c.args.self.now (c.loop-j.j + 1) c.write.new.self
joined g c =
    let b = before g.B.Board g.B.M.Mark.kind _ _ c.loop-j.invariant (omega arith) in
    let mark = c.join-in-loop-j.ensures ∙ ap (λ z. g.B.M.Mark.kind.join z c.in_ok-other.other) c.join.ensures in
    scan_more g.B.Board g.B.M.Mark.kind _ _ b c.from.ensures c.in_ok-own.ensures (ap (λ z. source z c.loop-j.j) c.predecessors-first.ensures.0) c.in_ok-before.ensures
    (ap (λ z. source z c.loop-j.j) c.predecessors-first.ensures.1) c.in_ok-other.ensures c.from-in-loop-j.ensures _ c.in_ok-write.ensures mark

pub loop-j-preserved : goal.loop-j-preserved
loop-j-preserved g c = joined g (goal.at.loop-j-preserved g c).In_ok-write

pub returns-in_ok-write : goal.returns-in_ok-write
returns-in_ok-write g c = scan_all g.B.Board g.B.M.Mark.kind _ _ (joined g (goal.at.returns-in_ok-write g c).In_ok-write) (omega arith)
