use Rattle.board.proofs.Cells.{by_cells, cells_written, beyond_written}
use Rattle.board.proofs.metered.MeteredBoard.write.Goals as goal
use Rattle.board.specs.Boards.{most_cells, write}
use Rattle.std.proofs.lemmas.Result.{err_from_is_err_and}
use Rattle.std.proofs.Common.{Err, Ok, take, drop, ap, refl, ◌∙◌, rules}

pub returns-in_err-at-clause-done : goal.returns-in_err-at-clause-done
returns-in_err-at-clause-done g c =
    let p = err_from_is_err_and c.from_residual.result c.from_residual.ensures.1 in
    let why = by_cells g.G.Meter.make c.args.self.now.marks.now _ (write c.args.cell) _ (Err c.in_err-at.field-0.0) c.in_err-at.ensures.done in
    rw (p.1, p.2) (why.0, refl, why.1)

pub returns : goal.returns
returns g c =
    let xs = c.args.self.now.marks.now in
    let there = c.in_ok-at.ensures.done in
    let done = by_cells g.G.Meter.make xs _ (write c.args.cell) _ (Ok c.in_ok-at.at) there in
    record { kept = (record { same_slice = search rules; beyond = ap (drop most_cells) c.put.ensures ∙ beyond_written xs (there.1, there.0.inside) _ }, c.admit.ensures.kept); done = (done.0, ap (take most_cells) c.put.ensures ∙ cells_written xs (there.1, there.0.inside) _, done.2) }
