use Rattle.calls.proofs.Arms.{conducts, load_fault, load_goes, load_wide, unmoved}
use Rattle.calls.proofs.Screen.load_unopened.Goals as goal
use Rattle.std.proofs.Common.{refl, arith}
use Rattle.std.proofs.lemmas.Result.{err_from_is_err_and}

pub returns-in_err-rule : goal.returns-in_err-rule
returns-in_err-rule g c =
    let p = err_from_is_err_and c.from_residual.result c.from_residual.ensures.1 in
    rw (p.1, p.2) (unmoved g.B.Board g.B.M.Mark.kind _ refl (load_fault g.B.Board g.B.M.Mark.kind _ _ _ c.requires c.in_err-rule.ensures.answers))

pub returns-then-from-size : goal.returns-then-from-size
returns-then-from-size g c =
    let e = c.at.ensures in
    rw (e.0, e.1) (unmoved g.B.Board g.B.M.Mark.kind _ refl (load_wide g.B.Board g.B.M.Mark.kind _ _ _ c.requires c.in_ok-rule.ensures.answers (omega arith)))

pub returns : goal.returns
returns g c = conducts g.B.Board g.B.M.Mark.kind refl refl refl (load_goes g.B.Board g.B.M.Mark.kind _ _ _ c.requires c.last-last.ensures c.in_ok-rule.ensures.answers (omega arith))
