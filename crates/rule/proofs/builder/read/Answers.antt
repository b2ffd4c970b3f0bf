use Rattle.language.proofs.Answered.{no_fault_read, only_fault}
use Rattle.language.specs.Faults.{Faulty}
use Rattle.rule.proofs.Whole.{still_open}
use Rattle.rule.proofs.builder.read.Goals as goal
use Rattle.stops.specs.Stops.{stop_number}
use Rattle.std.proofs.lemmas.Result.{err_from_is_err_and}

pub returns-in-Some : goal.returns-in-Some
returns-in-Some c =
    let (many, place) = c.in-Some.ensures in
    let f = still_open c.args.pattern.now c.in_ok-builder.builder c.in_ok-builder.ensures many in
    let left : Faulty c.args.pattern.now (stop_number c.at.result.stop) c.at.result.place = rw (c.at.ensures.0, c.at.ensures.1, place) f in
    record { answers = left; exactly = only_fault left }

pub returns-in_err-builder : goal.returns-in_err-builder
returns-in_err-builder c =
    let p = err_from_is_err_and c.from_residual.result c.from_residual.ensures.1 in
    record { answers = rw (p.1, p.2) c.in_err-builder.ensures; exactly = rw (p.1, p.2) (only_fault c.in_err-builder.ensures) }

pub returns-in-None : goal.returns-in-None
returns-in-None c =
    let rule = c.finish.ensures c.args.pattern.now c.in_ok-builder.ensures in
    record { answers = rule; exactly = no_fault_read rule.accepted }
