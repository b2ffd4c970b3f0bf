use Rattle.board.specs.Makes.{counting}
use Rattle.drive.proofs.Driven.{begun, marks_left}
use Rattle.drive.proofs.drive_counting.Goals as goal
use Rattle.std.proofs.Common.{ap, ◌∙◌, rules}

pub returns : goal.returns
returns g c =
    let new = c.new-board.ensures in
    let run = c.last_reading.ensures in
    let done = begun counting _ _ c.args.accesses.now new.marks.1 new.meter run.driven.done in
    record {
      marks = marks_left c.args.marks.now _ _ run.driven.kept.0 new.marks.1 (search rules) (ap (λ s. s.cells) done);
      reading = run.reading ∙ ap (λ s. s.meter) done;
    }
