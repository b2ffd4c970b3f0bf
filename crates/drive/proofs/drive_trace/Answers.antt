use Rattle.board.specs.Makes.{tracing}
use Rattle.drive.proofs.Driven.{begun, marks_left, words_left}
use Rattle.drive.proofs.drive_trace.Goals as goal
use Rattle.std.proofs.Common.{◌≡◌, ◌-◌, length, take, ap, ◌∙◌, arith, rules}

pub returns : goal.returns
returns g c =
    let new = c.new-board.ensures in
    let run = c.last_reading.ensures in
    let board = c.new-board.result in
    let free : length board.memory.now - board.meter.used ≡ length c.args.words.now = omega (arith, ap length new.words.1, new.used) in
    let done = begun tracing _ _ c.args.accesses.now new.marks.1 (λ j. record { written = take (new.used j) (new.words.1 j); free = free j }) run.driven.done in
    record {
      marks = marks_left c.args.marks.now _ _ run.driven.kept.0 new.marks.1 (search rules) (ap (λ s. s.cells) done);
      words = words_left c.args.words.now _ _ run.driven.kept.1 new.words.1 (search rules) (ap (λ s. s.meter.written) done) run.reading;
      reading = run.reading ∙ ap (λ s. length s.meter.written) done;
    }
