use Rattle.std.proofs.Common.{◌≡◌, ◌-◌, ◌≤◌, length, take}
use Rattle.rule.proofs.builder.read_units.Given as goal
use Rattle.rule.specs.Standing.{ReadTo}

abbrev pub invariant-loop-placed : goal.invariant-loop-placed
invariant-loop-placed l =
    (l.reader.pattern.now ≡ l.pattern) × (l.reader.place ≤ length l.pattern) × ReadTo (take l.reader.place l.pattern) l.builder

abbrev pub decreases-loop-placed : goal.decreases-loop-placed
decreases-loop-placed l = length l.pattern - l.reader.place
