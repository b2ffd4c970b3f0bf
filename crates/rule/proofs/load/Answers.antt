use Rattle.std.proofs.Common.{refl}
use Rattle.rule.proofs.load.Goals as goal

pub returns : goal.returns
returns c = rw c.last-last.ensures (c.in_ok-rule.rule, refl, refl, c.in_ok-rule.ensures.answers)
