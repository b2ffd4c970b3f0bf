use Rattle.syntax.specs.Spelling.{open_sign, close_sign, bar_sign, star_sign, plus_sign, opt_sign, period, ordinary}
use Rattle.syntax.proofs.lone.Goals as goal

pub returns-in-40 : goal.returns-in-40
returns-in-40 c = rw c.in-40.is open_sign

pub returns-in-41 : goal.returns-in-41
returns-in-41 c = rw c.in-41.is close_sign

pub returns-in-124 : goal.returns-in-124
returns-in-124 c = rw c.in-124.is bar_sign

pub returns-in-42 : goal.returns-in-42
returns-in-42 c = rw c.in-42.is star_sign

pub returns-in-43 : goal.returns-in-43
returns-in-43 c = rw c.in-43.is plus_sign

pub returns-in-63 : goal.returns-in-63
returns-in-63 c = rw c.in-63.is opt_sign

pub returns-in-46 : goal.returns-in-46
returns-in-46 c = rw c.in-46.is period

pub returns-in_default-2 : goal.returns-in_default-2
returns-in_default-2 c = ordinary c.if-is_special.ensures
