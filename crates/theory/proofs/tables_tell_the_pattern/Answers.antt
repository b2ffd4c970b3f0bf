use Rattle.theory.proofs.Tables.{tables_tell}
use Rattle.theory.proofs.tables_tell_the_pattern.Goals as goal

pub returns : goal.returns
returns c = tables_tell
