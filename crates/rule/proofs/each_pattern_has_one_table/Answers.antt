use Rattle.rule.proofs.OneTable.{one_table}
use Rattle.rule.proofs.each_pattern_has_one_table.Goals as goal

pub returns : goal.returns
returns c = one_table
