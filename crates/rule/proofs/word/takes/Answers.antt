use Rattle.rule.proofs.Ruled.{not_taken}
use Rattle.rule.proofs.word.takes.Goals as goal
use Rattle.rule.specs.Words.{Numbered}
use Rattle.std.proofs.Common.{◌/◌, subst}

pub returns-in_default-2 : goal.returns-in_default-2
returns-in_default-2 c = not_taken c.args.word c.args.byte (subst (Numbered (c.args.word / 0x1000_0000)) c.in_default.is c.kind_in.ensures).1
