use Rattle.std.proofs.Common.{arith}
use Rattle.calls_console.specs.Lines.{Asks}
use Rattle.calls_console.specs.declared.command.Command.TheVariants.{Begin, Drop, Feed, Finish, Load, Meter}
use Rattle.calls_console.specs.declared.command.Command.{Command}
use Rattle.calls_console.proofs.command.asked.Goals as goal

pub returns-in_default : goal.returns-in_default
returns-in_default c = none
  where
    none : (k : Command) → Asks c.args.parts.word.now c.args.parts.rest.now k → ⊥
    none (Load p) a = let e = a.named in let w = c.in_default.branch in grind arith
    none (Begin r b) a = let e = a.named in let w = c.in_default.branch in grind arith
    none (Feed r b) a = let e = a.named in let w = c.in_default.branch in grind arith
    none (Finish r) a = let e = a.named in let w = c.in_default.branch in grind arith
    none (Drop r) a = let e = a.named in let w = c.in_default.branch in grind arith
    none Meter a = let e = a.named in let w = c.in_default.branch in grind arith
