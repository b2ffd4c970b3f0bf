use Rattle.std.proofs.Common.{subst}
use Rattle.calls_console.specs.Numbers.{Decimal}
use Rattle.lines.proofs.Divided.{one_word}
use Rattle.calls_console.proofs.command.text.Goals as goal

pub returns-in_err-renter_number : goal.returns-in_err-renter_number
returns-in_err-renter_number c = rw c.from_residual.ensures (λ r b o. c.in_err-renter_number.ensures r (subst (λ z. Decimal 8 z r) (one_word o.divides c.of-parts.ensures) o.renter_is))
