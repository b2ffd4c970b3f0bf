use Rattle.syntax.proofs.two_digits.Goals as goal

pub returns-in_err-digit : goal.returns-in_err-digit
returns-in_err-digit c = rw c.from_residual.ensures (λ v w d e. c.in_err-digit.ensures v d)

pub returns-in_err-digit-2 : goal.returns-in_err-digit-2
returns-in_err-digit-2 c = rw c.from_residual-in_err-digit-2.ensures (λ v w d e. c.in_err-digit-2.ensures w e)
