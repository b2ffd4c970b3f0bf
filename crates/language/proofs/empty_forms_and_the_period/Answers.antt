use Rattle.language.proofs.Theorems.{empty_forms}
use Rattle.language.proofs.empty_forms_and_the_period.Goals as goal

pub returns : goal.returns
returns c = empty_forms
