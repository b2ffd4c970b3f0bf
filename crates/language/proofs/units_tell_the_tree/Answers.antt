use Rattle.language.proofs.Units.{units_injective}
use Rattle.language.proofs.units_tell_the_tree.Goals as goal

pub returns : goal.returns
returns c = units_injective
