use Rattle.language.proofs.Units.{size_of_units}
use Rattle.language.proofs.each_unit_has_a_position.Goals as goal

pub returns : goal.returns
returns c t = size_of_units t
