use Rattle.language.specs.Faults.{a_letter}
use Rattle.rule.proofs.Readied.{room_of}
use Rattle.rule.proofs.Stood.{stood_letter}
use Rattle.rule.proofs.builder.Builder.letter.Goals as goal

pub lay-requires : goal.lay-requires
lay-requires c = (room_of c.args.self.now c.requires, tt)

pub returns : goal.returns
returns c place us os x os' x' s a_letter = stood_letter c.args.self.now c.lay.new.self c.args.letter c.lay.ensures (room_of c.args.self.now c.requires) us os x s
