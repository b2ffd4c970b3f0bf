use Rattle.language.specs.Faults.{an_open}
use Rattle.rule.proofs.Readied.{room_of}
use Rattle.rule.proofs.Stood.{stood_open}
use Rattle.rule.proofs.builder.Builder.open_group.Goals as goal

pub lay-requires : goal.lay-requires
lay-requires c = (room_of c.args.self.now c.requires.0, tt)

pub returns : goal.returns
returns c us os x os' x' s (an_open h) = stood_open c.args.self.now c.lay.new.self c.args.place c.lay.ensures (room_of c.args.self.now c.requires.0) us os x h s
