use Rattle.language.specs.Faults.{a_bar}
use Rattle.rule.proofs.Readied.{bar_of, room_of}
use Rattle.rule.proofs.Stood.{stood_bar}
use Rattle.rule.proofs.builder.Builder.bar.Goals as goal

pub lay-requires : goal.lay-requires
lay-requires c = (room_of c.args.self.now c.requires, bar_of c.args.self.now c.requires)

pub returns : goal.returns
returns c place us os x os' x' s a_bar = stood_bar c.args.self.now c.lay.new.self c.lay.ensures (room_of c.args.self.now c.requires) us os x s
