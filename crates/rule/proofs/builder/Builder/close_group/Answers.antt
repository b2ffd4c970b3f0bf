use Rattle.language.specs.Faults.{a_close}
use Rattle.rule.proofs.Readied.{bar_of, room_of}
use Rattle.rule.proofs.Stood.{stood_close}
use Rattle.rule.proofs.builder.Builder.close_group.Goals as goal

pub lay-requires : goal.lay-requires
lay-requires c = (room_of c.args.self.now c.requires, bar_of c.args.self.now c.requires)

pub returns : goal.returns
returns c place us os x os' x' s a_close = stood_close c.args.self.now c.lay.new.self c.lay.ensures (room_of c.args.self.now c.requires) us _ os' x s
