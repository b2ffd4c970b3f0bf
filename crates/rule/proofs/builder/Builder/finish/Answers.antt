use Rattle.language.proofs.Trees.{reads_few}
use Rattle.rule.proofs.Readied.{bar_at, room_at}
use Rattle.rule.proofs.Ruled.{ends_inside}
use Rattle.rule.proofs.Whole.{few_units, finished, ruled}
use Rattle.rule.proofs.builder.Builder.finish.Goals as goal

pub lay-requires : goal.lay-requires
lay-requires c =
    let b = c.args.self in
    let r = c.requires.0.1 in
    let few = reads_few r.reads in
    (room_at b r.us r.os r.x r.stands few, bar_at b r.us r.os r.x r.stands few)

pub returns : goal.returns
returns c bytes r =
    let b = c.args.self in
    rw c.from.ensures (ruled bytes b r _ _ c.requires.1 (finished b c.lay.new.self c.word_of.result c.lay.ensures c.word_of.ensures (few_units bytes b r)))

pub invariant_of-result : goal.invariant_of-result
invariant_of-result c =
    let b = c.args.self in
    let (bytes, r) = c.requires.0 in
    let rule = ruled bytes b r _ _ c.requires.1 (finished b c.lay.new.self c.word_of.result c.lay.ensures c.word_of.ensures (few_units bytes b r)) in
    record { ruled = rw c.from.ensures (∣ (bytes, rule) ∣₁); fits = ends_inside rule }
