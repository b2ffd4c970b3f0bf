use Rattle.std.proofs.Common.{◌∷◌, sym, ap, ◌∙◌}
use Rattle.language.specs.Faults.{a_bar, a_letter, an_open, operand, start}
use Rattle.rule.proofs.Readied.{is_closed, is_deep, is_shallow, refused_again, refused_as, refused_first, took_as, took_close, took_sign}
use Rattle.rule.proofs.builder.Builder.take.Goals as goal
use Rattle.rule.specs.Standing.{before_of}

pub returns-in-Open : goal.returns-in-Open
returns-in-Open c us os x s = (rw c.at.ensures.0 (refused_as c.in-Open.is (is_deep c.args.self.now us os x s c.if-self-gt-MOST_GROUPS.true)), c.at.ensures.1)

pub returns-in-Close : goal.returns-in-Close
returns-in-Close c us os x s = (rw c.at-in-Close.ensures.0 (refused_as c.in-Close.is (is_closed c.args.self.now us os x s c.if-self-le1.true)), c.at-in-Close.ensures.1)

pub returns-in-Start : goal.returns-in-Start
returns-in-Start c us os x s = (rw c.at-in-Start.ensures.0 (refused_as c.in-Repeat.is (refused_first c.in-Repeat.sign os x (sym s.last ∙ ap before_of c.in-Start.is))), c.at-in-Start.ensures.1)

pub returns-in-Sign : goal.returns-in-Sign
returns-in-Sign c us os x s = (rw c.at-in-Sign.ensures.0 (refused_as c.in-Repeat.is (refused_again c.in-Repeat.sign os x (sym s.last ∙ ap before_of c.in-Sign.is))), c.at-in-Sign.ensures.1)

pub returns-in-Plain : goal.returns-in-Plain
returns-in-Plain c us os x s = took_as c.letter.new.self c.args.placed.place us os x c.in-Plain.is (os, operand, a_letter, c.letter.ensures c.args.placed.place us os x os operand s a_letter)

pub returns-in-Open-2 : goal.returns-in-Open-2
returns-in-Open-2 c us os x s =
    let h = is_shallow c.args.self.now us os x s c.if-self-gt-MOST_GROUPS.false in
    took_as c.open_group.new.self c.args.placed.place us os x c.in-Open-2.is (c.args.placed.place ∷ os, start, an_open h, c.open_group.ensures us os x (c.args.placed.place ∷ os) start s (an_open h))

pub returns-in-Bar : goal.returns-in-Bar
returns-in-Bar c us os x s = took_as c.bar.new.self c.args.placed.place us os x c.in-Bar.is (os, start, a_bar, c.bar.ensures c.args.placed.place us os x os start s a_bar)

pub returns-in-Close-2 : goal.returns-in-Close-2
returns-in-Close-2 c us os x s =
    took_as c.close_group.new.self c.args.placed.place us os x c.in-Close-2.is
    (took_close c.args.self.now c.close_group.new.self c.args.placed.place us os x s c.if-self-le1.false (c.close_group.ensures c.args.placed.place))

pub returns-in-Operand : goal.returns-in-Operand
returns-in-Operand c us os x s =
    took_as c.repeat.new.self c.args.placed.place us os x c.in-Repeat.is
    (took_sign c.args.self.now c.repeat.new.self c.in-Repeat.sign c.args.placed.place us os x s c.in-Operand.is (c.repeat.ensures c.args.placed.place))
