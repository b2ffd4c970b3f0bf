use Rattle.conduct.proofs.Apart.{two_runs}
use Rattle.runs.proofs.play_both.Goals as goal

pub returns : goal.returns
returns g c = record { left = c.play-played.ensures; right = c.play.ensures; law = two_runs c.play-played.ensures.run c.play.ensures.run }
