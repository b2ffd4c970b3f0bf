use Rattle.screen.proofs.Lengths.{dropped_length}
use Rattle.screen.proofs.a_dropped_frame_takes_so_many_touches.Goals as goal

pub returns : goal.returns
returns c = dropped_length
