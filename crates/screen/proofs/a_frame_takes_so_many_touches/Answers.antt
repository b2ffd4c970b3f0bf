use Rattle.screen.proofs.Lengths.{frame_length}
use Rattle.screen.proofs.a_frame_takes_so_many_touches.Goals as goal

pub returns : goal.returns
returns c = frame_length
