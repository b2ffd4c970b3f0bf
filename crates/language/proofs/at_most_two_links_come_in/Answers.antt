use Rattle.language.proofs.Theorems.{at_most_two_links}
use Rattle.language.proofs.at_most_two_links_come_in.Goals as goal

pub returns : goal.returns
returns c = at_most_two_links
