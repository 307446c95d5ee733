use Rattle.record_link.proofs.Written.{none_is_left_out}
use Rattle.record_link.proofs.laws.whole_link_law.Goals as goal

pub returns : goal.returns
returns c = none_is_left_out
