use Rattle.link_streams.proofs.Following.{none_followed}
use Rattle.link_streams.proofs.streams.LinkStreams.new.Goals as goal

pub returns : goal.returns
returns c = none_followed c.new.result.items c.new-2.result.items c.new.ensures.items c.new-2.ensures.items
