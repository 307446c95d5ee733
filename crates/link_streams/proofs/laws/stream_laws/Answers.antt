use Rattle.link_streams.proofs.StreamLaws.{stream_is_what_came_first}
use Rattle.link_streams.proofs.laws.stream_laws.Goals as goal

pub returns : goal.returns
returns c = stream_is_what_came_first
