use Rattle.gsmtap.specs.TapeOfCapture.{nothing_known}
use Rattle.gsmtap.proofs.sender_table.SenderState.new.Goals as goal

pub returns : goal.returns
returns c = record {
  heard = c.in_ok-listen.ensures.heard;
  first_time = c.in_ok-listen.ensures.first_time;
  last_time = c.in_ok-listen.ensures.last_time;
  listens = c.in_ok-listen.ensures.listens (nothing_known 65535) c.new.ensures;
}
