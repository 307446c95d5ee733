use Rattle.std.proofs.Common.{◌*◌, refl}
use Rattle.gsmtap.proofs.Listeners.{kept_none, nothing_long}
use Rattle.gsmtap.proofs.listener.Listener.new.Goals as goal

pub returns : goal.returns
returns c = record {
  track = refl;
  long = nothing_long (4 * 65535);
  kept = kept_none c.new.result (4 * 65535) c.new.ensures;
}
