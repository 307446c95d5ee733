use Rattle.std.proofs.Common.{refl}
use Rattle.gsmtap.proofs.TapesTaken.{new_tapes}
use Rattle.gsmtap.proofs.tapes.Tapes.new.Goals as goal

pub returns : goal.returns
returns c = new_tapes c.args.wanted.items c.deref.result.now _ refl c.deref.ensures.value c.in_ok-airs.ensures
