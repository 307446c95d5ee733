use Rattle.std.proofs.Common.{◌≡◌, min, arith}
use Rattle.gsmtap.proofs.Listeners.{kept_by}
use Rattle.gsmtap.proofs.listener.Listener.settle.Goals as goal

pub returns-clause-kept : goal.returns-clause-kept
returns-clause-kept c blocks slot is =
    let all : c.slots.moved ≡ min c.args.slots 3 =
    omega (arith, c.slots-test.false, c.slots.invariant.few, c.min-steps.ensures) in
    kept_by blocks slot c.args.slots c.slots.moved c.args.self.now c.slots.self is c.slots.invariant.end all
    (c.slots.invariant.kept blocks slot is)
