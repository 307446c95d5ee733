use Rattle.std.proofs.Common.{◌≡◌, ◌+◌, ◌-◌, ◌<◌, ◌∙◌, true, false, ap, length, rules}
use Rattle.std.specs.Prelude.{slice_index}
use Rattle.link_streams.specs.Directions.{is_type, may_be_messages}
use Rattle.link_streams.proofs.Types.{all_looked_at, none_left, not_messages, one_message}
use Rattle.link_streams.proofs.messages.may_be_messages.Goals as goal

pub returns-then-is_empty : goal.returns-then-is_empty
returns-then-is_empty c =
    let none : length c.loop.left.now ≡ 0 = search rules in
    none_left (length c.args.octets.now - c.loop.counter) c.loop.left.now
    (may_be_messages (length c.args.octets.now) c.args.octets.now) none c.loop.invariant

pub returns-then-not-is_known : goal.returns-then-not-is_known
returns-then-not-is_known c =
    let some : 0 < length c.loop.left.now = search rules in
    let isnt : is_type (slice_index c.loop.left.now 0) ≡ false = search rules in
    not_messages (length c.args.octets.now) c.loop.counter c.loop.left.now
    (may_be_messages (length c.args.octets.now) c.args.octets.now) c.loop-test.true some isnt c.loop.invariant

pub loop-preserved : goal.loop-preserved
loop-preserved c =
    let some : 0 < length c.loop.left.now = search rules in
    let is_known : is_type (slice_index c.loop.left.now 0) ≡ true = search rules in
    ap (may_be_messages (length c.args.octets.now - (c.loop.counter + 1))) c.after_message-left.ensures
    ∙ one_message (length c.args.octets.now) c.loop.counter c.loop.left.now
    (may_be_messages (length c.args.octets.now) c.args.octets.now) c.loop-test.true some is_known c.loop.invariant

pub returns : goal.returns
returns c =
    all_looked_at (length c.args.octets.now) c.loop.counter c.loop.left.now
    (may_be_messages (length c.args.octets.now) c.args.octets.now) c.loop-test.false c.loop.invariant
