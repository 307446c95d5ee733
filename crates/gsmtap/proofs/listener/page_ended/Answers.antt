use Rattle.std.proofs.Common.{◌≡◌, ◌∙◌, length, arith}
use Rattle.gsmtap.proofs.Listeners.{three_of}
use Rattle.gsmtap.proofs.listener.page_ended.Goals as goal

pub returns-in-len3 : goal.returns-in-len3
returns-in-len3 c =
    let three : length c.args.kept.now ≡ 3 = omega (arith, c.in-len3.len_at_least, c.requires.few) in
    c.page_in_front.ensures ∙ three_of c.args.kept.now c.args.block.now _ three c.requires.begun
