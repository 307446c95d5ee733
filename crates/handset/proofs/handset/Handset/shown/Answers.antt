use Rattle.std.proofs.Common.{◌≡◌, ◌∙◌, ap}
use Rattle.handset.specs.Keeping.{messages_shown}
use Rattle.handset.proofs.handset.Handset.shown.Goals as goal

pub returns : goal.returns
returns c blocks read =
    let shown : messages_shown c.self.inside.shown.items ≡ c.args.self.now.shown = ap (λ k. k.shown) c.self.view_is in
    ap messages_shown c.deref.ensures.value ∙ shown ∙ read.shown
