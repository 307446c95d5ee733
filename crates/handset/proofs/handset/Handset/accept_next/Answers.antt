use Rattle.std.proofs.Common.{◌≡◌, ◌∙◌, ◌++◌, ap}
use Rattle.std.proofs.lemmas.List.{take_rest}
use Rattle.handset.specs.Reception.{name_of, page_in_front}
use Rattle.handset.specs.Keeping.{messages_shown, blocks_kept, kept_of}
use Rattle.handset.specs.KeepingSteps.{pages_with_read, message_ended_read}
use Rattle.handset.proofs.WholePages.{reads_whole}
use Rattle.handset.proofs.handset.Handset.accept_next.Goals as goal

pub returns-in-Some-clause-read : goal.returns-in-Some-clause-read
returns-in-Some-clause-read c before read =
    let begun : blocks_kept c.self.inside.partial ≡ c.args.self.now.under_way = ap (λ k. k.under_way) c.self.view_is in
    let pages : c.self.inside.pages ≡ c.args.self.now.pages = ap (λ k. k.pages) c.self.view_is in
    let shown : messages_shown c.self.inside.shown.items ≡ c.args.self.now.shown = ap (λ k. k.shown) c.self.view_is in
    reads_whole c.args.self.now _ before c.args.blocks.now c.args.place c.in-Some.page c.in-Some.ensures.0
    (c.in-Some.ensures.1 ∙ ap page_in_front (take_rest c.args.blocks.now c.args.place))
    (record {
      none = begun ∙ c.in-Some.ensures.0;
      pages =
          λ name.
          c.in_ok-take.ensures.pages name ∙ ap (λ ps. pages_with_read (kept_of ps) c.in-Some.page name) pages;
      shown =
          c.in_ok-take.ensures.shown
          ∙ ap (λ ms. ms ++ message_ended_read (kept_of c.self.inside.pages (name_of c.in-Some.page)) c.in-Some.page)
          shown
          ∙ ap (λ ps. c.args.self.now.shown ++ message_ended_read (kept_of ps (name_of c.in-Some.page)) c.in-Some.page)
          pages;
    })
    read
