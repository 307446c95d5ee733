use Rattle.std.proofs.Common.{◌≡◌, ◌∙◌, [], ◌∷◌, ◌++◌, ap}
use Rattle.handset.specs.Reception.{name_of}
use Rattle.handset.specs.Keeping.{messages_shown, blocks_kept, kept_of}
use Rattle.handset.specs.KeepingSteps.{under_way_with, page_ended, pages_with_read, message_ended_read}
use Rattle.handset.proofs.ReadingLaws.{reads_none, reads_page}
use Rattle.handset.proofs.handset.Handset.accept.Goals as goal
use Rattle.handset.proofs.handset.Handset.accept.Goals.{in-Some+in_ok-take, in_default}

pub returns-clause-read : goal.returns-clause-read
returns-clause-read c blocks read =
    let begun : blocks_kept c.self.inside.partial ≡ c.args.self.now.under_way = ap (λ k. k.under_way) c.self.view_is in
    let pages : c.self.inside.pages ≡ c.args.self.now.pages = ap (λ k. k.pages) c.self.view_is in
    let shown : messages_shown c.self.inside.shown.items ≡ c.args.self.now.shown = ap (λ k. k.shown) c.self.view_is in
    elim c.match-complete_with.branch [
      | in-Some+in_ok-take w ↦
          let ended : w.in-Some.page ∷ [] ≡ page_ended c.args.self.now.under_way c.args.block.now =
          w.in-Some.ensures ∙ ap (λ k. page_ended k c.args.block.now) begun in
          reads_page c.args.self.now _ blocks c.args.block.now w.in-Some.page ended
          (c.push.ensures
          ∙ ap (λ k. under_way_with k c.args.block.now) (ap (λ i. blocks_kept i.partial) w.self-inside-is ∙ begun))
          (λ name.
          ap (λ i. kept_of i.pages name) w.self-inside-is ∙ w.in_ok-take.ensures.pages name
          ∙ ap (λ ps. pages_with_read (kept_of ps) w.in-Some.page name) pages)
          (ap (λ i. messages_shown i.shown.items) w.self-inside-is ∙ w.in_ok-take.ensures.shown
          ∙ ap (λ ms. ms ++ message_ended_read (kept_of c.self.inside.pages (name_of w.in-Some.page)) w.in-Some.page)
          shown
          ∙ ap (λ ps. c.args.self.now.shown ++ message_ended_read (kept_of ps (name_of w.in-Some.page)) w.in-Some.page)
          pages)
          read
      | in_default w ↦
          let ended : [] ≡ page_ended c.args.self.now.under_way c.args.block.now =
          w.in_default.ensures ∙ ap (λ k. page_ended k c.args.block.now) begun in
          reads_none c.args.self.now _ blocks c.args.block.now ended
          (c.push.ensures
          ∙ ap (λ k. under_way_with k c.args.block.now) (ap (λ i. blocks_kept i.partial) w.self-inside-is ∙ begun))
          (ap (λ i. i.pages) w.self-inside-is ∙ pages)
          (ap (λ i. messages_shown i.shown.items) w.self-inside-is ∙ shown)
          read
    ]
