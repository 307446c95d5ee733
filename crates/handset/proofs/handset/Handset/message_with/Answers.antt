use Rattle.std.proofs.Common.{◌≡◌, ◌∙◌, [], ◌∷◌, ◌++◌, sym, ap}
use Rattle.handset.specs.Reception.{shown_in, name_of}
use Rattle.handset.specs.Keeping.{blocks_kept, kept_of}
use Rattle.handset.specs.KeepingSteps.{page_ended, message_ended_read}
use Rattle.handset.proofs.NamedPages.{if_ok}
use Rattle.handset.proofs.ReadingLaws.{shows_page}
use Rattle.handset.proofs.handset.Handset.message_with.Goals as goal

pub returns-in-Some : goal.returns-in-Some
returns-in-Some c =
    let begun : blocks_kept c.self.inside.partial ≡ c.args.self.now.under_way = ap (λ k. k.under_way) c.self.view_is in
    let pages : c.self.inside.pages ≡ c.args.self.now.pages = ap (λ k. k.pages) c.self.view_is in
    let ended : c.in-Some.page ∷ [] ≡ page_ended c.args.self.now.under_way c.args.block.now =
    c.in-Some.ensures ∙ ap (λ k. page_ended k c.args.block.now) begun in
    if_ok c.message_ended.result _ _
    (λ message is blocks read.
    shows_page c.args.self.now blocks c.args.block.now c.in-Some.page ended read
    ∙ ap (λ ps. shown_in blocks ++ message_ended_read (kept_of ps (name_of c.in-Some.page)) c.in-Some.page) (sym pages)
    ∙ ap (λ ms. shown_in blocks ++ ms) (sym is))
    c.message_ended.ensures
