use Rattle.std.proofs.Common.{◌∙◌, Some, sym, ap}
use Rattle.std.specs.Option.{option_or, option_map_or}
use Rattle.handset.proofs.PageLaws.{first-with}
use Rattle.handset.proofs.messages.total_with.Goals as goal

pub returns-in-Some : goal.returns-in-Some
returns-in-Some c =
    ap (λ first. option_map_or (λ page. page.total) (option_or first (Some c.args.last.now)) 0) c.in-Some.ensures
    ∙ sym (ap (λ first. option_map_or (λ page. page.total) first 0) (first-with c.args.pages.now c.args.last.now))

pub returns-in-None : goal.returns-in-None
returns-in-None c =
    ap (λ first. option_map_or (λ page. page.total) (option_or first (Some c.args.last.now)) 0) c.in-None.ensures
    ∙ sym (ap (λ first. option_map_or (λ page. page.total) first 0) (first-with c.args.pages.now c.args.last.now))
