use Rattle.std.proofs.Common.{◌≡◌, ◌-◌, ◌+◌, length, List, [], get_or, sym, ap, subst, ◌∙◌, arith}
use Rattle.std.specs.List.{slice_get}
use Rattle.cbs_page.specs.declared.content.Content.{Content}
use Rattle.cbs_page.specs.Page.{octets_of_page}
use Rattle.bsc_table.specs.declared.command.Command.{Command}
use Rattle.cbch_blocks.specs.Blocks.{blocks_of_page}
use Rattle.cbch_blocks.specs.RecordBlocks.{blocks_of_slot, pages_of_command}
use Rattle.cbch_blocks.specs.TapeSteps.{CanSendPage}
use Rattle.cbch_blocks.proofs.Pages.{page_found}
use Rattle.cbch_blocks.proofs.slot.page_blocks.Goals as goal

pub returns-in-Write : goal.returns-in-Write
returns-in-Write c =
    let contents : List Content = c.in-Write.contents in
    let none : Content = record { used = 0; octets = [] } in
    let has = subst (CanSendPage c.args.page) c.in-Write.is c.requires in
    let some = has.0 in
    let few = has.1 in
    let first : 1 + (c.args.page - 1) ≡ c.args.page = omega (arith, some) in
    let there = page_found c.in-Write.id c.in-Write.serial c.in-Write.dcs.0 (length contents) 1 contents
    (c.args.page - 1) none (omega (arith, some, few)) in
    c.cut.ensures
    ∙ ap blocks_of_page c.page_bytes.ensures
    ∙ ap (λ (xs : List Content). blocks_of_page (octets_of_page c.in-Write.id c.in-Write.serial c.in-Write.dcs.0
    c.args.page (length xs) (get_or xs (c.args.page - 1) none).octets)) c.as_slice-contents.ensures
    ∙ ap (λ n. blocks_of_page (octets_of_page c.in-Write.id c.in-Write.serial c.in-Write.dcs.0 n
    (length contents) (get_or contents (c.args.page - 1) none).octets)) (sym first)
    ∙ sym (ap (λ (command : Command). blocks_of_slot (slice_get (pages_of_command command) (c.args.page - 1)))
    c.in-Write.is ∙ ap blocks_of_slot there)
