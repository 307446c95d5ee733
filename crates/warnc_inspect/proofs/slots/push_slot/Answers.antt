use Rattle.std.proofs.Common.{◌≡◌, ◌∙◌, ◌++◌, [], ◌∷◌, List, ℕ, OnOk, ap, append-nil, rules, subst, sym}
use Rattle.std.specs.List.{flat_map}
use Rattle.handset.specs.Reception.{readable_pages}
use Rattle.warnc_inspect.specs.ReadSteps.{IsTable}
use Rattle.warnc_inspect.specs.SlotsOutput.{slot_read, slot_row, slot_rows}
use Rattle.warnc_inspect.proofs.slots.push_slot.Goals as goal

pub returns-in-Some : goal.returns-in-Some
returns-in-Some c =
    let page = c.in-Some.page in
    let row = slot_row c.args.cell c.args.number in
    let pages : page ∷ [] ≡ readable_pages (slot_read c.args.wanted c.args.slot.now) = search
    (rules, c.in-Some.ensures) in
    let rows : row page ≡ slot_rows c.args.wanted c.args.cell c.args.number c.args.slot.now =
    sym (append-nil (row page)) ∙ ap (flat_map row) pages in
    subst (λ (more : List ℕ). OnOk c.push_page.result ((octets : List ℕ) → IsTable c.args.table.now octets
    → IsTable c.push_page.new.table (octets ++ more))) rows c.push_page.ensures
