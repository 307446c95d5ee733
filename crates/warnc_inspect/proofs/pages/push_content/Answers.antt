use Rattle.std.proofs.Common.{◌++◌, ℕ, List, OnOk, subst}
use Rattle.warnc_inspect.specs.PageOutput.{page_row}
use Rattle.warnc_inspect.specs.ReadSteps.{IsTable}
use Rattle.warnc_inspect.proofs.pages.push_content.Goals as goal

pub returns : goal.returns
returns c =
    subst (λ (page : List ℕ). OnOk c.push_page.result ((octets : List ℕ) → IsTable c.args.table.now octets
    → IsTable c.push_page.new.table (octets ++ page_row c.args.number c.args.total c.args.content.now.used page)))
    c.page_bytes-page.ensures c.push_page.ensures
