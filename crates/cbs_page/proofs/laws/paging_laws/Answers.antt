use Rattle.cbs_page.proofs.PagingLaws.{one_paging}
use Rattle.cbs_page.proofs.laws.paging_laws.Goals as goal

pub returns : goal.returns
returns c = one_paging
