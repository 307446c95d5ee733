use Rattle.short_pages.proofs.CutLaws.{cut_pages_come_back}
use Rattle.short_pages.proofs.ReadLaws.{short_pages_are_read_once}
use Rattle.short_pages.proofs.SameLaws.{without_short_pages_the_same}
use Rattle.short_pages.proofs.laws.short_page_laws.Goals as goal

pub returns-clause-read_once : goal.returns-clause-read_once
returns-clause-read_once c = short_pages_are_read_once

pub returns-clause-cut_pages_come_back : goal.returns-clause-cut_pages_come_back
returns-clause-cut_pages_come_back c = cut_pages_come_back

pub returns-clause-same_without : goal.returns-clause-same_without
returns-clause-same_without c = without_short_pages_the_same
