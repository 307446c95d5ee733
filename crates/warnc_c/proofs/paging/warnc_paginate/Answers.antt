-- The pages are those that paging gave.
use Rattle.std.proofs.Common.{inl, refl, rules}
use Rattle.warnc_c.proofs.paging.warnc_paginate.Goals as goal

pub returns-in-Ok-paginate-clause-answer : goal.returns-in-Ok-paginate-clause-answer
returns-in-Ok-paginate-clause-answer c =
    inl (
      search rules,
      refl,
      record {
        paged = c.in-Ok-paginate.paged;
        is = search rules;
        coding = c.put_pages.ensures.coding;
        count = c.put_pages.ensures.count;
        octets = search rules;
        used = search rules;
      },
    )
