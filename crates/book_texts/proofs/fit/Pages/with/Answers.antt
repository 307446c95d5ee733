use Rattle.std.proofs.Common.{arith}
use Rattle.book_texts.proofs.Fitting.{filled_more, filled_page}
use Rattle.book_texts.proofs.fit.Pages.with.Goals as goal

pub returns-then-self-cost-clause-filled : goal.returns-then-self-cost-clause-filled
returns-then-self-cost-clause-filled c =
    λ front filled. filled_more c.args.self front c.args.character c.cost-cost.result c.cost-cost.ensures.value
    (omega (arith, c.capacity.ensures.value)) filled

pub returns-else-self-cost-clause-filled : goal.returns-else-self-cost-clause-filled
returns-else-self-cost-clause-filled c =
    λ front filled. filled_page c.args.self front c.args.character c.cost-cost.result c.cost-cost.ensures.value
    (omega (arith, c.capacity.ensures.value)) filled
