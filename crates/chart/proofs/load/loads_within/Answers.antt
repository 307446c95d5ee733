use Rattle.std.proofs.Common.{◌∙◌, ℕ, ap, map, refl}
use Rattle.std.specs.List.{range_with_len}
use Rattle.bsc_table.specs.Claim.{claimed_at}
use Rattle.chart.proofs.RangeLaws.{filled_from}
use Rattle.chart.proofs.load.loads_within.Goals as goal

pub returns-clause-all : goal.returns-clause-all
returns-clause-all c claims are =
    filled_from (claimed_at claims) c.loads_between-drawn.result.now c.args.stretch.from _ 0 refl
    (c.loads_between-drawn.ensures.loads claims are)
    ∙ ap (λ (n : ℕ). map (claimed_at claims) (range_with_len c.args.stretch.from n)) c.loads_between-drawn.ensures.width
