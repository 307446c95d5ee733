use Rattle.order_verdict.proofs.LagLaws.{delays-told}
use Rattle.order_verdict.proofs.laws.lag_laws.Goals as goal

pub returns : goal.returns
returns c = record { delays_are_told = delays-told }
