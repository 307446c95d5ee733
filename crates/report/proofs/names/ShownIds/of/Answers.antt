use Rattle.std.proofs.Common.{◌∙◌, ℕ, cond, true, ap, arith}
use Rattle.report.specs.RowSteps.{has_name, is_pair}
use Rattle.report.proofs.StepLaws.{name-more}
use Rattle.report.proofs.names.ShownIds.of.Goals as goal

pub loop-message-preserved : goal.loop-message-preserved
loop-message-preserved c = λ id serial.
    name-more c.loop-message.pairs.keys c.insert.new.self.keys c.args.shown.now c.loop-message.message-index
    c.message-item.result id serial (omega arith) c.message-item.is
    (c.in_ok-insert.ensures.updates.0 (id, serial)
    ∙ ap (λ (n : ℕ). cond (is_pair (c.message-item.result.id, n) (id, serial)) true
    (has_name c.loop-message.pairs.keys id serial)) c.number.ensures)
    (c.loop-message.invariant id serial)
