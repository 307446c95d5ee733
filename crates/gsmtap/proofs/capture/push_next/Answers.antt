use Rattle.std.proofs.Common.{◌≡◌, ◌/◌, ◌++◌, List, ℕ, length, ap, ◌∙◌, arith}
use Rattle.std.specs.Simd.{first_chunks}
use Rattle.handset.specs.Tape.{cell_in}
use Rattle.gsmtap.specs.Capture.{packets_of_slots}
use Rattle.gsmtap.proofs.TapeSteps.{begins_with_tape}
use Rattle.gsmtap.proofs.capture.push_next.Goals as goal

pub returns-clause-pushed : goal.returns-clause-pushed
returns-clause-pushed c =
    let header : List ℕ = c.split_at.result.0.now in
    let body : List ℕ = c.split_at-2.result.0.now in
    let many : length body / 92 ≡ c.slots_of-slots.result = omega arith in
    let slots : c.as_chunks.result.0.now ≡ first_chunks 92 c.slots_of-slots.result body =
    c.as_chunks.ensures.front ∙ ap (λ k. first_chunks 92 k body) many in
    record {
      tape = record { header = header; slots = first_chunks 92 c.slots_of-slots.result body };
      begins =
          begins_with_tape c.args.left.now header c.split_at.result.1.now body c.split_at-2.result.1.now
          c.slots_of-slots.result (omega arith) c.split_at.ensures.front c.split_at.ensures.back
          c.slots_of-slots.ensures
          (omega arith) (omega arith) c.split_at-2.ensures.front c.split_at-2.ensures.back;
      pushed =
          c.in_ok-push_slots.ensures
          ∙ ap (λ cell. c.args.output.now.items
          ++ packets_of_slots c.args.settings c.args.number cell 0 c.as_chunks.result.0.now) c.cell_of.ensures
          ∙ ap (λ (chunks : List (List ℕ)). c.args.output.now.items
          ++ packets_of_slots c.args.settings c.args.number (cell_in header) 0 chunks) slots;
    }
