use Rattle.std.proofs.Common.{◌++◌, ◌∙◌, [], List, ap, arith, rules}
use Rattle.std.specs.List.{flat_map}
use Rattle.device_ends.proofs.EndLaws.{ReadsUpTo-take}
use Rattle.gsmtap.specs.Heard.{IsHeardFault}
use Rattle.gsmtap.specs.Senders.{IsHearing}
use Rattle.gsmtap.specs.declared.sender_table.SenderRow.{SenderRow}
use Rattle.warnc_air.specs.TapeOutput.{IsCellsOutput, columns_text, max_capture, row_text}
use Rattle.warnc_air.proofs.WholeInput.{fault_of_read, front_out, output_out, too_long}
use Rattle.warnc_air.proofs.cells.cells_stream.Goals as goal

pub walk_over-requires : goal.walk_over-requires
walk_over-requires g c = record { given = tt; is = c.new-walk.ensures tt c.new.ensures }

pub returns-then-count-gt-MAX_INPUT-clause-err : goal.returns-then-count-gt-MAX_INPUT-clause-err
returns-then-count-gt-MAX_INPUT-clause-err g c =
    let walks = c.in-Ok.ensures.walks in
    too_long IsHeardFault IsCellsOutput _ walks.octets _ _ (ReadsUpTo-take _ _ walks.octets max_capture walks.reads)
    (omega (arith, walks.many, c.if-count-gt-MAX_INPUT.true)) (search rules)

pub end-requires : goal.end-requires
end-requires g c =
    let walks = c.in-Ok.ensures.walks in
    record {
      given = tt;
      input = walks.octets;
      is = walks.taken tt [] (c.new-walk.ensures tt c.new.ensures);
      few = omega (arith, walks.many, c.if-count-gt-MAX_INPUT.false);
    }

pub returns-in-Err-clause-err : goal.returns-in-Err-clause-err
returns-in-Err-clause-err g c =
    let walks = c.in-Ok.ensures.walks in
    let is : IsHearing walks.octets c.walk_over.new.walk = walks.taken tt [] (c.new-walk.ensures tt c.new.ensures) in
    let told : IsHeardFault walks.octets c.in-Err.fault = c.in-Err.ensures.fault tt walks.octets is in
    rw c.fault_of_air.ensures
    (fault_of_read IsHeardFault IsCellsOutput _ walks.octets _ _ c.in-Err.fault
    (ReadsUpTo-take _ _ walks.octets max_capture walks.reads)
    (omega (arith, walks.many, c.if-count-gt-MAX_INPUT.false)) told (search rules))

pub rows-requires : goal.rows-requires
rows-requires g c =
    let walks = c.in-Ok.ensures.walks in
    let is : IsHearing walks.octets c.walk_over.new.walk = walks.taken tt [] (c.new-walk.ensures tt c.new.ensures) in (
      walks.octets,
      c.in-Ok-end.ensures.taken tt walks.octets is,
      omega (arith, walks.many, c.if-count-gt-MAX_INPUT.false),
    )

pub returns-in-Ok-write_all-clause-ok : goal.returns-in-Ok-write_all-clause-ok
returns-in-Ok-write_all-clause-ok g c =
    let walks = c.in-Ok.ensures.walks in
    let is : IsHearing walks.octets c.walk_over.new.walk = walks.taken tt [] (c.new-walk.ensures tt c.new.ensures) in
    let made : IsCellsOutput walks.octets c.as_bytes.result.now = (
      c.in-Ok-rows.rows.items,
      c.in-Ok-rows.ensures walks.octets (c.in-Ok-end.ensures.taken tt walks.octets is),
      c.as_bytes.ensures.value ∙ c.in-Ok-table_of.ensures
          ∙ ap (λ (it : List SenderRow). columns_text ++ flat_map row_text it) c.deref.ensures.value,
    ) in
    output_out IsCellsOutput _ walks.octets c.as_bytes.result.now _ _
    (ReadsUpTo-take _ _ walks.octets max_capture walks.reads)
    (omega (arith, walks.many, c.if-count-gt-MAX_INPUT.false)) made c.in-Ok-write_all.ensures.ok

pub returns-clause-err : goal.returns-clause-err
returns-clause-err g c =
    let walks = c.in-Ok.ensures.walks in
    let is : IsHearing walks.octets c.walk_over.new.walk = walks.taken tt [] (c.new-walk.ensures tt c.new.ensures) in
    let made : IsCellsOutput walks.octets c.as_bytes.result.now = (
      c.in-Ok-rows.rows.items,
      c.in-Ok-rows.ensures walks.octets (c.in-Ok-end.ensures.taken tt walks.octets is),
      c.as_bytes.ensures.value ∙ c.in-Ok-table_of.ensures
          ∙ ap (λ (it : List SenderRow). columns_text ++ flat_map row_text it) c.deref.ensures.value,
    ) in
    front_out IsHeardFault IsCellsOutput _ walks.octets c.as_bytes.result.now _ _
    (ReadsUpTo-take _ _ walks.octets max_capture walks.reads)
    (omega (arith, walks.many, c.if-count-gt-MAX_INPUT.false)) made c.in-Err-write_all.ensures.err
