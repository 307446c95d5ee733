use Rattle.std.proofs.Common.{rules, ◌≡◌, ◌+◌, ◌++◌, ◌∙◌, ℕ, List, Option, None, ap, sym, subst, drop, get_or}
use Rattle.bsc_table.specs.Book.{aired_pair}
use Rattle.bsc_table.specs.declared.entry.Aired.{Aired}
use Rattle.bsc_table.specs.declared.entry.Entry.{Entry}
use Rattle.cbch_blocks.specs.RecordBlocks.{blocks_of, blocks_of_slot, octets_of_blocks, page_aired}
use Rattle.cbch_blocks.specs.RecordBlocks.{tape_header}
use Rattle.cbch_blocks.proofs.Fronts.{with_front, iff_next}
use Rattle.cbch_blocks.proofs.Slots.{can_air, octets_of_uses, slot_and_rest}
use Rattle.cbch_blocks.proofs.tape.Tape.is_of.Goals as goal

pub returns-in_default : goal.returns-in_default
returns-in_default c =
    let run = c.args.run.now in
    let header : c.header_of-header.result ≡ tape_header run.cell run.slots = c.header_of-header.ensures
    ∙ ap (λ cell. tape_header cell c.slots.result) c.cell.ensures
    ∙ ap (tape_header run.cell) c.slots.ensures.slots in
    let other : (rest : List ℕ) → c.bytes.result.now ≡ c.header_of-header.result ++ rest → ⊥ = c.in_default.ensures in
    let blocks = octets_of_blocks (blocks_of run) in (
      λ no. absurd (search (rules, no)),
      λ same. absurd (other blocks (c.bytes.ensures ∙ (same ∙ ap (λ front. front ++ blocks) (sym header)))),
    )

pub strip_slot-requires-clause-used : goal.strip_slot-requires-clause-used
strip_slot-requires-clause-used c =
    can_air c.legal_histories.ensures.uses_are_of_writes c.args.run.now c.log.result.now c.air-used-items.result.now
    c.loop-used.used-index c.slots.ensures.legal c.log.ensures c.air-used-items.ensures c.loop-used-test.true

pub loop-used-preserved : goal.loop-used-preserved
loop-used-preserved c =
    let log = c.args.run.now.log in
    let air = c.air-used-items.result.now in
    let used : Option Aired = get_or air c.loop-used.used-index None in
    let blocks = blocks_of_slot (page_aired log (aired_pair used)) in
    let rest = drop (c.loop-used.used-index + 1) air in
    let wants : octets_of_uses log (drop c.loop-used.used-index air)
    ≡ octets_of_blocks blocks ++ octets_of_uses log rest =
    slot_and_rest log air c.loop-used.used-index c.loop-used-test.true in
    let begins : c.loop-used.left.now ≡ octets_of_blocks blocks ++ c.in-Some-strip_slot.rest.now =
    subst (λ (entries : List Entry). c.loop-used.left.now
    ≡ octets_of_blocks (blocks_of_slot (page_aired entries (aired_pair used))) ++ c.in-Some-strip_slot.rest.now)
    c.log.ensures c.in-Some-strip_slot.ensures in
    iff_next _ _ _ c.loop-used.invariant
    (with_front c.loop-used.left.now (octets_of_blocks blocks) c.in-Some-strip_slot.rest.now
    (octets_of_uses log (drop c.loop-used.used-index air)) (octets_of_uses log rest) begins wants)
