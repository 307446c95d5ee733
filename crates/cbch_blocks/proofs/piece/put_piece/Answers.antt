use native.Mathlib.Omega.{arith}
use Rattle.std.proofs.Common.{All, Option, ap, drop, length, subst, sym, take}
use Rattle.std.proofs.lemmas.List.{length-append}
use Rattle.std.proofs.lemmas.List.Elements.{All-drop, All-take}
use Rattle.cbch_blocks.specs.Pieces.{header_before, most_piece_slots}
use Rattle.cbch_blocks.specs.RecordBlocks.{blocks_of_uses, octets_of_blocks}
use Rattle.bsc_table.specs.Book.{air_pairs, aired_pair}
use Rattle.bsc_table.specs.declared.entry.Aired.{Aired}
use Rattle.cbch_blocks.specs.TapeSteps.{CanAir}
use Rattle.cbch_blocks.proofs.Pieces.{own_octets, piece_put}
use Rattle.cbch_blocks.proofs.Slots.{all_can_air}
use Rattle.cbch_blocks.proofs.piece.put_piece.Goals as goal

pub put_slots-requires : goal.put_slots-requires
put_slots-requires c =
    let CanAirIt : Option Aired → Type 0 = λ used. CanAir c.log.result.now (aired_pair used) in
    let all = all_can_air c.legal_histories.ensures.uses_are_of_writes c.args.run.now c.log.result.now
    c.air.result.now c.slots.ensures.legal c.log.ensures c.air.ensures in
    subst (All CanAirIt) (sym c.slots_from.ensures)
    (All-take CanAirIt most_piece_slots (drop c.args.first c.air.result.now)
    (All-drop CanAirIt c.args.first c.air.result.now all))

pub returns-clause-put : goal.returns-clause-put
returns-clause-put c =
    piece_put c.put_slots.result c.args.run.now c.args.first c.args.octets.now.items c.put_header.new.octets.items
    (octets_of_blocks (blocks_of_uses c.log.result.now (air_pairs c.slots_from.result.now)))
    c.put_slots.new.octets.items c.in_ok-put_header.ensures.put
    (own_octets c.args.run.now c.args.first c.log.result.now c.air.result.now c.slots_from.result.now c.log.ensures
    c.air.ensures c.slots_from.ensures) c.put_slots.ensures.put

pub returns-clause-room : goal.returns-clause-room
returns-clause-room c = λ room.
    let own = ap length (own_octets c.args.run.now c.args.first c.log.result.now c.air.result.now
    c.slots_from.result.now c.log.ensures c.air.ensures c.slots_from.ensures) in
    let both = length-append (header_before c.args.first c.args.run.now)
    (octets_of_blocks (blocks_of_uses c.args.run.now.log
    (take most_piece_slots (drop c.args.first c.args.run.now.air)))) in
    c.put_slots.ensures.room (omega (
      arith,
      room,
      own,
      both,
      c.in_ok-put_header.ensures.len,
      c.put_header.ensures.capacity,
    ))
