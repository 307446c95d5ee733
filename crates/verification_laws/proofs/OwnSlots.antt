-- A record's own tape holds its blocks.
use Rattle.std.proofs.Common.{◌≡◌, length, map, subst, ◌∙◌}
use Rattle.std.specs.List.{flat_map}
use Rattle.std.proofs.lemmas.List.{length-map}
use Rattle.std.proofs.lemmas.List.Elements.{recursion_from_All}
use Rattle.std.proofs.lemmas.List.Folds.{flat_map-map}
use Rattle.bsc_table.specs.Legal.{IsLegal}
use Rattle.bsc_table.specs.Record.{Record}
use Rattle.cbch_blocks.specs.RecordBlocks.{blocks_of, blocks_of_slot, page_aired}
use Rattle.composition.proofs.Aired.{AreSound, IsAired, all_aired, can_send_aired}
use Rattle.composition.proofs.Composed.{sound_of}
use Rattle.composition.proofs.Laws.{Laws}
use Rattle.composition.proofs.Meaning.{are_slots}
use Rattle.handset.specs.Laws.{MadeAreRecordings}
use Rattle.handset.specs.Tape.{AreSlots}
use Rattle.verification_laws.specs.Recorded.{RecordsAreRecorded}

own-slots : Laws → (r : Record) → IsLegal r → r.clock ≡ r.slots → AreSlots r.slots (blocks_of r)
own-slots laws r legal over =
    let sound : AreSound r.log = sound_of laws r legal in
    let can = can_send_aired r.log r.air (recursion_from_All (IsAired r.log) r.air (all_aired r sound legal)) in
    let slots = are_slots (map (page_aired r.log) r.air) can in
    let many : length (map (page_aired r.log) r.air) ≡ r.slots =
    length-map r.air (page_aired r.log) ∙ legal.played ∙ over in
    subst (AreSlots r.slots) (flat_map-map blocks_of_slot (page_aired r.log) r.air)
    (subst (λ n. AreSlots n (flat_map blocks_of_slot (map (page_aired r.log) r.air))) many slots)

-- the blocks of a record are the recording of its tape
pub recorded : Laws → MadeAreRecordings → RecordsAreRecorded
recorded laws made r legal over few = made r.cell r.slots (blocks_of r) few (own-slots laws r legal over)
