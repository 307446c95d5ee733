-- The definitions, computed on worked octets.
use Rattle.std.proofs.Common.{◌≡◌, ℕ, List, [], ◌∷◌, map, Some, None, refl}
use Rattle.cbsp_wire.specs.declared.fault.WireFault.TheVariants.{Truncated, TrailingBytes, Cause}
use Rattle.cbsp_wire.specs.declared.message.message_type.MessageType.TheVariants as types
use Rattle.cbsp_wire.specs.declared.message.Cell.{Cell}
use Rattle.cbsp_wire.specs.declared.message.Count.{Count}
use Rattle.cbsp_wire.specs.declared.message.Failure.{Failure}
use Rattle.cbsp_wire.specs.declared.message.Message.{Message}
use Rattle.cbsp_wire.specs.declared.message.Message.TheVariants as messages
use Rattle.cbsp_wire.specs.Table.{table, presence_of, size_of}
use Rattle.cbsp_wire.specs.Walk.{walk_within, walk_of}
use Rattle.cbsp_wire.specs.Value.{message_of}
use Rattle.cbsp_wire.specs.Range.{numbers}
use Rattle.cbsp_wire.specs.Refusals.{first_fault}
use Rattle.cbsp_wire.specs.Written.{bodies_in, octets_of_message}

-- the numbers are those of the table, in its order
numbers_of_table : map (λ r. r.number) table ≡ numbers
unfolding table
numbers_of_table = refl

-- a kill of the message 4370, 0010 in one cell
abbrev kill_elements : List ℕ
kill_elements = 0x0E ∷ 0x11 ∷ 0x12 ∷ 0x02 ∷ 0x00 ∷ 0x10 ∷ 0x04 ∷ 0x00 ∷ 0x05 ∷ 0x01 ∷ 0x00 ∷ 0x01 ∷ 0x00 ∷ 0x01 ∷ []

abbrev kill_octets : List ℕ
kill_octets = 0x04 ∷ 0x00 ∷ 0x00 ∷ 0x0E ∷ kill_elements

abbrev cell : Cell
cell = record { lac = 1; ci = 1 }

abbrev kill : Message
kill = messages.Kill 4370 16 (cell ∷ []) None

kill_has_no_fault : first_fault kill_octets ≡ None
unfolding first_fault walk_of walk_within presence_of size_of table
kill_has_no_fault = refl

kill_is_read : message_of types.Kill (walk_of types.Kill kill_elements).elements ≡ kill
unfolding message_of walk_of walk_within presence_of size_of table
kill_is_read = refl

kill_is_written : octets_of_message kill ≡ kill_octets
unfolding octets_of_message bodies_in
kill_is_written = refl

-- a reply to it, with the number 0
abbrev count : Count
count = record { cell = cell; number = 0; info = 0 }

reply_is_written : octets_of_message (messages.KillDone 4370 16 (count ∷ []) [] None)
    ≡ 0x05 ∷ 0x00 ∷ 0x00 ∷ 0x11 ∷ 0x0E ∷ 0x11 ∷ 0x12 ∷ 0x02 ∷ 0x00 ∷ 0x10
    ∷ 0x08 ∷ 0x00 ∷ 0x08 ∷ 0x01 ∷ 0x00 ∷ 0x01 ∷ 0x00 ∷ 0x01 ∷ 0x00 ∷ 0x00 ∷ 0x00 ∷ []
unfolding octets_of_message bodies_in
reply_is_written = refl

-- a failure in two cells: each has a discriminator of its own
abbrev failure : ℕ → Failure
failure ci = record { cell = record { lac = 1; ci = ci }; cause = 6 }

abbrev failed_octets : ℕ → List ℕ
failed_octets second =
    0x06 ∷ 0x00 ∷ 0x00 ∷ 0x15 ∷ 0x0E ∷ 0x11 ∷ 0x12 ∷ 0x02 ∷ 0x00 ∷ 0x10
    ∷ 0x09 ∷ 0x00 ∷ 0x0C ∷ 0x01 ∷ 0x00 ∷ 0x01 ∷ 0x00 ∷ 0x01 ∷ 0x06 ∷ second ∷ 0x00 ∷ 0x01 ∷ 0x00 ∷ 0x02 ∷ 0x06 ∷ []

failed_is_written : octets_of_message
    (messages.KillFailed 4370 16 (failure 1 ∷ failure 2 ∷ []) [] [] None) ≡ failed_octets 1
unfolding octets_of_message bodies_in
failed_is_written = refl

failed_has_no_fault : first_fault (failed_octets 1) ≡ None
unfolding first_fault walk_of walk_within presence_of size_of table
failed_has_no_fault = refl

second_by_another_discriminator : first_fault (failed_octets 2) ≡ Some (Cause 0x01)
unfolding first_fault walk_of walk_within presence_of size_of table
second_by_another_discriminator = refl

-- one discriminator before all failures
one_discriminator : first_fault
    (0x06 ∷ 0x00 ∷ 0x00 ∷ 0x14 ∷ 0x0E ∷ 0x11 ∷ 0x12 ∷ 0x02 ∷ 0x00 ∷ 0x10
    ∷ 0x09 ∷ 0x00 ∷ 0x0B ∷ 0x01 ∷ 0x00 ∷ 0x01 ∷ 0x00 ∷ 0x01 ∷ 0x06 ∷ 0x00 ∷ 0x01 ∷ 0x00 ∷ 0x02 ∷ 0x06 ∷ [])
    ≡ Some (Cause 0x01)
unfolding first_fault walk_of walk_within presence_of size_of table
one_discriminator = refl

-- faults of the frame, of a type, of an element past the end, of one that is missing, of one that is strange
unknown_type : first_fault (0x07 ∷ 0 ∷ 0 ∷ 0 ∷ []) ≡ Some (Cause 0x04)
unfolding first_fault
unknown_type = refl

octets_behind : first_fault (0x07 ∷ 0 ∷ 0 ∷ 0 ∷ 0 ∷ []) ≡ Some TrailingBytes
unfolding first_fault
octets_behind = refl

cut : first_fault (0x04 ∷ 0 ∷ 0 ∷ 0x0E ∷ 0x0E ∷ []) ≡ Some Truncated
unfolding first_fault
cut = refl

missing : first_fault (0x04 ∷ 0 ∷ 0 ∷ 0x06 ∷ 0x0E ∷ 0x11 ∷ 0x12 ∷ 0x02 ∷ 0x00 ∷ 0x10 ∷ []) ≡ Some (Cause 0x05)
unfolding first_fault walk_of walk_within presence_of size_of table
missing = refl

strange : first_fault
    (0x04 ∷ 0 ∷ 0 ∷ 0x10 ∷ 0x0E ∷ 0x11 ∷ 0x12 ∷ 0x02 ∷ 0x00 ∷ 0x10
    ∷ 0x04 ∷ 0x00 ∷ 0x05 ∷ 0x01 ∷ 0x00 ∷ 0x01 ∷ 0x00 ∷ 0x01 ∷ 0x0F ∷ 0x01 ∷ []) ≡ Some
    (Cause 0x00)
unfolding first_fault walk_of walk_within presence_of size_of table
strange = refl
