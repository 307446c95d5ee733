-- Which messages are written, type by type, for callers that make them; and what a message that was read has.
use Rattle.std.proofs.Common.{◌≡◌, ℕ, true, false, List, [], length, Option, Some, None, refl}
use Rattle.std.specs.Prelude.{nat_le}
use Rattle.std.specs.List.{list_all}
use Rattle.cbs_page.specs.declared.coding.Dcs.{Dcs}
use Rattle.cbs_page.specs.declared.content.Content.{Content}
use Rattle.cbsp_wire.specs.declared.message.Cell.{Cell}
use Rattle.cbsp_wire.specs.declared.message.Count.{Count}
use Rattle.cbsp_wire.specs.declared.message.Failure.{Failure}
use Rattle.cbsp_wire.specs.declared.message.Message.{Message}
use Rattle.cbsp_wire.specs.declared.message.Message.TheVariants as messages
use Rattle.cbsp_wire.specs.Table.{presence_of, table}
use Rattle.cbsp_wire.specs.Value.{fields_of, type_of}
use Rattle.cbsp_wire.specs.Range.{passes, is_period, has_alphabet, cells_are_valid, contents_are_valid, cells_of_counts}
use Rattle.cbsp_wire.specs.Range.{cells_of_failures, is_nothing, is_full, is_writable}
use Rattle.cbsp_wire.specs.Meaning.{IsMessage}
use Rattle.cbsp_wire.proofs.Tests.{there_from}
use Rattle.cbsp_wire.proofs.WrittenLaws.{IsWritten-from, is_writable-from}
use Rattle.cbsp_wire.proofs.MeantLaws.{values_beside, IsMessage-writable}
use Rattle.cbsp_wire.proofs.Ranges.{HaveRanges, ranges_from, values_from}

-- an order to write
pub write-writable : (id new : ℕ) (old : Option ℕ) (cells : List Cell) (channel category : Option ℕ)
    (period broadcasts : ℕ) (dcs : Dcs) (contents : List Content)
    → is_nothing cells ≡ false → cells_are_valid cells ≡ true → passes (λ n. nat_le n 1) channel ≡ true
    → passes (λ n. nat_le n 2) category ≡ true
    → is_period period ≡ true → has_alphabet dcs.0 ≡ true → contents_are_valid (Some (length contents)) contents ≡ true
    → list_all is_full contents ≡ true
    → is_writable (messages.Write id new old cells channel category period broadcasts dcs contents) ≡ true
unfolding presence_of table
write-writable id new old cells channel category period broadcasts dcs contents some right ch cat per cod con full =
    let m = messages.Write id new old cells channel category period broadcasts dcs contents in
    is_writable-from m (record {
      values = values_from (fields_of m)
          (record {
            contents = con;
            period = per;
            coding = cod;
            category = cat;
            channel = ch;
            cells = right;
            completed = refl;
            failures = refl;
          });
      cells = there_from (presence_of (type_of m) 4) cells some;
      failures = refl;
      full = full;
    })

-- an order to kill
pub kill-writable : (id old : ℕ) (cells : List Cell) (channel : Option ℕ) → is_nothing cells ≡ false
    → cells_are_valid cells ≡ true → passes (λ n. nat_le n 1) channel ≡ true
    → is_writable (messages.Kill id old cells channel) ≡ true
unfolding presence_of table
kill-writable id old cells channel some right ch =
    let m = messages.Kill id old cells channel in
    is_writable-from m (record {
      values = values_beside (Some id) None (Some old) [] [] cells channel ch right refl refl;
      cells = there_from (presence_of (type_of m) 4) cells some;
      failures = refl;
      full = refl;
    })

-- the replies, which have no channel indicator
pub write_done-writable : (id new : ℕ) (old : Option ℕ) (completed : List Count) (cells : List Cell)
    → cells_are_valid (cells_of_counts completed) ≡ true → cells_are_valid cells ≡ true
    → is_writable (messages.WriteDone id new old completed cells None) ≡ true
unfolding presence_of table
write_done-writable id new old completed cells counted right =
    let m = messages.WriteDone id new old completed cells None in
    is_writable-from m (record {
      values = values_beside (Some id) (Some new) old [] completed cells None refl right counted refl;
      cells = refl;
      failures = refl;
      full = refl;
    })

-- the failure of a write
pub write_failed-writable : (id new : ℕ) (old : Option ℕ) (failures : List Failure) (completed : List Count)
    (cells : List Cell)
    → is_nothing failures ≡ false → cells_are_valid (cells_of_failures failures) ≡ true
    → cells_are_valid (cells_of_counts completed) ≡ true → cells_are_valid cells ≡ true
    → is_writable (messages.WriteFailed id new old failures completed cells None) ≡ true
unfolding presence_of table
write_failed-writable id new old failures completed cells some failed counted right =
    let m = messages.WriteFailed id new old failures completed cells None in
    is_writable-from m (record {
      values = values_beside (Some id) (Some new) old failures completed cells None refl right counted failed;
      cells = refl;
      failures = there_from (presence_of (type_of m) 9) failures some;
      full = refl;
    })

-- the completion of a kill
pub kill_done-writable : (id old : ℕ) (completed : List Count) (cells : List Cell)
    → cells_are_valid (cells_of_counts completed) ≡ true → cells_are_valid cells ≡ true
    → is_writable (messages.KillDone id old completed cells None) ≡ true
unfolding presence_of table
kill_done-writable id old completed cells counted right =
    let m = messages.KillDone id old completed cells None in
    is_writable-from m (record {
      values = values_beside (Some id) None (Some old) [] completed cells None refl right counted refl;
      cells = refl;
      failures = refl;
      full = refl;
    })

-- the failure of a kill
pub kill_failed-writable : (id old : ℕ) (failures : List Failure) (completed : List Count) (cells : List Cell)
    → is_nothing failures ≡ false → cells_are_valid (cells_of_failures failures) ≡ true
    → cells_are_valid (cells_of_counts completed) ≡ true → cells_are_valid cells ≡ true
    → is_writable (messages.KillFailed id old failures completed cells None) ≡ true
unfolding presence_of table
kill_failed-writable id old failures completed cells some failed counted right =
    let m = messages.KillFailed id old failures completed cells None in
    is_writable-from m (record {
      values = values_beside (Some id) None (Some old) failures completed cells None refl right counted failed;
      cells = refl;
      failures = there_from (presence_of (type_of m) 9) failures some;
      full = refl;
    })

-- what a message that some octets mean has: its values are in their ranges
pub IsMessage-ranges : (octets : List ℕ) (m : Message) → IsMessage octets m → HaveRanges (fields_of m)
IsMessage-ranges octets m h = ranges_from (fields_of m) (IsWritten-from m (IsMessage-writable octets m h)).values
