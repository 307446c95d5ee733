-- The command of a message that octets mean is well-formed.
use Rattle.std.proofs.Common.{◌≡◌, ℕ, ◌==◌, Bool, true, ◌&&◌, Option, Some, List, length, get_or, leb, subst}
use Rattle.std.specs.List.{list_all}
use Rattle.std.proofs.lemmas.List.Sums.{AllPass-from_list_all}
use Rattle.std.proofs.lemmas.Bool.{and_parts, leb-true, eqb-true}
use Rattle.cbs_page.specs.declared.content.Content.{Content}
use Rattle.cbs_page.specs.declared.Dcs.{Dcs}
use Rattle.cbsp_wire.specs.declared.message.Cell.{Cell}
use Rattle.cbsp_wire.specs.declared.message.Message.{Message}
use Rattle.cbsp_wire.specs.declared.message.Message.TheVariants as messages
use Rattle.cbsp_wire.specs.Meaning.{IsMessage}
use Rattle.cbsp_wire.specs.Range.{is_writable, values_are_valid, contents_are_valid, numbers_are_valid}
use Rattle.cbsp_wire.specs.Range.{all_cells_are_valid, is_page_count}
use Rattle.cbsp_wire.specs.Range.{is_period, has_alphabet, is_there_if, is_full, passes}
use Rattle.cbsp_wire.specs.Table.{presence_of}
use Rattle.cbsp_wire.specs.Value.{Fields, fields_of}
use Rattle.cbsp_wire.specs.declared.message.message_type.MessageType.TheVariants as types
use Rattle.cbsp_wire.proofs.MeantLaws.{IsMessage-writable}
use Rattle.bsc_table.specs.Orders.{IsBroadcastable}

first_of_four : (a b c d : Bool) → (a && b && c && d) ≡ true → a ≡ true
first_of_four a b c d all = (and_parts a b ((and_parts (a && b) c ((and_parts (a && b && c) d all).0)).0)).0

second_of_four : (a b c d : Bool) → (a && b && c && d) ≡ true → b ≡ true
second_of_four a b c d all = (and_parts a b ((and_parts (a && b) c ((and_parts (a && b && c) d all).0)).0)).1

-- what its values are
pub broadcastable : (id new : ℕ) (old : Option ℕ) (cells : List Cell) (channel category : Option ℕ)
    (period broadcasts : ℕ) (dcs : Dcs) (contents : List Content)
    → is_writable (messages.Write id new old cells channel category period broadcasts dcs contents) ≡ true
    → IsBroadcastable period dcs contents
broadcastable id new old cells channel category period broadcasts dcs contents writable =
    let f : Fields = fields_of (messages.Write id new old cells channel category period broadcasts dcs contents) in
    let n : ℕ = length contents in
    let counted : Bool = is_page_count n && (n == n) in
    let used : Bool = list_all (λ (c : Content). leb c.used 82) contents in
    let coded : Bool = has_alphabet dcs.0 in
    let in_category : Bool = passes (λ (x : ℕ). leb x 2) category in
    let in_channel : Bool = passes (λ (x : ℕ). leb x 1) channel in
    let has_cells : Bool = is_there_if (presence_of types.Write 0x04) cells in
    let has_failures : Bool = is_there_if (presence_of types.Write 0x09) f.failures in
    let all_full : Bool = list_all is_full contents in
    let values = first_of_four (values_are_valid f) has_cells has_failures all_full writable in
    let parts = and_parts (contents_are_valid (Some n) contents && numbers_are_valid f) (all_cells_are_valid f) values
    in
    let both = and_parts (contents_are_valid (Some n) contents) (numbers_are_valid f) parts.0 in
    let said = and_parts counted used both.0 in
    let pages = and_parts (is_page_count n) (n == n) said.0 in
    let range = and_parts (leb 1 n) (leb n 15) pages.0 in
    let numbers = both.1 in
    let timed : is_period period ≡ true = first_of_four (is_period period) coded in_category in_channel numbers in
    let times = and_parts (leb 1 period) (leb period 1024) timed in
    record {
      some_pages = leb-true 1 n range.0;
      few_pages = leb-true n 15 range.1;
      used = λ k d h. leb-true (get_or contents k d).used 82 (AllPass-from_list_all (λ (c : Content). leb c.used 82)
          contents said.1 k d h);
      some_period = leb-true 1 period times.0;
      short_period = leb-true period 1024 times.1;
      coded = second_of_four (is_period period) coded in_category in_channel numbers;
      full = λ k d h. eqb-true (length (get_or contents k d).octets) 82
          (AllPass-from_list_all is_full contents (and_parts (values_are_valid f && has_cells && has_failures) all_full
          writable).1 k d h);
    }

-- of a message that octets mean
pub meant_broadcastable : (octets : List ℕ) (m : Message) (id new : ℕ) (old : Option ℕ) (cells : List Cell)
    (channel category : Option ℕ) (period broadcasts : ℕ) (dcs : Dcs) (contents : List Content)
    → m ≡ messages.Write id new old cells channel category period broadcasts dcs contents → IsMessage octets m
    → IsBroadcastable period dcs contents
meant_broadcastable octets m id new old cells channel category period broadcasts dcs contents same meant =
    let Writable : Message → Type 0 = λ x. is_writable x ≡ true in
    broadcastable id new old cells channel category period broadcasts dcs contents
    (subst Writable same (IsMessage-writable octets m meant))
