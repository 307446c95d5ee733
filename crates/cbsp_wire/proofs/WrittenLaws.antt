-- The octets that are written of a message mean it, and no octets mean a message that isn't written.
use Rattle.std.proofs.Common.{◌≡◌, ℕ, ◌/◌, ◌%◌, Bool, true, false, List, [], ◌∷◌, length, refl, sym, ap, ◌∙◌, arith}
use Rattle.std.specs.Prelude.{◌&&◌}
use Rattle.std.specs.List.{list_all}
use Rattle.cbsp_wire.specs.declared.message.Message.{Message}
use Rattle.cbsp_wire.specs.declared.message.Message.TheVariants as messages
use Rattle.cbsp_wire.specs.Element.{Element, octets_of_elements}
use Rattle.cbsp_wire.specs.Table.{table, presence_of}
use Rattle.cbsp_wire.specs.Value.{Fields, fields_in, fields_of, message_with, message_of, type_of}
use Rattle.cbsp_wire.specs.Range.{numbers, elements_are_valid, is_there_if, has_none_twice, lists_are_valid}
use Rattle.cbsp_wire.specs.Range.{values_are_valid, is_writable}
use Rattle.cbsp_wire.specs.Range.{is_full}
use Rattle.cbsp_wire.specs.Refusals.{length_field}
use Rattle.cbsp_wire.specs.Meaning.{AreElementsOf, IsMessage}
use Rattle.cbsp_wire.specs.Written.{bodies_in, elements_of, octets_of_message}
use Rattle.cbsp_wire.proofs.ElementFacts.{mandatory_from, elements_from}
use Rattle.cbsp_wire.proofs.Tests.{and_parts, and_both}
use Rattle.cbsp_wire.proofs.WrittenItems.{cells-right, counts-right, failures-right}
use Rattle.cbsp_wire.proofs.WrittenElements.{HasBodies, HasBodies-among, fields_in-bodies, has_mandatory-bodies}
use Rattle.cbsp_wire.proofs.WrittenElements.{has_none_twice-bodies, are_sized, is_known_if, are_of_type}

-- a message is what its fields say
message_with-fields_of : (m : Message) → message_with (type_of m) (fields_of m) ≡ m
message_with-fields_of (messages.Write a b c d e f g h i j) = refl
message_with-fields_of (messages.WriteDone a b c d e f) = refl
message_with-fields_of (messages.WriteFailed a b c d e f g) = refl
message_with-fields_of (messages.Kill a b c d) = refl
message_with-fields_of (messages.KillDone a b c d e) = refl
message_with-fields_of (messages.KillFailed a b c d e f) = refl

-- a message has fields of its type alone
known_fields : (m : Message)
    → list_all (λ n. is_known_if (presence_of (type_of m) n) (bodies_in (fields_of m) n)) numbers ≡ true
unfolding presence_of table bodies_in
known_fields (messages.Write a b c d e f g h i j) = refl
known_fields (messages.WriteDone a b c d e f) = refl
known_fields (messages.WriteFailed a b c d e f g) = refl
known_fields (messages.Kill a b c d) = refl
known_fields (messages.KillDone a b c d e) = refl
known_fields (messages.KillFailed a b c d e f) = refl

-- what a message that is written has
pub record IsWritten (m : Message) : Type 0 where
  pub values : values_are_valid (fields_of m) ≡ true
  pub cells : is_there_if (presence_of (type_of m) 0x04) (fields_of m).cells ≡ true
  pub failures : is_there_if (presence_of (type_of m) 0x09) (fields_of m).failures ≡ true
  pub full : list_all is_full (fields_of m).contents ≡ true

-- a writable message passes each test
pub IsWritten-from : (m : Message) → is_writable m ≡ true → IsWritten m
IsWritten-from m h =
    let f = fields_of m in
    let a = is_there_if (presence_of (type_of m) 0x04) f.cells in
    let b = is_there_if (presence_of (type_of m) 0x09) f.failures in
    let one = and_parts ((values_are_valid f && a) && b) (list_all is_full f.contents) h in
    let two = and_parts (values_are_valid f && a) b one.0 in
    let three = and_parts (values_are_valid f) a two.0 in
    record { values = three.0; cells = three.1; failures = two.1; full = one.1 }

-- a message that passes each test is writable
pub is_writable-from : (m : Message) → IsWritten m → is_writable m ≡ true
is_writable-from m h =
    let f = fields_of m in
    let a = is_there_if (presence_of (type_of m) 0x04) f.cells in
    let b = is_there_if (presence_of (type_of m) 0x09) f.failures in
    and_both ((values_are_valid f && a) && b) (list_all is_full f.contents)
    (and_both (values_are_valid f && a) b (and_both (values_are_valid f) a h.values h.cells) h.failures) h.full

-- its mandatory fields are there
no_pages : (x y : Bool) → ((false && x) && y) ≡ true → ⊥
no_pages x y h = cc

mandatory_fields : (m : Message) → IsWritten m
    → list_all (λ n. is_there_if (presence_of (type_of m) n) (bodies_in (fields_of m) n)) numbers ≡ true
unfolding presence_of table bodies_in
mandatory_fields (messages.Write a b c [] e f g h i j) w = absurd (let no = w.cells in cc)
mandatory_fields (messages.Write a b c (d ∷ ds) e f g h i []) w = absurd (let no = w.values in cc)
mandatory_fields (messages.Write a b c (d ∷ ds) e f g h i (j ∷ js)) w = refl
mandatory_fields (messages.WriteDone a b c d e f) w = refl
mandatory_fields (messages.WriteFailed a b c [] e f g) w = absurd (let no = w.failures in cc)
mandatory_fields (messages.WriteFailed a b c (d ∷ ds) e f g) w = refl
mandatory_fields (messages.Kill a b [] d) w = absurd (let no = w.cells in cc)
mandatory_fields (messages.Kill a b (c ∷ cs) d) w = refl
mandatory_fields (messages.KillDone a b c d e) w = refl
mandatory_fields (messages.KillFailed a b [] d e f) w = absurd (let no = w.failures in cc)
mandatory_fields (messages.KillFailed a b (c ∷ cs) d e f) w = refl

lists_are_valid-bodies : (f : Fields) (es : List Element) → HasBodies f es → lists_are_valid es ≡ true
unfolding bodies_in
lists_are_valid-bodies f es h =
    rw (
      h.1.1.1.0,
      h.1.1.1.1.0,
      h.1.1.1.1.1.0,
      cells-right f.cells,
      counts-right f.completed,
      failures-right f.failures,
    ) refl

-- the elements of a message that is written
elements_right : (m : Message) → IsWritten m → AreElementsOf m (elements_of m)
unfolding message_of
elements_right m w =
    let f = fields_of m in
    let es = elements_of m in
    let bodies = HasBodies-among f in
    let back : fields_in es ≡ f = fields_in-bodies f es bodies in
    let values : values_are_valid (fields_in es) ≡ true = ap values_are_valid back ∙ w.values in
    let mandatory = has_mandatory-bodies (type_of m) f es bodies (mandatory_fields m w) in
    let valid : elements_are_valid es ≡ true =
    and_both (has_none_twice es && lists_are_valid es) (values_are_valid (fields_in es))
    (and_both (has_none_twice es) (lists_are_valid es)
    (has_none_twice-bodies f es bodies) (lists_are_valid-bodies f es bodies)) values in
    record {
      of_type = are_of_type (type_of m) f numbers (known_fields m) (are_sized f w.full);
      mandatory = mandatory_from (type_of m) es mandatory;
      valid = elements_from es valid;
      value = sym (ap (message_with (type_of m)) back ∙ message_with-fields_of m);
    }

length_field-length : (n : ℕ) → length_field (n / 65536) (n / 256 % 256) (n % 256) ≡ n
length_field-length n = omega arith

-- what is written of a message means it
pub octets_of_message-meant : (m : Message) → is_writable m ≡ true → IsMessage (octets_of_message m) m
unfolding octets_of_message IsMessage
octets_of_message-meant m h =
    let rest = octets_of_elements (elements_of m) in
    (refl, length_field-length (length rest), (elements_of m, refl, elements_right m (IsWritten-from m h)))
