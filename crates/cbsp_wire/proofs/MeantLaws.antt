-- A message that some octets mean is written.
use Rattle.std.proofs.Common.{◌≡◌, ℕ, zero, suc, ◌<◌, Bool, true, false, cond, eqb, eq-eqb, List, [], ◌∷◌, length, map}
use Rattle.std.proofs.Common.{get_or, Option, Some, None, refl, sym, ap, subst, ◌∙◌, arith}
use Rattle.std.specs.Prelude.{◌&&◌, ◌%◌, not, nat_le}
use Rattle.std.specs.List.{AllByRecursion, list_all}
use Rattle.std.proofs.lemmas.Bool.{eqb-true}
use Rattle.cbs_page.specs.declared.content.Content.{Content}
use Rattle.cbsp_wire.specs.declared.lists.item.Discriminator.{Discriminator}
use Rattle.cbsp_wire.specs.declared.lists.item.Discriminator.TheVariants as discriminators
use Rattle.cbsp_wire.specs.declared.message.message_type.MessageType.{MessageType}
use Rattle.cbsp_wire.specs.declared.message.message_type.MessageType.TheVariants as types
use Rattle.cbsp_wire.specs.declared.message.message_type.Presence.{Presence}
use Rattle.cbsp_wire.specs.declared.message.message_type.Presence.TheVariants as presences
use Rattle.cbsp_wire.specs.declared.message.Cell.{Cell}
use Rattle.cbsp_wire.specs.declared.message.Count.{Count}
use Rattle.cbsp_wire.specs.declared.message.Failure.{Failure}
use Rattle.cbsp_wire.specs.declared.message.Message.{Message}
use Rattle.cbsp_wire.specs.Element.{Element, bodies_of, first_octet}
use Rattle.cbsp_wire.specs.Table.{table, presence_of, size_of}
use Rattle.cbsp_wire.specs.Value.{Fields, no_fields, fields_in, fields_of, first_body_u16, first_body_octet, items_of}
use Rattle.cbsp_wire.specs.Value.{first_items, content_of, cells_in, failures_in, or_0, message_with, message_of}
use Rattle.cbsp_wire.specs.Value.{type_of}
use Rattle.cbsp_wire.specs.Range.{numbers, is_nothing, is_there_if, has_mandatory, has_none_twice, lists_are_valid}
use Rattle.cbsp_wire.specs.Range.{first_passes, is_by_lac_and_ci, is_list_body, items_are_whole}
use Rattle.cbsp_wire.specs.Range.{passes}
use Rattle.cbsp_wire.specs.Range.{is_period, has_alphabet, is_page_count, contents_are_valid}
use Rattle.cbsp_wire.specs.Range.{cells_are_valid}
use Rattle.cbsp_wire.specs.Range.{cells_of_counts, cells_of_failures, values_are_valid}
use Rattle.cbsp_wire.specs.Range.{is_writable, is_full}
use Rattle.cbsp_wire.specs.Meaning.{IsOf, AreElementsOf, IsMessage}
use Rattle.cbsp_wire.proofs.ItemLemmas.{cells_in-some, failures_in-some}
use Rattle.cbsp_wire.proofs.Ranges.{HaveRanges, ranges_from, values_from}
use Rattle.cbsp_wire.proofs.ElementFacts.{mandatory_pass, elements_pass}
use Rattle.cbsp_wire.proofs.Tests.{and_parts, and_both, not_true, there_from, list_all-parts}
use Rattle.cbsp_wire.proofs.WrittenLaws.{IsWritten, is_writable-from}

-- the fields of a message that broadcasts nothing new: all but a write
abbrev beside : Option ℕ → Option ℕ → Option ℕ → List Failure → List Count → List Cell → Option ℕ → Fields
beside id new old failures completed cells channel = record no_fields {
  id = id;
  new_serial = new;
  old_serial = old;
  failures = failures;
  completed = completed;
  cells = cells;
  channel = channel;
}

-- the values of a message other than a write are in their ranges, by its lists and its channel
pub values_beside : (id new old : Option ℕ) (failures : List Failure) (completed : List Count) (cells : List Cell)
    (channel : Option ℕ)
    → passes (λ n. nat_le n 1) channel ≡ true → cells_are_valid cells ≡ true
    → cells_are_valid (cells_of_counts completed) ≡ true
    → cells_are_valid (cells_of_failures failures) ≡ true
    → values_are_valid (beside id new old failures completed cells channel) ≡ true
values_beside id new old failures completed cells channel channel_valid right counted failed =
    values_from (beside id new old failures completed cells channel) (record {
      contents = refl;
      period = refl;
      coding = refl;
      category = refl;
      channel = channel_valid;
      cells = right;
      completed = counted;
      failures = failed;
    })

-- a mandatory element is there
mandatory_at : (message_type : MessageType) (es : List Element) (ns : List ℕ) (k : ℕ) → k < length ns
    → list_all (λ n. is_there_if (presence_of message_type n) (bodies_of n es)) ns ≡ true
    → is_there_if (presence_of message_type (get_or ns k 0)) (bodies_of (get_or ns k 0) es) ≡ true
mandatory_at message_type es [] k lt h = absurd (omega arith)
mandatory_at message_type es (n ∷ ns) zero lt h = (list_all-parts
    (λ j. is_there_if (presence_of message_type j) (bodies_of j es)) n ns h).0
mandatory_at message_type es (n ∷ ns) (suc k) lt h =
    mandatory_at message_type es ns k (omega arith)
    (list_all-parts (λ j. is_there_if (presence_of message_type j) (bodies_of j es)) n ns h).1

number_there : (bodies : List (List ℕ)) → is_there_if presences.Mandatory bodies ≡ true
    → first_body_u16 bodies ≡ Some (or_0 (first_body_u16 bodies))
number_there [] h = absurd cc
number_there (body ∷ bodies) h = refl

octet_there : (bodies : List (List ℕ)) → is_there_if presences.Mandatory bodies ≡ true
    → first_body_octet bodies ≡ Some (or_0 (first_body_octet bodies))
octet_there [] h = absurd cc
octet_there (body ∷ bodies) h = refl

-- the pages are as many as the contents
pages_there : (bodies : List (List ℕ)) (contents : List Content) → is_there_if presences.Mandatory bodies ≡ true
    → contents_are_valid (first_body_octet bodies) contents ≡ true → first_body_octet bodies ≡ Some (length contents)
pages_there [] contents h right = absurd cc
pages_there (body ∷ bodies) contents h right =
    let p = first_octet body in
    let one =
    and_parts (is_page_count p && eqb p (length contents)) (list_all (λ c. nat_le c.used 82) contents) right in
    let two = and_parts (is_page_count p) (eqb p (length contents)) one.0 in
    ap (λ (n : ℕ). Some n) (eqb-true _ _ two.1)

-- a list that is there and right has items
items_there : {X : Type 0} (presence : Presence) (discriminator : Discriminator) (size : ℕ)
    (items_in : List ℕ → List X) (bodies : List (List ℕ))
    → ((o : List ℕ) → length o % size ≡ 0 → is_nothing o ≡ false → is_nothing (items_in o) ≡ false)
    → is_there_if presence bodies ≡ true
    → first_passes (is_list_body discriminator size) bodies ≡ true
    → is_there_if presence (first_items discriminator items_in bodies) ≡ true
items_there presences.Mandatory discriminator size items_in [] some there right = absurd cc
items_there presences.Optional discriminator size items_in [] some there right = refl
items_there presences.Absent discriminator size items_in [] some there right = refl
items_there presence discriminator size items_in (body ∷ bodies) some there right =
    let items = items_of discriminator body in
    let one = and_parts (is_by_lac_and_ci discriminator body) (items_are_whole size items) right in
    let two = and_parts (eqb (length items % size) 0) (not (is_nothing items)) one.1 in
    there_from presence (items_in items) (some items (eqb-true _ _ two.0) (not_true _ two.1))

-- each content has its 82 octets
full_content : (body : List ℕ) → length body ≡ 83 → is_full (content_of body) ≡ true
full_content [] h = absurd (omega arith)
full_content (used ∷ octets) h = eq-eqb _ _ (omega arith)

full_contents : (message_type : MessageType) (es : List Element) → AllByRecursion (IsOf message_type) es
    → list_all is_full (map content_of (bodies_of 1 es)) ≡ true
unfolding size_of table
full_contents message_type [] h = refl
full_contents message_type (e ∷ es) h = by_test (eqb e.number 1) refl (full_contents message_type es h.1) where
  by_test : (b : Bool) → eqb e.number 1 ≡ b → list_all is_full (map content_of (bodies_of 1 es)) ≡ true
      → list_all is_full (map content_of (cond b (e.body ∷ bodies_of 1 es) (bodies_of 1 es))) ≡ true
  by_test true test others =
      let sized : length e.body ≡ size_of 1 e.body = h.0.sized ∙ ap (λ (n : ℕ). size_of n e.body) (eqb-true _ _ test) in
      and_both (is_full (content_of e.body)) (list_all is_full (map content_of (bodies_of 1 es)))
      (full_content e.body sized) others
  by_test false test others = others

-- what elements without a fault have
record AreRight (message_type : MessageType) (es : List Element) : Type 0 where
  of_type : AllByRecursion (IsOf message_type) es
  mandatory : has_mandatory message_type es ≡ true
  lists : lists_are_valid es ≡ true
  ranges : HaveRanges (fields_in es)

cells_listed : (es : List Element) → lists_are_valid es ≡ true
    → first_passes (is_list_body discriminators.Once 4) (bodies_of 4 es) ≡ true
cells_listed es h =
    let a = first_passes (is_list_body discriminators.Once 4) (bodies_of 4 es) in
    let b = first_passes (is_list_body discriminators.Once 7) (bodies_of 8 es) in
    (and_parts a b (and_parts (a && b) (first_passes (is_list_body discriminators.Each 6) (bodies_of 9 es)) h).0).0

failures_listed : (es : List Element) → lists_are_valid es ≡ true
    → first_passes (is_list_body discriminators.Each 6) (bodies_of 9 es) ≡ true
failures_listed es h =
    let a = first_passes (is_list_body discriminators.Once 4) (bodies_of 4 es) in
    let b = first_passes (is_list_body discriminators.Once 7) (bodies_of 8 es) in
    (and_parts (a && b) (first_passes (is_list_body discriminators.Each 6) (bodies_of 9 es)) h).1

cells_there : (message_type : MessageType) (es : List Element) → AreRight message_type es
    → is_there_if (presence_of message_type 4) (fields_in es).cells ≡ true
cells_there message_type es h =
    items_there (presence_of message_type 4) discriminators.Once 4 cells_in (bodies_of 4 es) cells_in-some
    (mandatory_at message_type es numbers 5 (omega arith) h.mandatory) (cells_listed es h.lists)

failures_there : (message_type : MessageType) (es : List Element) → AreRight message_type es
    → is_there_if (presence_of message_type 9) (fields_in es).failures ≡ true
failures_there message_type es h =
    items_there (presence_of message_type 9) discriminators.Each 6 failures_in (bodies_of 9 es) failures_in-some
    (mandatory_at message_type es numbers 3 (omega arith) h.mandatory)
    (failures_listed es h.lists)

write_values : (es : List Element) → AreRight types.Write es
    → values_are_valid (fields_of (message_with types.Write (fields_in es))) ≡ true
unfolding presence_of table
write_values es h =
    let f = fields_in es in
    let r = h.ranges in
    let period : f.period ≡ Some (or_0 f.period) =
    number_there (bodies_of 6 es) (mandatory_at types.Write es numbers 8 (omega arith) h.mandatory) in
    let dcs : f.dcs ≡ Some (or_0 f.dcs) =
    octet_there (bodies_of 12 es) (mandatory_at types.Write es numbers 11 (omega arith) h.mandatory) in
    let pages : f.pages ≡ Some (length f.contents) =
    pages_there (bodies_of 19 es) f.contents
    (mandatory_at types.Write es numbers 10 (omega arith) h.mandatory) r.contents in
    values_from (fields_of (message_with types.Write f)) (record {
      contents = ap (λ (o : Option ℕ). contents_are_valid o f.contents) (sym pages) ∙ r.contents;
      period = ap (λ (o : Option ℕ). passes is_period o) (sym period) ∙ r.period;
      coding = ap (λ (o : Option ℕ). passes has_alphabet o) (sym dcs) ∙ r.coding;
      category = r.category;
      channel = r.channel;
      cells = r.cells;
      completed = refl;
      failures = refl;
    })

right_written : (message_type : MessageType) (es : List Element) → AreRight message_type es
    → IsWritten (message_with message_type (fields_in es))
unfolding presence_of table
right_written types.Write es h = record {
  values = write_values es h;
  cells = cells_there types.Write es h;
  failures = refl;
  full = full_contents types.Write es h.of_type;
}
right_written types.WriteDone es h =
    let f = fields_in es in
    record {
      values = values_beside (Some (or_0 f.id))
          (Some (or_0 f.new_serial)) f.old_serial [] f.completed f.cells f.channel
          h.ranges.channel h.ranges.cells h.ranges.completed refl;
      cells = refl;
      failures = refl;
      full = refl;
    }
right_written types.WriteFailed es h =
    let f = fields_in es in
    record {
      values = values_beside (Some (or_0 f.id))
          (Some (or_0 f.new_serial)) f.old_serial f.failures f.completed f.cells f.channel
          h.ranges.channel h.ranges.cells h.ranges.completed h.ranges.failures;
      cells = refl;
      failures = failures_there types.WriteFailed es h;
      full = refl;
    }
right_written types.Kill es h =
    let f = fields_in es in
    record {
      values = values_beside (Some (or_0 f.id)) None
          (Some (or_0 f.old_serial)) [] [] f.cells f.channel h.ranges.channel h.ranges.cells refl refl;
      cells = cells_there types.Kill es h;
      failures = refl;
      full = refl;
    }
right_written types.KillDone es h =
    let f = fields_in es in
    record {
      values = values_beside (Some (or_0 f.id)) None
          (Some (or_0 f.old_serial)) [] f.completed f.cells f.channel
          h.ranges.channel h.ranges.cells h.ranges.completed refl;
      cells = refl;
      failures = refl;
      full = refl;
    }
right_written types.KillFailed es h =
    let f = fields_in es in
    record {
      values = values_beside (Some (or_0 f.id)) None
          (Some (or_0 f.old_serial)) f.failures f.completed f.cells f.channel
          h.ranges.channel h.ranges.cells h.ranges.completed h.ranges.failures;
      cells = refl;
      failures = failures_there types.KillFailed es h;
      full = refl;
    }

elements_written : (m : Message) (es : List Element) → AreElementsOf m es → is_writable m ≡ true
unfolding message_of
elements_written m es h =
    let parts = and_parts (has_none_twice es && lists_are_valid es) (values_are_valid (fields_in es))
    (elements_pass es h.valid) in
    let right : AreRight (type_of m) es = record {
      of_type = h.of_type;
      mandatory = mandatory_pass (type_of m) es h.mandatory;
      lists = (and_parts (has_none_twice es) (lists_are_valid es) parts.0).1;
      ranges = ranges_from (fields_in es) parts.1;
    } in
    is_writable-from m (subst (λ (n : Message). IsWritten n) (sym h.value) (right_written (type_of m) es right))

-- what some octets mean is written
pub IsMessage-writable : (octets : List ℕ) (m : Message) → IsMessage octets m → is_writable m ≡ true
unfolding IsMessage
IsMessage-writable [] m h = absurd h
IsMessage-writable (o ∷ []) m h = absurd h
IsMessage-writable (o ∷ a ∷ []) m h = absurd h
IsMessage-writable (o ∷ a ∷ b ∷ []) m h = absurd h
IsMessage-writable (o ∷ a ∷ b ∷ c ∷ rest) m h = elements_written m h.2.0 h.2.2
