-- What the elements of a message are, by the tests that they pass, and which tests they pass.
use Rattle.std.proofs.Common.{◌≡◌, ◌≢◌, ℕ, ◌%◌, ◌≤◌, true, false, eqb, eq-eqb, List, [], ◌∷◌, length, refl, arith}
use Rattle.std.specs.Prelude.{◌&&◌, not, nat_le, is_some}
use Rattle.std.specs.List.{AllByRecursion, list_all}
use Rattle.std.proofs.lemmas.Bool.{eqb-true, leb-true, le-leb}
use Rattle.cbs_page.specs.Coding.{alphabet_of}
use Rattle.cbs_page.specs.declared.content.Content.{Content}
use Rattle.cbsp_wire.specs.declared.lists.item.Discriminator.{Discriminator}
use Rattle.cbsp_wire.specs.declared.lists.item.Discriminator.TheVariants as discriminators
use Rattle.cbsp_wire.specs.declared.message.Cell.{Cell}
use Rattle.cbsp_wire.specs.declared.message.message_type.MessageType.{MessageType}
use Rattle.cbsp_wire.specs.declared.message.message_type.Presence.TheVariants as presences
use Rattle.cbsp_wire.specs.Element.{Element, bodies_of}
use Rattle.cbsp_wire.specs.Table.{presence_of}
use Rattle.cbsp_wire.specs.Value.{Fields, fields_in, items_of}
use Rattle.cbsp_wire.specs.Range.{numbers, is_nothing, is_there_if, has_mandatory, comes_once, has_none_twice}
use Rattle.cbsp_wire.specs.Range.{is_period}
use Rattle.cbsp_wire.specs.Range.{has_alphabet, is_page_count, are_distinct, cells_are_valid, items_are_whole}
use Rattle.cbsp_wire.specs.Range.{is_by_lac_and_ci, is_list_body, first_passes, lists_are_valid, passes}
use Rattle.cbsp_wire.specs.Range.{values_are_valid, elements_are_valid, cells_of_counts}
use Rattle.cbsp_wire.specs.Range.{cells_of_failures}
use Rattle.cbsp_wire.specs.Valid.{IsListBody, AreLists, AreCells, IsPageCount, AreValid, HasMandatory, AreValidElements}
use Rattle.cbsp_wire.proofs.Tests.{and_parts, and_both, not_true}
use Rattle.cbsp_wire.proofs.Facts.{each_from, each_passes, given_from, given_passes, there_if_mandatory}
use Rattle.cbsp_wire.proofs.CellLists.{distinct_from, distinct_passes}
use Rattle.cbsp_wire.proofs.Facts.{mandatory_passes, once_from, once_passes, not_false}
use Rattle.cbsp_wire.proofs.Ranges.{ranges_from, values_from}

some_from : (o : List ℕ) → is_nothing o ≡ false → o ≢ []
some_from [] h none = cc
some_from (a ∷ o) h none = cc

some_passes : (o : List ℕ) → o ≢ [] → is_nothing o ≡ false
some_passes [] h = absurd (h refl)
some_passes (a ∷ o) h = refl

-- the body of a list
body_from : (discriminator : Discriminator) (size : ℕ) (body : List ℕ) → is_list_body discriminator size body ≡ true
    → IsListBody discriminator size body
body_from discriminator size body h =
    let items = items_of discriminator body in
    let one = and_parts (is_by_lac_and_ci discriminator body) (items_are_whole size items) h in
    let two = and_parts (eqb (length items % size) 0) (not (is_nothing items)) one.1 in
    record { by_lac_and_ci = one.0; whole = eqb-true _ _ two.0; some = some_from items (not_true _ two.1) }

body_passes : (discriminator : Discriminator) (size : ℕ) (body : List ℕ) → IsListBody discriminator size body
    → is_list_body discriminator size body ≡ true
body_passes discriminator size body h =
    let items = items_of discriminator body in
    and_both (is_by_lac_and_ci discriminator body) (items_are_whole size items) h.by_lac_and_ci
    (and_both (eqb (length items % size) 0) (not (is_nothing items)) (eq-eqb _ _ h.whole)
    (not_false _ (some_passes items h.some)))

-- the one list of a number
list_from : (discriminator : Discriminator) (size : ℕ) (bodies : List (List ℕ)) → length bodies ≤ 1
    → first_passes (is_list_body discriminator size) bodies ≡ true
    → AllByRecursion (IsListBody discriminator size) bodies
list_from discriminator size [] once h = tt
list_from discriminator size (body ∷ []) once h = (body_from discriminator size body h, tt)
list_from discriminator size (body ∷ other ∷ bodies) once h = absurd (omega (arith, once))

list_passes : (discriminator : Discriminator) (size : ℕ) (bodies : List (List ℕ))
    → AllByRecursion (IsListBody discriminator size) bodies
    → first_passes (is_list_body discriminator size) bodies ≡ true
list_passes discriminator size [] h = refl
list_passes discriminator size (body ∷ bodies) h = body_passes discriminator size body h.0

-- the cells of a list
cells_from : (cs : List Cell) → cells_are_valid cs ≡ true → AreCells cs
cells_from cs h =
    let both = and_parts (nat_le (length cs) 64) (are_distinct cs) h in
    record { few = leb-true _ _ both.0; distinct = distinct_from cs both.1 }

cells_pass : (cs : List Cell) → AreCells cs → cells_are_valid cs ≡ true
cells_pass cs h =
    and_both (nat_le (length cs) 64) (are_distinct cs) (le-leb _ _ h.few) (distinct_passes cs h.distinct)

-- the number of pages, and the period
page_count_from : (k n : ℕ) → (is_page_count n && eqb n k) ≡ true → IsPageCount n k
page_count_from k n h =
    let both = and_parts (is_page_count n) (eqb n k) h in
    let range = and_parts (nat_le 1 n) (nat_le n 15) both.0 in
    record { some = leb-true 1 n range.0; few = leb-true n 15 range.1; counted = eqb-true n k both.1 }

page_count_passes : (k n : ℕ) → IsPageCount n k → (is_page_count n && eqb n k) ≡ true
page_count_passes k n h =
    and_both (is_page_count n) (eqb n k)
    (and_both (nat_le 1 n) (nat_le n 15) (le-leb 1 n h.some) (le-leb n 15 h.few)) (eq-eqb n k h.counted)

period_from : (n : ℕ) → is_period n ≡ true → (1 ≤ n) × (n ≤ 1024)
period_from n h =
    let both = and_parts (nat_le 1 n) (nat_le n 1024) h in
    (leb-true 1 n both.0, leb-true n 1024 both.1)

period_passes : (n : ℕ) → (1 ≤ n) × (n ≤ 1024) → is_period n ≡ true
period_passes n h = and_both (nat_le 1 n) (nat_le n 1024) (le-leb 1 n h.0) (le-leb n 1024 h.1)

-- values that pass the tests are valid
pub valid_from : (f : Fields) → values_are_valid f ≡ true → AreValid f
valid_from f h =
    let r = ranges_from f h in
    let counted = passes (λ n. is_page_count n && eqb n (length f.contents)) f.pages in
    let used = list_all (λ c. nat_le c.used 82) f.contents in
    let pages = and_parts counted used r.contents in
    record {
      pages = given_from (λ n. is_page_count n && eqb n (length f.contents)) (λ n. IsPageCount n (length f.contents))
          (page_count_from (length f.contents)) f.pages pages.0;
      used = each_from (λ (c : Content). nat_le c.used 82) (λ (c : Content). c.used ≤ 82)
          (λ c h. leb-true c.used 82 h) f.contents pages.1;
      period = given_from is_period (λ n. (1 ≤ n) × (n ≤ 1024)) period_from f.period r.period;
      alphabet = given_from has_alphabet (λ n. is_some (alphabet_of n) ≡ true) (λ n h. h) f.dcs r.coding;
      category = given_from (λ n. nat_le n 2) (λ n. n ≤ 2) (λ n h. leb-true n 2 h) f.category r.category;
      channel = given_from (λ n. nat_le n 1) (λ n. n ≤ 1) (λ n h. leb-true n 1 h) f.channel r.channel;
      cells = cells_from f.cells r.cells;
      completed = cells_from (cells_of_counts f.completed) r.completed;
      failures = cells_from (cells_of_failures f.failures) r.failures;
    }

-- valid values pass the tests
pub valid_passes : (f : Fields) → AreValid f → values_are_valid f ≡ true
valid_passes f h =
    let counted = passes (λ n. is_page_count n && eqb n (length f.contents)) f.pages in
    let used = list_all (λ c. nat_le c.used 82) f.contents in
    values_from f (record {
      contents = and_both counted used
          (given_passes (λ n. is_page_count n && eqb n (length f.contents)) (λ n. IsPageCount n (length f.contents))
          (page_count_passes (length f.contents)) f.pages h.pages)
          (each_passes (λ (c : Content). nat_le c.used 82) (λ (c : Content). c.used ≤ 82)
          (λ c h. le-leb c.used 82 h) f.contents h.used);
      period = given_passes is_period (λ n. (1 ≤ n) × (n ≤ 1024)) period_passes f.period h.period;
      coding = given_passes has_alphabet (λ n. is_some (alphabet_of n) ≡ true) (λ n h. h) f.dcs h.alphabet;
      category = given_passes (λ n. nat_le n 2) (λ n. n ≤ 2) (λ n h. le-leb n 2 h) f.category h.category;
      channel = given_passes (λ n. nat_le n 1) (λ n. n ≤ 1) (λ n h. le-leb n 1 h) f.channel h.channel;
      cells = cells_pass f.cells h.cells;
      completed = cells_pass (cells_of_counts f.completed) h.completed;
      failures = cells_pass (cells_of_failures f.failures) h.failures;
    })

-- elements other than contents come once at most
abbrev AreOnce : List Element → Type 0
AreOnce es = AllByRecursion (λ n. n ≢ 1 → length (bodies_of n es) ≤ 1) numbers

once_of : (es : List Element) → has_none_twice es ≡ true → AreOnce es
once_of es h =
    each_from (λ n. comes_once n es) (λ n. n ≢ 1 → length (bodies_of n es) ≤ 1)
    (λ n h. once_from n (length (bodies_of n es)) h) numbers h

-- the lists among elements
lists_from : (es : List Element) → AreOnce es → lists_are_valid es ≡ true → AreLists es
lists_from es once h =
    let a = first_passes (is_list_body discriminators.Once 4) (bodies_of 4 es) in
    let b = first_passes (is_list_body discriminators.Once 7) (bodies_of 8 es) in
    let c = first_passes (is_list_body discriminators.Each 6) (bodies_of 9 es) in
    let two = and_parts (a && b) c h in
    let one = and_parts a b two.0 in
    record {
      cells = list_from discriminators.Once 4 (bodies_of 4 es)
          (once.1.1.1.1.1.0 (λ same. omega (arith, same))) one.0;
      completed = list_from discriminators.Once 7 (bodies_of 8 es)
          (once.1.1.1.1.0 (λ same. omega (arith, same))) one.1;
      failures = list_from discriminators.Each 6 (bodies_of 9 es)
          (once.1.1.1.0 (λ same. omega (arith, same))) two.1;
    }

lists_pass : (es : List Element) → AreLists es → lists_are_valid es ≡ true
lists_pass es h =
    let a = first_passes (is_list_body discriminators.Once 4) (bodies_of 4 es) in
    let b = first_passes (is_list_body discriminators.Once 7) (bodies_of 8 es) in
    let c = first_passes (is_list_body discriminators.Each 6) (bodies_of 9 es) in
    and_both (a && b) c
    (and_both a b (list_passes discriminators.Once 4 (bodies_of 4 es) h.cells)
    (list_passes discriminators.Once 7 (bodies_of 8 es) h.completed))
    (list_passes discriminators.Each 6 (bodies_of 9 es) h.failures)

-- the test for mandatory elements is exact
pub mandatory_from : (message_type : MessageType) (es : List Element) → has_mandatory message_type es ≡ true
    → HasMandatory message_type es
mandatory_from message_type es h =
    each_from (λ n. is_there_if (presence_of message_type n) (bodies_of n es))
    (λ n. presence_of message_type n ≡ presences.Mandatory → bodies_of n es ≢ [])
    (λ n h. there_if_mandatory (presence_of message_type n) (bodies_of n es) h) numbers h

-- a message with all its mandatory elements passes the test
pub mandatory_pass : (message_type : MessageType) (es : List Element) → HasMandatory message_type es
    → has_mandatory message_type es ≡ true
mandatory_pass message_type es h =
    each_passes (λ n. is_there_if (presence_of message_type n) (bodies_of n es))
    (λ n. presence_of message_type n ≡ presences.Mandatory → bodies_of n es ≢ [])
    (λ n h. mandatory_passes (presence_of message_type n) (bodies_of n es) h) numbers h

-- the test for valid elements is exact
pub elements_from : (es : List Element) → elements_are_valid es ≡ true → AreValidElements es
elements_from es h =
    let two = and_parts (has_none_twice es && lists_are_valid es) (values_are_valid (fields_in es)) h in
    let one = and_parts (has_none_twice es) (lists_are_valid es) two.0 in
    let once = once_of es one.0 in
    record { once = once; lists = lists_from es once one.1; values = valid_from (fields_in es) two.1 }

-- valid elements pass the test
pub elements_pass : (es : List Element) → AreValidElements es → elements_are_valid es ≡ true
elements_pass es h =
    and_both (has_none_twice es && lists_are_valid es) (values_are_valid (fields_in es))
    (and_both (has_none_twice es) (lists_are_valid es)
    (each_passes (λ n. comes_once n es) (λ n. n ≢ 1 → length (bodies_of n es) ≤ 1)
    (λ n h. once_passes n (length (bodies_of n es)) h) numbers h.once)
    (lists_pass es h.lists))
    (valid_passes (fields_in es) h.values)
