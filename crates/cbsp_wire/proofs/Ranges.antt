-- The tests of a message's values, one by one.
use Rattle.std.proofs.Common.{◌≡◌, true}
use Rattle.std.specs.Prelude.{◌&&◌, nat_le}
use Rattle.cbsp_wire.specs.Value.{Fields}
use Rattle.cbsp_wire.specs.Range.{is_period, has_alphabet, passes, contents_are_valid, numbers_are_valid}
use Rattle.cbsp_wire.specs.Range.{cells_are_valid, cells_of_counts, cells_of_failures, all_cells_are_valid}
use Rattle.cbsp_wire.specs.Range.{values_are_valid}
use Rattle.cbsp_wire.proofs.Tests.{and_parts, and_both}

-- the tests of fields, one by one
pub record HaveRanges (f : Fields) : Type 0 where
  pub contents : contents_are_valid f.pages f.contents ≡ true
  pub period : passes is_period f.period ≡ true
  pub coding : passes has_alphabet f.dcs ≡ true
  pub category : passes (λ n. nat_le n 2) f.category ≡ true
  pub channel : passes (λ n. nat_le n 1) f.channel ≡ true
  pub cells : cells_are_valid f.cells ≡ true
  pub completed : cells_are_valid (cells_of_counts f.completed) ≡ true
  pub failures : cells_are_valid (cells_of_failures f.failures) ≡ true

-- values in their ranges pass each test
pub ranges_from : (f : Fields) → values_are_valid f ≡ true → HaveRanges f
ranges_from f h =
    let one = and_parts (contents_are_valid f.pages f.contents && numbers_are_valid f) (all_cells_are_valid f) h in
    let two = and_parts (contents_are_valid f.pages f.contents) (numbers_are_valid f) one.0 in
    let a = passes is_period f.period in
    let b = passes has_alphabet f.dcs in
    let c = passes (λ n. nat_le n 2) f.category in
    let d = passes (λ n. nat_le n 1) f.channel in
    let three = and_parts ((a && b) && c) d two.1 in
    let four = and_parts (a && b) c three.0 in
    let five = and_parts a b four.0 in
    let x = cells_are_valid f.cells in
    let y = cells_are_valid (cells_of_counts f.completed) in
    let six = and_parts (x && y) (cells_are_valid (cells_of_failures f.failures)) one.1 in
    let seven = and_parts x y six.0 in
    record {
      contents = two.0;
      period = five.0;
      coding = five.1;
      category = four.1;
      channel = three.1;
      cells = seven.0;
      completed = seven.1;
      failures = six.1;
    }

-- fields that pass each test have values in their ranges
pub values_from : (f : Fields) → HaveRanges f → values_are_valid f ≡ true
values_from f h =
    let a = passes is_period f.period in
    let b = passes has_alphabet f.dcs in
    let c = passes (λ n. nat_le n 2) f.category in
    let d = passes (λ n. nat_le n 1) f.channel in
    let x = cells_are_valid f.cells in
    let y = cells_are_valid (cells_of_counts f.completed) in
    let z = cells_are_valid (cells_of_failures f.failures) in
    and_both (contents_are_valid f.pages f.contents && numbers_are_valid f) (all_cells_are_valid f)
    (and_both (contents_are_valid f.pages f.contents) (numbers_are_valid f) h.contents
    (and_both ((a && b) && c) d (and_both (a && b) c (and_both a b h.period h.coding) h.category) h.channel))
    (and_both (x && y) z (and_both x y h.cells h.completed) h.failures)
