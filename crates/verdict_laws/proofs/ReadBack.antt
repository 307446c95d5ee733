-- The orders file of a history says its rows.
use Rattle.std.proofs.Common.{◌≡◌, ℕ, ◌≤◌, List, [], ◌∷◌, ◌++◌, length, map, refl, ap, subst}
use Rattle.std.proofs.Common.{◌∙◌, arith}
use Rattle.std.specs.List.{AllByRecursion, flat_map}
use Rattle.std.proofs.lemmas.List.{length-append, map-append}
use Rattle.std.proofs.lemmas.List.Elements.{All-from_recursion}
use Rattle.bsc_table.specs.declared.command.Command.{Command}
use Rattle.bsc_table.specs.declared.command.Command.TheVariants as commands
use Rattle.bsc_table.specs.declared.entry.Answer.{Answer}
use Rattle.bsc_table.specs.declared.entry.Entry.{Entry}
use Rattle.bsc_table.specs.Orders.{IsWellFormed}
use Rattle.bsc_table.specs.Record.{Record}
use Rattle.bsc_table.specs.Reported.{LegalAnswersAreTrue}
use Rattle.cell_orders.specs.declared.row.OrderRow.{OrderRow}
use Rattle.cell_orders.specs.Text.{orders_text}
use Rattle.record_orders.specs.Ordered.{answer_said, rows_of_command, rows_of_entry, rows_of_record}
use Rattle.orders_file.specs.File.{IsOrdersFile}
use Rattle.orders_file.specs.Laws.{OrdersAreReadBack, untimed}
use Rattle.orders_file.specs.Ranges.{IsWithin}
use Rattle.verdict_laws.specs.OwnOrders.{OwnOrdersAreReadBack}
use Rattle.verdict_laws.proofs.Answered.{IsKnown, all-known}

-- the rows of a command: one at most, without a time, and within the ranges
record AreGood (rows : List OrderRow) : Type 0 where
  few : length rows ≤ 1
  timeless : map untimed rows ≡ rows
  within : AllByRecursion IsWithin rows

good-command : (slot : ℕ) (command : Command) (answer : Answer) → slot ≤ 65535 → IsWellFormed command →
    AreGood (rows_of_command slot (answer_said answer) command)
good-command slot (commands.Write id serial replaces category dcs period broadcasts contents) answer by formed =
    record {
      few = omega arith;
      timeless = refl;
      within = (
        record {
          at = omega (arith, by);
          order = (
            let short = formed.short_period in omega (arith, short),
            record { some = formed.some_pages; few = formed.few_pages; each = formed.used },
          );
        },
        tt,
      );
    }
good-command slot (commands.Kill id serial) answer by formed = record {
  few = omega arith;
  timeless = refl;
  within = (record { at = omega (arith, by); order = tt }, tt);
}
good-command slot (commands.Status id serial) answer by formed =
    record { few = omega arith; timeless = refl; within = tt }

-- and those of all entries
record AreGoodOf (log : List Entry) : Type 0 where
  few : length (flat_map rows_of_entry log) ≤ length log
  timeless : map untimed (flat_map rows_of_entry log) ≡ flat_map rows_of_entry log
  within : AllByRecursion IsWithin (flat_map rows_of_entry log)

all-join : (P : OrderRow → Type 0) (xs ys : List OrderRow) → AllByRecursion P xs → AllByRecursion P ys →
    AllByRecursion P (xs ++ ys)
all-join P [] ys all also = also
all-join P (x ∷ xs) ys all also = (all.0, all-join P xs ys all.1 also)

good-log : (r : Record) (log : List Entry) → ((e : Entry) → IsKnown r e → e.slot ≤ 65535) →
    AllByRecursion (IsKnown r) log → AreGoodOf log
good-log r [] by all = record { few = omega arith; timeless = refl; within = tt }
good-log r (e ∷ later) by all =
    let here = good-command e.slot e.command e.answer (by e all.0) all.0.formed in
    let rest = good-log r later by all.1 in
    let long = length-append (rows_of_entry e) (flat_map rows_of_entry later) in
    let one = here.few in
    let more = rest.few in
    record {
      few = omega (arith, long, one, more);
      timeless = map-append untimed (rows_of_entry e) (flat_map rows_of_entry later)
          ∙ ap (λ rows. rows ++ map untimed (flat_map rows_of_entry later)) here.timeless
          ∙ ap (λ rows. rows_of_entry e ++ rows) rest.timeless;
      within = all-join IsWithin (rows_of_entry e) (flat_map rows_of_entry later) here.within rest.within;
    }

-- so the orders file says them
pub read-back : OrdersAreReadBack → LegalAnswersAreTrue → OwnOrdersAreReadBack
read-back back told r plain fits short =
    let over = plain.over in
    let few = plain.few in
    let entries = plain.legal.few in
    let good = good-log r r.log (λ e known. let by_end = known.by_end in omega (arith, by_end, over, few))
    (all-known told r plain) in
    let many = good.few in
    subst (IsOrdersFile (orders_text (rows_of_record r))) good.timeless
    (back (rows_of_record r) fits (All-from_recursion IsWithin (rows_of_record r) good.within)
    (omega (arith, many, entries)) short)
