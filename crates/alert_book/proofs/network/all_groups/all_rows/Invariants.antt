use Rattle.std.proofs.Common.{◌≡◌, ◌<◌, ◌≤◌, ◌+◌, ℕ, List, Some, length, ◌++◌}
use Rattle.csv.specs.Reading.{Reached, Ready, default_config, source_of, strip_bom}
use Rattle.csv.specs.declared.parser.State.TheVariants as st
use Rattle.csv.specs.declared.reader.Trim.TheVariants as trim
use Rattle.alert_book.specs.AllGroupsSteps.{rows_in, AreRightlyKept}
use Rattle.alert_book.specs.Book.{rows_by, rows_read_by}
use Rattle.alert_book.specs.Network.{row_in_group}
use Rattle.alert_book.proofs.network.all_groups.all_rows.Given as goal

abbrev pub invariant-loop-record : goal.invariant-loop-record
invariant-loop-record l = record {
  trim : l.record-iterator.rdr.trim ≡ trim.None;
  ready : Ready l.record-iterator.rdr;
  turns : 0 < l.record-iterator.left;
  config : l.record-iterator.rdr.config ≡ default_config;
  left : List ℕ;
  source : source_of (λ s. Some s.now) l.record-iterator.rdr ≡ Some left;
  seen : List (List (List ℕ));
  reached : Reached default_config st.StartRecord (strip_bom l.fn.octets) seen l.record-iterator.rdr.state left;
  count : length l.known.declared.cells ≤ 65536;
  few : length l.known.orders ≤ 4096;
  number : l.row ≡ length l.known.declared.cells + length l.known.orders;
  kept : AreRightlyKept l.known;
  meant : (group : ℕ) (more : List (List (List ℕ))) → rows_by (row_in_group group) (seen ++ more)
      ≡ rows_read_by (row_in_group group) (l.row + 1) (rows_in l.known group) more;
}
