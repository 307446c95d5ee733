use Rattle.std.proofs.Common.{◌≡◌, ◌<◌, ◌≤◌, ◌+◌, ℕ, List, Some, length, ◌++◌}
use Rattle.csv.specs.Reading.{Reached, Ready, default_config, source_of, strip_bom}
use Rattle.csv.specs.declared.parser.State.TheVariants as st
use Rattle.csv.specs.declared.reader.Trim.TheVariants as trim
use Rattle.alert_book.specs.Book.{rows_by, rows_read_by, Rows}
use Rattle.alert_book.specs.Network.{row_in_group}
use Rattle.alert_book.specs.NetworkSteps.{AreKeptOf}
use Rattle.alert_book.proofs.network.rows_in_group.Given as goal

abbrev pub invariant-loop-record : goal.invariant-loop-record
invariant-loop-record l = record {
  trim : l.record-iterator.rdr.trim ≡ trim.None;
  ready : Ready l.record-iterator.rdr;
  turns : 0 < l.record-iterator.left;
  config : l.record-iterator.rdr.config ≡ default_config;
  left : List ℕ;
  source : source_of (λ s. Some s.now) l.record-iterator.rdr ≡ Some left;
  seen : List (List (List ℕ));
  reached : Reached default_config st.StartRecord (strip_bom l.fn.octets) seen l.record-iterator.rdr.state left;
  rows : Rows;
  count : l.known.declared.count ≤ 65536;
  few : length l.known.orders ≤ 4096;
  number : l.row ≡ length rows.cells + length rows.orders;
  known : AreKeptOf l.known l.fn.group rows;
  meant : (more : List (List (List ℕ))) → rows_by (row_in_group l.fn.group) (seen ++ more)
      ≡ rows_read_by (row_in_group l.fn.group) (l.row + 1) rows more;
}
