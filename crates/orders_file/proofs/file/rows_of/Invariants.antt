use Rattle.std.proofs.Common.{◌≡◌, ◌<◌, ◌≤◌, ◌+◌, ◌++◌, ℕ, List, Some, length}
use Rattle.std.specs.Prelude.{All}
use Rattle.csv.specs.Reading.{Reached, Ready, default_config, source_of, strip_bom}
use Rattle.csv.specs.declared.parser.State.TheVariants as st
use Rattle.csv.specs.declared.reader.Trim.TheVariants as trim
use Rattle.orders_file.specs.File.{rows_after, rows_of}
use Rattle.orders_file.specs.Ranges.{IsWithin}
use Rattle.orders_file.proofs.file.rows_of.Given as goal

abbrev pub invariant-loop-record : goal.invariant-loop-record
invariant-loop-record l = record {
  trim : l.record-iterator.rdr.trim ≡ trim.None;
  ready : Ready l.record-iterator.rdr;
  turns : 0 < l.record-iterator.left;
  config : l.record-iterator.rdr.config ≡ default_config;
  left : List ℕ;
  source : source_of (λ s. Some s.now) l.record-iterator.rdr ≡ Some left;
  seen : List (List (List ℕ));
  reached : Reached default_config st.StartRecord (strip_bom l.fn.octets) seen l.record-iterator.rdr.state left;
  few : l.row ≤ 65536;
  count : length l.rows.items ≡ l.row;
  so : (more : List (List (List ℕ))) → rows_of (seen ++ more) ≡ rows_after (l.row + 1) l.rows.items more;
  within : All IsWithin l.rows.items;
}
