use Rattle.std.proofs.Common.{◌≡◌, ◌<◌, ℕ, List, Some}
use Rattle.csv.specs.Reading.{Reached, Ready, default_config, source_of, strip_bom}
use Rattle.csv.specs.declared.parser.State.TheVariants as st
use Rattle.csv.specs.declared.reader.Trim.TheVariants as trim
use Rattle.warnc_air.specs.CellTableSteps.{so_far_of}
use Rattle.warnc_air.proofs.TableLaws.{AreFew, Leave}
use Rattle.warnc_air.proofs.cell_table.read_table.Given as goal

abbrev pub invariant-loop-record : goal.invariant-loop-record
invariant-loop-record l = record {
  trim : l.record-iterator.rdr.trim ≡ trim.None;
  ready : Ready l.record-iterator.rdr;
  turns : 0 < l.record-iterator.left;
  config : l.record-iterator.rdr.config ≡ default_config;
  left : List ℕ;
  source : source_of (λ s. Some s.now) l.record-iterator.rdr ≡ Some left;
  seen : List (List (List ℕ));
  reached : Reached default_config st.StartRecord (strip_bom l.fn.octets) seen l.record-iterator.rdr.state left;
  few : AreFew l.row (so_far_of l.table);
  so_far : Leave seen l.row (so_far_of l.table);
}
