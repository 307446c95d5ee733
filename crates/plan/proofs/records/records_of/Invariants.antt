use Rattle.std.proofs.Common.{◌≡◌, ◌<◌, ℕ, List, Some}
use Rattle.csv.specs.Reading.{Reached, Ready, source_of, strip_bom}
use Rattle.csv.specs.declared.parser.State.TheVariants as st
use Rattle.csv.specs.declared.reader.Trim.TheVariants as trim
use Rattle.plan.specs.PlanText.{config_of, separator_of}
use Rattle.plan.proofs.records.records_of.Given as goal

abbrev pub invariant-loop-row : goal.invariant-loop-row
invariant-loop-row l = record {
  trim : l.row-iterator.rdr.trim ≡ trim.None;
  ready : Ready l.row-iterator.rdr;
  turns : 0 < l.row-iterator.left;
  config : l.row-iterator.rdr.config ≡ config_of (separator_of (strip_bom l.fn.octets));
  left : List ℕ;
  source : source_of (λ s. Some s.now) l.row-iterator.rdr ≡ Some left;
  reached : Reached (config_of (separator_of (strip_bom l.fn.octets))) st.StartRecord (strip_bom l.fn.octets)
      l.records.items l.row-iterator.rdr.state left;
}
