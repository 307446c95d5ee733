use Rattle.std.proofs.Common.{◌≡◌, ◌<◌, ◌≤◌, ℕ, List, Some, drop}
use Rattle.csv.specs.Reading.{Reached, Ready, default_config, source_of, strip_bom}
use Rattle.csv.specs.declared.parser.State.TheVariants as st
use Rattle.csv.specs.declared.reader.Trim.TheVariants as trim
use Rattle.alert_book.specs.Judging.{none_within}
use Rattle.book_check.specs.Checked.{counted_of}
use Rattle.book_check.specs.CheckSteps.{AreNotPast, IsSoFar}
use Rattle.book_check.specs.LineSteps.{csv_state, IsBefore}
use Rattle.book_check.specs.Lines.{stand_at}
use Rattle.book_check.proofs.check.told_of.Given as goal

abbrev pub invariant-loop-record : goal.invariant-loop-record
invariant-loop-record l = record {
  trim : l.record-iterator.rdr.trim ≡ trim.None;
  ready : Ready l.record-iterator.rdr;
  turns : 0 < l.record-iterator.left;
  config : l.record-iterator.rdr.config ≡ default_config;
  left : List ℕ;
  source : source_of (λ s. Some s.now) l.record-iterator.rdr ≡ Some left;
  seen : List (List (List ℕ));
  reached : Reached default_config st.StartRecord (strip_bom l.fn.octets) seen l.record-iterator.rdr.state left;
  counts : counted_of (none_within l.fn.bounds) seen ≡ l.judge;
  room : AreNotPast (none_within l.fn.bounds) seen;
  count : l.told.count ≤ l.judge.rows;
  before : IsBefore l.text l.cursor;
  state_is : csv_state l.cursor.within ≡ l.record-iterator.rdr.state;
  left_is : drop l.cursor.at l.text ≡ left;
  so_far : IsSoFar l.fn.bounds (strip_bom l.fn.octets) seen (stand_at l.record-iterator.rdr.state left) l.judge
      l.told;
}
