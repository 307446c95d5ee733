use Rattle.std.proofs.Common.{◌≡◌, ◌-◌, ℕ, List, [], drop, length}
use Rattle.csv.specs.Machine.{next_record}
use Rattle.csv.specs.Reading.{default_config}
use Rattle.book_check.specs.LineSteps.{csv_state, IsOn}
use Rattle.book_check.proofs.lines.record_end.Given as goal

abbrev pub invariant-octets : goal.invariant-octets
invariant-octets l = record {
  on : IsOn l.text l.cursor;
  fields : List (List ℕ);
  field : List ℕ;
  same : next_record default_config (csv_state l.cursor.within) fields field (drop l.cursor.at l.text)
      ≡ next_record default_config (csv_state l.fn.start.within) [] [] (drop l.fn.start.at l.text);
}

abbrev pub decreases-octets : goal.decreases-octets
decreases-octets l = length l.text - l.cursor.at
