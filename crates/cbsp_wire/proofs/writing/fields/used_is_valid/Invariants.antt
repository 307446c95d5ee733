use Rattle.std.proofs.Common.{◌≡◌, length}
use Rattle.std.specs.Prelude.{nat_le}
use Rattle.std.specs.List.{list_all}
use Rattle.cbsp_wire.specs.Range.{is_full}
use Rattle.cbsp_wire.proofs.writing.fields.used_is_valid.Given as goal

abbrev pub invariant-contents : goal.invariant-contents
invariant-contents l = record {
  used : list_all (λ c. nat_le c.used 82) l.left ≡ list_all (λ c. nat_le c.used 82) l.contents;
  full : list_all is_full l.left ≡ list_all is_full l.contents;
}

abbrev pub decreases-contents : goal.decreases-contents
decreases-contents l = length l.left
