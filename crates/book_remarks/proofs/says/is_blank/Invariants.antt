use Rattle.std.proofs.Common.{◌≡◌, drop}
use Rattle.std.specs.List.{list_all}
use Rattle.book_remarks.specs.Remarks.{is_blank}
use Rattle.book_remarks.proofs.says.is_blank.Given as goal

abbrev pub invariant-loop-octet : goal.invariant-loop-octet
invariant-loop-octet l = list_all is_blank (drop l.octet-index l.text) ≡ list_all is_blank l.text
