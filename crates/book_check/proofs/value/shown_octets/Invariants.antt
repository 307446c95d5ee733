use Rattle.std.proofs.Common.{◌≡◌, take}
use Rattle.std.specs.List.{flat_map}
use Rattle.book_check.specs.Words.{shown_octet}
use Rattle.book_check.proofs.value.shown_octets.Given as goal

abbrev pub invariant-loop-octet : goal.invariant-loop-octet
invariant-loop-octet l = l.value.items ≡ flat_map shown_octet (take l.octet-index l.octets)
