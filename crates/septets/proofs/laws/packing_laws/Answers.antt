-- Each law is a lemma of PackingLaws.
use Rattle.septets.proofs.PackingLaws.{packing_is_unique, spare_bits_are_ignored, unpacking_gives_back}
use Rattle.septets.proofs.PackingLaws.{unpacking_is_bitwise}
use Rattle.septets.proofs.laws.packing_laws.Goals as goal

pub returns : goal.returns
returns c = record {
  unique = packing_is_unique;
  gives_back = unpacking_gives_back;
  bitwise = unpacking_is_bitwise;
  spare = spare_bits_are_ignored;
}
