use Rattle.std.proofs.Common.{drop, map, string_bytes, encode_utf8_all}
use Rattle.ucs2_text.specs.Ucs2.{character_of_unit}
use Rattle.cbs_page.specs.Text.{PutsAllBut}
use Rattle.cbs_page.proofs.text.push_units.Given as goal

abbrev pub invariant-loop-unit : goal.invariant-loop-unit
invariant-loop-unit l =
    PutsAllBut (encode_utf8_all (map character_of_unit (drop l.unit-index l.units))) (string_bytes l.initial.text)
    (string_bytes l.text) (encode_utf8_all (map character_of_unit l.units))
