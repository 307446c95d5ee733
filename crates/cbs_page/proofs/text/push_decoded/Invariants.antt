use Rattle.std.proofs.Common.{drop, string_bytes, encode_utf8_all}
use Rattle.gsm_alphabet.specs.Alphabet.{text_of_septets, text_after}
use Rattle.cbs_page.specs.Text.{PutsAllBut}
use Rattle.cbs_page.proofs.text.push_decoded.Given as goal

abbrev pub invariant-loop-septet : goal.invariant-loop-septet
invariant-loop-septet l =
    PutsAllBut (encode_utf8_all (text_after l.escaped (drop l.septet-index l.septets))) (string_bytes l.initial.text)
    (string_bytes l.text) (encode_utf8_all (text_of_septets l.septets))
