-- In either alphabet the text is that of the codes before those that fill the page.
use Rattle.std.proofs.Common.{◌≡◌, ◌++◌, ◌∙◌, ap, map, rules, subst, string_bytes, encode_utf8_all, OnErr, OnOk}
use Rattle.gsm_alphabet.specs.Alphabet.{text_of_septets}
use Rattle.septets.specs.Packing.{unpacked}
use Rattle.ucs2_text.specs.Ucs2.{character_of_unit, units_of_octets}
use Rattle.cbs_page.specs.Text.{PutsFront, text_of_page, without_trailing, is_filling}
use Rattle.cbs_page.proofs.text.push_page_text.Goals as goal

septets_show : (c : goal.After-push_gsm) →
    encode_utf8_all (text_of_septets c.without_filling.result.now) ≡ encode_utf8_all (text_of_page c.args.view.now)
septets_show c =
    let used : c.without_filling.result.now ≡ without_trailing is_filling (unpacked c.args.view.now.content) =
    c.without_filling.ensures ∙ ap (without_trailing is_filling) c.unpack-septets.ensures.value in
    search rules

units_show : (c : goal.After-push_units) →
    encode_utf8_all (map character_of_unit c.without_filling-in-Some-Ucs2.result.now)
    ≡ encode_utf8_all (text_of_page c.args.view.now)
units_show c =
    let used : c.without_filling-in-Some-Ucs2.result.now
    ≡ without_trailing is_filling (units_of_octets c.args.view.now.content) =
    c.without_filling-in-Some-Ucs2.ensures ∙ ap (without_trailing is_filling) c.units_of-units.ensures in
    search rules

pub returns-in-Some-Gsm-clause-pushed : goal.returns-in-Some-Gsm-clause-pushed
returns-in-Some-Gsm-clause-pushed c =
    subst (λ text. OnOk c.push_gsm.result (string_bytes c.push_gsm.new.text ≡ string_bytes c.args.text.now ++ text))
    (septets_show c) c.push_gsm.ensures.pushed

pub returns-in-Some-Gsm-clause-refused : goal.returns-in-Some-Gsm-clause-refused
returns-in-Some-Gsm-clause-refused c =
    subst (λ text. OnErr c.push_gsm.result
    (PutsFront (string_bytes c.args.text.now) (string_bytes c.push_gsm.new.text) text)) (septets_show c)
    c.push_gsm.ensures.refused

pub returns-in-Some-Ucs2-clause-pushed : goal.returns-in-Some-Ucs2-clause-pushed
returns-in-Some-Ucs2-clause-pushed c =
    subst (λ text. OnOk c.push_units.result
    (string_bytes c.push_units.new.text ≡ string_bytes c.args.text.now ++ text)) (units_show c)
    c.push_units.ensures.pushed

pub returns-in-Some-Ucs2-clause-refused : goal.returns-in-Some-Ucs2-clause-refused
returns-in-Some-Ucs2-clause-refused c =
    subst (λ text. OnErr c.push_units.result
    (PutsFront (string_bytes c.args.text.now) (string_bytes c.push_units.new.text) text)) (units_show c)
    c.push_units.ensures.refused
