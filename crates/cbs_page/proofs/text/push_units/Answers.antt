-- Each unit puts its character, and what is left is those of the units after it.
use Rattle.std.proofs.Common.{◌≡◌, ◌++◌, ◌+◌, ◌∙◌, sym, ap, drop, map, rules, string_bytes, encode_utf8}
use Rattle.std.proofs.Common.{encode_utf8_all}
use Rattle.std.proofs.lemmas.List.{drop_more, drop_all}
use Rattle.ucs2_text.specs.Ucs2.{character_of_unit}
use Rattle.cbs_page.proofs.PutLaws.{put_none, put_more, put_all}
use Rattle.cbs_page.proofs.text.push_units.Goals as goal

pub loop-unit-init : goal.loop-unit-init
loop-unit-init c =
    put_none (string_bytes c.args.text.now) (encode_utf8_all (map character_of_unit c.args.units.now))

pub returns-in_err-push-clause-refused : goal.returns-in_err-push-clause-refused
returns-in_err-push-clause-refused c = search rules

pub loop-unit-preserved : goal.loop-unit-preserved
loop-unit-preserved c =
    let next = drop_more c.args.units.now c.loop-unit.unit-index 0 c.loop-unit-test.true in
    let rest : encode_utf8 c.char_of.result ++ encode_utf8_all
    (map character_of_unit (drop (c.loop-unit.unit-index + 1) c.args.units.now))
    ≡ encode_utf8_all (map character_of_unit (drop c.loop-unit.unit-index c.args.units.now)) =
    ap (λ character. encode_utf8 character ++ encode_utf8_all
    (map character_of_unit (drop (c.loop-unit.unit-index + 1) c.args.units.now))) c.char_of.ensures
    ∙ sym (ap (λ units. encode_utf8_all (map character_of_unit units)) next) in
    put_more _ _ _ _ _ _ _ c.loop-unit.invariant c.in_ok-push.ensures.bytes rest

pub returns-clause-pushed : goal.returns-clause-pushed
returns-clause-pushed c =
    put_all _ _ _ _ c.loop-unit.invariant
    (ap (λ units. encode_utf8_all (map character_of_unit units))
    (drop_all c.loop-unit.unit-index c.args.units.now c.loop-unit-test.false))
