use Rattle.std.proofs.Common.{◌≡◌, sym, ◌∙◌, Some, lit<, ◌++◌, ◌∷◌}
use Rattle.std.proofs.lemmas.Bool.{ltb-true}
use Rattle.std.proofs.lemmas.Slice.Eq.{bytes_eq-Decides}
use Rattle.std.proofs.lemmas.Str.Pattern.{split_parts}
use Rattle.warnc_cli.proofs.WordLaws.{value_after, value_within}
use Rattle.warnc_cli.proofs.command.value_of.Goals as goal

pub returns-then-eq : goal.returns-then-eq
returns-then-eq g c =
    let same : c.as_str-word.result.now ≡ c.args.name.now =
    (bytes_eq-Decides c.as_str-word.result.now c.args.name.now).0 (sym c.if-eq.ensures) in
    value_after g.S.AsStr.text c.args.words.now c.args.name.now c.as_str.result.now c.loop-place.place
    c.index-words-place.result c.in_ok-get.field-0.now c.loop-place-test.true c.index-words-place.is
    (sym c.as_str-word.ensures ∙ same) (ltb-true _ _ (sym c.in_ok-get.ensures.lookup.0)) c.in_ok-get.ensures.lookup.1
    c.as_str.ensures

pub returns-in-loop-place : goal.returns-in-loop-place
returns-in-loop-place g c =
    let same : c.in-Some.front.now ≡ c.args.name.now =
    (bytes_eq-Decides c.in-Some.front.now c.args.name.now).0 (sym c.if-eq-2.ensures) in
    let parts : c.as_str-word.result.now ≡ c.in-Some.front.now ++ 61 ∷ c.in-Some.value.now =
    (split_parts 61 c.as_str-word.result.now (Some (c.in-Some.front, c.in-Some.value)) c.in-Some.ensures.cases
    (lit< tt)).0 in
    value_within g.S.AsStr.text c.args.words.now c.args.name.now c.in-Some.front.now c.in-Some.value.now
    c.as_str-word.result.now
    c.loop-place.place c.index-words-place.result c.loop-place-test.true c.index-words-place.is c.as_str-word.ensures
    parts same
