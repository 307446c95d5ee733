use Rattle.std.proofs.Common.{ℕ, List, ◌∙◌, [], ◌∷◌, length, sym, ap, arith}
use Rattle.std.specs.Str.{chars}
use Rattle.std.proofs.lemmas.Iterator.{YieldsList-from_chars}
use Rattle.std.proofs.lemmas.Iterator.Consumers.{YieldsList-turn, YieldsList-end}
use Rattle.std.proofs.lemmas.List.{length_push}
use Rattle.cbs_page.specs.PagingSteps.{is_good}
use Rattle.cbs_page.proofs.SpellingLaws.{spelled-more, spelled-next, spelled-end, one_by_one}
use Rattle.cbs_page.proofs.spelling.units_of_text.Goals as goal

abbrev one : ℕ → List ℕ
one character = character ∷ []

pub returns-then-not-push_unit-clause-none : goal.returns-then-not-push_unit-clause-none
returns-then-not-push_unit-clause-none c = λ all.
    let turn = YieldsList-turn (YieldsList-from_chars c.args.text.now c.utf8.text cc) c.loop-character.yielded _
    c.loop-character.yielded_by _ _ c.in-Some.character c.in-Some.is c.next.ensures.steps in
    let next = spelled-next is_good one (chars c.args.text.now) (length c.loop-character.yielded)
    c.loop-character.units.items c.in-Some.character c.loop-character.invariant.made turn.0
    turn.1 all in
    omega (
      arith,
      next.1,
      c.push_unit.ensures.left (c.if-not-push_unit.true) next.0,
      ap length (one_by_one (chars c.args.text.now)),
    )

pub loop-character-preserved : goal.loop-character-preserved
loop-character-preserved c =
    let turn = YieldsList-turn (YieldsList-from_chars c.args.text.now c.utf8.text cc) c.loop-character.yielded _
    c.loop-character.yielded_by _ _ c.in-Some.character c.in-Some.is c.next.ensures.steps in
    let next = length_push c.loop-character.yielded c.in-Some.character in
    let taken = c.push_unit.ensures.taken (c.if-not-push_unit.false) in
    let more = spelled-more is_good one (chars c.args.text.now) (length c.loop-character.yielded)
    c.loop-character.units.items c.in-Some.character c.loop-character.invariant.made turn.0
    turn.1 taken.0 in
    record { finite = (tt, tt); made = rw (next, taken.1) more }

pub returns-clause-codes : goal.returns-clause-codes
returns-clause-codes c =
    let ended = YieldsList-end (YieldsList-from_chars c.args.text.now c.utf8.text cc) c.loop-character.yielded _
    c.loop-character.yielded_by _ _ c.in-None.is c.next.ensures.steps in
    sym (one_by_one (chars c.args.text.now))
    ∙ (spelled-end is_good one (chars c.args.text.now) (length c.loop-character.yielded)
    c.loop-character.units.items c.loop-character.invariant.made ended.1).0

pub returns-clause-good : goal.returns-clause-good
returns-clause-good c =
    let ended = YieldsList-end (YieldsList-from_chars c.args.text.now c.utf8.text cc) c.loop-character.yielded _
    c.loop-character.yielded_by _ _ c.in-None.is c.next.ensures.steps in
    (spelled-end is_good one (chars c.args.text.now) (length c.loop-character.yielded)
    c.loop-character.units.items c.loop-character.invariant.made ended.1).1
