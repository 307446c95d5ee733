use Rattle.std.proofs.Common.{◌≡◌, ◌+◌, ◌++◌, ◌∷◌, [], ℕ, List, ap, arith, length, subst, sym, take, true}
use Rattle.std.proofs.Common.{◌∙◌}
use Rattle.std.specs.Str.{chars}
use Rattle.std.proofs.Math.ListN.{get_or-eq_default}
use Rattle.std.proofs.lemmas.Iterator.{YieldsList-from_chars}
use Rattle.std.proofs.lemmas.Iterator.Consumers.{YieldsList-turn, YieldsList-end}
use Rattle.std.proofs.lemmas.List.{get_or_default, length_push, take_more}
use Rattle.book_texts.specs.Fit.{ends_word, is_gap, IsCut}
use Rattle.book_texts.specs.FitSteps.{HasTaken, IsBest}
use Rattle.book_texts.proofs.Fitting.{cut_at_best, seen_more}
use Rattle.book_texts.proofs.fit.cut_for.Goals as goal

pub loop-character-preserved : goal.loop-character-preserved
loop-character-preserved c =
    let turn = YieldsList-turn (YieldsList-from_chars c.args.text.now c.utf8.text cc) c.loop-character.yielded _
    c.loop-character.yielded_by _ _ c.in-Some.character c.in-Some.is c.next.ensures.steps in
    let next = length_push c.loop-character.yielded c.in-Some.character in
    let text = chars c.args.text.now in
    let n = length c.loop-character.yielded in
    let front : take (length (c.loop-character.yielded ++ c.in-Some.character ∷ [])) text
    ≡ take n text ++ c.in-Some.character ∷ [] =
    ap (λ (k : ℕ). take k text) next ∙ take_more text n c.in-Some.character turn.0
    ∙ ap (λ (x : ℕ). take n text ++ x ∷ []) (sym turn.1) in
    let gap : is_gap c.in-Some.character ≡ ends_word text n =
    ap is_gap (turn.1 ∙ get_or_default text n c.in-Some.character 32 turn.0) in
    record {
      finite = (tt, tt);
      characters = omega (arith, next, c.loop-character.invariant.characters, c.with-front.ensures.characters);
      few = c.with-front.ensures.few;
      taken = subst (λ (xs : List ℕ). HasTaken xs c.with-front.result) (sym front)
          (c.with-front.ensures.taken (take n text) c.loop-character.invariant.taken);
      best = seen_more c.args.pages text n _ _ c.loop-character.best _ c.fits.result c.is_gap.result
          c.loop-character.invariant.characters next (omega (arith, turn.0))
          (c.fits.ensures (take n text) c.loop-character.invariant.taken) (c.is_gap.ensures ∙ gap)
          c.with-best.ensures c.loop-character.invariant.best;
    }

pub returns : goal.returns
returns c =
    let ended = YieldsList-end (YieldsList-from_chars c.args.text.now c.utf8.text cc) c.loop-character.yielded _
    c.loop-character.yielded_by _ _ c.in-None.is c.next.ensures.steps in
    let text = chars c.args.text.now in
    let n = length c.loop-character.yielded in
    let gap : true ≡ ends_word text n = ap is_gap (sym (get_or-eq_default text 32 {n = n} (omega (arith, ended.1)))) in
    let best : IsBest c.args.pages text (length text + 1) c.with.result =
    seen_more c.args.pages text n _ (length text + 1) c.loop-character.best _ c.fits-2.result true
    c.loop-character.invariant.characters (omega (arith, ended.1)) (omega (arith, ended.1))
    (c.fits-2.ensures (take n text) c.loop-character.invariant.taken) gap c.with.ensures
    c.loop-character.invariant.best in
    subst (λ (k : ℕ). IsCut c.args.pages text k) (sym c.length.ensures)
    (cut_at_best c.args.pages text c.with.result best)
