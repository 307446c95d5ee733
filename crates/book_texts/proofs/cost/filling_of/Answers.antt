use Rattle.std.proofs.Common.{◌≡◌, ◌≢◌, ◌∙◌, ap, refl, sym, ℕ, List, ◌+◌, ◌<◌, ◌≤◌, [], length, arith, drop, rules}
use Rattle.std.specs.Str.{chars}
use Rattle.std.proofs.lemmas.Iterator.{YieldsList-from_chars}
use Rattle.std.proofs.lemmas.Iterator.Consumers.{YieldsList-turn, YieldsList-end}
use Rattle.std.proofs.lemmas.List.{length_push, at_drop_all, nil_from_length}
use Rattle.cbs_page.proofs.Cutting.{count_from}
use Rattle.cbs_page.specs.Text.{capacity, codes_of}
use Rattle.cbs_page.proofs.CuttingLaws.{count-takes, count-begins}
use Rattle.cbs_page.proofs.PaginateLaws.{has_pages}
use Rattle.cbs_page.specs.declared.coding.Alphabet.{Alphabet}
use Rattle.book_texts.specs.TextsSteps.{Fills}
use Rattle.book_texts.proofs.Filling.{last_length, last_of_pieces, used_from, used_of_cuts, used-begins, used-takes}
use Rattle.book_texts.proofs.cost.filling_of.Goals as goal

pub loop-character-preserved-then-used-cost : goal.loop-character-preserved-then-used-cost
loop-character-preserved-then-used-cost c =
    let turn = YieldsList-turn (YieldsList-from_chars c.args.text.now c.utf8.text cc) c.loop-character.yielded _
    c.loop-character.yielded_by _ _ c.in-Some.character c.in-Some.is c.next.ensures.steps in
    let next = length_push c.loop-character.yielded c.in-Some.character in
    let fits : c.loop-character.used + c.cost-cost.result ≤ capacity c.args.alphabet = omega
    (arith, c.capacity-capacity.ensures.value) in
    let step = count-takes (codes_of c.args.alphabet) (capacity c.args.alphabet) c.loop-character.used
    (chars c.args.text.now)
    (length c.loop-character.yielded) c.in-Some.character turn.0 turn.1 (rw (← c.cost-cost.ensures.value) fits) in
    let last = used-takes (codes_of c.args.alphabet) (capacity c.args.alphabet) c.loop-character.used
    (chars c.args.text.now)
    (length c.loop-character.yielded) c.in-Some.character turn.0 turn.1 (rw (← c.cost-cost.ensures.value) fits) in
    record {
      finite = (tt, tt);
      within = fits;
      characters = omega (arith, next, c.loop-character.invariant.characters);
      few = omega arith;
      counted = rw (next, c.cost-cost.ensures.value, ← step) c.loop-character.invariant.counted;
      last = rw (next, c.cost-cost.ensures.value, ← last) c.loop-character.invariant.last;
    }

pub loop-character-preserved : goal.loop-character-preserved
loop-character-preserved c =
    let turn = YieldsList-turn (YieldsList-from_chars c.args.text.now c.utf8.text cc) c.loop-character.yielded _
    c.loop-character.yielded_by _ _ c.in-Some.character c.in-Some.is c.next.ensures.steps in
    let next = length_push c.loop-character.yielded c.in-Some.character in
    let full : capacity c.args.alphabet < c.loop-character.used + c.cost-cost.result = omega
    (arith, c.capacity-capacity.ensures.value) in
    let step = count-begins (codes_of c.args.alphabet) (capacity c.args.alphabet) c.loop-character.used
    (chars c.args.text.now)
    (length c.loop-character.yielded) c.in-Some.character turn.0 turn.1 (rw (← c.cost-cost.ensures.value) full) in
    let last = used-begins (codes_of c.args.alphabet) (capacity c.args.alphabet) c.loop-character.used
    (chars c.args.text.now)
    (length c.loop-character.yielded) c.in-Some.character turn.0 turn.1 (rw (← c.cost-cost.ensures.value) full) in
    record {
      finite = (tt, tt);
      within = omega (arith, c.capacity-capacity.ensures.value);
      characters = omega (arith, next, c.loop-character.invariant.characters);
      few = omega arith;
      counted = rw (next, c.cost-cost.ensures.value) (omega (arith, step, c.loop-character.invariant.counted));
      last = rw (next, c.cost-cost.ensures.value, ← last) c.loop-character.invariant.last;
    }

-- what the loop ends with is what the cutting gives
at_end : (alphabet : Alphabet) (text : List ℕ) (characters pages used n : ℕ) → characters ≡ n → n ≡ length text
    → pages + count_from (codes_of alphabet) (capacity alphabet) used (drop n text)
    ≡ count_from (codes_of alphabet) (capacity alphabet) 0 text + 1
    → used_from (codes_of alphabet) (capacity alphabet) used (drop n text)
    ≡ used_from (codes_of alphabet) (capacity alphabet) 0 text
    → text ≢ []
    → Fills alphabet text (record { characters = characters; pages = pages; used = used })
at_end alphabet text characters pages used n as_many all counted last some =
    let codes = codes_of alphabet in
    let limit = capacity alphabet in
    let has = has_pages alphabet text some in
    let count : pages ≡ count_from codes limit 0 text =
    omega (arith, counted, at_drop_all (count_from codes limit used) text n (omega (arith, all))) in
    let taken : used ≡ used_from codes limit 0 text =
    sym (at_drop_all (used_from codes limit used) text n (omega (arith, all))) ∙ last in
    record {
      characters = as_many ∙ all;
      pieces = has.pieces;
      paging = has.paging;
      pages = count ∙ has.count;
      used = taken ∙ sym (used_of_cuts codes limit 0 [] text) ∙ ap (last_length 0) has.cut
          ∙ last_of_pieces alphabet 0 has.pieces;
    }

nothing_in : (text : List ℕ) (characters n : ℕ) → characters ≡ n → n ≡ length text → characters ≢ 0 → text ≢ []
nothing_in text characters n as_many all some none = some (as_many ∙ all ∙ ap length none)

-- a text without characters takes no page
no_text : (alphabet : Alphabet) (text : List ℕ) (characters used n : ℕ) → characters ≡ n → n ≡ length text
    → used_from (codes_of alphabet) (capacity alphabet) used (drop n text)
    ≡ used_from (codes_of alphabet) (capacity alphabet) 0 text
    → characters ≡ 0
    → Fills alphabet text (record { characters = characters; pages = 0; used = used })
no_text alphabet text characters used n as_many all last none =
    let codes = codes_of alphabet in
    let limit = capacity alphabet in
    let empty : text ≡ [] = nil_from_length text (omega (arith, as_many, all, none)) in
    record {
      characters = as_many ∙ all;
      pieces = [];
      paging = record { whole = sym empty; nonempty = tt; within = tt; filled = tt };
      pages = refl;
      used = sym (at_drop_all (used_from codes limit used) text n (omega (arith, all))) ∙ last
          ∙ ap (used_from codes limit 0) empty;
    }

pub returns-else-characters-eq0-clause-filled : goal.returns-else-characters-eq0-clause-filled
returns-else-characters-eq0-clause-filled c =
    let ended = YieldsList-end (YieldsList-from_chars c.args.text.now c.utf8.text cc) c.loop-character.yielded _
    c.loop-character.yielded_by _ _ c.in-None.is c.next.ensures.steps in
    at_end c.args.alphabet (chars c.args.text.now) _ _ _ _ c.loop-character.invariant.characters
    (omega (arith, ended.1)) c.loop-character.invariant.counted c.loop-character.invariant.last
    (nothing_in _ _ _ c.loop-character.invariant.characters (omega (arith, ended.1))
    (search (rules, c.if-characters-eq0.false)))

pub returns-then-characters-eq0-clause-filled : goal.returns-then-characters-eq0-clause-filled
returns-then-characters-eq0-clause-filled c =
    let ended = YieldsList-end (YieldsList-from_chars c.args.text.now c.utf8.text cc) c.loop-character.yielded _
    c.loop-character.yielded_by _ _ c.in-None.is c.next.ensures.steps in
    no_text c.args.alphabet (chars c.args.text.now) _ _ _ c.loop-character.invariant.characters (omega (arith, ended.1))
    c.loop-character.invariant.last (search (rules, c.if-characters-eq0.true))
