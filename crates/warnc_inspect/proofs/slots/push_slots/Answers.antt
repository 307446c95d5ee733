-- One slot after another.
use Rattle.std.proofs.Common.{◌≡◌, ◌∙◌, ◌++◌, [], ℕ, List, ap, append-nil, drop, subst, sym}
use Rattle.std.proofs.lemmas.List.{drop_all}
use Rattle.warnc_inspect.specs.ReadSteps.{IsTable}
use Rattle.warnc_inspect.specs.SlotsOutput.{rows_from}
use Rattle.warnc_inspect.proofs.SlotRows.{rows_more, rows_of, rows_of_all}
use Rattle.warnc_inspect.proofs.slots.push_slots.Goals as goal

pub loop-number-preserved : goal.loop-number-preserved
loop-number-preserved c = λ octets is.
    let before = c.loop-number.invariant octets is in
    rows_more {Is = λ (xs : List ℕ). IsTable c.push_slot.new.table xs} c.args.wanted c.args.cell c.loop-number.number
    c.as_chunks.result.0.now _ before.0 _ c.loop-number-test.true (c.in_ok-push_slot.ensures before.0 before.1) before.2

pub returns : goal.returns
returns c = λ octets is.
    let last = c.loop-number.invariant octets is in
    let slots : List (List (List ℕ)) = c.as_chunks.result.0.now in
    let none : drop c.loop-number.number slots ≡ [] = drop_all c.loop-number.number slots c.loop-number-test.false in
    let rows : last.0 ≡ octets ++ rows_from c.args.wanted c.args.cell 0 c.args.blocks.now =
    sym (append-nil last.0)
    ∙ ap (λ (left : List (List (List ℕ))). last.0 ++ rows_of c.args.wanted c.args.cell c.loop-number.number left)
    (sym none) ∙ last.2
    ∙ ap (λ (rows : List ℕ). octets ++ rows)
    (rows_of_all c.args.wanted c.args.cell c.args.blocks.now slots c.as_chunks.ensures.front) in
    subst (λ (xs : List ℕ). IsTable c.loop-number.table xs) rows last.1
