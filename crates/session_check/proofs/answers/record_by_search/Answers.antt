use Rattle.std.proofs.Common.{◌≡◌, ◌∙◌, ◌+◌, List, [], ◌∷◌, ◌++◌, All, take, drop, sym, subst, ap, false}
use Rattle.std.proofs.lemmas.List.{take_all, take_more, drop_more, take-append-drop}
use Rattle.std.proofs.lemmas.List.Elements.{All-push}
use Rattle.cbsp_wire.specs.Range.{is_cell}
use Rattle.bsc_table.specs.Record.{Record}
use Rattle.session_check.proofs.Found.{among_none}
use Rattle.session_check.proofs.answers.record_by_search.Goals as goal

pub returns-then-eq-clause-some : goal.returns-then-eq-clause-some
returns-then-eq-clause-some c =
    let records : List Record = c.args.records.now in
    let place = c.loop-record.record-index in
    let before : List Record = take place records in
    let after : List Record = drop (place + 1) records in
    let r : Record = c.record-item.result in
    let rest : drop place records ≡ r ∷ after =
    subst (λ (x : Record). drop place records ≡ x ∷ after) (sym c.record-item.is)
    (drop_more records place r c.loop-record-test.true) in record {
      before = before;
      after = after;
      split = sym (take-append-drop place records) ∙ ap (λ (rs : List Record). before ++ rs) rest;
      others = c.loop-record.invariant;
      own = ap (is_cell c.args.cell) (sym c.cell.ensures) ∙ (sym c.eq.ensures ∙ c.if-eq.true);
    }

pub loop-record-preserved : goal.loop-record-preserved
loop-record-preserved c =
    let records : List Record = c.args.records.now in
    let place = c.loop-record.record-index in
    let before : List Record = take place records in
    let r : Record = c.record-item.result in
    let other : Record → Type 0 = λ x. is_cell c.args.cell x.cell ≡ false in
    let more : take (place + 1) records ≡ before ++ r ∷ [] =
    subst (λ (x : Record). take (place + 1) records ≡ before ++ x ∷ []) (sym c.record-item.is)
    (take_more records place r c.loop-record-test.true) in
    subst (All other) (sym more)
    (All-push other before r c.loop-record.invariant
    (ap (is_cell c.args.cell) (sym c.cell.ensures) ∙ (sym c.eq.ensures ∙ c.if-eq.false)))

pub returns-clause-none : goal.returns-clause-none
returns-clause-none c =
    among_none c.args.records.now c.args.cell
    (subst (All (λ (x : Record). is_cell c.args.cell x.cell ≡ false))
    (take_all c.loop-record.record-index c.args.records.now c.loop-record-test.false) c.loop-record.invariant)
