use Rattle.std.proofs.Common.{◌∙◌, ap, map, subst, sym}
use Rattle.std.specs.List.{AllZip, list_any}
use Rattle.std.proofs.lemmas.Result.{IfOk-weaker}
use Rattle.cbsp_wire.specs.Range.{is_cell}
use Rattle.verification.specs.declared.judgement.CellState.{CellState}
use Rattle.verification.specs.Found.{FindingsState}
use Rattle.verification.specs.Judgement.{IsFoundOf}
use Rattle.verification.specs.Rows.{tape_of}
use Rattle.verification.proofs.FoundLaws.{first-found, second-found}
use Rattle.verification.proofs.findings.Findings.judged.Goals as goal

pub returns-then-is_among : goal.returns-then-is_among
returns-then-is_among c = λ layout records tapes taken.
    second-found layout records c.args.self.now tapes (tape_of c.args.cell c.args.slots c.args.blocks.now)
    c.new.result.items taken
    (ap (λ (f : FindingsState). list_any (is_cell c.args.cell) f.seen) (sym c.self.view_is)
    ∙ ap (list_any (is_cell c.args.cell)) (sym c.deref.ensures.value)
    ∙ sym c.is_among.ensures ∙ c.if-is_among.true)

pub returns : goal.returns
returns c =
    let tape = tape_of c.args.cell c.args.slots c.args.blocks.now in
    IfOk-weaker c.judgement_of.result _ _
    (λ judgement are. λ layout records tapes taken.
    first-found layout records c.args.self.now tapes tape judgement taken
    (subst (λ (f : FindingsState). AllZip (IsFoundOf f.layout tape) (map (λ (s : CellState). s.run) f.cells) judgement)
    c.self.view_is
    (subst (λ cells. AllZip (IsFoundOf c.self.inside.layout tape) (map (λ (s : CellState). s.run) cells) judgement)
    c.deref-2.ensures.value are)))
    c.judgement_of.ensures
