use Rattle.std.proofs.Common.{◌≡◌, ◌∙◌, ℕ, List, ap, subst, sym}
use Rattle.std.proofs.lemmas.Result.{IfOk-weaker}
use Rattle.cbsp_wire.specs.declared.message.Cell.{Cell}
use Rattle.handset.specs.Recording.{TapeRecording}
use Rattle.short_pages.specs.Slots.{recording_by}
use Rattle.short_pages.specs.declared.pages.Pages.{Pages}
use Rattle.verification.specs.Judgement.{FindsOf}
use Rattle.verification.specs.Rows.{tape_of}
use Rattle.warnc_verify.proofs.judge.found_of.Goals as goal

pub returns-in-OfFour : goal.returns-in-OfFour
returns-in-OfFour c =
    let is : recording_by c.args.pages c.args.recording.now
    ≡ tape_of c.cell-cell.result c.slots-slots.result c.blocks-in-OfFour.result.now =
    ap (λ (p : Pages). recording_by p c.args.recording.now) c.in-OfFour.is
    ∙ ap (λ (cell : Cell). tape_of cell c.args.recording.now.slots c.args.recording.now.blocks)
    (sym c.cell-cell.ensures)
    ∙ ap (λ (s : ℕ). tape_of c.cell-cell.result s c.args.recording.now.blocks) (sym c.slots-slots.ensures)
    ∙ ap (λ (b : List (List ℕ)). tape_of c.cell-cell.result c.slots-slots.result b) (sym c.blocks-in-OfFour.ensures) in
    IfOk-weaker c.judged.result _ _
    (λ found finds. subst (λ (t : TapeRecording). FindsOf c.args.findings.now t found) (sym is) finds) c.judged.ensures
