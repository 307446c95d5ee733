use Rattle.std.proofs.Common.{◌≡◌, ℕ, List, Ok, Err, OnOk, Option, subst}
use Rattle.std.specs.declared.result.Result.{Result}
use Rattle.cbsp_wire.specs.declared.message.Cell.{Cell}
use Rattle.handset.specs.Recording.{TapeRecording}
use Rattle.short_pages.specs.Slots.{completed, recording_by}
use Rattle.short_pages.specs.declared.pages.Pages.{Pages}
use Rattle.short_pages.specs.declared.pages.Pages.TheVariants.{OfAny, OfFour}
use Rattle.verification.specs.Found.{FindingsState}
use Rattle.verification.specs.Judgement.{TakesJudged}
use Rattle.verification.specs.Rows.{tape_of}
use Rattle.verification.specs.declared.judgement.CellFinding.{CellFinding}
use Rattle.warnc_verify.proofs.judge.take_found.Goals as goal

-- a tape is taken as it is read by any pages
by_pages : (old new : FindingsState) (recording : TapeRecording) (cell : Cell) (found : List (Option CellFinding))
    → cell ≡ recording.cell
    → ((slots : ℕ) (blocks : List (List ℕ)) → TakesJudged old new (tape_of cell slots blocks) found)
    → (pages : Pages) → TakesJudged old new (recording_by pages recording) found
by_pages old new recording cell found is takes OfFour =
    subst (λ (c : Cell). TakesJudged old new (tape_of c recording.slots recording.blocks) found) is
    (takes recording.slots recording.blocks)
by_pages old new recording cell found is takes OfAny =
    subst (λ (c : Cell). TakesJudged old new (tape_of c recording.slots (completed recording.blocks)) found) is
    (takes recording.slots (completed recording.blocks))

taking : {U E : Type 0} (r : Result U E) (old new : FindingsState) (recording : TapeRecording) (cell : Cell)
    (found : List (Option CellFinding))
    → cell ≡ recording.cell
    → OnOk r ((slots : ℕ) (blocks : List (List ℕ)) → TakesJudged old new (tape_of cell slots blocks) found)
    → OnOk r ((pages : Pages) → TakesJudged old new (recording_by pages recording) found)
taking (Ok u) old new recording cell found is takes = by_pages old new recording cell found is takes
taking (Err e) old new recording cell found is takes = tt

pub returns : goal.returns
returns c =
    taking c.take_judged.result c.args.findings.now c.take_judged.new.self c.args.recording.now c.cell.result
    c.args.found c.cell.ensures c.take_judged.ensures
