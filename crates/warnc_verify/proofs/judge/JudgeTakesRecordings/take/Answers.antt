use Rattle.std.proofs.Common.{◌≡◌, ◌++◌, ◌∷◌, List, [], Ok, Err, OnOk, Option, map, subst, sym}
use Rattle.std.proofs.lemmas.List.{map-append}
use Rattle.std.specs.declared.result.Result.{Result}
use Rattle.handset.specs.Recording.{TapeRecording}
use Rattle.short_pages.specs.Slots.{recording_by}
use Rattle.short_pages.specs.declared.pages.Pages.{Pages}
use Rattle.verification.specs.Found.{FindingsState, HasTaken}
use Rattle.verification.specs.Judgement.{AreFoundOf, FindsOf, TakesJudged}
use Rattle.verification.specs.declared.judgement.CellFinding.{CellFinding}
use Rattle.warnc_verify.specs.VerifySteps.{Judged}
use Rattle.warnc_verify.proofs.judge.JudgeTakesRecordings.take.Goals as goal

-- a tape was taken, read by the wanted pages
taking : {U E : Type 0} (r : Result U E) (old new : FindingsState) (pages : Pages) (recording : TapeRecording)
    (found : List (Option CellFinding))
    → FindsOf old (recording_by pages recording) found
    → OnOk r ((p : Pages) → TakesJudged old new (recording_by p recording) found)
    → OnOk r ((given : Judged) → (before : List TapeRecording)
    → (pages ≡ given.pages) × HasTaken given.layout given.records old (map (recording_by given.pages) before)
    → (pages ≡ given.pages)
    × HasTaken given.layout given.records new (map (recording_by given.pages) (before ++ recording ∷ [])))
taking (Ok u) old new pages recording found finds takes = λ given before had. (
  had.0,
  subst (HasTaken given.layout given.records new) (sym (map-append (recording_by given.pages) before (recording ∷ [])))
      (takes given.pages given.layout given.records (map (recording_by given.pages) before) had.1
      (subst (λ (p : Pages). AreFoundOf given.layout given.records (map (recording_by given.pages) before)
      (recording_by p recording) found) had.0
      (finds given.layout given.records (map (recording_by given.pages) before) had.1))),
)
taking (Err e) old new pages recording found finds takes = tt

pub returns : goal.returns
returns c =
    taking c.take_found.result c.args.self.now.findings c.take_found.new.findings c.args.self.now.pages
    c.args.recording c.in_ok-found.found c.in_ok-found.ensures c.take_found.ensures
