-- Tapes that were judged side by side, and what they found, taken in their order.
use Rattle.std.proofs.Common.{◌≡◌, ◌∙◌, ℕ, suc, ◌<◌, List, [], ◌∷◌, ◌++◌, length, map, All, Ok}
use Rattle.std.proofs.Common.{◌+◌, IfOk, Option, refl, sym, ap, ap₂, subst, arith, slice_index_or}
use Rattle.std.proofs.Common.{append-nil, append_assoc}
use Rattle.std.specs.declared.result.Result.{Result}
use Rattle.std.specs.declared.alloc.AllocError.{AllocError}
use Rattle.std.proofs.lemmas.List.{length-append, map-append}
use Rattle.std.proofs.lemmas.Result.{IfOk-weaker}
use Rattle.std.proofs.lemmas.List.Elements.{All-cons, All-head, All-nil, All-tail}
use Rattle.verification.proofs.FoundLaws.{found-later}
use Rattle.bsc_table.specs.Record.{Record}
use Rattle.handset.specs.Recording.{GivesNoMore, ReadsRecordings, TapeRecording}
use Rattle.handset.proofs.Recordings.{some_more_read}
use Rattle.short_pages.specs.Slots.{recording_by}
use Rattle.short_pages.specs.declared.pages.Pages.{Pages}
use Rattle.verification.specs.Found.{FindingsState, HasTaken}
use Rattle.verification.specs.Judgement.{AreFoundOf, TakesJudged}
use Rattle.verification.specs.declared.detail.TableLayout.{TableLayout}
use Rattle.verification.specs.declared.judgement.CellFinding.{CellFinding}
use Rattle.warnc_verify.specs.VerifySteps.{held_by, AreTheLast, IsFoundAfter, IsJudgedBy, TakesBatch, WasJudged}
use Rattle.warnc_verify.specs.declared.side_by_side.Judging.{Judging}

-- what is so of all with one more is so of those before it, and of that one
all-front : (P : Judging → Type 0) (batch : List Judging) (one : Judging) → All P (batch ++ one ∷ []) → All P batch
all-front P [] one all = All-nil P
all-front P (first ∷ batch) one all =
    All-cons P first batch (All-head P first (batch ++ one ∷ []) all)
    (all-front P batch one (All-tail P first (batch ++ one ∷ []) all))

all-last : (P : Judging → Type 0) (batch : List Judging) (one : Judging) → All P (batch ++ one ∷ []) → P one
all-last P [] one all = All-head P one [] all
all-last P (first ∷ batch) one all = all-last P batch one (All-tail P first (batch ++ one ∷ []) all)

-- what was found of a tape where memory was there
found_of_it : (pages : Pages) (layout : TableLayout) (records : List Record) (tapes : List TapeRecording)
    (one : Judging) (found : List (Option CellFinding))
    → one.found ≡ Ok found
    → IsFoundAfter pages layout records tapes one
    → AreFoundOf layout records tapes (recording_by pages one.recording) found
found_of_it pages layout records tapes one found is has =
    subst (λ (r : Result (List (Option CellFinding)) AllocError).
    IfOk r (AreFoundOf layout records tapes (recording_by pages one.recording))) is has

-- no tape is taken
pub none-taken : (findings : FindingsState) (pages : Pages) → TakesBatch pages findings findings []
none-taken findings pages layout records tapes had all =
    subst (HasTaken layout records findings) (sym (append-nil tapes)) had

-- one more tape is taken
pub one-more-taken : (old now new : FindingsState) (batch : List Judging) (one : Judging)
    (found : List (Option CellFinding))
    → one.found ≡ Ok found
    → ((pages : Pages) → TakesBatch pages old now batch)
    → ((pages : Pages) → TakesJudged now new (recording_by pages one.recording) found)
    → (pages : Pages) → TakesBatch pages old new (batch ++ one ∷ [])
one-more-taken old now new batch one found is sofar takes pages layout records tapes had all =
    let P : Judging → Type 0 = IsFoundAfter pages layout records tapes in
    let taken : List TapeRecording = map (recording_by pages) (held_by batch) in
    let tape : TapeRecording = recording_by pages one.recording in
    let here : AreFoundOf layout records (tapes ++ taken) tape found =
    found-later layout records tapes taken tape found
    (found_of_it pages layout records tapes one found is (all-last P batch one all)) in
    let step : HasTaken layout records new ((tapes ++ taken) ++ tape ∷ []) =
    takes pages layout records (tapes ++ taken) (sofar pages layout records tapes had (all-front P batch one all)) here
    in
    subst (HasTaken layout records new)
    (append_assoc tapes taken (tape ∷ [])
    ∙ ap (λ (rest : List TapeRecording). tapes ++ rest)
    (sym (ap (map (recording_by pages)) (map-append (λ (j : Judging). j.recording) batch (one ∷ []))
    ∙ map-append (recording_by pages) (held_by batch) (one.recording ∷ []))))
    step

-- what is found of a tape by what was found so far is found after the tapes that were taken
found-after : (pages : Pages) (layout : TableLayout) (records : List Record) (tapes : List TapeRecording)
    (findings : FindingsState) (one : Judging)
    → HasTaken layout records findings tapes
    → IsJudgedBy pages findings one
    → IsFoundAfter pages layout records tapes one
found-after pages layout records tapes findings one had is =
    IfOk-weaker one.found _ _ (λ found finds. finds layout records tapes had) is

-- judged tapes hold what they did
held-same : (pages : Pages) (findings : FindingsState) (old new : List Judging) → length new ≡ length old
    → ((place : ℕ) (d : Judging) → place < length old
    → WasJudged pages findings (slice_index_or old place d) (slice_index_or new place d))
    → held_by new ≡ held_by old
held-same pages findings [] [] long each = refl
held-same pages findings [] (n ∷ new) long each = absurd (omega (arith, long))
held-same pages findings (o ∷ old) [] long each = absurd (omega (arith, long))
held-same pages findings (o ∷ old) (n ∷ new) long each =
    ap₂ (λ (r : TapeRecording) (rest : List TapeRecording). r ∷ rest)
    (each 0 o (omega arith)).0
    (held-same pages findings old new (omega (arith, long))
    (λ place d within. each (suc place) d (omega (arith, within))))

-- tapes that were judged by what was found, and then taken
pub batch-taken : (pages : Pages) (layout : TableLayout) (records : List Record) (tapes : List TapeRecording)
    (old new : FindingsState) (before batch : List Judging)
    → length batch ≡ length before
    → ((place : ℕ) (d : Judging) → place < length before
    → WasJudged pages old (slice_index_or before place d) (slice_index_or batch place d))
    → ((p : Pages) → TakesBatch p old new batch)
    → HasTaken layout records old (map (recording_by pages) tapes)
    → HasTaken layout records new (map (recording_by pages) (tapes ++ held_by before))
batch-taken pages layout records tapes old new before batch long each takes had =
    let read : List TapeRecording = map (recording_by pages) tapes in
    let all : All (IsFoundAfter pages layout records read) batch =
    (λ k d within. found-after pages layout records read old (slice_index_or batch k d) had
    (each k d (omega (arith, long, within))).1) in
    subst (HasTaken layout records new)
    (ap (λ (held : List TapeRecording). read ++ map (recording_by pages) held)
    (held-same pages old before batch long each)
    ∙ sym (map-append (recording_by pages) tapes (held_by before)))
    (takes pages layout records read had all)

-- tapes more that are the last ones
pub ends-with : (count more : ℕ) (left now : Option (List ℕ)) (recordings : List TapeRecording)
    → ReadsRecordings left now recordings
    → length recordings ≡ more
    → GivesNoMore (count + more) now
    → AreTheLast count left recordings
ends-with count more left now recordings had long ends first before reads many =
    ends first (before ++ recordings) (some_more_read first left now before recordings reads had)
    (length-append before recordings ∙ ap₂ (λ (m n : ℕ). m + n) many long)
