-- What is written of the slots of the tapes of an input, once all were taken.
use Rattle.std.proofs.Common.{Option, IfSome, ◌≡◌, ◌∙◌, ℕ, List, [], ◌∷◌, ◌++◌, ap, append-nil, append_assoc, sym}
use Rattle.std.specs.List.{flat_map}
use Rattle.std.proofs.lemmas.Grind.{flat_map-append}
use Rattle.std.proofs.lemmas.Option.{IfSome_then}
use Rattle.handset.specs.Recording.{AreRecorded, TapeRecording}
use Rattle.short_pages.specs.declared.pages.Pages.{Pages}
use Rattle.warnc_inspect.specs.SlotsOutput.{slot_columns, table_of_slots, tape_rows, IsSlotsOutput}

-- the rows of one tape more
pub table_of_slots-next : (wanted : Pages) (before : List TapeRecording) (tape : TapeRecording)
    → table_of_slots wanted before ++ tape_rows wanted tape ≡ table_of_slots wanted (before ++ tape ∷ [])
table_of_slots-next wanted before tape =
    append_assoc slot_columns (flat_map (tape_rows wanted) before) (tape_rows wanted tape)
    ∙ ap (λ rows. slot_columns ++ (flat_map (tape_rows wanted) before ++ rows))
    (sym (append-nil (tape_rows wanted tape)))
    ∙ ap (λ rows. slot_columns ++ rows) (sym (flat_map-append (tape_rows wanted) before (tape ∷ [])))

-- what is so of the table, where the input is known
pub slots_then : {T : Type 0} {HasTaken : Pages → T → List TapeRecording → Type 0} {input : Option (List ℕ)}
    {old new : T} (wanted : Pages) (P : List ℕ → Type 0) (taken : AreRecorded HasTaken input old new)
    (octets : List ℕ)
    → octets ≡ table_of_slots wanted taken.recordings → P octets
    → IfSome input (λ read. (output : List ℕ) × IsSlotsOutput wanted read output × P output)
slots_then {input = input} wanted P taken octets written holds =
    IfSome_then input {Q = λ read. (output : List ℕ) × IsSlotsOutput wanted read output × P output} taken.of_input
    (λ read tapes. (
      octets,
      record { recordings = taken.recordings; tapes = tapes; written = written },
      holds,
    ))
