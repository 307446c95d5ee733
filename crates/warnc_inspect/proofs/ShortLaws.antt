-- Tapes without a short page have one table.
use Rattle.std.proofs.Common.{◌≡◌, List, [], ◌∷◌, map, refl, ap, sym, ◌∙◌}
use Rattle.std.specs.List.{AllByRecursion}
use Rattle.handset.specs.Laws.{RecordingsAreOne, RecordingsAreRead, TapesAreOneKind}
use Rattle.handset.specs.Recording.{TapeRecording, reading_of_recording}
use Rattle.short_pages.specs.Slots.{reading_on_air}
use Rattle.short_pages.proofs.SameLaws.{without_short_pages_the_same}
use Rattle.warnc_inspect.specs.Laws.{HasNoShortPage, WithoutShortPagesOneTable}
use Rattle.warnc_inspect.specs.ReadOutput.{table_of}

same_readings : (tapes : List TapeRecording) → AllByRecursion HasNoShortPage tapes
    → map reading_on_air tapes ≡ map reading_of_recording tapes
same_readings [] none = refl
same_readings (tape ∷ rest) none =
    ap (λ shown. record { cell = tape.cell; slots = tape.slots; shown = shown } ∷ map reading_on_air rest)
    (without_short_pages_the_same tape.blocks none.0)
    ∙ ap (λ readings. reading_of_recording tape ∷ readings) (same_readings rest none.1)

-- by the laws of tapes
pub one_table : RecordingsAreOne → RecordingsAreRead → TapesAreOneKind → WithoutShortPagesOneTable
one_table one read kind input four any tapes are none is_four is_any =
    let others : is_any.tapes.recordings ≡ tapes = one input is_any.tapes.recordings tapes is_any.tapes.tapes are in
    let readings : is_four.readings ≡ map reading_of_recording tapes =
    (kind input).unique is_four.readings (map reading_of_recording tapes) is_four.tapes (read input tapes are) in
    is_four.written
    ∙ ap table_of
    (readings ∙ sym (same_readings tapes none) ∙ ap (map reading_on_air) (sym others) ∙ sym is_any.tapes.read)
    ∙ sym is_any.written
