-- Causes in words, with their numbers (3GPP TS 48.049, 8.2, Cause).
use Rattle.std.specs.Prelude.{ℕ, ◌==◌, if◌then◌else◌, List, [], ◌∷◌, ◌++◌, codes}
use Rattle.hex.specs.Hex.{encode_lower}
use Rattle.cbsp_wire.specs.declared.cause.TheConstants as cause
use Rattle.report.specs.Cause.{cause_words}
use Rattle.chart.specs.declared.cause.TheConstants as causes
use Rattle.chart.specs.declared.word.Language.{Language}
use Rattle.chart.specs.declared.word.Language.TheVariants as languages

-- a cause in German
abbrev pub german_cause : ℕ → List ℕ
german_cause number =
    if number == cause.PARAMETER_NOT_RECOGNISED then codes "Parameter nicht erkannt"
    else if number == cause.PARAMETER_VALUE_INVALID then codes "Wert eines Parameters nicht erlaubt"
    else if number == cause.MESSAGE_REFERENCE_NOT_IDENTIFIED then codes "es gibt nichts zu ersetzen oder zu stoppen"
    else if number == cause.CELL_IDENTITY_NOT_VALID then codes "Zelle unbekannt"
    else if number == cause.UNRECOGNISED_MESSAGE then codes "unbekannte Meldung"
    else if number == cause.MISSING_MANDATORY_ELEMENT then codes "ein notwendiges Element fehlt"
    else if number == cause.BSC_CAPACITY_EXCEEDED then codes "kein Platz mehr in der Zelle"
    else if number == cause.CELL_MEMORY_EXCEEDED then codes "64 Nachrichten sind schon reserviert"
    else if number == cause.BSC_MEMORY_EXCEEDED then codes "das Protokoll der Zelle ist voll"
    else if number == cause.CELL_BROADCAST_NOT_OPERATIONAL then codes "der Lauf ist dann vorbei"
    else if number == cause.EXTENDED_CHANNEL_NOT_SUPPORTED then codes "kein erweiterter Kanal"
    else if number == cause.MESSAGE_REFERENCE_ALREADY_USED then codes "Kennung und Seriennummer sind vergeben"
    else codes "anderer Grund"

-- a cause in words: in English those of a report
abbrev pub cause_in : Language → ℕ → List ℕ
cause_in languages.English number = cause_words number
cause_in languages.German number = german_cause number

-- and its number in two hexadecimal digits
unfoldable pub cause_text : Language → ℕ → List ℕ
cause_text l number = cause_in l number ++ causes.NUMBER.now ++ encode_lower (number ∷ []) ++ causes.NUMBER_END.now
