-- A law of `read` (own), over octets alone.
use Rattle.std.specs.Prelude.{◌≡◌, ℕ, List}
use Rattle.std.specs.List.{AllByRecursion}
use Rattle.handset.specs.Recording.{TapeRecording, AreRecordings}
use Rattle.short_pages.specs.Laws.{EndsNoShortPage}
use Rattle.warnc_inspect.specs.ReadOutput.{IsReadOutput}
use Rattle.short_pages.specs.declared.pages.Pages.TheVariants.{OfAny, OfFour}

-- no block of a tape is the last of a page of one to three blocks
abbrev pub HasNoShortPage : TapeRecording → Type 0
HasNoShortPage tape = AllByRecursion EndsNoShortPage tape.blocks

-- of tapes without such a page the same table is written, whichever pages are wanted
abbrev pub WithoutShortPagesOneTable : Type 0
WithoutShortPagesOneTable = (input four any : List ℕ) (tapes : List TapeRecording) → AreRecordings input tapes
    → AllByRecursion HasNoShortPage tapes
    → IsReadOutput OfFour input four
    → IsReadOutput OfAny input any
    → four ≡ any
