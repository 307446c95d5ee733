-- What a call from C answers that runs a book and judges tapes by it. The numbers are those of include/warnc.h, with 16
-- for tapes that differ. Own.
use Rattle.std.specs.Prelude.{◌≡◌, ◌⊎◌, ◌==◌, ℕ, ◌<◌, None, if◌then◌else◌, List, length}
use Rattle.alert_book.specs.declared.network.Origin.TheVariants as origin
use Rattle.handset.specs.Tape.{IsLong, IsShort}
use Rattle.short_pages.specs.declared.pages.Pages.{Pages as Wanted}
use Rattle.verification.specs.declared.detail.Detail.TheVariants as detail
use Rattle.verification.specs.declared.detail.TableLayout.{TableLayout}
use Rattle.verification.specs.declared.row.Row.{Row}
use Rattle.warnc_verify.specs.Verified.{HasRun, IsTableOf}
use Rattle.warnc_c.specs.Calls.{Puts}
use Rattle.warnc_c.specs.Runs.{IsNoBookAt}

-- a table without what was expected and what came, and without times
abbrev pub plain_layout : TableLayout
plain_layout = record { detail = detail.Plain; start = None }

-- the answer where a table of so many rows was put with this one: 16 if it has some and is put
abbrev pub verdict_of : (rows put : ℕ) → ℕ
verdict_of rows put = if rows == 0 then put else if put == 0 then 16 else put

-- the table of a book and of tapes, read by these pages, is given, and whether it has rows
pub record GivesVerdict (wanted : Wanted) (slots : ℕ) (book tapes : List ℕ) (number : ℕ) (old new : List ℕ)
    (written : ℕ) : Type 0
  where
    pub rows : List Row
    pub output : List ℕ
    pub is : IsTableOf origin.Book slots wanted plain_layout rows book tapes output
    pub put_as : ℕ
    pub given : Puts output put_as old new
    pub length_is : written ≡ length output
    pub number_is : number ≡ verdict_of (length rows) put_as

-- what tapes have otherwise than a book asked, or why nobody knows
abbrev pub AnswersVerdict : (wanted : Wanted) (slots : ℕ) (book tapes : List ℕ) → (number : ℕ) → (old new : List ℕ)
    → (written row : ℕ)
    → Type 0
AnswersVerdict wanted slots book tapes number old new written row =
    ((slots ≡ 0) × (number ≡ 15))
    ⊎ ((0 < slots) × GivesVerdict wanted slots book tapes number old new written)
    ⊎ ((0 < slots) × IsNoBookAt book row × (number ≡ 13))
    ⊎ ((0 < slots) × HasRun origin.Book slots book × IsShort tapes × (number ≡ 10))
    ⊎ ((0 < slots) × HasRun origin.Book slots book × IsLong tapes × (number ≡ 11))
    ⊎ (number ≡ 5)
