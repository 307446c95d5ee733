-- What is so of a book and of tapes whoever judges them. Own.
use Rattle.std.specs.Prelude.{◌≡◌, ℕ, ◌≤◌, List}
use Rattle.alert_book.specs.declared.network.Origin.{Origin}
use Rattle.short_pages.specs.declared.pages.Pages.{Pages}
use Rattle.short_pages.specs.declared.pages.Pages.TheVariants.{OfFour}
use Rattle.verification.specs.Table.{empty_table}
use Rattle.verification.specs.declared.detail.TableLayout.{TableLayout}
use Rattle.verification.specs.declared.row.Row.{Row}
use Rattle.warnc_run.specs.Products.{IsCompiledFrom}
use Rattle.warnc_verify.specs.Verified.{HasDifferences, IsTableOf, IsVerified}

-- the differences of tapes from a book are one list of rows, however they are laid out, and one table
abbrev pub VerifiedIsOne : Type 0
VerifiedIsOne = (from : Origin) (slots : ℕ) (pages : Pages) (layout : TableLayout) (rows others : List Row)
    (book tapes output other : List ℕ)
    → IsTableOf from slots pages layout rows book tapes output
    → IsTableOf from slots pages layout others book tapes other
    → (rows ≡ others) × (output ≡ other)

-- so tapes that a book verifies have no difference from it, with any layout
abbrev pub VerdictsExclude : Type 0
VerdictsExclude = (from : Origin) (slots : ℕ) (pages : Pages) (layout other_layout : TableLayout)
    (book tapes output other : List ℕ)
    → IsVerified from slots pages layout book tapes output
    → HasDifferences from slots pages other_layout book tapes other
    → ⊥

-- the tapes that are compiled of a book have no difference from it: the table has the names of its columns alone
abbrev pub CompiledDiffersNowhere : Type 0
CompiledDiffersNowhere = (from : Origin) (slots : ℕ) (layout : TableLayout) (book tapes : List ℕ)
    → slots ≤ 65535
    → IsCompiledFrom from slots book tapes
    → IsVerified from slots OfFour layout book tapes (empty_table layout)
