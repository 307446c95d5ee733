-- What the table of texts is of a book, of a network book or of a group. Own.
use Rattle.std.specs.Prelude.{◌≡◌, ℕ, List, Option}
use Rattle.alert_book.specs.Extent.{IsRowFaultFor}
use Rattle.alert_book.specs.declared.fault.BookFault.{BookFault}
use Rattle.alert_book.specs.declared.judging.bounds.Extent.{Extent}
use Rattle.book_texts.specs.TextsOutput.{IsTextsOutput}

-- the table of octets is one
abbrev pub TablesAreOne : Type 0
TablesAreOne = (what : Extent) (pages : Option ℕ) (input output another : List ℕ)
    → IsTextsOutput what pages input output → IsTextsOutput what pages input another → output ≡ another

-- and where a row has a fault there is none
abbrev pub TablesHaveRightRows : Type 0
TablesHaveRightRows = (what : Extent) (pages : Option ℕ) (input output : List ℕ) (f : BookFault)
    → IsTextsOutput what pages input output → IsRowFaultFor what input f → ⊥
