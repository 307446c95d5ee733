-- What `texts` refuses: a fault of status 1 is one of the input.
use Rattle.std.proofs.Common.{◌≡◌, ℕ, List, arith, inl, inr}
use Rattle.std.proofs.Common.{Option, None, Some, IfSome}
use Rattle.alert_book.specs.declared.judging.bounds.Extent.{Extent}
use Rattle.book_texts.specs.TextsOutput.{IsTextsFault}
use Rattle.book_texts.specs.declared.texts.TextsFault.{TextsFault}
use Rattle.book_texts.specs.declared.texts.TextsFault.TheVariants as fault
use Rattle.warnc_cli.specs.Status.{status_of_texts_fault}
use Rattle.warnc_cli.specs.Tasks.{IsNoRows}

refused_here : (what : Extent) (pages : Option ℕ) (input : List ℕ) (old new : Option (List ℕ)) (why : TextsFault)
    → IsTextsFault what pages input old new why
    → status_of_texts_fault why ≡ 1
    → IsNoRows what input
refused_here what pages input old new fault.ReadFailed told is = absurd (omega (arith, is))
refused_here what pages input old new fault.TooLong told is = inl told.0
refused_here what pages input old new (fault.Row f) told is = inr (inl (f, told.1))
refused_here what pages input old new (fault.NoGroup groups) told is = inr (inr (groups, told.1))
refused_here what pages input old new fault.Refused told is = absurd (omega (arith, is))
refused_here what pages input old new fault.WriteFailed told is = absurd (omega (arith, is))

-- a fault of `texts` with status 1 says that the input has no rows of a book
pub refused_rows : (what : Extent) (left : Option (List ℕ)) (pages : Option ℕ) (old new : Option (List ℕ))
    (why : TextsFault)
    → IfSome left (λ input. IsTextsFault what pages input old new why)
    → status_of_texts_fault why ≡ 1
    → IfSome left (IsNoRows what)
refused_rows what None pages old new why told is = tt
refused_rows what (Some input) pages old new why told is = refused_here what pages input old new why told is
