-- What was read up to one octet past the bound is the whole book, or too long as the whole input is.
use Rattle.std.proofs.Common.{◌≡◌, ℕ, ◌+◌, ◌<◌, ◌≤◌, List, length, take, min, arith, subst, Option, Some, None, ap}
use Rattle.std.proofs.Common.{◌∙◌, IfSome}
use Rattle.std.specs.Io.KnownBytes.{Keeps}
use Rattle.std.proofs.lemmas.List.{length-take, take_all}
use Rattle.alert_book.specs.Extent.{bounds_of, most_octets}
use Rattle.alert_book.specs.declared.judging.bounds.Extent.{Extent}
use Rattle.book_texts.specs.TextsOutput.{IsTextsFault}
use Rattle.book_texts.specs.TextsSteps.{IsNoTable}
use Rattle.book_texts.specs.declared.texts.TextsFault.{TextsFault}
use Rattle.book_texts.specs.declared.texts.TextsFault.TheVariants as fault

-- what was read is the whole input, if it is no longer than the bound
pub whole_input : (most : ℕ) (input read : List ℕ) → read ≡ take (most + 1) input → length read ≤ most → read ≡ input
whole_input most input read is short =
    let some : length read ≡ min (most + 1) (length input) = ap length is ∙ length-take (most + 1) input in
    is ∙ take_all (most + 1) input (omega (arith, some, short))

-- one octet past the bound was read
pub too_long : (what : Extent) (pages : Option ℕ) (left : Option (List ℕ)) (most : ℕ) (read : List ℕ)
    (old new : Option (List ℕ))
    → most ≡ most_octets (bounds_of what)
    → IfSome left (λ input. read ≡ take (most + 1) input)
    → most < length read
    → Keeps old new
    → IfSome left (λ input. IsTextsFault what pages input old new fault.TooLong)
too_long what pages None most read old new bound is many kept = tt
too_long what pages (Some input) most read old new bound is many kept =
    let some : length read ≡ min (most + 1) (length input) = ap length is ∙ length-take (most + 1) input in
    (subst (λ n. n < length input) bound (omega (arith, some, many)), kept)

-- it is a fault of the whole input
pub fault_of_read : (what : Extent) (pages : Option ℕ) (left : Option (List ℕ)) (most : ℕ) (read given : List ℕ)
    (old new : Option (List ℕ)) (f : TextsFault)
    → most ≡ most_octets (bounds_of what)
    → IfSome left (λ input. read ≡ take (most + 1) input)
    → given ≡ read
    → length read ≤ most
    → IsNoTable what given f
    → Keeps old new
    → IfSome left (λ input. IsTextsFault what pages input old new f)
fault_of_read what pages None most read given old new f bound is same short why kept = tt
fault_of_read what pages (Some input) most read given old new f bound is same short why kept =
    let whole : read ≡ input = whole_input most input read is short in
    by_fault f (subst (λ (xs : List ℕ). IsNoTable what xs f) (same ∙ whole) why)
    (subst (λ n. length input ≤ n) bound (subst (λ (xs : List ℕ). length xs ≤ most) whole short))
  where
    by_fault : (f : TextsFault) → IsNoTable what input f → length input ≤ most_octets (bounds_of what)
        → IsTextsFault what pages input old new f
    by_fault fault.ReadFailed why few = absurd why
    by_fault fault.TooLong why few = absurd why
    by_fault (fault.Row b) why few = (few, why, kept)
    by_fault (fault.NoGroup groups) why few = (few, why, kept)
    by_fault fault.Refused why few = kept
    by_fault fault.WriteFailed why few = absurd why
