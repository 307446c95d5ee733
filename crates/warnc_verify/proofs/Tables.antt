-- What was found, and the table of it.
use Rattle.std.proofs.Common.{◌≡◌, ℕ, ◌<◌, List, [], ◌∷◌, Option, length, subst, arith}
use Rattle.std.specs.Io.KnownBytes.{Appends}
use Rattle.alert_book.specs.declared.network.Origin.{Origin}
use Rattle.device_ends.specs.Moves.{AppendsFront}
use Rattle.short_pages.specs.declared.pages.Pages.{Pages}
use Rattle.verification.specs.declared.detail.TableLayout.{TableLayout}
use Rattle.verification.specs.declared.row.Row.{Row}
use Rattle.warnc_verify.specs.Verified.{Readers, FindsAndWrites, IsVerifyFault}
use Rattle.warnc_verify.specs.VerifySteps.{FindsText, IsTextFault}
use Rattle.warnc_verify.specs.declared.fault.VerifyFault.{VerifyFault}
use Rattle.warnc_verify.specs.declared.fault.VerifyFault.TheVariants as faults

-- the table of the rows that were found wasn't written
pub text_fault : (from : Origin) (slots : ℕ) (pages : Pages) (layout : TableLayout) (ends : Readers)
    (old new : Option (List ℕ)) (rows : List Row) (text shown : List ℕ) (fault : VerifyFault)
    → shown ≡ text
    → FindsText from slots pages layout ends rows text
    → IsTextFault old new shown fault
    → IsVerifyFault from slots pages layout ends old new fault
text_fault from slots pages layout ends old new rows text shown (faults.Run f) is finds why = absurd why
text_fault from slots pages layout ends old new rows text shown (faults.Tapes f) is finds why = absurd why
text_fault from slots pages layout ends old new rows text shown (faults.Differences count) is finds why = absurd why
text_fault from slots pages layout ends old new rows text shown faults.Refused is finds why = absurd why
text_fault from slots pages layout ends old new rows text shown faults.WriteFailed is finds why =
    (rows, (finds.0, text, finds.1, subst (λ (octets : List ℕ). AppendsFront old new octets) is why))

-- there were none
pub none_found : (from : Origin) (slots : ℕ) (pages : Pages) (layout : TableLayout) (ends : Readers)
    (old new : Option (List ℕ)) (rows : List Row) (text shown : List ℕ)
    → shown ≡ text
    → length rows ≡ 0
    → FindsText from slots pages layout ends rows text
    → Appends old new shown
    → FindsAndWrites from slots pages layout ends old new []
none_found from slots pages layout ends old new [] text shown is none finds wrote =
    (finds.0, text, finds.1, subst (λ (octets : List ℕ). Appends old new octets) is wrote)
none_found from slots pages layout ends old new (row ∷ rows) text shown is none finds wrote = absurd
    (omega (arith, none))

-- there were some
pub some_found : (from : Origin) (slots : ℕ) (pages : Pages) (layout : TableLayout) (ends : Readers)
    (old new : Option (List ℕ)) (rows : List Row) (text shown : List ℕ) (count : ℕ)
    → shown ≡ text
    → length rows ≡ count
    → 0 < count
    → FindsText from slots pages layout ends rows text
    → Appends old new shown
    → IsVerifyFault from slots pages layout ends old new (faults.Differences count)
some_found from slots pages layout ends old new rows text shown count is many some finds wrote =
    (rows, (finds.0, text, finds.1, subst (λ (octets : List ℕ). Appends old new octets) is wrote), many, some)
