-- Steps of a plan (own). The contracts of private functions alone speak of them.
use Rattle.std.specs.Prelude.{◌≡◌, ℕ, List, Bool, true, false, Some}
use Rattle.csv.specs.Writing.{fields_written, has_written, text_written, writer_setup}
use Rattle.alert_book.specs.declared.judging.Verdict.{Verdict}
use Rattle.alert_book.specs.declared.judging.Verdict.TheVariants as verdict
use Rattle.plan.specs.PlanOutput.{book_writer, IsPlannedTooLong, IsPlanRowFault}
use Rattle.plan.specs.declared.book.BookText.{BookText}
use Rattle.plan.specs.declared.fault.PlanFault.{PlanFault}
use Rattle.plan.specs.declared.fault.PlanFault.TheVariants as fault

abbrev pub is_right : Verdict → Bool
is_right verdict.Right = true
is_right (verdict.Wrong found) = false
is_right (verdict.Unsendable why) = false

-- the text has these octets, and the last of its rows is ended
pub record IsText (text : BookText) (octets : List ℕ) : Type 0 where
  pub text_is : text_written (λ v. Some v.items) text.writer ≡ Some octets
  pub setup : writer_setup text.writer ≡ book_writer
  pub ended : fields_written text.writer ≡ 0
  pub clean : has_written text.writer ≡ false

-- why an input that is no book comes to none
abbrev pub IsNoPlan : (input : List ℕ) → PlanFault → Type 0
IsNoPlan input fault.ReadFailed = ⊥
IsNoPlan input fault.TooLong = IsPlannedTooLong input
IsNoPlan input (fault.Row why) = IsPlanRowFault input why
IsNoPlan input fault.Refused = Unit {0}
IsNoPlan input fault.WriteFailed = ⊥
