-- What was read up to one octet past the bound is the whole input, or too long as the whole input is.
use Rattle.std.proofs.Common.{◌≡◌, ℕ, ◌+◌, ◌<◌, ◌≤◌, List, length, take, arith, subst, Option, Some, None, min, ap, ◌∙◌}
use Rattle.std.proofs.Common.{IfSome}
use Rattle.std.specs.Io.KnownBytes.{Keeps}
use Rattle.std.proofs.lemmas.List.{length-take, take_all}
use Rattle.warnc_inspect.specs.PageOutput.{max_page_input, IsPageFault, IsStreamFault}
use Rattle.warnc_inspect.specs.declared.page.PageFault.{PageFault}
use Rattle.warnc_inspect.specs.declared.page.PageFault.TheVariants as fault
use Rattle.warnc_inspect.specs.declared.page.PageForm.{PageForm}

-- what was read is the whole input, if it is shorter than the bound
pub whole_input : (n : ℕ) (input read : List ℕ) → read ≡ take (n + 1) input → length read ≤ n → read ≡ input
whole_input n input read is short =
    let some : length read ≡ min (n + 1) (length input) = ap length is ∙ length-take (n + 1) input in
    is ∙ take_all (n + 1) input (omega arith)

-- a fault of what was read is one of the input
pub fault_of_whole : (form : PageForm) (language input read : List ℕ) (id serial : ℕ) (old new : Option (List ℕ))
    (fault : PageFault) → read ≡ take (max_page_input + 1) input →
    IsPageFault language read fault → Keeps old new → IsStreamFault form language id serial input old new fault
fault_of_whole form language input read id serial old new fault.ReadFailed is told kept = absurd told
fault_of_whole form language input read id serial old new fault.TooLong is told kept =
    let some : length read ≡ min (max_page_input + 1) (length input) = ap length is
    ∙ length-take (max_page_input + 1) input in
    let long : max_page_input < length read = told in
    (omega arith, kept)
fault_of_whole form language input read id serial old new fault.NotUtf8 is told kept = (
  subst (λ (xs : List ℕ). IsPageFault language xs fault.NotUtf8) (whole_input max_page_input input read is told.0)
      told,
  kept,
)
fault_of_whole form language input read id serial old new (fault.Text text_fault) is told kept = (
  subst (λ (xs : List ℕ). IsPageFault language xs (fault.Text text_fault))
      (whole_input max_page_input input read is told.0) told,
  kept,
)
fault_of_whole form language input read id serial old new fault.Refused is told kept = kept
fault_of_whole form language input read id serial old new fault.WriteFailed is told kept = absurd told

-- the same, where the reader's octets are known
pub fault_of_read : (form : PageForm) (left : Option (List ℕ)) (language read : List ℕ) (id serial : ℕ)
    (old new : Option (List ℕ)) (fault : PageFault) →
    IfSome left (λ input. read ≡ take (max_page_input + 1) input) → IsPageFault language read fault → Keeps old new →
    IfSome left (λ input. IsStreamFault form language id serial input old new fault)
fault_of_read form None language read id serial old new fault is told kept = tt
fault_of_read form (Some input) language read id serial old new fault is told kept =
    fault_of_whole form language input read id serial old new fault is told kept
