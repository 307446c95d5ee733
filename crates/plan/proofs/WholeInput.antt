-- What was read up to one octet past the bound is the whole input, or too long as the whole input is.
use Rattle.std.proofs.Common.{◌≡◌, ℕ, ◌+◌, ◌<◌, ◌≤◌, List, length, take, arith, subst, Option, Some, None, min, ap}
use Rattle.std.proofs.Common.{◌∙◌, IfSome, inl, inr}
use Rattle.std.specs.Io.KnownBytes.{Appends, Keeps}
use Rattle.std.proofs.lemmas.List.{length-take, take_all}
use Rattle.device_ends.specs.Moves.{AppendsFront, WritesOutput}
use Rattle.alert_book.specs.Book.{max_book}
use Rattle.plan.specs.PlanOutput.{IsPlanFault, IsPlanOutput}
use Rattle.plan.specs.PlanSteps.{IsNoPlan}
use Rattle.plan.specs.declared.fault.PlanFault.{PlanFault}
use Rattle.plan.specs.declared.fault.PlanFault.TheVariants as fault

-- what was read is the whole input, if it is shorter than the bound
whole_input : (n : ℕ) (input read : List ℕ) → read ≡ take (n + 1) input → length read ≤ n → read ≡ input
whole_input n input read is short =
    let some : length read ≡ min (n + 1) (length input) = ap length is ∙ length-take (n + 1) input in
    is ∙ take_all (n + 1) input (omega arith)

-- why the input comes to no book
fault_of_whole : (input : List ℕ) (old new : Option (List ℕ)) (f : PlanFault) → length input ≤ max_book
    → IsNoPlan input f → Keeps old new → IsPlanFault input old new f
fault_of_whole input old new fault.ReadFailed short is kept = kept
fault_of_whole input old new fault.TooLong short is kept = (inr is, kept)
fault_of_whole input old new (fault.Row why) short is kept = (short, is, kept)
fault_of_whole input old new fault.Refused short is kept = kept
fault_of_whole input old new fault.WriteFailed short is kept = absurd is

-- the same, where the reader's octets are known
pub fault_of_read : (left : Option (List ℕ)) (read : List ℕ) (old new : Option (List ℕ)) (f : PlanFault)
    → IfSome left (λ input. read ≡ take (max_book + 1) input) → length read ≤ max_book → IsNoPlan read f → Keeps old new
    → IfSome left (λ input. IsPlanFault input old new f)
fault_of_read None read old new f is short told kept = tt
fault_of_read (Some input) read old new f is short told kept =
    let same = whole_input max_book input read is short in
    fault_of_whole input old new f (subst (λ (xs : List ℕ). length xs ≤ max_book) same short)
    (subst (λ (xs : List ℕ). IsNoPlan xs f) same told) kept

-- one octet past the bound was read
pub too_long : (left : Option (List ℕ)) (read : List ℕ) (old new : Option (List ℕ))
    → IfSome left (λ input. read ≡ take (max_book + 1) input) → max_book < length read → Keeps old new
    → IfSome left (λ input. IsPlanFault input old new fault.TooLong)
too_long None read old new is many kept = tt
too_long (Some input) read old new is many kept =
    let some : length read ≡ min (max_book + 1) (length input) = ap length is ∙ length-take (max_book + 1) input in
    let long : max_book < length input = omega (arith, some, many) in
    (inl long, kept)

-- the output is out
pub output_out : (left : Option (List ℕ)) (read output : List ℕ) (old new : Option (List ℕ))
    → IfSome left (λ input. read ≡ take (max_book + 1) input) → length read ≤ max_book → IsPlanOutput read output
    → Appends old new output → WritesOutput IsPlanOutput left old new
output_out None read output old new is short made out = record {
  of_input = tt;
  of_some = (read, output, made, out);
}
output_out (Some input) read output old new is short made out = record {
  of_input = (
    output,
    subst (λ (xs : List ℕ). IsPlanOutput xs output) (whole_input max_book input read is short) made,
    out,
  );
  of_some = (read, output, made, out);
}

-- a front of it is out
pub front_out : (left : Option (List ℕ)) (read output : List ℕ) (old new : Option (List ℕ))
    → IfSome left (λ input. read ≡ take (max_book + 1) input) → length read ≤ max_book → IsPlanOutput read output
    → AppendsFront old new output → IfSome left (λ input. IsPlanFault input old new fault.WriteFailed)
front_out None read output old new is short made out = tt
front_out (Some input) read output old new is short made out = (
  output,
  subst (λ (xs : List ℕ). IsPlanOutput xs output) (whole_input max_book input read is short) made,
  out,
)
