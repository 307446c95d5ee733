-- What the engine writes, and what its faults say.
use Rattle.std.proofs.Common.{◌≡◌, ℕ, Bool, true, false, List, Option, None, Some, IfSome, inl, subst, sym}
use Rattle.std.specs.Io.KnownBytes.{Appends}
use Rattle.device_ends.specs.Moves.{WritesOutput}
use Rattle.alert_book.specs.declared.judging.bounds.Extent.{Extent}
use Rattle.alert_book.specs.Extent.{bounds_of}
use Rattle.book_check.specs.Checked.{HasFaultsBy, LacksGroup}
use Rattle.book_remarks.specs.Remarked.{IsRemarkFault, IsRemarked, IsRemarkedFor, IsStopped}
use Rattle.book_remarks.specs.RemarkedSteps.{IsFaultOfRows, IsReadFault, IsStop}
use Rattle.book_remarks.specs.declared.fault.RemarkFault.{RemarkFault}
use Rattle.book_remarks.specs.declared.fault.RemarkFault.TheVariants as faults
use Rattle.slot_times.specs.declared.start.Start.{Start}

-- an output of what the reader had left was written
pub wrote : (IsOutput : List ℕ → List ℕ → Type 0) (left old new : Option (List ℕ)) (octets output : List ℕ)
    → IfSome left (λ input. input ≡ octets)
    → IsOutput octets output
    → Appends old new output
    → WritesOutput IsOutput left old new
wrote IsOutput None old new octets output same is out = record {
  of_input = tt;
  of_some = (octets, output, is, out);
}
wrote IsOutput (Some input) old new octets output same is out = record {
  of_input = (output, subst (λ (xs : List ℕ). IsOutput xs output) (sym same) is, out);
  of_some = (octets, output, is, out);
}

-- the remarks of a book, where they are none or needn't be
pub lax : (what : Extent) (slots : ℕ) (start : Option Start) (strict : Bool) (count : ℕ) (input output : List ℕ)
    → strict ≡ false
    → IsRemarked what slots start input count output
    → IsRemarkedFor what slots start strict input output
lax what slots start strict count input output is remarked =
    subst (λ (b : Bool). IsRemarkedFor what slots start b input output) (sym is) (count, remarked)

-- where there is none, it may be strict or not
pub unremarked : (what : Extent) (slots : ℕ) (start : Option Start) (strict : Bool) (input output : List ℕ)
    → IsRemarked what slots start input 0 output
    → IsRemarkedFor what slots start strict input output
unremarked what slots start false input output remarked = (0, remarked)
unremarked what slots start true input output remarked = remarked

-- why there are none
pub of_read : (what : Extent) (slots : ℕ) (start : Option Start) (strict : Bool) (left old new : Option (List ℕ))
    (why : RemarkFault)
    → IsReadFault (bounds_of what) left why
    → IsRemarkFault what slots start strict left old new why
of_read what slots start strict left old new (faults.Faults count) is = absurd is
of_read what slots start strict left old new (faults.NoGroup groups) is = absurd is
of_read what slots start strict left old new faults.TooLong is = is
of_read what slots start strict left old new faults.ReadFailed is = tt
of_read what slots start strict left old new (faults.Run f) is = absurd is
of_read what slots start strict left old new (faults.Remarks count) is = absurd is
of_read what slots start strict left old new faults.Refused is = tt
of_read what slots start strict left old new faults.WriteFailed is = absurd is

of_input : (P : List ℕ → Type 0) (left : Option (List ℕ)) (octets : List ℕ) → IfSome left (λ input. input ≡ octets)
    → P octets
    → IfSome left P
of_input P None octets same is = tt
of_input P (Some input) octets same is = subst P (sym same) is

-- nor are there any of a run that ended early
pub of_stop : (what : Extent) (slots : ℕ) (start : Option Start) (strict : Bool) (left old new : Option (List ℕ))
    (octets : List ℕ)
    (why : RemarkFault)
    → IfSome left (λ input. input ≡ octets)
    → IsStop what slots octets why
    → IsRemarkFault what slots start strict left old new why
of_stop what slots start strict left old new octets (faults.Faults count) same is = absurd is
of_stop what slots start strict left old new octets (faults.NoGroup groups) same is =
    of_input (LacksGroup what groups) left octets same is
of_stop what slots start strict left old new octets faults.TooLong same is = absurd is
of_stop what slots start strict left old new octets faults.ReadFailed same is = absurd is
of_stop what slots start strict left old new octets (faults.Run f) same is =
    of_input (λ (input : List ℕ). IsStopped what slots input f) left octets same is
of_stop what slots start strict left old new octets (faults.Remarks count) same is = absurd is
of_stop what slots start strict left old new octets faults.Refused same is = tt
of_stop what slots start strict left old new octets faults.WriteFailed same is = absurd is

-- nor of a book with faults
pub of_rows : (what : Extent) (slots : ℕ) (start : Option Start) (strict : Bool) (left old new : Option (List ℕ))
    (octets : List ℕ)
    (why : RemarkFault)
    → IfSome left (λ input. input ≡ octets)
    → IsFaultOfRows (bounds_of what) octets old new why
    → IsRemarkFault what slots start strict left old new why
of_rows what slots start strict left old new octets (faults.Faults count) same out =
    wrote (HasFaultsBy (bounds_of what) count) left old new octets out.0 same out.1 out.2
of_rows what slots start strict left old new octets (faults.NoGroup groups) same out = absurd out
of_rows what slots start strict left old new octets faults.TooLong same out = absurd out
of_rows what slots start strict left old new octets faults.ReadFailed same out = absurd out
of_rows what slots start strict left old new octets (faults.Run f) same out = absurd out
of_rows what slots start strict left old new octets (faults.Remarks count) same out = absurd out
of_rows what slots start strict left old new octets faults.Refused same out = tt
of_rows what slots start strict left old new octets faults.WriteFailed same out = inl (record {
  input = octets;
  input_is = same;
  count = out.0;
  output = out.1;
  checked = out.2;
  written = out.3;
})
