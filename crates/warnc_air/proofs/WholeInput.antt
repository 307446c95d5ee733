-- What was read up to one octet past the bound is the whole input, or too long as the whole input is.
use Rattle.std.proofs.Common.{◌≡◌, ◌≢◌, ℕ, ◌+◌, ◌<◌, ◌≤◌, List, length, take, arith, subst, Option, Some, None, min, ap}
use Rattle.std.proofs.Common.{◌∙◌}
use Rattle.std.proofs.Common.{IfSome}
use Rattle.std.specs.Io.KnownBytes.{Appends, Keeps}
use Rattle.std.proofs.lemmas.List.{length-take, take_all}
use Rattle.device_ends.specs.Moves.{AppendsFront, WritesOutput}
use Rattle.gsmtap.specs.declared.fault.AirFault.{AirFault}
use Rattle.gsmtap.specs.declared.fault.AirFaultKind.{AirFaultKind}
use Rattle.gsmtap.specs.declared.fault.AirFaultKind.TheVariants as kind
use Rattle.warnc_air.specs.TapeOutput.{IsCaptureFaultBy, fault_of_kind, max_capture}
use Rattle.warnc_air.specs.declared.tape.TapeCommandFault.TheVariants as fault

-- what was read is the whole input, if it is shorter than the bound
pub whole_input : (n : ℕ) (input read : List ℕ) → read ≡ take (n + 1) input → length read ≤ n → read ≡ input
whole_input n input read is short =
    let some : length read ≡ min (n + 1) (length input) = ap length is ∙ length-take (n + 1) input in
    is ∙ take_all (n + 1) input (omega arith)

-- a fault of the file
fault_of_packet : (IsAir : List ℕ → AirFault → Type 0) (IsOutput : List ℕ → List ℕ → Type 0) (input read : List ℕ)
    (old new : Option (List ℕ)) (why : AirFault) → read ≡ input → length read ≤ max_capture → IsAir read why →
    Keeps old new → (why.kind ≢ kind.Refused) → IsCaptureFaultBy IsAir IsOutput input old new (fault.Air why)
fault_of_packet IsAir IsOutput input read old new why is short told kept other = (
  subst (λ (xs : List ℕ). length xs ≤ max_capture) is short,
  subst (λ (xs : List ℕ). IsAir xs why) is told,
  other,
  kept,
)

fault_of_whole : (IsAir : List ℕ → AirFault → Type 0) (IsOutput : List ℕ → List ℕ → Type 0) (input read : List ℕ)
    (old new : Option (List ℕ)) (packet : ℕ) (why : AirFaultKind) → read ≡ input → length read ≤ max_capture →
    IsAir read (record { packet = packet; kind = why }) → Keeps old new →
    IsCaptureFaultBy IsAir IsOutput input old new (fault_of_kind (record { packet = packet; kind = why }) why)
fault_of_whole IsAir IsOutput input read old new packet kind.NoCapture is short told kept =
    fault_of_packet IsAir IsOutput input read old new _ is short told kept (λ e. cc)
fault_of_whole IsAir IsOutput input read old new packet (kind.OtherLink number) is short told kept =
    fault_of_packet IsAir IsOutput input read old new _ is short told kept (λ e. cc)
fault_of_whole IsAir IsOutput input read old new packet kind.Short is short told kept =
    fault_of_packet IsAir IsOutput input read old new _ is short told kept (λ e. cc)
fault_of_whole IsAir IsOutput input read old new packet kind.WrongBlock is short told kept =
    fault_of_packet IsAir IsOutput input read old new _ is short told kept (λ e. cc)
fault_of_whole IsAir IsOutput input read old new packet kind.Differs is short told kept =
    fault_of_packet IsAir IsOutput input read old new _ is short told kept (λ e. cc)
fault_of_whole IsAir IsOutput input read old new packet kind.StepsBack is short told kept =
    fault_of_packet IsAir IsOutput input read old new _ is short told kept (λ e. cc)
fault_of_whole IsAir IsOutput input read old new packet kind.NoBlock is short told kept =
    fault_of_packet IsAir IsOutput input read old new _ is short told kept (λ e. cc)
fault_of_whole IsAir IsOutput input read old new packet kind.Refused is short told kept = kept

-- the same, where the reader's octets are known
pub fault_of_read : (IsAir : List ℕ → AirFault → Type 0) (IsOutput : List ℕ → List ℕ → Type 0)
    (left : Option (List ℕ)) (read : List ℕ) (old new : Option (List ℕ)) (why : AirFault) →
    IfSome left (λ input. read ≡ take (max_capture + 1) input) → length read ≤ max_capture → IsAir read why →
    Keeps old new → IfSome left (λ input. IsCaptureFaultBy IsAir IsOutput input old new (fault_of_kind why why.kind))
fault_of_read IsAir IsOutput None read old new why is short told kept = tt
fault_of_read IsAir IsOutput (Some input) read old new why is short told kept =
    fault_of_whole IsAir IsOutput input read old new why.packet why.kind (whole_input max_capture input read is short)
    short told kept

-- one octet past the bound was read
pub too_long : (IsAir : List ℕ → AirFault → Type 0) (IsOutput : List ℕ → List ℕ → Type 0) (left : Option (List ℕ))
    (read : List ℕ) (old new : Option (List ℕ)) → IfSome left (λ input. read ≡ take (max_capture + 1) input) →
    max_capture < length read → Keeps old new →
    IfSome left (λ input. IsCaptureFaultBy IsAir IsOutput input old new fault.TooLong)
too_long IsAir IsOutput None read old new is many kept = tt
too_long IsAir IsOutput (Some input) read old new is many kept =
    let some : length read ≡ min (max_capture + 1) (length input) = ap length is
    ∙ length-take (max_capture + 1) input in
    (omega arith, kept)

-- the output is out
pub output_out : (IsOutput : List ℕ → List ℕ → Type 0) (left : Option (List ℕ)) (read output : List ℕ)
    (old new : Option (List ℕ)) → IfSome left (λ input. read ≡ take (max_capture + 1) input) →
    length read ≤ max_capture → IsOutput read output → Appends old new output → WritesOutput IsOutput left old new
output_out IsOutput None read output old new is short made out = record {
  of_input = tt;
  of_some = (read, output, made, out);
}
output_out IsOutput (Some input) read output old new is short made out = record {
  of_input = (
    output,
    subst (λ (xs : List ℕ). IsOutput xs output) (whole_input max_capture input read is short) made,
    out,
  );
  of_some = (read, output, made, out);
}

-- a front of it is out
pub front_out : (IsAir : List ℕ → AirFault → Type 0) (IsOutput : List ℕ → List ℕ → Type 0) (left : Option (List ℕ))
    (read output : List ℕ) (old new : Option (List ℕ)) → IfSome left (λ input. read ≡ take (max_capture + 1) input) →
    length read ≤ max_capture → IsOutput read output → AppendsFront old new output →
    IfSome left (λ input. IsCaptureFaultBy IsAir IsOutput input old new fault.WriteFailed)
front_out IsAir IsOutput None read output old new is short made out = tt
front_out IsAir IsOutput (Some input) read output old new is short made out = (
  output,
  subst (λ (xs : List ℕ). IsOutput xs output) (whole_input max_capture input read is short) made,
  out,
)

-- there was no memory for the output
pub refused : (IsAir : List ℕ → AirFault → Type 0) (IsOutput : List ℕ → List ℕ → Type 0) (left : Option (List ℕ))
    (old new : Option (List ℕ)) → Keeps old new →
    IfSome left (λ input. IsCaptureFaultBy IsAir IsOutput input old new fault.Refused)
refused IsAir IsOutput None old new kept = tt
refused IsAir IsOutput (Some input) old new kept = kept
