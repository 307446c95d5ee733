-- What `tape` and `cells` write and refuse: a tape has its header at least, a table the columns' names, and a fault of
-- status 1 is one of the input.
use Rattle.std.proofs.Common.{◌≡◌, ℕ, ◌/◌, ◌%◌, ◌<◌, ◌∷◌, ◌++◌, List, length, sym, subst, arith, inl, inr}
use Rattle.std.proofs.Common.{Option, None, Some, IfSome, codes}
use Rattle.std.specs.List.{flat_map}
use Rattle.cbsp_wire.specs.declared.message.Cell.{Cell}
use Rattle.handset.specs.Tape.{octets_of_blocks, tape_octets}
use Rattle.gsmtap.specs.TapeOfCapture.{IsTapeOfCapture, blocks_before, blocks_in, blocks_on_tape, slots_on_tape}
use Rattle.gsmtap.specs.declared.tape.Wanted.{Wanted}
use Rattle.warnc_air.specs.TapeOutput.{IsCellsFault, IsCellsOutput, IsTapeCommandFault, row_text}
use Rattle.warnc_air.specs.declared.tape.TapeCommandFault.{TapeCommandFault}
use Rattle.warnc_air.specs.declared.tape.TapeCommandFault.TheVariants as fault
use Rattle.warnc_cli.specs.Status.{status_of_tape_fault}
use Rattle.warnc_cli.specs.Tasks.{IsNoAir, IsNoHeard}

longer : (x : ℕ) (xs : List ℕ) → 0 < length (x ∷ xs)
longer x xs = omega arith

some_octets : (cell : Cell) (slots : ℕ) (blocks : List (List ℕ)) → 0 < length (tape_octets cell slots blocks)
some_octets cell slots blocks =
    longer (cell.lac / 256)
    ((cell.lac % 256) ∷ (cell.ci / 256) ∷ (cell.ci % 256) ∷ (slots / 16777216) ∷ (slots / 65536 % 256)
    ∷ (slots / 256 % 256) ∷ (slots % 256) ∷ octets_of_blocks blocks)

-- the tape of a capture is never empty: it has a header
pub some_tape : (wanted : Wanted) (input output : List ℕ) → IsTapeOfCapture wanted input output → 0 < length output
some_tape wanted input output is =
    subst (λ (octets : List ℕ). 0 < length octets) (sym is.written)
    (some_octets wanted.cell (slots_on_tape wanted.slots wanted.first_slot is.known.blocks)
    (blocks_in (blocks_before wanted ++ blocks_on_tape wanted.slots is.known.blocks)))

-- the table of senders is never empty: it has the columns' names
pub some_senders : (input output : List ℕ) → IsCellsOutput input output → 0 < length output
some_senders input output is =
    subst (λ (octets : List ℕ). 0 < length octets) (sym is.2)
    (longer 115
    (codes "ource,arfcn,channel,blocks,first,last,slots,pages,identifiers,first_time,last_time\n"
    ++ flat_map row_text is.0))

refused_here : (wanted : Wanted) (input : List ℕ) (old new : Option (List ℕ)) (why : TapeCommandFault) →
    IsTapeCommandFault wanted input old new why → status_of_tape_fault why ≡ 1 → IsNoAir wanted input
refused_here wanted input old new fault.ReadFailed told is = absurd (omega (arith, is))
refused_here wanted input old new fault.TooLong told is = inl told.0
refused_here wanted input old new (fault.Air why) told is = inr (why, told.1)
refused_here wanted input old new fault.Refused told is = absurd (omega (arith, is))
refused_here wanted input old new fault.WriteFailed told is = absurd (omega (arith, is))

-- a fault of `tape` with status 1 says that the capture has no such tape
pub refused_air : (left : Option (List ℕ)) (wanted : Wanted) (old new : Option (List ℕ)) (why : TapeCommandFault) →
    IfSome left (λ input. IsTapeCommandFault wanted input old new why) → status_of_tape_fault why ≡ 1 →
    IfSome left (IsNoAir wanted)
refused_air None wanted old new why told is = tt
refused_air (Some input) wanted old new why told is = refused_here wanted input old new why told is

not_heard : (input : List ℕ) (old new : Option (List ℕ)) (why : TapeCommandFault) → IsCellsFault input old new why →
    status_of_tape_fault why ≡ 1 → IsNoHeard input
not_heard input old new fault.ReadFailed told is = absurd (omega (arith, is))
not_heard input old new fault.TooLong told is = inl told.0
not_heard input old new (fault.Air why) told is = inr (why, told.1)
not_heard input old new fault.Refused told is = absurd (omega (arith, is))
not_heard input old new fault.WriteFailed told is = absurd (omega (arith, is))

-- a fault of `cells` with status 1 says that the input is no capture
pub refused_senders : (left old new : Option (List ℕ)) (why : TapeCommandFault) →
    IfSome left (λ input. IsCellsFault input old new why) → status_of_tape_fault why ≡ 1 → IfSome left IsNoHeard
refused_senders None old new why told is = tt
refused_senders (Some input) old new why told is = not_heard input old new why told is
