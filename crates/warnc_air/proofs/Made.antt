-- What is made of a capture that a walk took part by part.
use Rattle.std.proofs.Common.{◌≡◌, ℕ, ◌+◌, ◌<◌, ◌≤◌, List, length, min, ap, ◌∙◌, arith, sym, Option, Some, None}
use Rattle.std.proofs.Common.{IfSome}
use Rattle.std.proofs.lemmas.List.{length-take}
use Rattle.device_ends.specs.Moves.{ReadsUpTo}
use Rattle.device_ends.proofs.EndLaws.{ReadsUpTo-take, ReadsUpTo-whole}
use Rattle.gsmtap.specs.TapesTaken.{IsWalkFor}
use Rattle.gsmtap.specs.declared.tapes.Tapes.{Tapes}
use Rattle.gsmtap.specs.declared.walk.Walk.{Walk}
use Rattle.warnc_air.specs.AllTapes.{HadMore, IsCaptureFault, ReadsWith, all_wanted}
use Rattle.warnc_air.specs.AllTapesSteps.{IsMakingFault}
use Rattle.warnc_air.specs.TapeOutput.{max_capture}
use Rattle.warnc_air.specs.WalkSteps.{WalksUpTo}
use Rattle.warnc_air.specs.declared.all.AllTapesFault.{AllTapesFault}
use Rattle.warnc_air.specs.declared.all.AllTapesFault.TheVariants as faults
use Rattle.warnc_air.specs.declared.all.AllWanted.{AllWanted}
use Rattle.warnc_air.specs.declared.cell_table.CellRow.{CellRow}

all_read : (old new : Option (List ℕ)) (octets : List ℕ) → ReadsUpTo old new octets max_capture →
    length octets ≤ max_capture → IfSome old (λ input. input ≡ octets)
all_read None new octets reads few = tt
all_read (Some left) new octets reads few = sym (ReadsUpTo-whole left new octets max_capture reads few)

-- of all octets of a reader this is so
pub reads_with : (IsSo : List ℕ → Type 0) (first last : Walk Tapes) (count : ℕ) (old new : Option (List ℕ))
    (walks : WalksUpTo IsWalkFor first last count max_capture old new) → count ≤ max_capture → IsSo walks.octets →
    ReadsWith max_capture IsSo old new
reads_with IsSo first last count old new walks few so =
    let short : length walks.octets ≤ max_capture = omega (arith, walks.many, few) in
    record {
      octets = walks.octets;
      all = all_read old new walks.octets walks.reads short;
      consumed = walks.reads.consumed;
      ended = walks.reads.ended short;
      bounded = short;
      so = so;
    }

more_read : (old new : Option (List ℕ)) (octets : List ℕ) → ReadsUpTo old new octets max_capture →
    max_capture < length octets → HadMore max_capture old
more_read None new octets reads many = tt
more_read (Some left) new octets reads many =
    let front : length octets ≡ min (max_capture + 1) (length left) =
    ap length (ReadsUpTo-take (Some left) new octets max_capture reads) ∙ length-take (max_capture + 1) left in
    omega (arith, front, many)

-- or there are too many
pub had_more : (first last : Walk Tapes) (count : ℕ) (old new : Option (List ℕ)) →
    WalksUpTo IsWalkFor first last count max_capture old new → max_capture < count → HadMore max_capture old
had_more first last count old new walks many =
    more_read old new walks.octets walks.reads (omega (arith, walks.many, many))

-- a fault of a capture's octets is one of what was read
pub making_fault : (all : AllWanted) (rows : List CellRow) (first last : Walk Tapes) (count : ℕ)
    (old new : Option (List ℕ)) (walks : WalksUpTo IsWalkFor first last count max_capture old new) →
    count ≤ max_capture → (fault : AllTapesFault) → IsMakingFault (all_wanted all rows) walks.octets fault →
    IsCaptureFault all rows old new fault
making_fault all rows first last count old new walks few faults.TableReadFailed is = absurd is
making_fault all rows first last count old new walks few faults.TableTooLong is = absurd is
making_fault all rows first last count old new walks few (faults.Table why) is = absurd is
making_fault all rows first last count old new walks few faults.ReadFailed is = absurd is
making_fault all rows first last count old new walks few faults.TooLong is = absurd is
making_fault all rows first last count old new walks few (faults.Air why) is =
    (reads_with _ first last count old new walks few is.0, is.1)
making_fault all rows first last count old new walks few (faults.NoBlock row) is =
    (is.0, reads_with _ first last count old new walks few is.1, is.2)
making_fault all rows first last count old new walks few faults.Refused is = tt
making_fault all rows first last count old new walks few faults.WriteFailed is = absurd is
