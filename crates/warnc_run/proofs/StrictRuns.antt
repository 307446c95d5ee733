-- What a run writes if every order was done, and why it doesn't.
use Rattle.std.proofs.Common.{◌≡◌, ◌≤◌, ◌∙◌, ℕ, List, length, map, All, Option, ap, refl, subst, sym, true}
use Rattle.std.proofs.lemmas.List.Elements.{All-map}
use native.Mathlib.Omega.{arith}
use Rattle.std.specs.Io.KnownBytes.{Keeps}
use Rattle.alert_book.specs.declared.network.Origin.{Origin}
use Rattle.alert_book.specs.Book.{Contents}
use Rattle.alert_book.specs.Origin.{IsBookFrom}
use Rattle.asked_orders.specs.declared.lacks.Lacks.{Lacks}
use Rattle.bsc_table.specs.Promised.{LegalHistoriesAreServed}
use Rattle.bsc_table.specs.Record.{Record}
use Rattle.book_runs.specs.LiveLaws.{LiveRunsAcceptWhatWasOrdered, LiveRunsShowTheBook}
use Rattle.cbch_blocks.specs.RecordBlocks.{tape_of_record}
use Rattle.cbsp_wire.specs.Range.{cells_are_valid}
use Rattle.warnc_run.specs.declared.fault.RunFault.{RunFault}
use Rattle.warnc_run.specs.declared.fault.RunFault.TheVariants as run
use Rattle.warnc_run.specs.declared.product.Product.{Product}
use Rattle.warnc_run.specs.declared.product.Product.TheVariants as product
use Rattle.warnc_run.specs.declared.product.ProductFault.{ProductFault}
use Rattle.warnc_run.specs.declared.product.ProductFault.TheVariants as fault
use Rattle.warnc_run.specs.declared.strict.StrictFault.{StrictFault}
use Rattle.warnc_run.specs.declared.strict.StrictFault.TheVariants as strict
use Rattle.warnc_run.specs.Engine.{IsOfWriter}
use Rattle.warnc_run.specs.Faults.{HasReadFrom, IsOfBook, IsOfProduct, IsOfRun}
use Rattle.warnc_run.specs.Made.{tape_size}
use Rattle.warnc_run.specs.Products.{octets_of}
use Rattle.warnc_run.specs.RunSteps.{HaveRunLive, HasNoBookToRun, TakesFront}
use Rattle.warnc_run.specs.Strict.{IsStrictFault, IsStrictOutput, HasLacks}
use Rattle.warnc_run.specs.StrictSteps.{AreDone, GiveTapes, HasUndone, IsNotDone, StopsAtProduct}
use Rattle.warnc_run.proofs.Readings.{run_has_tapes}
use Rattle.warnc_run.proofs.Written.{fault_of_reading, fault_of_run, front_taken, joined, joined_tapes, of_any_product}
use Rattle.warnc_run.proofs.Written.{of_no_product, records_are_few, records_have_own_size, records_have_size}
use Rattle.warnc_run.proofs.Written.{run_of_book}

-- the records of a run give tapes
pub give_tapes : LiveRunsShowTheBook → (from : Origin) (input : List ℕ) (book : Contents) (slots parts : ℕ)
    (records shown : List Record)
    → slots ≤ 65535
    → IsBookFrom from input book
    → cells_are_valid book.cells ≡ true
    → HaveRunLive book slots parts records
    → shown ≡ records
    → GiveTapes slots shown
give_tapes law from input book slots parts records shown few is_book valid live is = record {
  few = records_are_few book.cells records shown valid live.run.cells is;
  tapes = run_has_tapes law from input book slots parts records shown few is_book live is;
  sized = records_have_size law from input book slots parts records shown few is_book live is;
  own = records_have_own_size law from input book slots parts records shown few is_book live is;
}

-- what is made of a run in which every order was done
pub strict_output : LiveRunsShowTheBook → LiveRunsAcceptWhatWasOrdered → LegalHistoriesAreServed
    → (made : Product) (from : Origin) (input : List ℕ) (book : Contents) (slots parts : ℕ) (records : List Record)
    (octets : List ℕ)
    → slots ≤ 65535
    → IsBookFrom from input book
    → AreDone book slots parts records
    → octets ≡ octets_of made from slots book.orders records
    → IsStrictOutput made from slots parts input octets
unfolding run_of_book
strict_output law orders keeps made from input book slots parts records octets few is_book are is = record {
  is_output = record {
    records = records;
    run = run_of_book law orders keeps from input book slots parts records few is_book are.live;
    written = is;
  };
  done = are.done;
}

-- orders of a run that weren't done
has_lacks : LiveRunsShowTheBook → LiveRunsAcceptWhatWasOrdered → LegalHistoriesAreServed
    → (from : Origin) (slots parts : ℕ) (first last : Option (List ℕ)) (book : Contents) (lacks : Lacks)
    → slots ≤ 65535
    → (read : HasReadFrom from first last)
    → read.book ≡ book
    → HasUndone book slots parts lacks
    → HasLacks from slots parts lacks first last
unfolding run_of_book
has_lacks law orders keeps from slots parts first last book lacks few read is undone = record {
  input = read.input;
  read = read.read;
  ended = read.ended;
  records = undone.records;
  run = run_of_book law orders keeps from read.input book slots parts undone.records few
      (subst (IsBookFrom from read.input) is read.is_book) undone.live;
  counted = undone.counted;
  some = undone.some;
}

-- why there is no run in which every order was done, with nothing written
pub fault_of_records : LiveRunsShowTheBook → LiveRunsAcceptWhatWasOrdered → LegalHistoriesAreServed
    → (made : Product) (from : Origin) (slots parts : ℕ) (first last old new : Option (List ℕ)) (book : Contents)
    (f : StrictFault)
    → slots ≤ 65535
    → (read : HasReadFrom from first last)
    → read.book ≡ book
    → IsNotDone book slots parts f
    → Keeps old new
    → IsStrictFault made from slots parts first last old new f
fault_of_records law orders keeps made from slots parts first last old new book (strict.Product (fault.Run f)) few read
    is why kept =
    let other = of_any_product book slots parts made f why in (
      other.0,
      fault_of_run from slots parts (IsStrictOutput made from slots parts) first last old new book f read is other.1
          kept,
    )
fault_of_records law orders keeps made from slots parts first last old new book (strict.Product (fault.Group group f))
    few read is why kept =
    absurd why
fault_of_records law orders keeps made from slots parts first last old new book (strict.Product fault.WriteFailed) few
    read is why kept =
    absurd why
fault_of_records law orders keeps made from slots parts first last old new book (strict.Undone refused idle) few read
    is why kept =
    let lacks : Lacks = record { refused = refused; idle = idle } in
    (has_lacks law orders keeps from slots parts first last book lacks few read is why, kept)

-- why there is no book, with nothing written
pub fault_of_book : (made : Product) (from : Origin) (slots parts : ℕ) (first last old new : Option (List ℕ))
    (f : RunFault)
    → HasNoBookToRun from first last f
    → Keeps old new
    → IsStrictFault made from slots parts first last old new (strict.Product (fault.Run f))
fault_of_book made from slots parts first last old new f is kept = (
  of_no_product from first last made f is,
  fault_of_reading from slots parts (IsStrictOutput made from slots parts) first last old new f is kept,
)

-- a fault of threads is one of a book's run
of_book : (book : Contents) (slots parts : ℕ) (f : RunFault) → IsOfRun f → IsOfBook book slots parts f
of_book book slots parts (run.Book f) is = is
of_book book slots parts (run.NoGroup groups) is = is
of_book book slots parts (run.Desk f) is = is
of_book book slots parts (run.Settle f) is = absurd is
of_book book slots parts (run.Compile f) is = is
of_book book slots parts (run.Write failed) is = is
of_book book slots parts run.Refused is = is

-- why what is made of such a run isn't all written
pub fault_of_product : LiveRunsShowTheBook → LiveRunsAcceptWhatWasOrdered → LegalHistoriesAreServed
    → (made : Product) (from : Origin) (slots parts : ℕ) (first last old new : Option (List ℕ)) (book : Contents)
    (records shown : List Record) (f : ProductFault)
    → slots ≤ 65535
    → (read : HasReadFrom from first last)
    → read.book ≡ book
    → AreDone book slots parts records
    → shown ≡ records
    → GiveTapes slots shown
    → StopsAtProduct made from slots book.orders shown old new f
    → ((IsOfWriter f → ⊥) → Keeps old new)
    → IsStrictFault made from slots parts first last old new (strict.Product f)
fault_of_product law orders keeps made from slots parts first last old new book records shown f few read is are same
    give why kept =
    by_fault f why kept
  where
    is_book : IsBookFrom from read.input book
    is_book = subst (IsBookFrom from read.input) is read.is_book

    done : AreDone book slots parts shown
    done = subst (AreDone book slots parts) (sym same) are

    output : IsStrictOutput made from slots parts read.input (octets_of made from slots book.orders shown)
    output = strict_output law orders keeps made from read.input book slots parts shown _ few is_book done refl

    of_run : (f : RunFault) → IsOfRun f → Keeps old new
        → IsStrictFault made from slots parts first last old new (strict.Product (fault.Run f))
    of_run f why kept =
        fault_of_records law orders keeps made from slots parts first last old new book (strict.Product (fault.Run f))
        few read is (of_book book slots parts f why) kept

    of_tapes : (written : ℕ) → made ≡ product.Tapes
        → TakesFront (map tape_of_record shown) written old new
        → IsStrictFault made from slots parts first last old new
        (strict.Product (fault.Run (run.Write (record { written = written }))))
    of_tapes written tapes front =
        let sizes : All (λ tape. length tape ≡ tape_size slots) (map tape_of_record shown) =
        All-map (λ (tape : List ℕ). length tape ≡ tape_size slots) tape_of_record shown give.sized in
        let all = map tape_of_record shown in
        let taken = front_taken (tape_size slots) all written old new (omega arith) sizes front in
        let octets : joined (map tape_of_record shown) ≡ octets_of made from slots book.orders shown =
        joined_tapes shown ∙ ap (λ (m : Product). octets_of m from slots book.orders shown) (sym tapes) in (
          subst (λ (m : Product). IsOfProduct (run.Write (record { written = written })) m) (sym tapes) tt,
          record {
            input = read.input;
            output = joined (map tape_of_record shown);
            read = read.read;
            ended = read.ended;
            meant = subst (IsStrictOutput made from slots parts read.input) (sym octets) output;
            whole = taken.whole;
            under_way = taken.under_way;
            some_left = taken.some_left;
            front = taken.front;
          },
        )

    by_fault : (f : ProductFault) → StopsAtProduct made from slots book.orders shown old new f
        → ((IsOfWriter f → ⊥) → Keeps old new)
        → IsStrictFault made from slots parts first last old new (strict.Product f)
    by_fault (fault.Run (run.Write failed)) why kept = of_tapes failed.written why.0 why.1
    by_fault (fault.Run (run.Book f)) why kept = absurd why
    by_fault (fault.Run (run.NoGroup groups)) why kept = absurd why
    by_fault (fault.Run (run.Desk f)) why kept = of_run (run.Desk f) why (kept (λ writer. writer))
    by_fault (fault.Run (run.Settle f)) why kept = absurd why
    by_fault (fault.Run (run.Compile f)) why kept = of_run (run.Compile f) why (kept (λ writer. writer))
    by_fault (fault.Run run.Refused) why kept = of_run run.Refused why (kept (λ writer. writer))
    by_fault (fault.Group group f) why kept = absurd why
    by_fault fault.WriteFailed why kept = (
      why.0,
      record {
        input = read.input;
        output = octets_of made from slots book.orders shown;
        read = read.read;
        ended = read.ended;
        meant = output;
        front = why.1;
      },
    )
