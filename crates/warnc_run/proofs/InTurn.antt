-- What is made of records one after the other, in one thread.
use Rattle.std.proofs.Common.{◌≡◌, ℕ, ◌+◌, ◌<◌, ◌≤◌, List, [], ◌∷◌, length}
use Rattle.std.proofs.Common.{◌++◌, ◌∙◌, All, ap, get_or, map, subst, sym, take}
use Rattle.std.proofs.lemmas.Grind.{flat_map-append}
use Rattle.std.proofs.lemmas.List.{append-nil, map-append, take_more}
use Rattle.std.specs.List.{flat_map}
use Rattle.alert_book.specs.declared.book.order.Order.{Order}
use Rattle.alert_book.specs.declared.network.Origin.TheVariants as origin
use Rattle.alert_book.specs.Book.{Contents, IsBook}
use Rattle.book_runs.specs.LiveLaws.{LiveRunsAcceptWhatWasOrdered, LiveRunsShowTheBook}
use Rattle.bsc_table.specs.Promised.{LegalHistoriesAreServed}
use Rattle.bsc_table.specs.Record.{Record}
use Rattle.cbch_blocks.specs.RecordBlocks.{tape_of_record}
use Rattle.handset.specs.Tape.{reading_of, readings_of}
use Rattle.handset.specs.declared.tape.Reading.{Reading}
use Rattle.warnc_run.specs.Products.{IsOutput, octets_of, reading_of_record}
use Rattle.warnc_run.specs.ReadSteps.{HasOwnTape}
use Rattle.warnc_run.specs.RunSteps.{HaveRunLive}
use Rattle.warnc_run.specs.declared.product.Product.{Product}
use Rattle.warnc_run.proofs.Written.{run_of_book}

-- the tape of one more record stands after the tapes of those before it
pub tape_after : (records : List Record) (i : ℕ) (r : Record) (octets more tape : List ℕ)
    → i < length records
    → r ≡ get_or records i r
    → tape ≡ tape_of_record r
    → octets ≡ flat_map tape_of_record (take i records)
    → more ≡ octets ++ tape
    → more ≡ flat_map tape_of_record (take (i + 1) records)
tape_after records i r octets more tape within is made before after =
    after
    ∙ ap (λ (front : List ℕ). front ++ tape) before
    ∙ ap (λ (own : List ℕ). flat_map tape_of_record (take i records) ++ own)
    (made ∙ ap tape_of_record is ∙ sym (append-nil (tape_of_record (get_or records i r))))
    ∙ sym (flat_map-append tape_of_record (take i records) (get_or records i r ∷ []))
    ∙ ap (flat_map tape_of_record) (sym (take_more records i r within))

-- and the reading of its tape
pub reading_after : (records : List Record) (i : ℕ) (r : Record) (readings more : List Reading) (reading : Reading)
    → i < length records
    → r ≡ get_or records i r
    → All HasOwnTape records
    → (HasOwnTape r → reading_of reading ≡ reading_of_record r)
    → readings_of readings ≡ map reading_of_record (take i records)
    → more ≡ readings ++ reading ∷ []
    → readings_of more ≡ map reading_of_record (take (i + 1) records)
reading_after records i r readings more reading within is tapes read before after =
    let own : HasOwnTape r = subst HasOwnTape (sym is) (tapes i r within) in
    ap readings_of after
    ∙ map-append reading_of readings (reading ∷ [])
    ∙ ap (λ front. front ++ reading_of reading ∷ []) before
    ∙ ap (λ last. map reading_of_record (take i records) ++ last ∷ []) (read own ∙ ap reading_of_record is)
    ∙ sym (map-append reading_of_record (take i records) (get_or records i r ∷ []))
    ∙ ap (map reading_of_record) (sym (take_more records i r within))

-- what is made of the records of a run of the book that octets are is what the octets ask for
pub made_of_octets : LiveRunsShowTheBook → LiveRunsAcceptWhatWasOrdered → LegalHistoriesAreServed
    → (made : Product) (input : List ℕ) (book : Contents) (slots : ℕ) (records : List Record) (given : List Order)
    (shown : List Record) (output : List ℕ)
    → slots ≤ 65535
    → IsBook input book
    → HaveRunLive book slots 1 records
    → given ≡ book.orders
    → shown ≡ records
    → output ≡ octets_of made origin.Book slots given shown
    → IsOutput made origin.Book slots 1 input output
unfolding run_of_book
made_of_octets law orders keeps made input book slots records given shown output few is_book live same are is =
    record {
      records = records;
      run = run_of_book law orders keeps origin.Book input book slots 1 records few is_book live;
      written = is
          ∙ ap (λ (asked : List Order). octets_of made origin.Book slots asked shown) same
          ∙ ap (λ (rs : List Record). octets_of made origin.Book slots book.orders rs) are;
    }
