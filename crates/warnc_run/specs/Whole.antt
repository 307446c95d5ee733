-- What is written of a network's groups is of one run of all its cells (own).
use Rattle.std.specs.Prelude.{◌≡◌, ℕ, List}
use Rattle.std.specs.List.{flat_map}
use Rattle.alert_book.specs.Book.{Contents}
use Rattle.bsc_table.specs.Record.{Record}
use Rattle.book_runs.specs.Run.{Exchange, IsRun}
use Rattle.book_runs.specs.WholeNetwork.{IsWholeNetwork}
use Rattle.cbch_blocks.specs.RecordBlocks.{tape_of_record}
use Rattle.warnc_run.specs.Network.{IsOfNetwork}
use Rattle.warnc_run.specs.declared.product.Product.TheVariants as product

-- octets are the tapes of a run of the whole network's book
pub record AreTapesOfTheWhole (slots : ℕ) (input output : List ℕ) : Type 0 where
  pub whole : Contents
  pub is_whole : IsWholeNetwork input whole
  pub exchanges : List Exchange
  pub records : List Record
  pub run : IsRun whole slots exchanges records
  pub written : output ≡ flat_map tape_of_record records

-- the tapes of all groups of a network, each of a run with one session, are those of one run of the whole
abbrev pub NetworkTapesAreOfOneRun : Type 0
NetworkTapesAreOfOneRun = (slots : ℕ) (input output : List ℕ)
    → IsOfNetwork product.Tapes slots 1 input output
    → AreTapesOfTheWhole slots input output
