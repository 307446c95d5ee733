-- What the blocks of one sender in a capture file carry: on the tape that they make alone, from the slot of the first
-- block to that of the last. Own.
use Rattle.std.specs.Prelude.{◌≡◌, ℕ, ◌==◌, not, List, [], ◌∷◌, length, map, Option, Some, None}
use Rattle.std.specs.List.{filter}
use Rattle.cbs_page.specs.declared.octets.PageView.{PageView}
use Rattle.handset.specs.Reception.{pages_read}
use Rattle.gsmtap.specs.Taken.{ComesTo, IsFileFault}
use Rattle.gsmtap.specs.TapeOfCapture.{blocks_in, blocks_on_tape, for_tape, slots_filled}
use Rattle.gsmtap.specs.Track.{Known}
use Rattle.gsmtap.specs.declared.carried.Carried.{Carried}
use Rattle.gsmtap.specs.declared.fault.AirFault.{AirFault}
use Rattle.gsmtap.specs.declared.tap.Station.{Station}
use Rattle.gsmtap.specs.declared.tape.Wanted.{Wanted}

-- the tape of a sender's blocks alone, whatever cell it names
abbrev pub wanted_of : Station → Wanted
wanted_of station = record {
  cell = record { lac = 0; ci = 0 };
  slots = None;
  first_slot = 0;
  from = record { address = Some station.address; arfcn = Some station.arfcn; channel = station.channel };
}

-- the pages in blocks of which these are known: as a handset finds them, in any four blocks that follow each other
abbrev pub pages_known : List (Option (List ℕ)) → List PageView
pages_known blocks = pages_read (blocks_in (blocks_on_tape None blocks))

-- numbers, each once, in the order in which they come first
abbrev pub each_once : List ℕ → List ℕ
each_once [] = []
each_once (number ∷ rest) = number ∷ filter (λ one. not (number == one)) (each_once rest)

-- how many slots there are, as `tape` counts them, how many pages, and their message identifiers
pub record Summary : Type 0 where
  pub slots : ℕ
  pub pages : ℕ
  pub identifiers : List ℕ

abbrev pub summary_in : List (Option (List ℕ)) → Summary
summary_in blocks = record {
  slots = slots_filled blocks;
  pages = length (pages_known blocks);
  identifiers = each_once (map (λ (page : PageView). page.id) (pages_known blocks));
}

abbrev pub summary_of : Carried → Summary
summary_of carried =
    record { slots = carried.slots; pages = carried.pages; identifiers = carried.identifiers.items }

-- the input is a capture file of whole pieces, and the sender's blocks in it carry this
pub record IsCarriedBy (station : Station) (input : List ℕ) (summary : Summary) : Type 0 where
  pub known : Known
  pub file : ComesTo (for_tape (wanted_of station)) input known
  pub summary_is : summary ≡ summary_in known.blocks

-- why the sender's blocks make no tape, but for out of memory
abbrev pub IsUncarried : Station → List ℕ → AirFault → Type 0
IsUncarried station input fault = IsFileFault (for_tape (wanted_of station)) input fault.packet fault.kind
