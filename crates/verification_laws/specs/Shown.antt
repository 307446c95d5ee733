-- What a handset shows of blocks without a difference, whoever sent them (own).
use Rattle.std.specs.Prelude.{◌≡◌, ℕ, true, false, List, [], map, All, Any, Contains, encode_utf8_all}
use Rattle.std.specs.List.{flat_map}
use Rattle.cbs_page.specs.Coding.{alphabet_of}
use Rattle.cbs_page.specs.Text.{text_in}
use Rattle.bsc_table.specs.Record.{Record, accepted_in}
use Rattle.bsc_table.specs.Legal.{IsLegal}
use Rattle.handset.specs.Reception.{ShownMessage, shown_in}
use Rattle.verification.specs.Asked.{AskedMessage, asked_of_log}
use Rattle.verification.specs.Difference.{AreDifferences, is_owed}

-- no message is shown that the cell didn't accept
abbrev pub NoOthersAreShown : Type 0
NoOthersAreShown = (r : Record) (blocks : List (List ℕ))
    → AreDifferences r blocks []
    → All (λ m. Any (λ a. (a.id ≡ m.id) × (a.serial ≡ m.serial)) (accepted_in r.log)) (shown_in blocks)

-- what a handset is to show of a message that was asked: its name, and the texts of its pages, joined
abbrev pub message_asked : AskedMessage → ShownMessage
message_asked a = record {
  id = a.id;
  serial = a.serial;
  text = encode_utf8_all (flat_map (λ c. text_in (alphabet_of a.dcs) c.octets) a.contents);
}

-- each message that is shown is one that was asked, with its text
abbrev pub AllShownAreAsked : Type 0
AllShownAreAsked = (r : Record) (blocks : List (List ℕ))
    → AreDifferences r blocks []
    → All (λ m. Contains (map message_asked (asked_of_log r.log)) m) (shown_in blocks)

-- each message that was asked and isn't background is shown, if a whole period of it comes before its stop and the end
-- of the run
abbrev pub OwedAreShown : Type 0
OwedAreShown = (r : Record) (blocks : List (List ℕ))
    → IsLegal r
    → AreDifferences r blocks []
    → All (λ a. a.background ≡ false → is_owed r.slots a 0 ≡ true → Contains (shown_in blocks) (message_asked a))
    (asked_of_log r.log)
