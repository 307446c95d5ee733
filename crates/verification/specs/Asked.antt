-- What a cell was asked to broadcast (own): the messages that it accepted.
use Rattle.std.specs.Prelude.{ℕ, Bool, Option, Some, List, [], ◌∷◌, ◌++◌, find, ◌==◌, ◌&&◌}
use Rattle.std.specs.Option.{option_map}
use Rattle.std.specs.List.{list_any}
use Rattle.cbs_page.specs.declared.content.Content.{Content}
use Rattle.cbs_page.specs.declared.octets.PageView.{PageView}
use Rattle.bsc_table.specs.declared.command.Command.{Command}
use Rattle.bsc_table.specs.declared.command.Command.TheVariants as commands
use Rattle.bsc_table.specs.declared.entry.Entry.{Entry}
use Rattle.bsc_table.specs.Record.{start_of, is_stop_of, is_background_category}

-- a message that a cell accepted: its identifier and serial number, its data coding and what its pages hold, the slot
-- from which it stands, its period, how many broadcasts were requested (0 where it stands until it is stopped), the
-- slot before which it was stopped, if it was, and whether it is a background message
pub record AskedMessage : Type 0 where
  pub id : ℕ
  pub serial : ℕ
  pub dcs : ℕ
  pub contents : List Content
  pub start : ℕ
  pub period : ℕ
  pub broadcasts : ℕ
  pub stop : Option ℕ
  pub background : Bool

-- the slot of the first of these entries that stops the message of an identifier and a serial number, if one does
abbrev pub stop_among : List Entry → ℕ → ℕ → Option ℕ
stop_among later id serial = option_map (λ e. e.slot) (find (is_stop_of id serial) later)

-- the message of a command that was accepted with this start, by the entries that come later: a write's
abbrev pub asked_from : Option ℕ → Command → List Entry → List AskedMessage
asked_from (Some start) (commands.Write id serial replaces category dcs period broadcasts contents) later =
    record {
      id = id;
      serial = serial;
      dcs = dcs.0;
      contents = contents;
      start = start;
      period = period;
      broadcasts = broadcasts;
      stop = stop_among later id serial;
      background = is_background_category category;
    } ∷ []
asked_from start command later = []

-- the message that an entry accepts, if it does
abbrev pub asked_of_entry : Entry → List Entry → List AskedMessage
asked_of_entry e later = asked_from (start_of e.answer) e.command later

-- the messages that a cell accepted, in the order of its log
abbrev pub asked_of_log : List Entry → List AskedMessage
asked_of_log [] = []
asked_of_log (e ∷ later) = asked_of_entry e later ++ asked_of_log later

-- a page has this message's identifier and serial number
abbrev pub is_page_of : AskedMessage → PageView → Bool
is_page_of a page = (page.id == a.id) && (page.serial == a.serial)

-- a page has the identifier and serial number of one of these
abbrev pub is_page_of_any : List AskedMessage → PageView → Bool
is_page_of_any asked page = list_any (λ a. is_page_of a page) asked
