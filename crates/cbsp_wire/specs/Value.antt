-- The value of a message, found by looking elements up. 3GPP TS 48.049, clause 8.2, in this project's own layouts.
use Rattle.std.specs.Prelude.{ℕ, ◌+◌, ◌*◌, List, [], ◌∷◌, length, map, Option, Some, None, unwrap_or}
use Rattle.cbs_page.specs.declared.content.Content.{Content}
use Rattle.cbsp_wire.specs.declared.message.message_type.MessageType.{MessageType}
use Rattle.cbsp_wire.specs.declared.message.message_type.MessageType.TheVariants as types
use Rattle.cbsp_wire.specs.declared.lists.item.Discriminator.{Discriminator}
use Rattle.cbsp_wire.specs.declared.lists.item.Discriminator.TheVariants as discriminators
use Rattle.cbsp_wire.specs.declared.message.Cell.{Cell}
use Rattle.cbsp_wire.specs.declared.message.Count.{Count}
use Rattle.cbsp_wire.specs.declared.message.Failure.{Failure}
use Rattle.cbsp_wire.specs.declared.message.Message.{Message}
use Rattle.cbsp_wire.specs.declared.message.Message.TheVariants as messages
use Rattle.cbsp_wire.specs.Element.{Element, bodies_of, u16_from_be, first_octet}
use Rattle.cbsp_wire.specs.declared.message.iei.TheConstants.{MESSAGE_CONTENT, OLD_SERIAL_NUMBER, NEW_SERIAL_NUMBER}
use Rattle.cbsp_wire.specs.declared.message.iei.TheConstants.{CELL_LIST}
use Rattle.cbsp_wire.specs.declared.message.iei.TheConstants.{CATEGORY, REPETITION_PERIOD, BROADCASTS_REQUESTED}
use Rattle.cbsp_wire.specs.declared.message.iei.TheConstants.{BROADCASTS_COMPLETED, FAILURE_LIST, DATA_CODING}
use Rattle.cbsp_wire.specs.declared.message.iei.TheConstants.{MESSAGE_IDENTIFIER, CHANNEL_INDICATOR, NUMBER_OF_PAGES}

-- the number, or the octet, of the first body
abbrev pub first_body_u16 : List (List ℕ) → Option ℕ
first_body_u16 [] = None
first_body_u16 (body ∷ bodies) = Some (u16_from_be body)

abbrev pub first_body_octet : List (List ℕ) → Option ℕ
first_body_octet [] = None
first_body_octet (body ∷ bodies) = Some (first_octet body)

abbrev pub cell_at : ℕ → ℕ → ℕ → ℕ → Cell
cell_at a b c d = record { lac = a * 256 + b; ci = c * 256 + d }

abbrev pub count_at : ℕ → ℕ → ℕ → ℕ → ℕ → ℕ → ℕ → Count
count_at a b c d e f g = record { cell = cell_at a b c d; number = e * 256 + f; info = g }

abbrev pub failure_at : ℕ → ℕ → ℕ → ℕ → ℕ → Failure
failure_at a b c d e = record { cell = cell_at a b c d; cause = e }

-- the items that octets are: a cell is four of them, a count seven, a failure six, the first of which is its
-- discriminator
abbrev pub cells_in : List ℕ → List Cell
cells_in (a ∷ b ∷ c ∷ d ∷ octets) = cell_at a b c d ∷ cells_in octets
cells_in octets = []

abbrev pub counts_in : List ℕ → List Count
counts_in (a ∷ b ∷ c ∷ d ∷ e ∷ f ∷ g ∷ octets) = count_at a b c d e f g ∷ counts_in octets
counts_in octets = []

abbrev pub failures_in : List ℕ → List Failure
failures_in (discriminator ∷ a ∷ b ∷ c ∷ d ∷ e ∷ octets) = failure_at a b c d e ∷ failures_in octets
failures_in octets = []

-- the octets of a list's items: what follows the two octets of its length, and the one discriminator, if all share one
abbrev pub items_of : Discriminator → List ℕ → List ℕ
items_of discriminators.Once (high ∷ low ∷ discriminator ∷ items) = items
items_of discriminators.Each (high ∷ low ∷ items) = items
items_of discriminator body = []

-- the items of the first body
abbrev pub first_items : {X : Type 0} → Discriminator → (List ℕ → List X) → List (List ℕ) → List X
first_items discriminator items_in [] = []
first_items discriminator items_in (body ∷ bodies) = items_in (items_of discriminator body)

abbrev pub content_of : List ℕ → Content
content_of [] = record { used = 0; octets = [] }
content_of (used ∷ octets) = record { used = used; octets = octets }

abbrev pub u16_value : ℕ → List Element → Option ℕ
u16_value n es = first_body_u16 (bodies_of n es)

abbrev pub u8_value : ℕ → List Element → Option ℕ
u8_value n es = first_body_octet (bodies_of n es)

abbrev pub cells_of : List Element → List Cell
cells_of es = first_items discriminators.Once cells_in (bodies_of CELL_LIST es)

abbrev pub counts_of : List Element → List Count
counts_of es = first_items discriminators.Once counts_in (bodies_of BROADCASTS_COMPLETED es)

abbrev pub failures_of : List Element → List Failure
failures_of es = first_items discriminators.Each failures_in (bodies_of FAILURE_LIST es)

abbrev pub contents_of : List Element → List Content
contents_of es = map content_of (bodies_of MESSAGE_CONTENT es)

-- the fields of messages: None, or no items, where the element isn't there
pub record Fields : Type 0 where
  pub id : Option ℕ
  pub new_serial : Option ℕ
  pub old_serial : Option ℕ
  pub failures : List Failure
  pub completed : List Count
  pub cells : List Cell
  pub channel : Option ℕ
  pub category : Option ℕ
  pub period : Option ℕ
  pub broadcasts : Option ℕ
  pub pages : Option ℕ
  pub dcs : Option ℕ
  pub contents : List Content

-- the fields that elements say
abbrev pub fields_in : List Element → Fields
fields_in es = record {
  id = u16_value MESSAGE_IDENTIFIER es;
  new_serial = u16_value NEW_SERIAL_NUMBER es;
  old_serial = u16_value OLD_SERIAL_NUMBER es;
  failures = failures_of es;
  completed = counts_of es;
  cells = cells_of es;
  channel = u8_value CHANNEL_INDICATOR es;
  category = u8_value CATEGORY es;
  period = u16_value REPETITION_PERIOD es;
  broadcasts = u16_value BROADCASTS_REQUESTED es;
  pages = u8_value NUMBER_OF_PAGES es;
  dcs = u8_value DATA_CODING es;
  contents = contents_of es;
}

abbrev pub or_0 : Option ℕ → ℕ
or_0 o = unwrap_or o 0

-- the message of a type with these fields
abbrev pub message_with : MessageType → Fields → Message
message_with types.Write f =
    messages.Write (or_0 f.id) (or_0 f.new_serial) f.old_serial f.cells f.channel f.category (or_0 f.period)
    (or_0 f.broadcasts) (record { 0 = or_0 f.dcs }) f.contents
message_with types.WriteDone f =
    messages.WriteDone (or_0 f.id) (or_0 f.new_serial) f.old_serial f.completed f.cells f.channel
message_with types.WriteFailed f =
    messages.WriteFailed (or_0 f.id) (or_0 f.new_serial) f.old_serial f.failures f.completed f.cells f.channel
message_with types.Kill f = messages.Kill (or_0 f.id) (or_0 f.old_serial) f.cells f.channel
message_with types.KillDone f = messages.KillDone (or_0 f.id) (or_0 f.old_serial) f.completed f.cells f.channel
message_with types.KillFailed f =
    messages.KillFailed (or_0 f.id) (or_0 f.old_serial) f.failures f.completed f.cells f.channel

-- the message that elements say
unfoldable pub message_of : MessageType → List Element → Message
message_of message_type es = message_with message_type (fields_in es)

abbrev pub no_fields : Fields
no_fields = record {
  id = None;
  new_serial = None;
  old_serial = None;
  failures = [];
  completed = [];
  cells = [];
  channel = None;
  category = None;
  period = None;
  broadcasts = None;
  pages = None;
  dcs = None;
  contents = [];
}

-- the fields of a message
abbrev pub fields_of : Message → Fields
fields_of (messages.Write id new old cells channel category period broadcasts dcs contents) = record no_fields {
  id = Some id;
  new_serial = Some new;
  old_serial = old;
  cells = cells;
  channel = channel;
  category = category;
  period = Some period;
  broadcasts = Some broadcasts;
  pages = Some (length contents);
  dcs = Some dcs.0;
  contents = contents;
}
fields_of (messages.WriteDone id new old completed cells channel) = record no_fields {
  id = Some id;
  new_serial = Some new;
  old_serial = old;
  completed = completed;
  cells = cells;
  channel = channel;
}
fields_of (messages.WriteFailed id new old failures completed cells channel) = record no_fields {
  id = Some id;
  new_serial = Some new;
  old_serial = old;
  failures = failures;
  completed = completed;
  cells = cells;
  channel = channel;
}
fields_of (messages.Kill id old cells channel) = record no_fields {
  id = Some id;
  old_serial = Some old;
  cells = cells;
  channel = channel;
}
fields_of (messages.KillDone id old completed cells channel) = record no_fields {
  id = Some id;
  old_serial = Some old;
  completed = completed;
  cells = cells;
  channel = channel;
}
fields_of (messages.KillFailed id old failures completed cells channel) = record no_fields {
  id = Some id;
  old_serial = Some old;
  failures = failures;
  completed = completed;
  cells = cells;
  channel = channel;
}

-- the type of a message
abbrev pub type_of : Message → MessageType
type_of (messages.Write a b c d e f g h i j) = types.Write
type_of (messages.WriteDone a b c d e f) = types.WriteDone
type_of (messages.WriteFailed a b c d e f g) = types.WriteFailed
type_of (messages.Kill a b c d) = types.Kill
type_of (messages.KillDone a b c d e) = types.KillDone
type_of (messages.KillFailed a b c d e f) = types.KillFailed
