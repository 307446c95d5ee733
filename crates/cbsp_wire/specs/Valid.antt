-- What the elements of a message are, fact by fact. 3GPP TS 48.049, clause 8.2; the limits of periods and of lists are
-- own. Range has the tests that reading and writing make of them, and Laws says that each test is exact.
use Rattle.std.specs.Prelude.{◌≡◌, ◌≢◌, ℕ, ◌%◌, ◌≤◌, true, List, [], length, IfSome, is_some}
use Rattle.std.specs.List.{AllByRecursion, AllPairs}
use Rattle.cbs_page.specs.Coding.{alphabet_of}
use Rattle.cbs_page.specs.Text.{max_pages}
use Rattle.cbsp_wire.specs.declared.lists.item.Discriminator.{Discriminator}
use Rattle.cbsp_wire.specs.declared.lists.item.Discriminator.TheVariants as discriminators
use Rattle.cbsp_wire.specs.declared.message.Cell.{Cell}
use Rattle.cbsp_wire.specs.declared.message.message_type.MessageType.{MessageType}
use Rattle.cbsp_wire.specs.declared.message.message_type.Presence.TheVariants as presences
use Rattle.cbsp_wire.specs.declared.message.iei.TheConstants.{MESSAGE_CONTENT, CELL_LIST, BROADCASTS_COMPLETED}
use Rattle.cbsp_wire.specs.declared.message.iei.TheConstants.{FAILURE_LIST}
use Rattle.cbsp_wire.specs.Element.{Element, bodies_of}
use Rattle.cbsp_wire.specs.Table.{presence_of}
use Rattle.cbsp_wire.specs.Value.{items_of, Fields, fields_in}
use Rattle.cbsp_wire.specs.Range.{numbers, is_by_lac_and_ci, cells_of_counts, cells_of_failures, max_listed}

-- the body of a list: two octets of length, and whole items of a size, at least one, whose discriminators are 1
pub record IsListBody (discriminator : Discriminator) (size : ℕ) (body : List ℕ) : Type 0 where
  pub by_lac_and_ci : is_by_lac_and_ci discriminator body ≡ true
  pub whole : length (items_of discriminator body) % size ≡ 0
  pub some : items_of discriminator body ≢ []

-- the lists among elements: an item of cells takes 4 octets, of completed broadcasts 7, of failures 6
pub record AreLists (es : List Element) : Type 0 where
  pub cells : AllByRecursion (IsListBody discriminators.Once 4) (bodies_of CELL_LIST es)
  pub completed : AllByRecursion (IsListBody discriminators.Once 7) (bodies_of BROADCASTS_COMPLETED es)
  pub failures : AllByRecursion (IsListBody discriminators.Each 6) (bodies_of FAILURE_LIST es)

-- the cells that a list names
pub record AreCells (cells : List Cell) : Type 0 where
  pub few : length cells ≤ max_listed
  pub distinct : AllPairs (λ a b. a ≢ b) cells

-- a number of pages, for which there are as many contents
pub record IsPageCount (pages contents : ℕ) : Type 0 where
  pub some : 1 ≤ pages
  pub few : pages ≤ max_pages
  pub counted : pages ≡ contents

-- the values of a message, those that it has
pub record AreValid (f : Fields) : Type 0 where
  pub pages : IfSome f.pages (λ n. IsPageCount n (length f.contents))
  pub used : AllByRecursion (λ c. c.used ≤ 82) f.contents
  pub period : IfSome f.period (λ n. (1 ≤ n) × (n ≤ 1024))
  pub alphabet : IfSome f.dcs (λ n. is_some (alphabet_of n) ≡ true)
  pub category : IfSome f.category (λ n. n ≤ 2)
  pub channel : IfSome f.channel (λ n. n ≤ 1)
  pub cells : AreCells f.cells
  pub completed : AreCells (cells_of_counts f.completed)
  pub failures : AreCells (cells_of_failures f.failures)

-- each element that a type of message needs is there
abbrev pub HasMandatory : MessageType → List Element → Type 0
HasMandatory message_type es =
    AllByRecursion (λ n. presence_of message_type n ≡ presences.Mandatory → bodies_of n es ≢ []) numbers

-- none comes twice but contents, the lists are whole, and the values are in their ranges
pub record AreValidElements (es : List Element) : Type 0 where
  pub once : AllByRecursion (λ n. n ≢ MESSAGE_CONTENT → length (bodies_of n es) ≤ 1) numbers
  pub lists : AreLists es
  pub values : AreValid (fields_in es)
