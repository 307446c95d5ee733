-- What the order of a message that octets mean is: a write or a kill, of 1 to 64 distinct cells.
use Rattle.std.proofs.Common.{◌≡◌, ℕ, ◌≤◌, ◌&&◌, Bool, true, cond, List, [], ◌∷◌, length, Option, Some}
use Rattle.std.proofs.Common.{None, Result, Ok, Err, refl, sym, subst, ap, rules, inl, inr, ◌∙◌}
use native.Mathlib.Omega.{arith}
use Rattle.std.specs.List.{list_all}
use Rattle.std.proofs.lemmas.Bool.{and_parts, cases_Bool}
use Rattle.cbsp_wire.specs.declared.message.message_type.MessageType.TheVariants as types
use Rattle.cbsp_wire.specs.declared.message.message_type.Presence.TheVariants as presences
use Rattle.cbsp_wire.specs.declared.message.Cell.{Cell}
use Rattle.cbsp_wire.specs.declared.message.Message.{Message}
use Rattle.cbsp_wire.specs.declared.message.Message.TheVariants as messages
use Rattle.cbsp_wire.specs.Laws.{WritableExactlyIfMeant}
use Rattle.cbsp_wire.specs.Range.{all_cells_are_valid, cells_are_valid, cells_of_counts, cells_of_failures}
use Rattle.cbsp_wire.specs.Range.{contents_are_valid, is_full, is_there_if, is_writable, numbers_are_valid}
use Rattle.cbsp_wire.specs.Range.{values_are_valid}
use Rattle.cbsp_wire.specs.Table.{presence_of, table}
use Rattle.cbsp_wire.specs.Value.{Fields, fields_of}
use Rattle.bsc_table.specs.declared.command.Category.{Category}
use Rattle.bsc_table.specs.declared.command.Command.{Command}
use Rattle.bsc_table.specs.declared.command.Command.TheVariants as commands
use Rattle.bsc_table.specs.Orders.{category_of, if_basic_channel, if_category_known, is_basic, order_of}
use Rattle.order_desk.specs.ReplyLaws.{IsOrdered}
use Rattle.order_desk.specs.Desk.{IsOrderOf}

-- the cells that a message of the warning centre names; a reply asks none
abbrev cells_named : Message → List Cell
cells_named (messages.Write id new old cells channel category period broadcasts dcs contents) = cells
cells_named (messages.Kill id old cells channel) = cells
cells_named other = []

-- an order is of the cells that its message asks, and a write or a kill
record IsOrder (m : Message) (cells : List Cell) (command : Command) : Type 0 where
  pub asked : cells ≡ cells_named m
  pub ordered : IsOrdered command

not_ok : {X Y : Type 0} (x : X) (y : Y) → Err y ≡ Ok x → ⊥
not_ok x y h = search (rules, h)

abbrev PreparedOrder : Type 0
PreparedOrder = List Cell × Command

-- the order of a message that has one
order_or : PreparedOrder → Result PreparedOrder ℕ → PreparedOrder
order_or other (Ok order) = order
order_or other (Err cause) = other

same_order : (r : Result PreparedOrder ℕ) (cells named : List Cell) (command asked : Command)
    → r ≡ Ok (named, asked)
    → r ≡ Ok (cells, command)
    → (named ≡ cells) × (asked ≡ command)
unfolding order_or
same_order r cells named command asked first then =
    let other : PreparedOrder = (named, asked) in
    let h = sym first ∙ then in (
      ap (λ (x : Result PreparedOrder ℕ). (order_or other x).0) h,
      ap
          (λ (x : Result PreparedOrder ℕ). (order_or other x).1) h,
    )

of_channel : (channel : Option ℕ) (cells named : List Cell) (command asked : Command)
    → if_basic_channel channel named asked ≡ Ok (cells, command)
    → (named ≡ cells) × (asked ≡ command)
of_channel channel cells named command asked order = elim (cases_Bool (is_basic channel)) [
  | inl basic ↦ same_order (if_basic_channel channel named asked) cells named command asked
      (ap (λ b. cond b (Ok (named, asked)) (Err 0x0C)) basic) order
  | inr other ↦ absurd (not_ok (cells, command) 0x0C
      (sym (ap (λ b. cond b (Ok (named, asked)) (Err 0x0C)) other) ∙ order))
]

of_category : (category : Option Category) (cells named : List Cell) (channel : Option ℕ) (command : Command)
    (asked : Category → Command)
    → ((c : Category) → IsOrdered (asked c))
    → if_category_known category (λ c. if_basic_channel channel named (asked c)) ≡ Ok (cells, command)
    → (named ≡ cells) × IsOrdered command
of_category None cells named channel command asked are order = absurd (not_ok (cells, command) 0x01 order)
of_category (Some c) cells named channel command asked are order =
    let parts = of_channel channel cells named command (asked c) order in
    (parts.0, subst IsOrdered parts.1 (are c))

order_is : (m : Message) (cells : List Cell) (command : Command) → order_of m ≡ Ok (cells, command)
    → IsOrder m cells command
order_is (messages.Write id new old named channel category period broadcasts dcs contents) cells command order =
    let parts = of_category (category_of category) cells named channel command
    (λ c. commands.Write id new old c dcs period broadcasts contents) (λ c. tt) order in
    record { asked = sym parts.0; ordered = parts.1 }
order_is (messages.Kill id old named channel) cells command order =
    let parts = of_channel channel cells named command (commands.Kill id old) order in
    record { asked = sym parts.0; ordered = subst IsOrdered parts.1 tt }
order_is (messages.WriteDone a b c d e f) cells command order = absurd (not_ok (cells, command) 0x04 order)
order_is (messages.WriteFailed a b c d e f g) cells command order = absurd (not_ok (cells, command) 0x04 order)
order_is (messages.KillDone a b c d e) cells command order = absurd (not_ok (cells, command) 0x04 order)
order_is (messages.KillFailed a b c d e f) cells command order = absurd (not_ok (cells, command) 0x04 order)

-- the cells that a message asks: where octets mean it and it is an order, there are 1 to 64, none twice
abbrev HaveCells : List Cell → Type 0
HaveCells cells = (1 ≤ length cells) × (cells_are_valid cells ≡ true)

last_of_three : (a b c : Bool) → (a && b && c) ≡ true → c ≡ true
last_of_three a b c all = (and_parts (a && b) c all).1

first_of_four : (a b c d : Bool) → (a && b && c && d) ≡ true → a ≡ true
first_of_four a b c d all = (and_parts a b ((and_parts (a && b) c ((and_parts (a && b && c) d all).0)).0)).0

second_of_four : (a b c d : Bool) → (a && b && c && d) ≡ true → b ≡ true
second_of_four a b c d all = (and_parts a b ((and_parts (a && b) c ((and_parts (a && b && c) d all).0)).0)).1

first_of_three : (a b c : Bool) → (a && b && c) ≡ true → a ≡ true
first_of_three a b c all = (and_parts a b ((and_parts (a && b) c all).0)).0

-- by the fields of the message
of_fields : (f : Fields) (cells failures : Bool)
    → (values_are_valid f && cells && failures && list_all is_full f.contents) ≡ true
    → (cells_are_valid f.cells ≡ true) × (cells ≡ true)
of_fields f cells failures writable =
    let values = first_of_four (values_are_valid f) cells failures (list_all is_full f.contents) writable in
    let all = last_of_three (contents_are_valid f.pages f.contents) (numbers_are_valid f) (all_cells_are_valid f) values
    in (
      first_of_three (cells_are_valid f.cells) (cells_are_valid (cells_of_counts f.completed))
          (cells_are_valid (cells_of_failures f.failures)) all,
      second_of_four (values_are_valid f) cells failures (list_all is_full f.contents) writable,
    )

some_there : (cells : List Cell) → is_there_if presences.Mandatory cells ≡ true → 1 ≤ length cells
some_there [] h = search (rules, h)
some_there (c ∷ cells) h = omega arith

-- the list of cells is mandatory in an order
asks_of_write : presence_of types.Write 0x04 ≡ presences.Mandatory
unfolding presence_of table
asks_of_write = refl

asks_of_kill : presence_of types.Kill 0x04 ≡ presences.Mandatory
unfolding presence_of table
asks_of_kill = refl

cells_had : (m : Message) (cells : List Cell) (command : Command) → order_of m ≡ Ok (cells, command)
    → is_writable m ≡ true
    → HaveCells (cells_named m)
cells_had (messages.Write id new old named channel category period broadcasts dcs contents) cells command order
    writable =
    let m = messages.Write id new old named channel category period broadcasts dcs contents in
    let f = fields_of m in
    let parts = of_fields f (is_there_if (presence_of types.Write 0x04) named)
    (is_there_if (presence_of types.Write 0x09) f.failures) writable in
    (some_there named (subst (λ p. is_there_if p named ≡ true) asks_of_write parts.1), parts.0)
cells_had (messages.Kill id old named channel) cells command order writable =
    let m = messages.Kill id old named channel in
    let f = fields_of m in
    let parts = of_fields f (is_there_if (presence_of types.Kill 0x04) named)
    (is_there_if (presence_of types.Kill 0x09) f.failures) writable in
    (some_there named (subst (λ p. is_there_if p named ≡ true) asks_of_kill parts.1), parts.0)
cells_had (messages.WriteDone a b c d e f) cells command order w = absurd (not_ok (cells, command) 0x04 order)
cells_had (messages.WriteFailed a b c d e f g) cells command order w = absurd (not_ok (cells, command) 0x04 order)
cells_had (messages.KillDone a b c d e) cells command order w = absurd (not_ok (cells, command) 0x04 order)
cells_had (messages.KillFailed a b c d e f) cells command order w = absurd (not_ok (cells, command) 0x04 order)

-- what an order has
pub record HasOrder (cells : List Cell) (command : Command) : Type 0 where
  pub ordered : IsOrdered command
  pub some : 1 ≤ length cells
  pub valid : cells_are_valid cells ≡ true

has_order : WritableExactlyIfMeant → (octets : List ℕ) (cells : List Cell) (command : Command)
    → IsOrderOf octets cells command
    → HasOrder cells command
has_order writable octets cells command order =
    let is = order_is order.message cells command order.ordered in
    let had = cells_had order.message cells command order.ordered
    ((writable order.message).1 (octets, order.meant)) in
    let same = sym is.asked in record {
      ordered = is.ordered;
      some = subst (λ (xs : List Cell). 1 ≤ length xs) same had.0;
      valid = subst (λ (xs : List Cell). cells_are_valid xs ≡ true) same had.1;
    }

-- the cells that an order names are valid
pub valid_cells : WritableExactlyIfMeant → (octets : List ℕ) (cells : List Cell) (command : Command)
    → IsOrderOf octets cells command
    → cells_are_valid cells ≡ true
valid_cells writable octets cells command order = (has_order writable octets cells command order).valid
