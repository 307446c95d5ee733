-- What a message orders, and what the reply to it says to its request.
use Rattle.std.proofs.Common.{◌≡◌, ℕ, Bool, true, cond, List, [], ◌∷◌, All, Option, Some, None, Result, Ok, Err}
use Rattle.std.proofs.Common.{refl, sym, subst, ap, rules, inl, inr, ◌∙◌, ◌==◌, ◌&&◌, eq-eqb}
use Rattle.std.specs.List.{AllByRecursion}
use Rattle.std.specs.Prelude.{⊤}
use Rattle.std.proofs.lemmas.Bool.{and_from, cases_Bool}
use Rattle.std.proofs.lemmas.List.Elements.{recursion_from_All}
use Rattle.cbsp_wire.specs.declared.message.Cell.{Cell}
use Rattle.cbsp_wire.specs.declared.message.Count.{Count}
use Rattle.cbsp_wire.specs.declared.message.Failure.{Failure}
use Rattle.cbsp_wire.specs.declared.message.Message.{Message}
use Rattle.cbsp_wire.specs.declared.message.Message.TheVariants as messages
use Rattle.reply_outcome.specs.Replies.{accepting, cells_counted, is_kill_of, is_write_of, outcome_of, outcome_with}
use Rattle.reply_outcome.specs.Replies.{same_serial}
use Rattle.bsc_table.specs.declared.command.Category.{Category}
use Rattle.bsc_table.specs.declared.command.Command.{Command}
use Rattle.bsc_table.specs.declared.command.Command.TheVariants as commands
use Rattle.bsc_table.specs.declared.entry.Answer.{Answer}
use Rattle.bsc_table.specs.declared.entry.Answer.TheVariants as answers
use Rattle.bsc_table.specs.Orders.{category_of, if_basic_channel, if_category_known, is_basic, order_of}
use Rattle.order_desk.specs.Reply.{IsAnswerTo, IsAnswerToKill, IsAnswerToReplacement, accepting_cells, counted_in}
use Rattle.order_desk.specs.Reply.{kill_reply, refused_in, reply_message, write_reply}
use Rattle.order_desk.specs.ReplyLaws.{IsOrdered}

-- an answer that a plain write alone gets, or another
abbrev IsNoStart : Answer → Type 0
IsNoStart (answers.Started slot) = ⊥
IsNoStart other = ⊤

no_start_of_replacement : (answer : Answer) → IsAnswerToReplacement answer → IsNoStart answer
no_start_of_replacement (answers.Started slot) is = is
no_start_of_replacement (answers.Replaced slot completed) is = tt
no_start_of_replacement (answers.Stopped completed) is = tt
no_start_of_replacement (answers.Told completed state) is = tt
no_start_of_replacement answers.Unknown is = tt
no_start_of_replacement (answers.Cause cause) is = tt
no_start_of_replacement answers.Refused is = tt

no_start_of_kill : (answer : Answer) → IsAnswerToKill answer → IsNoStart answer
no_start_of_kill (answers.Started slot) is = is
no_start_of_kill (answers.Replaced slot completed) is = tt
no_start_of_kill (answers.Stopped completed) is = tt
no_start_of_kill (answers.Told completed state) is = tt
no_start_of_kill answers.Unknown is = tt
no_start_of_kill (answers.Cause cause) is = tt
no_start_of_kill answers.Refused is = tt

-- where no cell answered so, the cells that accepted are those whose completed broadcasts are counted
counted_more : (cell : Cell) (answer : Answer) (later : List (Cell × Answer))
    → IsNoStart answer
    → cells_counted (counted_in later) ≡ accepting_cells later
    → cells_counted (counted_in ((cell, answer) ∷ later)) ≡ accepting_cells ((cell, answer) ∷ later)
counted_more cell (answers.Started slot) later unlike same = absurd unlike
counted_more cell (answers.Replaced slot completed) later unlike same = ap (λ (cells : List Cell). cell ∷ cells) same
counted_more cell (answers.Stopped completed) later unlike same = ap (λ (cells : List Cell). cell ∷ cells) same
counted_more cell (answers.Told completed state) later unlike same = same
counted_more cell answers.Unknown later unlike same = same
counted_more cell (answers.Cause cause) later unlike same = same
counted_more cell answers.Refused later unlike same = same

counted_all : (given : List (Cell × Answer))
    → AllByRecursion (λ a. IsNoStart a.1) given
    → cells_counted (counted_in given) ≡ accepting_cells given
counted_all [] unlike = refl
counted_all (a ∷ later) unlike = counted_more a.0 a.1 later unlike.0 (counted_all later unlike.1)

-- the reply to a write and to a kill, and what it says
write_says : (id new : ℕ) (old : Option ℕ) (m : Message) (refused : List Failure) (completed : List Count)
    (cells : List Cell)
    → is_write_of id new old m ≡ true
    → outcome_of m (write_reply id new old refused completed cells)
    ≡ Some (outcome_with (accepting old completed cells) refused)
write_says id new old m [] completed cells is =
    ap (λ (b : Bool). cond b (Some (outcome_with (accepting old completed cells) [])) None) is
write_says id new old m (failure ∷ refused) completed cells is =
    ap (λ (b : Bool). cond b (Some (outcome_with (accepting old completed cells) (failure ∷ refused))) None) is

kill_says : (id old : ℕ) (m : Message) (refused : List Failure) (completed : List Count)
    → is_kill_of id old m ≡ true
    → outcome_of m (kill_reply id old refused completed) ≡ Some (outcome_with (cells_counted completed) refused)
kill_says id old m [] completed is =
    ap (λ (b : Bool). cond b (Some (outcome_with (cells_counted completed) [])) None) is
kill_says id old m (failure ∷ refused) completed is =
    ap (λ (b : Bool). cond b (Some (outcome_with (cells_counted completed) (failure ∷ refused))) None) is

-- a message orders a command: its reply says which cells accepted and which refused
pub record OrderSays (m : Message) (command : Command) : Type 0 where
  pub ordered : IsOrdered command
  pub says : (given : List (Cell × Answer)) → All (λ a. IsAnswerTo command a.1) given
      → outcome_of m (reply_message command given) ≡ Some (outcome_with (accepting_cells given) (refused_in given))

counted_says : (given : List (Cell × Answer)) → AllByRecursion (λ a. IsNoStart a.1) given
    → Some (outcome_with (cells_counted (counted_in given)) (refused_in given))
    ≡ Some (outcome_with (accepting_cells given) (refused_in given))
counted_says given unlike =
    ap (λ (cells : List Cell). Some (outcome_with cells (refused_in given))) (counted_all given unlike)

no_start : (P : Answer → Type 0) → ((answer : Answer) → P answer → IsNoStart answer) → (given : List (Cell × Answer))
    → AllByRecursion (λ a. P a.1) given
    → AllByRecursion (λ a. IsNoStart a.1) given
no_start P is [] fit = tt
no_start P is (a ∷ later) fit = (is a.1 fit.0, no_start P is later fit.1)

-- a plain write; and an order to whose answers no start belongs
of_plain : (id new : ℕ) (m : Message) (command : Command)
    → is_write_of id new None m ≡ true
    → IsOrdered command
    → ((given : List (Cell × Answer))
    → reply_message command given ≡ write_reply id new None (refused_in given) [] (accepting_cells given))
    → OrderSays m command
of_plain id new m command is ordered replied = record {
  ordered = ordered;
  says = λ given fit. ap (outcome_of m) (replied given)
      ∙ write_says id new None m (refused_in given) [] (accepting_cells given) is;
}

of_counted : (m : Message) (command : Command)
    → IsOrdered command
    → ((answer : Answer) → IsAnswerTo command answer → IsNoStart answer)
    → ((given : List (Cell × Answer)) → outcome_of m (reply_message command given)
    ≡ Some (outcome_with (cells_counted (counted_in given)) (refused_in given)))
    → OrderSays m command
of_counted m command ordered unlike says = record {
  ordered = ordered;
  says = λ given fit. says given
      ∙ counted_says given (no_start (IsAnswerTo command) unlike given
      (recursion_from_All (λ a. IsAnswerTo command a.1) given fit));
}

-- two orders of one message are one
abbrev Ordered : Type 0
Ordered = List Cell × Command

order_or : Ordered → Result Ordered ℕ → Ordered
order_or other (Ok order) = order
order_or other (Err cause) = other

one_order : (r : Result Ordered ℕ) (cells named : List Cell) (command asked : Command)
    → r ≡ Ok (named, asked)
    → r ≡ Ok (cells, command)
    → (named ≡ cells) × (asked ≡ command)
unfolding order_or
one_order r cells named command asked first then =
    let h = sym first ∙ then in (
      ap (λ (x : Result Ordered ℕ). (order_or (named, asked) x).0) h,
      ap (λ (x : Result Ordered ℕ). (order_or (named, asked) x).1) h,
    )

-- a message orders one command of one list of cells
pub orders_are_one : (m : Message) (cells named : List Cell) (command asked : Command)
    → order_of m ≡ Ok (cells, command)
    → order_of m ≡ Ok (named, asked)
    → (cells ≡ named) × (command ≡ asked)
orders_are_one m cells named command asked one other = one_order (order_of m) named cells asked command one other

-- a fault is no result
pub not_ok : {X Y : Type 0} (x : X) (y : Y) → Err y ≡ Ok x → ⊥
not_ok x y h = search (rules, h)

of_channel : (m : Message) (channel : Option ℕ) (cells named : List Cell) (command asked : Command)
    → OrderSays m asked
    → if_basic_channel channel named asked ≡ Ok (cells, command)
    → OrderSays m command
of_channel m channel cells named command asked says order = elim (cases_Bool (is_basic channel)) [
  | inl basic ↦ subst (OrderSays m) (one_order (if_basic_channel channel named asked) cells named command asked
      (ap (λ b. cond b (Ok (named, asked)) (Err 0x0C)) basic) order).1 says
  | inr other ↦ absurd (not_ok (cells, command) 0x0C
      (sym (ap (λ b. cond b (Ok (named, asked)) (Err 0x0C)) other) ∙ order))
]

of_category : (m : Message) (category : Option Category) (cells named : List Cell) (channel : Option ℕ)
    (command : Command) (asked : Category → Command)
    → ((c : Category) → OrderSays m (asked c))
    → if_category_known category (λ c. if_basic_channel channel named (asked c)) ≡ Ok (cells, command)
    → OrderSays m command
of_category m None cells named channel command asked says order = absurd (not_ok (cells, command) 0x01 order)
of_category m (Some c) cells named channel command asked says order =
    of_channel m channel cells named command (asked c) (says c) order

same_itself : (serial : Option ℕ) → same_serial serial serial ≡ true
same_itself None = refl
same_itself (Some n) = eq-eqb n n refl

is_write_itself : (id new : ℕ) (old : Option ℕ) → ((id == id) && (new == new) && same_serial old old) ≡ true
is_write_itself id new old =
    and_from ((id == id) && (new == new)) (same_serial old old)
    (and_from (id == id) (new == new) (eq-eqb id id refl) (eq-eqb new new refl)) (same_itself old)

-- what a message orders names the message
pub order_says : (m : Message) (cells : List Cell) (command : Command)
    → order_of m ≡ Ok (cells, command)
    → OrderSays m command
order_says (messages.Write id new None named channel category period broadcasts dcs contents) cells command order =
    let m = messages.Write id new None named channel category period broadcasts dcs contents in
    of_category m (category_of category) cells named channel command
    (λ c. commands.Write id new None c dcs period broadcasts contents)
    (λ c. of_plain id new m (commands.Write id new None c dcs period broadcasts contents) (is_write_itself id new None)
    tt (λ given. refl)) order
order_says (messages.Write id new (Some old) named channel category period broadcasts dcs contents) cells command
    order =
    let m = messages.Write id new (Some old) named channel category period broadcasts dcs contents in
    of_category m (category_of category) cells named channel command
    (λ c. commands.Write id new (Some old) c dcs period broadcasts contents)
    (λ c. of_counted m (commands.Write id new (Some old) c dcs period broadcasts contents) tt
    (λ answer is. no_start_of_replacement answer is)
    (λ given. write_says id new (Some old) m (refused_in given) (counted_in given) []
    (is_write_itself id new (Some old)))) order
order_says (messages.Kill id old named channel) cells command order =
    let m = messages.Kill id old named channel in
    let is : is_kill_of id old m ≡ true =
    and_from (id == id) (old == old) (eq-eqb id id refl) (eq-eqb old old refl) in
    of_channel m channel cells named command (commands.Kill id old)
    (of_counted m (commands.Kill id old) tt (λ answer is_fit. no_start_of_kill answer is_fit)
    (λ given. kill_says id old m (refused_in given) (counted_in given) is)) order
order_says (messages.WriteDone a b c d e f) cells command order = absurd (not_ok (cells, command) 0x04 order)
order_says (messages.WriteFailed a b c d e f g) cells command order = absurd (not_ok (cells, command) 0x04 order)
order_says (messages.KillDone a b c d e) cells command order = absurd (not_ok (cells, command) 0x04 order)
order_says (messages.KillFailed a b c d e f) cells command order = absurd (not_ok (cells, command) 0x04 order)
