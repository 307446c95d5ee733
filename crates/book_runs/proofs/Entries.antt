-- Each entry of a run's log is a command of an exchange, with the cell's answer in it.
use Rattle.std.proofs.Common.{◌≡◌, ℕ, zero, suc, Bool, true, List, [], ◌∷◌, ap, arith, filter, refl, subst, sym}
use Rattle.std.specs.List.{All, Any, Contains}
use Rattle.std.proofs.lemmas.List.Elements.{All-cons, All-contains, All-contains_itself, All-head, All-map, All-nil}
use Rattle.std.proofs.lemmas.List.Elements.{All-same, All-tail}
use Rattle.std.proofs.lemmas.List.Elements.{All-weaker}
use Rattle.cbsp_wire.specs.declared.message.Cell.{Cell}
use Rattle.cbsp_wire.specs.Range.{is_cell}
use Rattle.bsc_table.specs.declared.command.Command.{Command}
use Rattle.bsc_table.specs.declared.entry.Answer.{Answer}
use Rattle.bsc_table.specs.declared.entry.Entry.{Entry}
use Rattle.bsc_table.specs.Record.{Record}
use Rattle.book_runs.specs.Run.{Asked, Exchange, asked_in, asked_of, asked_with, entries_for, given_slot}
use Rattle.book_runs.proofs.Lists.{all_joined, any_here, any_joined, any_kept, any_later, any_mapped, any_weaker}
use Rattle.book_runs.proofs.Lists.{any_with, kept_of}
use Rattle.book_runs.proofs.Logged.{HasLogOf}

entries_have : (P : Command → Answer → Type 0) (slots clock : ℕ) (asked : List Asked)
    → All (λ a. P a.command a.answer) asked → All (λ e. P e.command e.answer) (entries_for slots clock asked)
entries_have P slots clock [] all = All-nil (λ (e : Entry). P e.command e.answer)
entries_have P slots clock (a ∷ later) all =
    let next : ℕ = given_slot slots clock a.at in
    All-cons (λ (e : Entry). P e.command e.answer)
    (record { command = a.command; slot = next; answer = a.answer }) (entries_for slots next later)
    (All-head (λ (b : Asked). P b.command b.answer) a later all)
    (entries_have P slots next later (All-tail (λ (b : Asked). P b.command b.answer) a later all))

-- the cell's answer is one that it gave in the exchange
abbrev pub IsGivenIn : Cell → Exchange → Answer → Type 0
IsGivenIn cell x answer =
    Any (λ (given : Cell × Answer). (is_cell cell given.0 ≡ true) × (answer ≡ given.1)) x.answers

-- and the command is the exchange's
abbrev pub IsOfExchange : Cell → Command → Answer → Exchange → Type 0
IsOfExchange cell command answer x = (command ≡ x.command) × IsGivenIn cell x answer

asked_in_has : (cell : Cell) (x : Exchange) → All (λ a. IsOfExchange cell a.command a.answer x) (asked_in cell x)
asked_in_has cell x =
    let answered : (Cell × Answer) → Bool = λ given. is_cell cell given.0 in
    All-map (λ (a : Asked). IsOfExchange cell a.command a.answer x) (asked_with x) (filter answered x.answers)
    (All-weaker (λ (a : Cell × Answer). Any (λ (b : Cell × Answer). (answered b ≡ true) × (a ≡ b)) x.answers)
    (λ (a : Cell × Answer). IsOfExchange cell x.command a.1 x)
    (λ a there. (
      refl,
      any_weaker (λ (b : Cell × Answer). (answered b ≡ true) × (a ≡ b))
          (λ (b : Cell × Answer). (is_cell cell b.0 ≡ true) × (a.1 ≡ b.1)) x.answers
          (λ b is. (is.0, ap (λ (c : Cell × Answer). c.1) is.1)) there,
    ))
    (filter answered x.answers) (kept_of answered x.answers))

asked_has : (cell : Cell) (exchanges : List Exchange)
    → All (λ a. Any (IsOfExchange cell a.command a.answer) exchanges) (asked_of cell exchanges)
asked_has cell exchanges =
    let Comes : Asked → Type 0 = λ a. Any (IsOfExchange cell a.command a.answer) exchanges in
    all_joined Comes (asked_in cell) exchanges
    (All-weaker (Contains exchanges) (λ (x : Exchange). All Comes (asked_in cell x))
    (λ x there. All-weaker (λ (a : Asked). IsOfExchange cell a.command a.answer x) Comes
    (λ a is. (there.0, x, there.1, there.2, is)) (asked_in cell x) (asked_in_has cell x))
    exchanges (All-contains_itself exchanges))

-- each entry of a cell's log is of an exchange
pub log_has : (slots : ℕ) (exchanges : List Exchange) (r : Record) → HasLogOf slots exchanges r
    → All (λ e. Any (IsOfExchange r.cell e.command e.answer) exchanges) r.log
log_has slots exchanges r has =
    let Comes : Asked → Type 0 = λ a. Any (IsOfExchange r.cell a.command a.answer) exchanges in
    All-same (λ (e : Entry). Any (IsOfExchange r.cell e.command e.answer) exchanges) r.log
    (entries_for slots 0 has.asked) has.entries
    (entries_have (λ command answer. Any (IsOfExchange r.cell command answer) exchanges) slots 0 has.asked
    (All-weaker (Contains (asked_of r.cell exchanges)) Comes
    (λ a there. All-contains Comes (asked_of r.cell exchanges) a (asked_has r.cell exchanges) there) has.asked
    has.each))

-- and each answer of the cell in an exchange is an entry of the log
entered : (P : Command → Answer → Type 0) (slots clock : ℕ) (asked : List Asked)
    → Any (λ a. P a.command a.answer) asked → Any (λ e. P e.command e.answer) (entries_for slots clock asked)
entered P slots clock [] some = absurd (omega (arith, some.2))
entered P slots clock (a ∷ later) (zero, b, within, is, here) =
    any_here (λ (e : Entry). P e.command e.answer)
    (record { command = a.command; slot = given_slot slots clock a.at; answer = a.answer })
    (entries_for slots (given_slot slots clock a.at) later)
    (subst (λ (c : Asked). P c.command c.answer) (sym is) here)
entered P slots clock (a ∷ later) (suc k, b, within, is, here) =
    any_later (λ (e : Entry). P e.command e.answer)
    (record { command = a.command; slot = given_slot slots clock a.at; answer = a.answer })
    (entries_for slots (given_slot slots clock a.at) later)
    (entered P slots (given_slot slots clock a.at) later (k, b, omega (arith, within), is, here))

-- what an exchange asked of the cell and was answered, an entry of its log has
pub log_entered : (slots : ℕ) (exchanges : List Exchange) (r : Record) → HasLogOf slots exchanges r
    → (P : Command → Answer → Type 0)
    → Any (λ x. Any (λ (given : Cell × Answer). (is_cell r.cell given.0 ≡ true) × P x.command given.1) x.answers)
    exchanges
    → Any (λ e. P e.command e.answer) r.log
log_entered slots exchanges r has P some =
    let Asks : Asked → Type 0 = λ a. P a.command a.answer in
    let asked = any_joined Asks (asked_in r.cell) exchanges
    (any_weaker
    (λ x. Any (λ (given : Cell × Answer). (is_cell r.cell given.0 ≡ true) × P x.command given.1) x.answers)
    (λ x. Any Asks (asked_in r.cell x)) exchanges
    (λ x given. any_mapped Asks (asked_with x) (filter (λ (a : Cell × Answer). is_cell r.cell a.0) x.answers)
    (any_kept (λ (a : Cell × Answer). P x.command a.1) (λ (a : Cell × Answer). is_cell r.cell a.0) x.answers given))
    some) in
    let there = any_with (Contains has.asked) Asks (asked_of r.cell exchanges) has.every asked in
    subst (λ (log : List Entry). Any (λ (e : Entry). P e.command e.answer) log) (sym has.entries)
    (entered P slots 0 has.asked (there.4.0.0, there.1, there.4.0.1, there.4.0.2, there.4.1))
