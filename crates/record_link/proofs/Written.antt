-- Each order of a run, and each answer to it, is a message that is written.
use Rattle.std.proofs.Common.{◌≡◌, ℕ, ◌≤◌, List, length, true, refl, arith}
use Rattle.std.specs.Prelude.{nat_le}
use Rattle.std.specs.List.{All, list_all}
use Rattle.std.proofs.lemmas.Bool.{le-leb}
use Rattle.std.proofs.lemmas.List.Sums.{list_all-from_AllPass}
use Rattle.bsc_table.specs.Orders.{IsWellFormed}
use Rattle.bsc_table.specs.declared.command.Category.{Category}
use Rattle.bsc_table.specs.declared.command.Category.TheVariants.{High, Normal, Background}
use Rattle.bsc_table.specs.declared.command.Command.{Command}
use Rattle.bsc_table.specs.declared.command.Command.TheVariants as commands
use Rattle.bsc_table.specs.declared.entry.Answer.{Answer}
use Rattle.bsc_table.specs.declared.entry.Answer.TheVariants as answers
use Rattle.cbs_page.specs.Text.{max_pages}
use Rattle.cbs_page.specs.declared.content.Content.{Content}
use Rattle.cbsp_link.specs.Written.{wrong_of}
use Rattle.cbsp_link.specs.declared.message.Answered.{Answered}
use Rattle.cbsp_wire.specs.declared.message.Cell.{Cell}
use Rattle.record_orders.specs.Ordered.{category_number}
use Rattle.record_link.specs.Laws.{AreOnLink, IsOnLink, NoneIsLeftOut}
use Rattle.record_link.specs.Sent.{answer_message, cell_reply, order_message}

-- the tests of a write that its command passes
category_fits : (category : Category) → nat_le (category_number category) 2 ≡ true
category_fits High = refl
category_fits Background = refl
category_fits Normal = refl

pages_fit : (contents : List Content) → All (λ c. c.used ≤ 82) contents
    → list_all (λ content. nat_le content.used 82) contents ≡ true
pages_fit contents used =
    list_all-from_AllPass (λ (content : Content). nat_le content.used 82) contents
    (λ i d within. le-leb _ 82 (used i d within))

order_written : (cell : Cell) (command : Command) → IsWellFormed command → IsOnLink (order_message cell command)
unfolding wrong_of
order_written cell (commands.Write id serial replaces category dcs period broadcasts contents) formed =
    let short : nat_le period 4095 ≡ true = le-leb period 4095 (omega (arith, formed.short_period)) in
    let some : nat_le 1 (length contents) ≡ true = le-leb 1 (length contents) formed.some_pages in
    let few : nat_le (length contents) max_pages ≡ true = le-leb (length contents) max_pages formed.few_pages in
    rw (category_fits category, short, some, few, pages_fit contents formed.used) refl
order_written cell (commands.Kill id serial) formed = refl
order_written cell (commands.Status id serial) formed = tt

reply_written : (cell : Cell) (id : ℕ) (order : Answered) (answer : Answer) → IsOnLink (cell_reply cell id order answer)
unfolding wrong_of
reply_written cell id order (answers.Started slot) = refl
reply_written cell id order (answers.Replaced slot completed) = refl
reply_written cell id order (answers.Stopped completed) = refl
reply_written cell id order (answers.Cause cause) = refl
reply_written cell id order (answers.Told completed state) = tt
reply_written cell id order answers.Unknown = tt
reply_written cell id order answers.Refused = tt

answer_written : (cell : Cell) (command : Command) (answer : Answer) → IsOnLink (answer_message cell command answer)
answer_written cell (commands.Write id serial replaces category dcs period broadcasts contents) answer =
    reply_written cell id _ answer
answer_written cell (commands.Kill id serial) answer = reply_written cell id _ answer
answer_written cell (commands.Status id serial) answer = tt

-- the law
pub none_is_left_out : NoneIsLeftOut
none_is_left_out cell command answer formed =
    record { order = order_written cell command formed; reply = answer_written cell command answer }
