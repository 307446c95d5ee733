-- What a comparison of two entries says: that they are equal, and only then.
use Rattle.std.proofs.Common.{◌≡◌, Decides, rules, true, subst, refl, ◌==◌, ◌&&◌}
use Rattle.std.proofs.lemmas.Bool.{and_from, eqb-true, eq-eqb}
use Rattle.cbsp_wire.proofs.Tests.{and_parts}
use Rattle.cbsp_wire.specs.Same.{same_contents_decides}
use Rattle.bsc_table.specs.declared.command.Category.{Category}
use Rattle.bsc_table.specs.declared.command.Command.{Command}
use Rattle.bsc_table.specs.declared.command.Command.TheVariants as commands
use Rattle.bsc_table.specs.declared.entry.Entry.{Entry}
use Rattle.cbs_page.specs.declared.coding.Dcs.{Dcs}
use Rattle.cbs_page.specs.contracts.coding.DcsPartialEq as coding
use Rattle.bsc_table.specs.contracts.command.CategoryPartialEq as category
use Rattle.bsc_table.specs.contracts.command.CommandPartialEq as command
use Rattle.bsc_table.specs.declared.entry.Answer.{Answer}
use Rattle.bsc_table.specs.contracts.entry.AnswerPartialEq as answer
use Rattle.bsc_table.specs.contracts.entry.EntryPartialEq as entry

category_decides : (a b : Category) → Decides (category.TheImpl.eq-value.it a b) (a ≡ b)
category_decides a b = search rules

coding_decides : (a b : Dcs) → Decides (coding.TheImpl.eq-value.it a b) (a ≡ b)
coding_decides a b = search rules

-- commands are equal exactly if the code says so
pub same_command : (a b : Command) → Decides (command.TheImpl.eq-value.it a b) (a ≡ b)
same_command (commands.Write i s r c d p n x) (commands.Write i' s' r' c' d' p' n' x') =
    let list = same_contents_decides x x' in
    let kind = category_decides c c' in
    let coding = coding_decides d d' in
    search (rules, list, kind, coding)
same_command (commands.Write i s r c d p n x) (commands.Kill i' s') = search rules
same_command (commands.Write i s r c d p n x) (commands.Status i' s') = search rules
same_command (commands.Kill i s) (commands.Write i' s' r' c' d' p' n' x') = search rules
same_command (commands.Kill i s) (commands.Kill i' s') = search rules
same_command (commands.Kill i s) (commands.Status i' s') = search rules
same_command (commands.Status i s) (commands.Write i' s' r' c' d' p' n' x') = search rules
same_command (commands.Status i s) (commands.Kill i' s') = search rules
same_command (commands.Status i s) (commands.Status i' s') = search rules

answer_decides : (a b : Answer) → Decides (answer.TheImpl.eq-value.it a b) (a ≡ b)
answer_decides a b = search rules

-- so are entries
pub same_entry : (a b : Entry) → Decides (entry.TheImpl.eq-value.it a b) (a ≡ b)
same_entry a b = (
  λ is. let first = and_parts (command.TheImpl.eq-value.it a.command b.command)
      ((a.slot == b.slot) && answer.TheImpl.eq-value.it a.answer b.answer) is in
      let second = and_parts (a.slot == b.slot) (answer.TheImpl.eq-value.it a.answer b.answer) first.1 in
      let commands_are : a.command ≡ b.command = (same_command a.command b.command).0 first.0 in
      let slots_are : a.slot ≡ b.slot = eqb-true a.slot b.slot second.0 in
      let answers_are : a.answer ≡ b.answer = (answer_decides a.answer b.answer).0 second.1 in
      λ i. record { command = commands_are i; slot = slots_are i; answer = answers_are i },
  λ is. subst (λ (e : Entry). entry.TheImpl.eq-value.it a e ≡ true) is
      (and_from (command.TheImpl.eq-value.it a.command a.command)
      ((a.slot == a.slot) && answer.TheImpl.eq-value.it a.answer a.answer) ((same_command a.command a.command).1 refl)
      (and_from (a.slot == a.slot) (answer.TheImpl.eq-value.it a.answer a.answer) (eq-eqb a.slot a.slot refl)
      ((answer_decides a.answer a.answer).1 refl))),
)
