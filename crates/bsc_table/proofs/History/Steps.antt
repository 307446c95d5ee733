-- Whatever steps are taken from a new record on, the record that they reach is a legal history.
use Rattle.std.proofs.Common.{◌≡◌, ℕ, ◌+◌, ◌≤◌, ◌<◌, min, true, Option, None, List, [], ◌∷◌, ◌++◌, length, take, get_or}
use Rattle.std.proofs.Common.{refl, ap, sym, subst, ◌∙◌, inl, inr, arith}
use Rattle.std.specs.List.{All, AllPairs}
use Rattle.std.proofs.lemmas.Bool.{cases_lt, le-leb, lt-leb, cond-true, cond-false}
use Rattle.std.proofs.lemmas.List.{take-append-le, get_or_append_left}
use Rattle.std.proofs.lemmas.List.Elements.{All-head, All-tail}
use Rattle.scheduler.specs.Message.{ScheduledMessage}
use Rattle.scheduler.specs.Air.{Air, IsChosen, IsAirOf}
use Rattle.scheduler.proofs.Rule.{IsChosen-append}
use Rattle.bsc_table.specs.declared.command.Command.{Command}
use Rattle.bsc_table.specs.declared.entry.Answer.{Answer}
use Rattle.bsc_table.specs.declared.entry.Answer.TheVariants as answers
use Rattle.bsc_table.specs.declared.entry.Entry.{Entry}
use Rattle.bsc_table.specs.Orders.{IsWellFormed}
use Rattle.bsc_table.specs.Record.{Record, messages_in}
use Rattle.bsc_table.specs.Answer.{answer_of, answer_with_room}
use Rattle.bsc_table.specs.Legal.{IsLegal, HasItsAnswer}
use Rattle.bsc_table.specs.Transitions.{opened, has_entry, answered_with, IsPlayedUpTo, Ask, Play, StepOfCell, IsStep}
use Rattle.bsc_table.specs.Transitions.{IsReached, IsWellFormedStep, OpenedAreLegal, StepKeepsLegal, StepsKeepLegal}
use Rattle.bsc_table.proofs.History.LegalWithEntry.{IsLegal-entry}
use Rattle.bsc_table.proofs.History.HasEntry.{has_entry-with_room}

-- a new record is a legal history
pub opened_are_legal : OpenedAreLegal
opened_are_legal cell slots = record {
  within = omega arith;
  few = omega arith;
  rising = λ i j d before within. absurd (omega arith);
  known = λ k d within. absurd (omega arith);
  formed = λ k d within. absurd (omega arith);
  answered = λ i d within. absurd (omega arith);
  played = refl;
  aired = λ slot within. absurd (omega arith);
}

-- the defined answer, entered if it has an entry, keeps a legal history legal
legal_answered : (command : Command) (r : Record)
    → IsWellFormed command
    → IsLegal r
    → IsLegal (answered_with command (answer_of r.slots r.log r.air r.clock command) r)
legal_answered command r formed legal =
    elim (cases_lt (length r.log) 4096) [
      | inl room ↦
          let right : answer_of r.slots r.log r.air r.clock command ≡ answer_with_room r.slots r.log r.air r.clock
          command = cond-false _ _ _ (lt-leb 4096 (length r.log) room) in
          let has : has_entry (answer_of r.slots r.log r.air r.clock command) ≡ true = ap has_entry right
          ∙ has_entry-with_room r.slots r.log r.air r.clock command in
          subst IsLegal (sym (cond-true _ _ _ has)) (IsLegal-entry r command legal room formed)
      | inr full ↦
          let says : answer_of r.slots r.log r.air r.clock command ≡ answers.Cause 0x08 = cond-true _ _ _
          (le-leb 4096 (length r.log) full) in
          subst IsLegal (sym (cond-false _ _ _ (ap has_entry says))) legal
    ]

-- so does that the cell is out of memory
legal_asked : (command : Command) (before after : Record)
    → IsWellFormed command
    → IsLegal before
    → IsStep (Ask command) before after
    → IsLegal after
legal_asked command before after formed legal step =
    let With : Answer → Record = λ answer. answered_with command answer before in
    elim step.1 [
      | inl refused ↦ subst IsLegal (sym (step.2 ∙ ap With refused)) legal
      | inr right ↦ subst IsLegal (sym (step.2 ∙ ap With right)) (legal_answered command before formed legal)
    ]

-- slots that air what the air rule says keep an air list by the rule
air_played : (messages : List ScheduledMessage) (air more : Air)
    → IsAirOf messages air
    → ((at : ℕ) → length air ≤ at → at < length (air ++ more)
    → IsChosen messages (air ++ more) at (get_or (air ++ more) at None))
    → IsAirOf messages (air ++ more)
air_played messages air more rule chosen = λ at within.
    let Chosen : Option (ℕ × ℕ) → Type 0 = λ used. IsChosen messages (air ++ more) at used in
    elim (cases_lt at (length air)) [
      | inl before ↦ subst Chosen (sym (get_or_append_left air more None at before))
          (IsChosen-append messages air more at (get_or air at None) (omega arith) (rule at before))
      | inr later ↦ chosen at later within
    ]

-- slots that are played keep a legal history legal
pub legal_played : (slot : ℕ) (before after : Record)
    → before.clock ≤ slot
    → slot ≤ before.slots
    → IsLegal before
    → IsPlayedUpTo slot before after
    → IsLegal after
legal_played slot before after ahead within legal played =
    let more = played.more_air.0 in
    let grown : after.air ≡ before.air ++ more = played.more_air.1 in
    let same = sym played.same_log in
    let long : length (before.air ++ more) ≡ slot = ap length (sym grown) ∙ played.places in
    let Few : List Entry → Type 0 = λ log. length log ≤ 4096 in
    let Rising : List Entry → Type 0 = λ log. AllPairs (λ (a b : Entry). a.slot ≤ b.slot) log in
    let Known : List Entry → Type 0 = λ log. All (λ (e : Entry). e.slot ≤ after.clock) log in
    let Formed : List Entry → Type 0 = λ log. All (λ (e : Entry). IsWellFormed e.command) log in
    let Answered : List Entry → ℕ → Air → Type 0 = λ log slots air. (i : ℕ) (d : Entry) → i < length log
    → HasItsAnswer slots (take i log) air (get_or log i d) in
    let By : List Entry → Air → Type 0 = λ log air. IsAirOf (messages_in log) air in
    let chosen = λ (at : ℕ) (from : length before.air ≤ at) (upto : at < length (before.air ++ more)).
    let Chosen : Air → Type 0 = λ air. IsChosen (messages_in before.log) air at (get_or air at None) in
    subst Chosen grown (played.by_rule at (omega (arith, legal.played)) (omega (arith, long))) in
    record {
      within = omega (arith, played.clock_at, played.same_slots);
      few = subst Few same legal.few;
      rising = subst Rising same legal.rising;
      known = subst Known same (λ k d h. omega (arith, legal.known k d h, played.clock_at));
      formed = subst Formed same legal.formed;
      answered = subst (λ log. Answered log after.slots after.air) same
          (subst (λ slots. Answered before.log slots after.air) (sym played.same_slots)
          (subst (Answered before.log before.slots) (sym grown) (λ i d h.
          let e : Entry = get_or before.log i d in
          let front : take e.slot (before.air ++ more) ≡ take e.slot before.air =
          take-append-le e.slot before.air more (omega (arith, legal.known i d h, legal.played)) in
          let Right : Air → Type 0 = λ air. e.answer ≡ answer_of before.slots (take i before.log) air e.slot
          e.command in
          subst Right (sym front) (legal.answered i d h))));
      played = played.places ∙ sym played.clock_at;
      aired = subst (λ log. By log after.air) same (subst (By before.log) (sym grown)
          (air_played (messages_in before.log) before.air more legal.aired chosen));
    }

-- each step keeps a history legal
pub step_keeps_legal : StepKeepsLegal
step_keeps_legal (Ask command) before after formed legal step = legal_asked command before after formed legal step
step_keeps_legal (Play k) before after formed legal step =
    legal_played (min (before.clock + k) before.slots) before after (omega (arith, legal.within)) (omega arith) legal
    step

-- whatever legal record they are taken from
reached_is_legal : (steps : List StepOfCell) (before reached : Record)
    → IsLegal before
    → All IsWellFormedStep steps
    → IsReached steps before reached
    → IsLegal reached
reached_is_legal [] before reached legal formed reaches = subst IsLegal (sym reaches) legal
reached_is_legal (step ∷ steps) before reached legal formed reaches =
    let next = reaches.0 in
    let here = step_keeps_legal step before next (All-head IsWellFormedStep step steps formed) legal reaches.1 in
    reached_is_legal steps next reached here (All-tail IsWellFormedStep step steps formed) reaches.2

-- so what any list of steps reaches from a new record on is a legal history
pub steps_keep_legal : StepsKeepLegal
steps_keep_legal cell slots steps reached formed reaches =
    reached_is_legal steps (opened cell slots) reached (opened_are_legal cell slots) formed reaches
