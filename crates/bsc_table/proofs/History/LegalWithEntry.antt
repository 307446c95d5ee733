-- A legal history stays one where a command is entered with its right answer.
use Rattle.std.proofs.Common.{◌≡◌, ℕ, ◌≤◌, ◌<◌, true, Option, Some, None, List, [], ◌∷◌, ◌++◌, length, take, map}
use Rattle.std.proofs.Common.{get_or, ap, sym, subst, ◌∙◌, inl, inr, arith}
use Rattle.std.specs.List.{All, AllPairs, Contains}
use Rattle.std.specs.Option.{IfSome}
use Rattle.std.proofs.lemmas.Bool.{cases_lt}
use Rattle.std.proofs.lemmas.List.{get_or-map, length-map, take_all, take_at, take-append-le, get_or_append_left}
use Rattle.std.proofs.lemmas.List.{get_or_default, get_or_push, length_push, map-append}
use Rattle.std.proofs.lemmas.List.Elements.{All-push, All-map}
use Rattle.std.proofs.lemmas.List.Quantifiers.{all_pairs_push}
use Rattle.scheduler.specs.Message.{ScheduledMessage}
use Rattle.scheduler.specs.Air.{Air, IsAirOf}
use Rattle.scheduler.proofs.Lists.{rising-same}
use Rattle.scheduler.proofs.Rule.{IsAirOf-add, IsAirOf-stop}
use Rattle.bsc_table.specs.declared.command.Command.{Command}
use Rattle.bsc_table.specs.declared.entry.Entry.{Entry}
use Rattle.bsc_table.specs.Orders.{IsWellFormed}
use Rattle.bsc_table.specs.Record.{Record, Accepted, accepted_in, messages_in, is_live}
use Rattle.bsc_table.specs.Answer.{answer_of}
use Rattle.bsc_table.specs.Legal.{HasItsAnswer, IsLegal}
use Rattle.bsc_table.proofs.History.Pairs.{BelowIt, live_is_standing}
use Rattle.bsc_table.proofs.History.EntryNumbers.{numbers_rise}
use Rattle.bsc_table.specs.Begun.{IsBegun}
use Rattle.bsc_table.proofs.History.Begun.{starts_forward}
use Rattle.bsc_table.proofs.History.NextEntry.{Outcome, entry_with, with, without, outcome_of, messages_stopped}
use Rattle.bsc_table.proofs.History.LegalIsSound.{IsSound-legal}

-- in a list whose numbers rise, one number is that of one message
pub same_number : (all : List Accepted) (a : Accepted) → AllPairs BelowIt all → Contains all a
    → All (λ x. x.message.entry ≡ a.message.entry → x ≡ a) all
same_number all a rising there = λ i d within same.
    let here : get_or all there.0 d ≡ a = get_or_default all there.0 d a there.1 ∙ there.2 in
    let its : (get_or all there.0 d).message.entry ≡ a.message.entry = ap (λ (x : Accepted). x.message.entry) here in
    ap (λ (k : ℕ). get_or all k d) (rising-same (λ (x : Accepted). x.message.entry) all rising i there.0 d within
    there.1 (same ∙ sym its)) ∙ here

-- an accepted message's message is among the messages
pub Contains-message : (log : List Entry) (a : Accepted) → Contains (accepted_in log) a
    → Contains (messages_in log) a.message
Contains-message log a there = (
  there.0,
  omega (arith, length-map (accepted_in log) (λ (x : Accepted). x.message), there.1),
  get_or-map
      (λ (x : Accepted). x.message) (accepted_in log) there.0 a a.message there.1
      ∙ ap (λ (x : Accepted). x.message) there.2,
)

-- a live message and no other one is stopped
pub standing_number : (all : List Accepted) (slot : ℕ) (a : Accepted) → AllPairs BelowIt all → Contains all a
    → is_live slot a.message ≡ true → All (λ m. m.entry ≡ a.message.entry → m.stop ≡ None) (map (λ x. x.message) all)
standing_number all slot a rising there live =
    All-map (λ (m : ScheduledMessage). m.entry ≡ a.message.entry → m.stop ≡ None) (λ (x : Accepted). x.message) all
    (λ i d within same.
    ap (λ (x : Accepted). x.message.stop) (same_number all a rising there i d within same)
    ∙ live_is_standing slot a.message live)

-- what was aired before an entry stays by the rule
air_without : (stopped : Option Accepted) (slot : ℕ) (all : List Accepted) (air : Air) → AllPairs BelowIt all
    → IfSome stopped (λ a. Contains all a × (is_live slot a.message ≡ true)) → length air ≤ slot
    → IsAirOf (map (λ a. a.message) all) air → IsAirOf (map (λ a. a.message) (without stopped slot all)) air
air_without None slot all air rising live before airs = airs
air_without (Some a) slot all air rising live before airs =
    let Airs : List ScheduledMessage → Type 0 = λ messages. IsAirOf messages air in
    subst Airs (sym (messages_stopped a.message.entry slot all))
    (IsAirOf-stop (map (λ (x : Accepted). x.message) all) a.message.entry slot air before
    (standing_number all slot a rising live.0 live.1) airs)

air_with : (started replaced : Option Accepted) (entry slot : ℕ) (all : List Accepted) (air : Air)
    → IfSome started (λ a. IsBegun entry slot replaced all a) → length air ≤ slot
    → IsAirOf (map (λ a. a.message) all) air → IsAirOf (map (λ a. a.message) (with started all)) air
air_with None replaced entry slot all air begun before airs = airs
air_with (Some a) replaced entry slot all air begun before airs =
    let Airs : List ScheduledMessage → Type 0 = λ messages. IsAirOf messages air in
    subst Airs (sym (map-append (λ (x : Accepted). x.message) all (a ∷ [])))
    (IsAirOf-add (map (λ (x : Accepted). x.message) all) a.message air
    (omega (arith, before, starts_forward slot replaced all a begun.starts)) airs)

-- an entry at the clock changes nothing of what was aired
pub IsAirOf-entry : (log : List Entry) (e : Entry) (air : Air) → Outcome log e → length air ≤ e.slot
    → IsAirOf (messages_in log) air → IsAirOf (messages_in (log ++ e ∷ [])) air
IsAirOf-entry log e air outcome before airs =
    let rest : List Accepted = without outcome.stopped e.slot (accepted_in log) in
    let Airs : List Accepted → Type 0 = λ all. IsAirOf (map (λ (a : Accepted). a.message) all) air in
    subst Airs (sym outcome.after) (air_with outcome.started outcome.stopped (length log) e.slot rest air outcome.begun
    before (air_without outcome.stopped e.slot (accepted_in log) air (numbers_rise log) outcome.live before airs))

-- the answers of a log with one more
answered_with : (r : Record) (command : Command) → IsLegal r →
    (let e = entry_with command r.clock (answer_of r.slots r.log r.air r.clock command) in (i : ℕ) (d : Entry)
    → i < length (r.log ++ e ∷ []) → HasItsAnswer r.slots (take i (r.log ++ e ∷ [])) r.air
    (get_or (r.log ++ e ∷ []) i d))
answered_with r command legal i d within =
    let e : Entry = entry_with command r.clock (answer_of r.slots r.log r.air r.clock command) in
    let long = length_push r.log e in
    let P : List Entry → Entry → Type 0 = λ before x. HasItsAnswer r.slots before r.air x in
    elim (cases_lt i (length r.log)) [
      | inl earlier ↦
          let front : take i (r.log ++ e ∷ []) ≡ take i r.log = take-append-le i r.log (e ∷ []) (omega arith) in
          let one : get_or (r.log ++ e ∷ []) i d ≡ get_or r.log i d = get_or_append_left r.log (e ∷ []) d i earlier in
          subst (λ before. P before (get_or (r.log ++ e ∷ []) i d)) (sym front)
          (subst (P (take i r.log)) (sym one) (legal.answered i d earlier))
      | inr last ↦
          let at : length r.log ≡ i = omega arith in
          let front : take i (r.log ++ e ∷ []) ≡ r.log = take_at r.log (e ∷ []) i at in
          let one : get_or (r.log ++ e ∷ []) i d ≡ e = get_or_push r.log e d i at in
          let air : take r.clock r.air ≡ r.air = take_all r.clock r.air (omega (arith, legal.played)) in
          let right : P r.log e = ap (λ (a : Air). answer_of r.slots r.log a r.clock command) (sym air) in
          subst (λ before. P before (get_or (r.log ++ e ∷ []) i d)) (sym front) (subst (P r.log) (sym one) right)
    ]

outcome_now : (r : Record) (command : Command) → IsLegal r → IsWellFormed command
    → Outcome r.log (entry_with command r.clock (answer_of r.slots r.log r.air r.clock command))
outcome_now r command legal formed =
    outcome_of r.slots r.log r.air r.clock command (IsSound-legal r legal).once (IsSound-legal r legal).order formed

-- a legal history stays one with the entry of a well-formed command and its defined answer
pub IsLegal-entry : (r : Record) (command : Command) → IsLegal r → length r.log < 4096 → IsWellFormed command
    → IsLegal (record r {
      log = r.log ++ entry_with command r.clock (answer_of r.slots r.log r.air r.clock command) ∷
          [];
    })
IsLegal-entry r command legal room formed =
    let e : Entry = entry_with command r.clock (answer_of r.slots r.log r.air r.clock command) in
    record {
      within = legal.within;
      few = omega (arith, length_push r.log e);
      rising = all_pairs_push (λ (a b : Entry). a.slot ≤ b.slot) r.log e legal.rising legal.known;
      known = All-push (λ (x : Entry). x.slot ≤ r.clock) r.log e legal.known (omega arith);
      formed = All-push (λ (x : Entry). IsWellFormed x.command) r.log e legal.formed formed;
      answered = answered_with r command legal;
      played = legal.played;
      aired = IsAirOf-entry r.log e r.air (outcome_now r command legal formed) (omega (arith, legal.played))
          legal.aired;
    }
