-- A book's plan and budget, asked of an accepted message.
use Rattle.std.proofs.Common.{◌≡◌, ℕ, ◌+◌, ◌<◌, ◌==◌, Bool, true, cond, Result, Option, Some, None, Ok, Err, List}
use Rattle.std.proofs.Common.{length, filter, refl, ap, sym, subst, ◌∙◌, inl, inr, ltb, leb}
use Rattle.std.specs.List.{All, Any, Contains, find}
use Rattle.std.specs.Option.{option_map}
use Rattle.std.specs.Result.{OnOk}
use Rattle.std.proofs.lemmas.Bool.{cond_both, cases_lt, le-ltb, le-leb, lt-ltb, lt-leb, ltb-true, leb-true}
use Rattle.std.proofs.lemmas.List.Elements.{All-contains, All-contains_itself}
use Rattle.admission.specs.declared.budget.Held.{Held}
use Rattle.admission.specs.declared.budget.NoRoom.{NoRoom}
use Rattle.admission.specs.declared.budget.NoRoom.TheVariants.{Table, Load}
use Rattle.admission.specs.declared.measure.TheConstants.{SCALE}
use Rattle.admission.specs.Reservation.{end_of_stopped}
use Rattle.admission.specs.Table.{room_answer as answer_by, room_answer_for, remaining_without}
use Rattle.admission.proofs.Reservations.{end_of_stopped-not_before}
use Rattle.scheduler.specs.Message.{ScheduledMessage}
use Rattle.scheduler.specs.Air.{Air}
use Rattle.scheduler.specs.Completed.{completed}
use Rattle.scheduler.specs.Follows.{PlanState, messages_of, Follows}
use Rattle.bsc_table.specs.declared.entry.Entry.{Entry}
use Rattle.bsc_table.specs.declared.entry.Answer.{Answer}
use Rattle.bsc_table.specs.declared.entry.Answer.TheVariants as answers
use Rattle.bsc_table.specs.Record.{Record, Accepted, accepted_in, messages_in, is_of_pair, claims_in}
use Rattle.bsc_table.specs.Claim.{Claim, is_claimed_at, claimed_at}
use Rattle.bsc_table.specs.Answer.{answer_at}
use Rattle.bsc_table.specs.Legal.{IsLegal}
use Rattle.bsc_table.specs.Book.{reservations_at}
use Rattle.bsc_table.specs.BookSteps.{IsLiveIn, by_room, HasRoom, IsRoom, left_by}
use Rattle.bsc_table.proofs.History.Pairs.{All-find}
use Rattle.bsc_table.proofs.History.LegalWithEntry.{Contains-message}
use Rattle.bsc_table.proofs.Cell.WithEntry.{reservations_without, left_in_order}
use Rattle.bsc_table.proofs.Cell.BudgetOfTable.{all_behind_one, same_room, reservations_are_current, room_without}
use Rattle.bsc_table.proofs.History.LegalIsSound.{HasLoad, IsSound-legal}

-- so a plan that follows them was told of it
pub known_to_plan : (plan : PlanState) (log : List Entry) (air : Air) (a : Accepted)
    → Follows plan (messages_in log) air
    → Contains (accepted_in log) a
    → Any (λ m. m.entry ≡ a.message.entry) (messages_of plan)
known_to_plan plan log air a follows there =
    let P : List ScheduledMessage → Type 0 = λ messages. Any (λ (m : ScheduledMessage). m.entry ≡ a.message.entry)
    messages in
    let found = Contains-message log a there in
    subst P (sym follows.same_messages) (found.0, a.message, found.1, found.2, refl)

-- and what it answers of its number is true of it
pub completed_of_it : (log : List Entry) (air : Air) (slot told : ℕ) (a : Accepted)
    → length air ≡ slot
    → Contains (accepted_in log) a
    → All (λ m. m.entry ≡ a.message.entry → told ≡ completed m air (length air)) (messages_in log)
    → told ≡ completed a.message air slot
completed_of_it log air slot told a long there says =
    let Says : ScheduledMessage → Type 0 = λ m. m.entry ≡ a.message.entry → told ≡ completed m air (length air) in
    All-contains Says (messages_in log) a.message says (Contains-message log a there) refl
    ∙ ap (completed a.message air) long

-- what is found by its pair was accepted
pub found_is_there : (id serial : ℕ) (log : List Entry) (a : Accepted)
    → find (is_of_pair id serial) (accepted_in log) ≡ Some a
    → Contains (accepted_in log) a
found_is_there id serial log a found =
    All-find (Contains (accepted_in log)) (is_of_pair id serial) (accepted_in log) a
    (All-contains_itself (accepted_in log)) found

-- the same where the result of looking is an option
pub option_is_there : {K : Type 0} (view : K → Accepted) (id serial : ℕ) (log : List Entry) (found : Option K)
    (kept : K)
    → option_map view found ≡ find (is_of_pair id serial) (accepted_in log)
    → found ≡ Some kept
    → Contains (accepted_in log) (view kept)
option_is_there view id serial log found kept same is =
    found_is_there id serial log (view kept) (sym same ∙ ap (option_map view) is)

-- what the refusals of a write for want of room are, by those of a budget
room_answered : (places all : ℕ) (now later : Answer)
    → cond (leb 64 places) (answers.Cause 0x07) (cond (ltb SCALE all) later now) ≡ by_room
    (cond (ltb places 64) (cond (leb all SCALE) (Ok tt) (Err Load)) (Err Table)) now later
room_answered places all now later =
    elim (cases_lt places 64) [
      | inl few ↦ elim (cases_lt SCALE all) [
        | inl over ↦ rw (lt-leb 64 places few, lt-ltb SCALE all over, lt-ltb places 64 few, lt-leb all SCALE over) refl
        | inr fits ↦ rw (lt-leb 64 places few, le-ltb SCALE all fits, lt-ltb places 64 few, le-leb all SCALE fits) refl
      ]
      | inr many ↦ rw (le-leb 64 places many, le-ltb places 64 many) refl
    ]

-- what a budget answers of a load, where it holds as much as the claims
room_beside : (slot load : ℕ) (claims : List Claim) (room : Result (Unit {0}) NoRoom)
    → room ≡ answer_by (length (filter (is_claimed_at slot) claims)) (claimed_at claims slot) load
    → IsRoom claims slot load room
room_beside slot load claims room says =
    let places : ℕ = length (filter (is_claimed_at slot) claims) in
    let all : ℕ = claimed_at claims slot + load in
    let few : Bool = ltb places 64 in
    let fits : Bool = leb all SCALE in
    let Fits : Result (Unit {0}) NoRoom → Type 0 = λ x. OnOk x (HasRoom claims slot load) in
    let has_room : few ≡ true → fits ≡ true → HasRoom claims slot load = λ place loads. record {
      places = ltb-true places 64 place;
      loads = leb-true all SCALE loads;
    } in
    let beside = cond fits (Ok tt) (Err Load) in
    let fits_by : Fits (answer_by places (claimed_at claims slot) load) = cond_both few beside (Err Table) Fits
    (λ place. cond_both fits (Ok tt) (Err Load) Fits (has_room place) (λ _. tt)) (λ _. tt) in
    record {
      says = says;
      answered = λ place accepts. room_answered places all (accepts slot) (answer_at claims slot accepts place)
          ∙ ap (λ (x : Result (Unit {0}) NoRoom). by_room x (accepts slot) (answer_at claims slot accepts place))
          (sym says);
      fits = subst Fits (sym says) fits_by;
    }

-- where it is refused for its load, there is a place
pub few_places : (claims : List Claim) (slot load : ℕ) (room : Result (Unit {0}) NoRoom)
    → IsRoom claims slot load room
    → room ≡ Err Load
    → length (filter (is_claimed_at slot) claims) < 64
few_places claims slot load room is full =
    let places : ℕ = length (filter (is_claimed_at slot) claims) in
    elim (cases_lt places 64) [
      | inl few ↦ few
      | inr many ↦
          let none = ap (λ (b : Bool). cond b (cond (leb (claimed_at claims slot + load) SCALE) (Ok tt) (Err Load))
          (Err Table)) (le-ltb places 64 many) in
          absurd (apart (Err Table) (is.says ∙ none) full refl)
    ]
  where
    apart : (other : Result (Unit {0}) NoRoom) → room ≡ other → room ≡ Err Load → other ≡ Err Table → ⊥
    apart other is_other is_load is_table = cc

-- whether a load has room beside the accepted messages
pub room_now : (r : Record) (load : ℕ)
    → IsLegal r
    → IsRoom (claims_in r.log) r.clock load (room_answer_for (reservations_at r.clock (claims_in r.log)) load)
room_now r load legal =
    room_beside r.clock load (claims_in r.log) (room_answer_for (reservations_at r.clock (claims_in r.log)) load)
    (same_room r.clock load (claims_in r.log) (all_behind_one r.clock (claims_in r.log) (IsSound-legal r legal).order))

-- and where a live one of them is stopped: the budget is asked as if that one were gone, where its reservation ends now
pub room_after_stop : (r : Record) (load : ℕ) (a : Accepted)
    → IsLegal r
    → IsLiveIn r a
    → IsRoom (left_by r a) r.clock load (room_answer_for (remaining_without
    (cond (end_of_stopped a.message.start a.message.period r.clock == r.clock) (Some a.message.entry) None)
    (reservations_at r.clock (claims_in r.log))) load)
room_after_stop r load a legal live =
    let sound = IsSound-legal r legal in
    let slot : ℕ = r.clock in
    let entry : ℕ = a.message.entry in
    let end : ℕ = end_of_stopped a.message.start a.message.period slot in
    let reservations : List Held = reservations_at slot (claims_in r.log) in
    let left : List Claim = left_by r a in
    let lasts = (All-contains HasLoad (accepted_in r.log) a sound.loaded live.there).1 in
    let later = end_of_stopped-not_before a.message.start a.message.period slot lasts in
    let asked = room_without slot entry end load reservations later (reservations_are_current slot (claims_in r.log))
    ∙ ap (λ (l : List Held). room_answer_for l load) (reservations_without r a legal live) in
    room_beside slot load left (room_answer_for (remaining_without (cond (end == slot) (Some entry) None) reservations)
    load)
    (asked ∙ same_room slot load left (all_behind_one slot left (left_in_order r a legal live)))
