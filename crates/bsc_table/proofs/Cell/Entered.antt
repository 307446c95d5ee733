-- What the entry of a kill or a write does to the messages.
use Rattle.std.proofs.Common.{◌≡◌, ℕ, ◌+◌, ◌≤◌, ◌<◌, false, cond, Option, Some, None, List, length, map, filter, refl}
use Rattle.std.proofs.Common.{ap, sym, subst, ◌∙◌, inl, inr}
use Rattle.std.specs.List.{find}
use Rattle.std.proofs.lemmas.Bool.{eq-eqb}
use Rattle.admission.specs.declared.measure.TheConstants.{SCALE}
use Rattle.admission.specs.Load.{load_of}
use Rattle.scheduler.specs.Air.{layer, layer_of}
use Rattle.bsc_table.specs.declared.command.Command.{Command}
use Rattle.bsc_table.specs.declared.command.Command.TheVariants as commands
use Rattle.bsc_table.specs.declared.entry.Answer.TheVariants as answers
use Rattle.bsc_table.specs.declared.accepted.AcceptedMessage.{AcceptedMessage}
use Rattle.bsc_table.specs.declared.table.Kept.{Kept}
use Rattle.bsc_table.specs.declared.accepted.Place.{Place as FoundPlace}
use Rattle.bsc_table.specs.Claim.{Claim, is_claimed_at, claimed_at}
use Rattle.bsc_table.specs.Handover.{ahead_of, numbered, handover}
use Rattle.bsc_table.specs.Record.{Record, Accepted, accepted_in, is_of_pair, rank_of, claim_of, claims_of, claims_in}
use Rattle.bsc_table.specs.Record.{is_background_category, place_after, predecessor_of, excess_beyond, write_message}
use Rattle.bsc_table.specs.Legal.{IsLegal}
use Rattle.bsc_table.specs.Begun.{StartsNow, Starts, IsBegun}
use Rattle.bsc_table.specs.Accepted.{accepted_of}
use Rattle.bsc_table.specs.BookSteps.{stop_numbered, IsLiveIn, IsLiveAs, IsOffered, IsStop, IsStart, IsReplacement}
use Rattle.bsc_table.specs.BookSteps.{IsWriteOf, HasRoom, place_found, left_by}
use Rattle.bsc_table.specs.Transitions.{entry_by}
use Rattle.bsc_table.proofs.History.Pairs.{live_is_standing}
use Rattle.bsc_table.proofs.History.NextEntry.{new_message, stops_one, starts_one, replaces_one, placed_at, taken_after}
use Rattle.bsc_table.proofs.History.NextEntry.{claims_stopped}
use Rattle.bsc_table.proofs.History.Ranks.{in_front, is_front}
use Rattle.bsc_table.proofs.History.LegalIsSound.{IsSound-legal}
use Rattle.bsc_table.proofs.Cell.PlanOfTable.{found_is_there}

-- a message that is found by its pair, and is live
pub live_in : (r : Record) (id serial : ℕ) (a : Accepted) → IsLiveAs r.clock id serial r.log a → IsLiveIn r a
live_in r id serial a live = record { there = found_is_there id serial r.log a live.found; live = live.live }

-- a message that is offered may begin beside others that leave it room now
begins : (r : Record) (replaced : Option Accepted) (before : List Accepted) (a : Accepted)
    → IsOffered r a
    → (layer a.message ≡ 0 → HasRoom (claims_of before) r.clock (load_of a.message.pages a.message.period))
    → (StartsNow r.clock before a → Starts r.clock replaced before a)
    → IsBegun (length r.log) r.clock replaced before a
begins r replaced before a offered room either = record {
  numbered = offered.numbered;
  accepted = offered.accepted;
  standing = offered.standing;
  some_pages = offered.some_pages;
  some_period = offered.some_period;
  room = λ front. (room front).places;
  starts = either (record { start = offered.begins; behind = offered.behind; fits = λ front. (room front).loads });
}

-- a kill of a live message stops it
pub kills : (r : Record) (id serial completed : ℕ) (old : Kept)
    → IsLegal r
    → IsLiveAs r.clock id serial r.log (accepted_of old.message)
    → IsStop r (entry_by r (commands.Kill id serial) (answers.Stopped completed)) (accepted_of old.message)
kills r id serial completed old legal live =
    let a : Accepted = accepted_of old.message in
    let once = (IsSound-legal r legal).once in
    let standing = live_is_standing r.clock a.message live.live in
    record {
      stops = live_in r id serial a live;
      after = stops_one r.log r.clock id serial completed a once live.found standing;
    }

-- a write in the place of none starts its message, where that has room
pub starts : (r : Record) (new : AcceptedMessage) (command : Command)
    → IsOffered r (accepted_of new)
    → (is_background_category new.category ≡ false → HasRoom (claims_in r.log) r.clock (load_of new.pages new.period))
    → IsWriteOf (accepted_of new) None command
    → IsStart r (entry_by r command (answers.Started new.accepted)) (accepted_of new)
starts r new (commands.Write id serial None category dcs period broadcasts contents) offered room same =
    let after = starts_one r.log r.clock id serial category period broadcasts dcs contents in
    record {
      begun = begins r None (accepted_in r.log) (accepted_of new) offered (λ front. room (is_front new.category front))
          (λ now. now);
      after = cc;
    }
starts r new (commands.Write id serial (Some old) category dcs period broadcasts contents) offered room same = cc
starts r new (commands.Kill id serial) offered room same = absurd same
starts r new (commands.Status id serial) offered room same = absurd same

-- and a write in the place of a live message, where it has room once that one is stopped
pub replaces : (r : Record) (old : Kept) (new : AcceptedMessage) (completed replaced : ℕ) (command : Command)
    → IsLegal r
    → IsLiveAs r.clock new.id replaced r.log (accepted_of old.message)
    → IsOffered r (accepted_of new)
    → (is_background_category new.category ≡ false → HasRoom (left_by r (accepted_of old.message)) r.clock
    (load_of new.pages new.period))
    → IsWriteOf (accepted_of new) (Some replaced) command
    → IsReplacement r (entry_by r command (answers.Replaced new.start completed)) (accepted_of old.message)
    (accepted_of new)
replaces r old new completed replaced (commands.Write id serial (Some named) category dcs period broadcasts contents)
    legal live offered room same =
    let a : Accepted = accepted_of old.message in
    let once = (IsSound-legal r legal).once in
    let standing = live_is_standing r.clock a.message live.live in
    let same_id : id ≡ new.id = ap (λ (x : Accepted). x.id) same.1 in
    let same_old : named ≡ replaced = cc in
    let Found : ℕ → ℕ → Type 0 = λ i s. find (is_of_pair i s) (accepted_in r.log) ≡ Some a in
    let found = subst (λ i. Found i named) (sym same_id) (subst (Found new.id) (sym same_old) live.found) in
    let at_once : predecessor_of r.clock r.clock (Some a) ≡ None =
    ap (λ b. cond b None (ahead_of r.clock (claim_of a))) (eq-eqb r.clock r.clock refl) in
    let after =
    replaces_one r.log r.clock r.clock id serial named completed category period broadcasts dcs contents a None once
    found standing at_once in
    let left : List Accepted = map (stop_numbered old.message.entry r.clock) (accepted_in r.log) in
    let Room : List Claim → Type 0 = λ claims. HasRoom claims r.clock (load_of new.pages new.period) in
    let room_left = λ (front : layer_of (rank_of new.category) ≡ 0). subst Room
    (sym (claims_stopped old.message.entry r.clock (accepted_in r.log))) (room (is_front new.category front)) in
    record {
      stops = live_in r new.id replaced a live;
      begun = begins r (Some a) left (accepted_of new) offered room_left (λ now. inl now);
      after = cc;
    }
replaces r old new completed replaced (commands.Write id serial None category dcs period broadcasts contents)
    legal live offered room same = cc
replaces r old new completed replaced (commands.Kill id serial) legal live offered room same = absurd same
replaces r old new completed replaced (commands.Status id serial) legal live offered room same = absurd same

-- the message of a write that waits
abbrev pub waiting_at : AcceptedMessage → FoundPlace → AcceptedMessage
waiting_at new place = record new { behind = Some place.behind; excess = place.excess; start = place.start }

-- or where it takes over at a place, once that one is stopped
pub takes_over : (r : Record) (old : Kept) (new : AcceptedMessage) (place : FoundPlace) (completed replaced : ℕ)
    (command : Command)
    → IsLegal r
    → IsLiveAs r.clock new.id replaced r.log (accepted_of old.message)
    → IsOffered r (accepted_of new)
    → length (filter (is_claimed_at r.clock) (left_by r (accepted_of old.message))) < 64
    → is_background_category new.category ≡ false
    → place_after (left_by r (accepted_of old.message)) r.clock (accepted_of old.message)
    (load_of new.pages new.period) ≡ Some (place_found place)
    → claimed_at (left_by r (accepted_of old.message)) r.clock + place.excess ≤ SCALE
    → IsWriteOf (accepted_of new) (Some replaced) command
    → IsReplacement r (entry_by r command (answers.Replaced place.start completed)) (accepted_of old.message)
    (accepted_of (waiting_at new place))
takes_over r old new place completed replaced
    (commands.Write id serial (Some named) category dcs period broadcasts contents) legal live offered room front
    after_old fits same =
    let a : Accepted = accepted_of old.message in
    let taken = taken_after (left_by r a) r.clock (load_of new.pages new.period) a (place_found place) after_old in
    let over = taken.1 in
    let all : List Accepted = accepted_in r.log in
    let sound = IsSound-legal r legal in
    let standing = live_is_standing r.clock a.message live.live in
    let same_id : id ≡ new.id = ap (λ (x : Accepted). x.id) same.1 in
    let same_pages : length contents ≡ new.pages = ap (λ (x : Accepted). x.message.pages) same.1 in
    let same_period : period ≡ new.period = ap (λ (x : Accepted). x.message.period) same.1 in
    let same_old : named ≡ replaced = cc in
    let Found : ℕ → ℕ → Type 0 = λ i s. find (is_of_pair i s) all ≡ Some a in
    let found = subst (λ i. Found i named) (sym same_id) (subst (Found new.id) (sym same_old) live.found) in
    let load : load_of (length contents) period ≡ load_of new.pages new.period =
    ap (λ n. load_of n period) same_pages ∙ ap (λ n. load_of new.pages n) same_period in
    let placed = placed_at r.log r.clock (load_of new.pages new.period) a (place_found place) sound.order over in
    let excess : excess_beyond (load_of (length contents) period) (numbered (Some place.behind) (claims_in r.log)) ≡
    place.excess =
    ap (λ n. excess_beyond n (numbered (Some place.behind) (claims_in r.log))) load ∙ placed.2 in
    let after =
    replaces_one r.log r.clock place.start id serial named completed category period broadcasts dcs contents a
    (Some place.behind) sound.once found standing placed.1 in
    let left : List Accepted = map (stop_numbered old.message.entry r.clock) all in
    let same_left = sym (claims_stopped old.message.entry r.clock all) in
    let Room : List Claim → Type 0 = λ claims. length (filter (is_claimed_at r.clock) claims) < 64 in
    let Over : List Claim → Type 0 = λ claims. handover claims r.clock (claim_of a) (load_of new.pages new.period) ≡
    Some (place_found place) in
    let Fits : List Claim → Type 0 = λ claims. claimed_at claims r.clock + place.excess ≤ SCALE in
    let waits : Accepted = accepted_of (waiting_at new place) in
    let it : write_message (length r.log) r.clock place.start (Some place.behind) place.excess id serial
    (length contents) period broadcasts (rank_of category) ≡ waits =
    moved (length r.log) r.clock same.1 offered.numbered offered.accepted in
    let its : new_message all (length r.log) r.clock place.start (Some place.behind) id serial category period
    broadcasts contents ≡ waits =
    ap (λ n. write_message (length r.log) r.clock place.start (Some place.behind) n id serial (length contents) period
    broadcasts (rank_of category)) excess ∙ it in
    record {
      stops = live_in r new.id replaced a live;
      begun = record {
        numbered = offered.numbered;
        accepted = offered.accepted;
        standing = offered.standing;
        some_pages = offered.some_pages;
        some_period = offered.some_period;
        room = λ _. subst Room same_left room;
        starts = inr (record {
          place = place_found place;
          over = subst Over same_left over;
          placed = record { behind = refl; start = refl; excess = refl };
          of_reserved = taken.0;
          reserved = in_front new.category front;
          fits = subst Fits same_left fits;
        });
      };
      after = cc;
    }
  where
    -- what is offered, at another start and place
    at_place : Accepted → Accepted
    at_place x = record x {
      behind = Some place.behind;
      excess = place.excess;
      message = record (x.message)
          { start = place.start };
    }

    moved : (entry slot : ℕ)
        → write_message new.entry new.accepted new.start new.behind new.excess id serial (length contents) period
        broadcasts (rank_of category) ≡ accepted_of new
        → new.entry ≡ entry
        → new.accepted ≡ slot
        → write_message entry slot place.start (Some place.behind) place.excess id serial (length contents) period
        broadcasts (rank_of category) ≡ accepted_of (waiting_at new place)
    moved entry slot same_new same_number same_slot =
        ap (λ n. write_message n slot place.start (Some place.behind) place.excess id serial (length contents) period
        broadcasts (rank_of category)) (sym same_number)
        ∙ ap (λ n. write_message new.entry n place.start (Some place.behind) place.excess id serial (length contents)
        period broadcasts (rank_of category)) (sym same_slot)
        ∙ ap at_place same_new
takes_over r old new place completed replaced
    (commands.Write id serial None category dcs period broadcasts contents) legal live offered room front after_old
    fits same = cc
takes_over r old new place completed replaced (commands.Kill id serial) legal live offered room front after_old
    fits same = absurd same
takes_over r old new place completed replaced (commands.Status id serial) legal live offered room front after_old
    fits same = absurd same
