-- What a cell promises: the reserved loads fit, so that each broadcast is served.
use Rattle.std.proofs.Common.{◌≡◌, ℕ, ◌≤◌, ◌<◌, ◌==◌, Bool, true, false, cond, None, List, [], ◌∷◌, map, filter, get_or}
use Rattle.std.proofs.Common.{sum_by, ap, sym, inl, inr, arith}
use Rattle.std.specs.List.{All, AllPairs, Contains}
use Rattle.std.proofs.lemmas.Bool.{cases_Bool, eqb-true, eq-eqb}
use Rattle.std.proofs.lemmas.List.{get_or_default, get_or-map, length-map}
use Rattle.std.proofs.lemmas.List.Elements.{All-map, All-weaker, All-head, All-tail, All-filter, All-contains}
use Rattle.std.proofs.lemmas.List.Elements.{All-contains_itself, filter_passes}
use Rattle.std.proofs.lemmas.List.Kept.{AllPairs-filter}
use Rattle.std.proofs.lemmas.List.Sums.{sum_by-cons}
use Rattle.admission.specs.Reservation.{is_reserved_at}
use Rattle.admission.proofs.Reservations.{is_reserved_at-says}
use Rattle.scheduler.specs.Message.{ScheduledMessage, release, due}
use Rattle.scheduler.specs.Background.{foreground}
use Rattle.scheduler.specs.Completed.{completed}
use Rattle.scheduler.specs.AirLaws.{PagesComeOnce}
use Rattle.scheduler.specs.Air.{layer, pages_aired}
use Rattle.bsc_table.specs.declared.entry.Entry.{Entry}
use Rattle.bsc_table.specs.Guarantee.{reservation_of, AreAdmitted}
use Rattle.bsc_table.specs.Record.{Record, Accepted, accepted_in, messages_in, claim_of, claims_of}
use Rattle.bsc_table.specs.Claim.{Claim, claim_at, claimed_at, own_load}
use Rattle.bsc_table.specs.Legal.{IsLegal}
use Rattle.bsc_table.specs.Promised.{LegalLoadsFit, LegalHistoriesAreServed, LegalHistoriesAreBounded}
use Rattle.bsc_table.specs.Promised.{LegalPagesAreAiredOnce}
use Rattle.bsc_table.proofs.Load.Bounds.{completed_is_at_most}
use Rattle.bsc_table.specs.Bounds.{least_completed}
use Rattle.bsc_table.proofs.Room.Claims.{claim_at-reserved, share_at-started}
use Rattle.bsc_table.proofs.History.EntryNumbers.{numbers_rise}
use Rattle.bsc_table.proofs.Load.Foreground.{foreground_is_served, foreground_is_at_least}
use Rattle.bsc_table.proofs.History.Ranks.{Contains-filter}
use Rattle.bsc_table.proofs.Load.Reservations.{load_at, loads_by_message}
use Rattle.bsc_table.proofs.History.LegalIsSound.{HasLoad, IsSound-legal}

-- the messages of accepted ones
abbrev messages_of : List Accepted → List ScheduledMessage
messages_of all = map (λ a. a.message) all

-- each accepted message has pages and a period
have_pages : (all : List Accepted) → All HasLoad all → All (λ m. 0 < m.pages) (messages_of all)
have_pages all loaded =
    All-map (λ (m : ScheduledMessage). 0 < m.pages) (λ (a : Accepted). a.message) all
    (All-weaker HasLoad (λ (a : Accepted). 0 < a.message.pages) (λ a h. h.0) all loaded)

have_periods : (all : List Accepted) → All HasLoad all → All (λ m. 0 < m.period) (messages_of all)
have_periods all loaded =
    All-map (λ (m : ScheduledMessage). 0 < m.period) (λ (a : Accepted). a.message) all
    (All-weaker HasLoad (λ (a : Accepted). 0 < a.message.period) (λ a h. h.1) all loaded)

-- a message that has started has reserved no less than its own load
own-le-claim : (slot : ℕ) (a : Accepted) → a.accepted ≤ a.message.start
    → load_at a.message slot ≤ claim_at slot (claim_of a)
own-le-claim slot a forward =
    elim (cases_Bool (is_reserved_at slot (reservation_of a.message))) [
      | inr free ↦ omega (arith, ap (λ (b : Bool). cond b (own_load a.message) 0) free)
      | inl reserved ↦
          let fact = is_reserved_at-says slot (reservation_of a.message) reserved in
          let claimed = claim_at-reserved slot (claim_of a) (omega (arith, forward, fact.0), fact.1) in
          omega (
            arith,
            ap (λ (b : Bool). cond b (own_load a.message) 0) reserved,
            claimed,
            share_at-started slot
                (claim_of a) fact.0,
          )
    ]

own-le-claims : (slot : ℕ) (all : List Accepted)
    → All (λ c. c.accepted ≤ c.message.start) (claims_of all)
    → sum_by (λ m. load_at m slot) (foreground (messages_of all)) ≤ claimed_at (claims_of all) slot
own-le-claims slot [] forward = omega arith
own-le-claims slot (a ∷ all) forward = one (layer a.message == 0) forward (own-le-claims slot all)
  where
    Forward : Claim → Type 0
    Forward c = c.accepted ≤ c.message.start

    one : (says : Bool)
        → All Forward (cond says (claim_of a ∷ claims_of all) (claims_of all))
        → (All Forward (claims_of all) → sum_by (λ m. load_at m slot) (foreground (messages_of all)) ≤ claimed_at
        (claims_of all) slot)
        → sum_by (λ m. load_at m slot) (cond says (a.message ∷ foreground (messages_of all))
        (foreground (messages_of all))) ≤ claimed_at (cond says (claim_of a ∷ claims_of all) (claims_of all)) slot
    one true forward rest =
        let others = rest (All-tail Forward (claim_of a) (claims_of all) forward) in
        let here = own-le-claim slot a (All-head Forward (claim_of a) (claims_of all) forward) in
        omega (
          arith,
          others,
          here,
          sum_by-cons (λ m. load_at m slot) a.message (foreground (messages_of all)),
          sum_by-cons (claim_at slot) (claim_of a) (claims_of all),
        )
    one false forward rest = rest forward

-- so the loads of the messages fit where the claims do
pub legal_loads_fit : LegalLoadsFit
legal_loads_fit r legal =
    let sound = IsSound-legal r legal in
    λ slot. omega (
      arith,
      own-le-claims slot (accepted_in r.log) sound.order.forward,
      sound.fit slot,
      loads_by_message
          (foreground (messages_in r.log)) slot,
    )

-- the numbers of the messages rise
numbers_of_messages_rise : (log : List Entry) → AllPairs (λ a b. a.entry < b.entry) (messages_in log)
numbers_of_messages_rise log = λ i j d before within.
    let all = accepted_in log in
    let message : Accepted → ScheduledMessage = λ a. a.message in
    let default : Accepted = record { id = 0; serial = 0; accepted = 0; behind = None; excess = 0; message = d } in
    let long = length-map all message in
    let first = ap (λ (m : ScheduledMessage). m.entry) (get_or-map message all i default d (omega arith)) in
    let second = ap (λ (m : ScheduledMessage). m.entry) (get_or-map message all j default d (omega arith)) in
    omega (arith, first, second, numbers_rise log i j default before (omega arith))

-- so those that aren't background are admitted
admitted_of : (r : Record) → IsLegal r → AreAdmitted (foreground (messages_in r.log))
admitted_of r legal =
    let p : ScheduledMessage → Bool = λ m. layer m == 0 in
    let messages = messages_in r.log in
    record {
      rising = AllPairs-filter (λ a b. a.entry < b.entry) p messages (numbers_of_messages_rise r.log);
      periods = All-filter p (λ (m : ScheduledMessage). 0 < m.period) messages
          (have_periods (accepted_in r.log) (IsSound-legal r legal).loaded);
      foreground = λ k d h. eqb-true (layer (get_or (filter p messages) k d)) 0 (filter_passes p messages k d h);
      fit = legal_loads_fit r legal;
    }

-- each uncut broadcast of a legal history, but of background, was aired in time
pub legal_histories_are_served : LegalHistoriesAreServed
legal_histories_are_served r legal =
    foreground_is_served (messages_in r.log) r.air (numbers_of_messages_rise r.log) (admitted_of r legal) legal.aired

-- and completed numbers lie between their bounds
pub legal_histories_are_bounded : LegalHistoriesAreBounded
legal_histories_are_bounded r legal = λ k d within. λ slot by.
    let messages = messages_in r.log in
    let m : ScheduledMessage = get_or messages k d in
    let here : Contains messages (get_or messages k d) = (
      k,
      within,
      sym
          (get_or_default messages k d (get_or messages k d) within),
    ) in
    let pages = have_pages (accepted_in r.log) (IsSound-legal r legal).loaded in
    let periods = have_periods (accepted_in r.log) (IsSound-legal r legal).loaded in
    let least = foreground_is_at_least messages r.air slot (numbers_of_messages_rise r.log) (admitted_of r legal)
    legal.aired (omega (arith, legal.played)) in
    let Least : ScheduledMessage → Type 0 = λ o. least_completed o slot ≤ completed o r.air slot in (
      λ front. All-contains Least (foreground messages) (get_or messages k d) least
          (Contains-filter (λ o. layer o == 0) messages (get_or messages k d) here (eq-eqb (layer m) 0 front)),
      completed_is_at_most (get_or messages k d) r.air slot (pages k d within) (periods k d within),
    )

-- and each page of such a broadcast was aired once
pub legal_pages_are_aired_once : PagesComeOnce → LegalPagesAreAiredOnce
legal_pages_are_aired_once law r legal = λ k d within. λ j page uncut some few.
    let messages = messages_in r.log in
    let p : ScheduledMessage → Bool = λ m. layer m == 0 in
    let m : ScheduledMessage = get_or (foreground messages) k d in
    let served : pages_aired m.entry r.air (release m j) (due m j) ≡ m.pages = legal_histories_are_served r legal k d
    within j uncut in
    let here = All-filter p (Contains messages) messages (All-contains_itself messages) k d within in
    law messages r.air (get_or (foreground messages) k d) j page (due (get_or (foreground messages) k d) j)
    (numbers_of_messages_rise r.log) here legal.aired uncut.aired_by (omega arith) some (omega (arith, served, few))
