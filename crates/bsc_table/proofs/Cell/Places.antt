-- The place at which a message may take over from a live one, as it is looked up among the messages that are kept.
use Rattle.std.proofs.Common.{◌≡◌, ℕ, ◌<◌, ◌==◌, ◌&&◌, Bool, true, false, cond, Option, Some, None, is_some, List, []}
use Rattle.std.proofs.Common.{◌∷◌, refl, ap, sym, ◌∙◌, arith}
use Rattle.std.specs.List.{Contains, find}
use Rattle.std.specs.Option.{option_map}
use Rattle.std.proofs.lemmas.Bool.{false≢true, and_parts, eqb-true, eq-eqb, ne_eqb}
use Rattle.std.proofs.lemmas.Option.{same_Some}
use Rattle.std.proofs.lemmas.List.{get_or-map, length-map}
use Rattle.std.proofs.lemmas.List.Elements.{All-contains}
use Rattle.scheduler.specs.Air.{layer}
use Rattle.admission.specs.Reservation.{end_of_reservation, end_of_stopped}
use Rattle.bsc_table.specs.declared.accepted.AcceptedMessage.{AcceptedMessage}
use Rattle.bsc_table.specs.Record.{Record, Accepted, accepted_in, claim_of, claims_of, claims_in, place_after}
use Rattle.bsc_table.specs.Claim.{Claim, end_of, stop_claim, stop_claims}
use Rattle.bsc_table.specs.Handover.{Place, ahead_of, numbered, place_before, place_behind, handover}
use Rattle.bsc_table.specs.Legal.{IsLegal}
use Rattle.bsc_table.specs.Accepted.{accepted_of}
use Rattle.bsc_table.specs.BookSteps.{accepted_stopped, stopped_end, IsLiveIn, left_by}
use Rattle.bsc_table.proofs.Room.Ahead.{taken, by_number}
use Rattle.bsc_table.proofs.History.Pairs.{find_passes}
use Rattle.bsc_table.proofs.History.NextEntry.{Contains-find}
use Rattle.bsc_table.proofs.History.Ranks.{its_claim}
use Rattle.bsc_table.proofs.History.LegalIsSound.{HasLoad, IsSound-legal}
use Rattle.bsc_table.proofs.Room.TakeoverKeepsRoom.{is_free}
use Rattle.bsc_table.proofs.Cell.WithEntry.{left_in_order}

-- a message of a number, looked up as accepted or as a claim of which one is stopped
abbrev pub is_reserved_as : ℕ → Accepted → Bool
is_reserved_as entry a = (a.message.entry == entry) && (layer a.message == 0)

numbered_left : (of_old slot entry : ℕ) (all : List Accepted)
    → numbered (Some entry) (stop_claims of_old slot (claims_of all)) ≡ option_map
    (λ a. stop_claim of_old slot (claim_of a)) (find (is_reserved_as entry) all)
numbered_left of_old slot entry [] = refl
numbered_left of_old slot entry (a ∷ all) =
    one (a.message.entry == entry) refl (layer a.message == 0) (numbered_left of_old slot entry all)
  where
    one : (named : Bool)
        → (a.message.entry == entry) ≡ named
        → (front : Bool)
        → numbered (Some entry) (stop_claims of_old slot (claims_of all)) ≡ option_map
        (λ x. stop_claim of_old slot (claim_of x)) (find (is_reserved_as entry) all)
        → numbered (Some entry) (stop_claims of_old slot (cond front (claim_of a ∷ claims_of all) (claims_of all))) ≡
        option_map (λ x. stop_claim of_old slot (claim_of x))
        (cond (named && front) (Some a) (find (is_reserved_as entry) all))
    one true e true rest = ap (λ (b : Bool). cond b (Some (stop_claim of_old slot (claim_of a)))
        (numbered (Some entry) (stop_claims of_old slot (claims_of all)))) e
    one true e false rest = rest
    one false e true rest = ap (λ (b : Bool). cond b (Some (stop_claim of_old slot (claim_of a)))
        (numbered (Some entry) (stop_claims of_old slot (claims_of all)))) e ∙ rest
    one false e false rest = rest

-- what is looked up, by the number of the message ahead
ahead_in : (r : Record) (old : Accepted) (entry load : ℕ) (found : Option Accepted)
    → ahead_of r.clock (claim_of old) ≡ Some entry
    → find (is_reserved_as entry) (accepted_in r.log) ≡ found
    → handover (left_by r old) r.clock (claim_of old) load ≡ place_behind r.clock load
    (option_map (λ a. stop_claim old.message.entry r.clock (claim_of a)) found)
ahead_in r old entry load found ahead e =
    ap (λ (o : Option ℕ). place_behind r.clock load (numbered o (left_by r old))) ahead
    ∙ ap (place_behind r.clock load) (numbered_left old.message.entry r.clock entry (accepted_in r.log)
    ∙ ap (option_map (λ (a : Accepted). stop_claim old.message.entry r.clock (claim_of a))) e)

-- where there is none, there is no place
pub none_ahead : (r : Record) (old : Accepted) (entry load : ℕ)
    → ahead_of r.clock (claim_of old) ≡ Some entry
    → find (is_reserved_as entry) (accepted_in r.log) ≡ None
    → handover (left_by r old) r.clock (claim_of old) load ≡ None
none_ahead r old entry load ahead e = ahead_in r old entry load None ahead e

number_found : (entry : ℕ) (all : List Accepted) (a : Accepted)
    → find (is_reserved_as entry) all ≡ Some a
    → Contains all a × (a.message.entry ≡ entry) × (layer a.message ≡ 0)
number_found entry all a found =
    let p : Accepted → Bool = is_reserved_as entry in
    let passes = and_parts (a.message.entry == entry) (layer a.message == 0) (find_passes p all a found) in
    (Contains-find p all a found, eqb-true a.message.entry entry passes.0, eqb-true (layer a.message) 0 passes.1)

-- a message that is found has a period
pub found_lasts : (r : Record) (entry : ℕ) (a : Accepted)
    → IsLegal r
    → find (is_reserved_as entry) (accepted_in r.log) ≡ Some a
    → 0 < a.message.period
found_lasts r entry a legal found =
    (All-contains HasLoad (accepted_in r.log) a (IsSound-legal r legal).loaded
    (number_found entry (accepted_in r.log) a found).0).1

-- the message ahead was stopped, if a place behind it can be taken over
is_stopped_there : (r : Record) (old : Accepted) (entry load : ℕ) (a : Accepted) (place : Place)
    → IsLegal r
    → IsLiveIn r old
    → layer old.message ≡ 0
    → ahead_of r.clock (claim_of old) ≡ Some entry
    → find (is_reserved_as entry) (accepted_in r.log) ≡ Some a
    → handover (left_by r old) r.clock (claim_of old) load ≡ Some place
    → is_some (stop_claim old.message.entry r.clock (claim_of a)).message.stop ≡ true
is_stopped_there r old entry load a place legal live front ahead found over =
    let claims = claims_in r.log in
    let of_old = old.message.entry in
    let f = stop_claim of_old r.clock in
    let p : Claim = f (claim_of a) in
    let its = number_found entry (accepted_in r.log) a found in
    let here = its_claim (accepted_in r.log) a its.0 its.2 in
    let there : Contains (left_by r old) (f (claim_of a)) = (
      here.0,
      omega (arith, here.1, length-map claims f),
      get_or-map f claims here.0 (claim_of a) (f (claim_of a)) here.1 ∙ ap f here.2,
    ) in
    let took = taken (left_by r old) r.clock load (ahead_of r.clock (claim_of old)) place over in
    let free = is_free claims r.clock load (claim_of old) place (IsSound-legal r legal).order
    (its_claim (accepted_in r.log) old live.there front) live.live over in
    let same : entry ≡ took.p.message.entry = same_Some entry took.p.message.entry (sym ahead ∙ took.entry) in
    let is : free.p ≡ f (claim_of a) = by_number (left_by r old) free.p (f (claim_of a))
    (left_in_order r old legal live).rising free.there there (sym free.named ∙ took.named ∙ sym same ∙ sym its.1) in
    ap (λ (c : Claim). is_some c.message.stop) (sym is) ∙ free.ahead.stopped

-- so the place is that behind it, by the end that its stop gives it
pub place_ahead : (r : Record) (old : Accepted) (entry load : ℕ) (k : AcceptedMessage)
    → IsLegal r
    → IsLiveIn r old
    → layer old.message ≡ 0
    → ahead_of r.clock (claim_of old) ≡ Some entry
    → find (is_reserved_as entry) (accepted_in r.log) ≡ Some (accepted_of k)
    → place_before r.clock load (claim_of (accepted_of (accepted_stopped old.message.entry r.clock k)))
    (stopped_end (accepted_stopped old.message.entry r.clock k)) ≡ handover (left_by r old) r.clock (claim_of old) load
place_ahead r old entry load k legal live front ahead found =
    let s : AcceptedMessage = accepted_stopped old.message.entry r.clock k in
    let p : Claim = claim_of (accepted_of s) in
    let over = ahead_in r old entry load (Some (accepted_of k)) ahead found in
    by_stop s.stop refl ∙ sym over
  where
    s : AcceptedMessage
    s = accepted_stopped old.message.entry r.clock k

    p : Claim
    p = claim_of (accepted_of s)

    at_end : Option ℕ → Option Place
    at_end end = place_before r.clock load p end

    none_there : (o : Option Place) → at_end (end_of p.message) ≡ o → s.stop ≡ None → None ≡ o
    none_there None e stands = refl
    none_there (Some place) e stands =
        let stopped = is_stopped_there r old entry load (accepted_of k) place legal live front ahead found
        (ahead_in r old entry load (Some (accepted_of k)) ahead found ∙ e) in
        absurd (false≢true (sym (ap (λ (o : Option ℕ). is_some o) stands) ∙ stopped))

    by_stop : (stop : Option ℕ) → s.stop ≡ stop → at_end (stopped_end s) ≡ at_end (end_of p.message)
    by_stop (Some t) e =
        let first = ap (λ (o : Option ℕ). at_end (option_map (λ (stop : ℕ). end_of_stopped s.start s.period stop) o)) e
        in
        let second = ap (λ (o : Option ℕ). at_end (end_of_reservation s.start s.period s.broadcasts o)) e in
        first ∙ sym second
    by_stop None e =
        let first = ap (λ (o : Option ℕ). at_end (option_map (λ (stop : ℕ). end_of_stopped s.start s.period stop) o)) e
        in
        first ∙ none_there (at_end (end_of p.message)) refl e

-- of a message that isn't background the place is the one of the claims, and of one that is there is none
pub place_in_front : (claims : List Claim) (slot load : ℕ) (old : Accepted)
    → layer old.message ≡ 0
    → place_after claims slot old load ≡ handover claims slot (claim_of old) load
place_in_front claims slot load old front =
    ap (λ (b : Bool). cond b (handover claims slot (claim_of old) load) None) (eq-eqb (layer old.message) 0 front)

-- a background message is replaced at once: nothing waits behind it
pub no_place : (claims : List Claim) (slot load : ℕ) (old : Accepted)
    → (layer old.message ≡ 0 → ⊥)
    → place_after claims slot old load ≡ None
no_place claims slot load old back =
    ap (λ (b : Bool). cond b (handover claims slot (claim_of old) load) None) (ne_eqb (layer old.message) 0 back)
