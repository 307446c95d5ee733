-- There is room in the budget for a message that begins.
use Rattle.std.proofs.Common.{◌≡◌, ℕ, ◌+◌, ◌≤◌, ◌<◌, true, Some, None, Ok, List, length, map, filter, refl, sym, subst}
use Rattle.std.proofs.Common.{◌∙◌, inl, inr, arith}
use Rattle.std.specs.List.{AllPairs, Contains}
use Rattle.std.proofs.lemmas.Bool.{lt-ltb, le-leb}
use Rattle.scheduler.specs.Air.{layer}
use Rattle.admission.specs.declared.measure.TheConstants.{SCALE}
use Rattle.admission.specs.Table.{room_answer as answer_by, room_answer_for}
use Rattle.bsc_table.specs.Record.{Accepted, is_live, claim_of, claims_of}
use Rattle.bsc_table.specs.Claim.{Claim, own_load, is_claimed_at, claimed_at, stop_claims}
use Rattle.bsc_table.specs.Handover.{handover}
use Rattle.bsc_table.specs.Room.{AreInOrder}
use Rattle.bsc_table.specs.Begun.{StartsNow, IsBegun}
use Rattle.bsc_table.specs.Book.{reservations_at}
use Rattle.bsc_table.specs.BookSteps.{stop_numbered, IsHeldFor, HasRoomFor}
use Rattle.bsc_table.proofs.History.NextEntry.{claims_stopped}
use Rattle.bsc_table.proofs.History.Pairs.{BelowIt}
use Rattle.bsc_table.proofs.History.Ranks.{its_claim}
use Rattle.bsc_table.proofs.History.LegalIsSound.{stops_live}
use Rattle.bsc_table.proofs.Room.StopKeepsRoom.{in_order-stop}
use Rattle.bsc_table.proofs.Cell.BudgetOfTable.{all_behind_one, same_room}
use Rattle.bsc_table.proofs.Cell.HandedOver.{handed_in}

-- where there is a place and room, the budget says so
has_room : (slot load : ℕ) (claims : List Claim)
    → AreInOrder claims slot
    → length (filter (is_claimed_at slot) claims) < 64
    → claimed_at claims slot + load ≤ SCALE
    → room_answer_for (reservations_at slot claims) load ≡ Ok tt
has_room slot load claims order room fits =
    let places = length (filter (is_claimed_at slot) claims) in
    let yes : answer_by places (claimed_at claims slot) load ≡ Ok tt = rw (
      lt-ltb (length (filter (is_claimed_at slot) claims)) 64 room,
      le-leb (claimed_at claims slot + load) SCALE
          fits,
    ) refl in
    same_room slot load claims (all_behind_one slot claims order) ∙ yes

room_now : (slot : ℕ) (before : List Accepted) (a : Accepted)
    → AreInOrder (claims_of before) slot
    → layer a.message ≡ 0
    → length (filter (is_claimed_at slot) (claims_of before)) < 64
    → StartsNow slot before a
    → HasRoomFor slot (reservations_at slot (claims_of before)) (claim_of a) a.behind
room_now slot before a order front room now =
    subst (HasRoomFor slot (reservations_at slot (claims_of before)) (claim_of a)) (sym now.behind)
    (omega (arith, now.start), has_room slot (own_load a.message) (claims_of before) order room (now.fits front))

-- a message in the place of none has room
pub room_for_new : (entry slot : ℕ) (before : List Accepted) (a : Accepted)
    → AreInOrder (claims_of before) slot
    → IsBegun entry slot None before a
    → layer a.message ≡ 0
    → HasRoomFor slot (reservations_at slot (claims_of before)) (claim_of a) a.behind
room_for_new entry slot before a order begun front = room_now slot before a order front (begun.room front) begun.starts

-- and so has one in the place of a live one
pub room_for_replacement : (entry slot : ℕ) (all : List Accepted) (old a : Accepted)
    → AreInOrder (claims_of all) slot
    → AllPairs BelowIt all
    → Contains all old
    → is_live slot old.message ≡ true
    → IsBegun entry slot (Some old) (map (stop_numbered old.message.entry slot) all) a
    → layer a.message ≡ 0
    → HasRoomFor slot (reservations_at slot (stop_claims old.message.entry slot (claims_of all))) (claim_of a) a.behind
room_for_replacement entry slot all old a order rising here live begun front =
    let of_old = old.message.entry in
    let claims = claims_of all in
    let before = map (stop_numbered of_old slot) all in
    let left = stop_claims of_old slot claims in
    let same = claims_stopped of_old slot all in
    let kept = in_order-stop claims of_old slot order (stops_live all slot old rising here live) in
    let InOrder : List Claim → Type 0 = λ l. AreInOrder l slot in
    let Room : List Claim → Type 0 = λ l. length (filter (is_claimed_at slot) l) < 64 in
    let For : List Claim → Type 0 = λ l. HasRoomFor slot (reservations_at slot l) (claim_of a) a.behind in
    elim begun.starts [
      | inl now ↦ subst For same (room_now slot before a (subst InOrder (sym same) kept) front (begun.room front) now)
      | inr over ↦
          let place = over.place in
          let its = its_claim all old here over.of_reserved in
          let Over : List Claim → Type 0 = λ l. handover l slot (claim_of old) (own_load a.message) ≡ Some place in
          let Fits : List Claim → Type 0 = λ l. claimed_at l slot + place.excess ≤ SCALE in
          let held = handed_in slot (own_load a.message) claims (claim_of old) place order its live
          (subst Over same over.over) in
          let fits = has_room slot place.excess left kept (subst Room same (begun.room front))
          (subst Fits same over.fits) in
          let Started : ℕ → Type 0 = λ start. (slot < start) ×
          (room_answer_for (reservations_at slot left) place.excess ≡ Ok tt)
          × IsHeldFor (reservations_at slot left) (own_load a.message) place.behind start place.excess in
          let Reserved : ℕ → Type 0 = λ excess. (slot < a.message.start)
          × (room_answer_for (reservations_at slot left) excess ≡ Ok tt)
          × IsHeldFor (reservations_at slot left) (own_load a.message) place.behind a.message.start excess in
          let with_start = subst Started (sym over.placed.start) (held.0, fits, held.1) in
          subst (HasRoomFor slot (reservations_at slot left) (claim_of a)) (sym over.placed.behind)
          (subst Reserved (sym over.placed.excess) with_start)
    ]
