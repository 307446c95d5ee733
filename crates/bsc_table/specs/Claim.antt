-- What an accepted message claims of a cell's slots, from its acceptance on, where it may have to wait for its start
-- (own).
use Rattle.std.specs.Prelude.{ℕ, ◌<◌, ◌≤◌, ◌==◌, Bool, ◌&&◌, nat_le, nat_lt, if◌then◌else◌, Option, List, map, sum_by}
use Rattle.admission.specs.Load.{load_of}
use Rattle.admission.specs.Reservation.{IsBeforeEnd, is_before_end, end_of_reservation}
use Rattle.scheduler.specs.Message.{ScheduledMessage, stopped_if}
use Rattle.scheduler.specs.Air.{layer}

-- a message with the slot in which it was accepted, the number of the message behind which it waits up to its start,
-- if it took over, and the load that it reserves up to its start
pub record Claim : Type 0 where
  pub message : ScheduledMessage
  pub accepted : ℕ
  pub behind : Option ℕ
  pub excess : ℕ

-- the end of a message's reservation
abbrev pub end_of : ScheduledMessage → Option ℕ
end_of m = end_of_reservation m.start m.period m.broadcasts m.stop

-- the load that is its own from its start on
abbrev pub own_load : ScheduledMessage → ℕ
own_load m = load_of m.pages m.period

-- reserved from its acceptance up to, and without, its end
abbrev pub IsClaimedAt : Claim → ℕ → Type 0
IsClaimedAt c slot = (c.accepted ≤ slot) × IsBeforeEnd slot (end_of c.message)

abbrev pub is_claimed_at : ℕ → Claim → Bool
is_claimed_at slot c = nat_le c.accepted slot && is_before_end slot (end_of c.message)

-- a background message reserves nothing
abbrev pub reserves : Claim → Bool
reserves c = layer c.message == 0

-- the load that it reserves at a slot: the excess before its start, its own load from its start on
abbrev pub claim_share_at : ℕ → Claim → ℕ
claim_share_at slot c = if nat_lt slot c.message.start then c.excess else own_load c.message

abbrev pub claim_at : ℕ → Claim → ℕ
claim_at slot c = if is_claimed_at slot c then claim_share_at slot c else 0

-- the loads reserved at a slot
abbrev pub claimed_at : List Claim → ℕ → ℕ
claimed_at claims slot = sum_by (claim_at slot) claims

-- waits at the slot: its start is still to come, and it is reserved there
abbrev pub IsWaiting : ℕ → Claim → Type 0
IsWaiting slot c = (slot < c.message.start) × IsBeforeEnd slot (end_of c.message)

-- the claims, with the message of that number stopped at the slot
abbrev pub stop_claim : ℕ → ℕ → Claim → Claim
stop_claim entry slot c = record c { message = stopped_if (c.message.entry == entry) slot c.message }

abbrev pub stop_claims : ℕ → ℕ → List Claim → List Claim
stop_claims entry slot claims = map (stop_claim entry slot) claims
