-- The reservation of a message (own): the slots at which its load counts.
use Rattle.std.specs.Prelude.{ℕ, ◌+◌, ◌-◌, ◌*◌, ◌<◌, ◌≤◌, ◌==◌, min, Bool, true, ◌&&◌, nat_lt, nat_le, if◌then◌else◌}
use Rattle.std.specs.Prelude.{Option, Some, None, List, filter, sum_by, ⊤}
use Rattle.std.specs.Int.{div_ceil}

-- the number of a message's entry in the log, its load, the slot from which the load counts, and the slot from which it
-- counts no more, if any
pub record Reservation : Type 0 where
  pub entry : ℕ
  pub load : ℕ
  pub start : ℕ
  pub end : Option ℕ

-- the slot comes before the end, or there is none
abbrev pub IsBeforeEnd : ℕ → Option ℕ → Type 0
IsBeforeEnd slot None = ⊤
IsBeforeEnd slot (Some end) = slot < end

-- the reservation counts at the slot: from its start up to, and without, its end
abbrev pub IsReservedAt : Reservation → ℕ → Type 0
IsReservedAt r slot = (r.start ≤ slot) × IsBeforeEnd slot r.end

-- the same two as tests
abbrev pub is_before_end : ℕ → Option ℕ → Bool
is_before_end slot None = true
is_before_end slot (Some end) = nat_lt slot end

abbrev pub is_reserved_at : ℕ → Reservation → Bool
is_reserved_at slot r = nat_le r.start slot && is_before_end slot r.end

-- the sum of the loads of those reserved at the slot
abbrev pub loads_at : List Reservation → ℕ → ℕ
loads_at reservations slot = sum_by (λ r. r.load) (filter (is_reserved_at slot) reservations)

-- where a message that is never stopped runs out: after so many periods as broadcasts were requested; never where 0
-- were
abbrev pub natural_end : ℕ → ℕ → ℕ → Option ℕ
natural_end start period broadcasts = if broadcasts == 0 then None else Some (start + broadcasts * period)

-- where the reservation of a stopped message ends. A stop after its start: at the end of the period in which that is,
-- the least slot, not before the stop, that is a whole number of periods after the start. A stop at its start or
-- before it: at the stop
abbrev pub end_of_stopped : ℕ → ℕ → ℕ → ℕ
end_of_stopped start period stop = min start stop + period * div_ceil (stop - start) period

-- the end of a message's reservation, by its start, its period, its requested broadcasts and its stop, if any
abbrev pub end_of_reservation : ℕ → ℕ → ℕ → Option ℕ → Option ℕ
end_of_reservation start period broadcasts None = natural_end start period broadcasts
end_of_reservation start period broadcasts (Some stop) = Some (end_of_stopped start period stop)
