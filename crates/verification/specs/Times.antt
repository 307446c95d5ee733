-- Times on the clock in tables of rows (own).
use Rattle.std.specs.Prelude.{ℕ, nat_lt, if◌then◌else◌, Option, Some, None, List, [], ◌∷◌, codes}
use Rattle.slot_times.specs.SlotTime.{slot_time}
use Rattle.slot_times.specs.declared.start.Start.{Start}

-- the time at which a slot begins, of which slot 0 begins at a start. A run has 65,535 slots at most, and no slot from
-- 4,294,967,296 on has a time
abbrev pub begin_text : Start → (slot : ℕ) → List ℕ
begin_text start slot = if nat_lt slot 4294967296 then slot_time start slot else []

abbrev pub begin_or_none : Start → (slot : Option ℕ) → List ℕ
begin_or_none start None = []
begin_or_none start (Some slot) = begin_text start slot

-- where slot 0 has a time a last column has the time at which the slot of a line begins; there is no octet where a line
-- has no slot
abbrev pub begin_name : Option Start → List (List ℕ)
begin_name None = []
begin_name (Some start) = codes "time" ∷ []

abbrev pub begin_field : Option Start → (slot : Option ℕ) → List (List ℕ)
begin_field None slot = []
begin_field (Some start) slot = begin_or_none start slot ∷ []
