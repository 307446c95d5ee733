-- When the packets of a capture file came.
use Rattle.std.specs.Prelude.{ℕ, List, [], ◌∷◌, ◌++◌, Option, Result, Ok}
use Rattle.gsmtap.specs.File.{Packet}
use Rattle.gsmtap.specs.Taken.{ComesTo, Taking}
use Rattle.gsmtap.specs.declared.fault.AirFaultKind.{AirFaultKind}

-- how packets are taken for their times: of each it is known when it came, if the file says it. None is at fault
unfoldable pub with_time : List (Option ℕ) → Packet → Result (List (Option ℕ)) AirFaultKind
with_time before packet = Ok (before ++ packet.time ∷ [])

abbrev pub for_times : Taking (List (Option ℕ))
for_times = record { start = []; step = with_time }

-- the input is a capture file of whole pieces, and its packets came at these times, in nanoseconds from
-- 1970-01-01T00:00:00Z on
abbrev pub AreTimes : (input : List ℕ) (times : List (Option ℕ)) → Type 0
AreTimes input times = ComesTo for_times input times
