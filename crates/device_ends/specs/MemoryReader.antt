-- What a contract sees of a `MemoryReader`.
use Rattle.std.specs.Prelude.{ℕ, List, Option}
use Rattle.device_ends.specs.declared.memory.reader.MemoryReader.{MemoryReader}

-- the octets that are left
abbrev pub octets_left : MemoryReader → List ℕ
octets_left reader = reader.octets.now

-- how many octets a call gives at most
abbrev pub octets_per_read : MemoryReader → ℕ
octets_per_read reader = reader.per_call

-- how many calls are left before one fails
abbrev pub reads_left : MemoryReader → Option ℕ
reads_left reader = reader.calls
