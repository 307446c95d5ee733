-- What a contract sees of a `MemoryWriter`.
use Rattle.std.specs.Prelude.{ℕ, List, Option}
use Rattle.device_ends.specs.declared.memory.writer.MemoryWriter.{MemoryWriter}

-- the octets that were taken so far
abbrev pub octets_taken : MemoryWriter → List ℕ
octets_taken writer = writer.octets.items

-- how many octets a call takes at most
abbrev pub octets_per_write : MemoryWriter → ℕ
octets_per_write writer = writer.per_call

-- how many calls are left before one fails
abbrev pub writes_left : MemoryWriter → Option ℕ
writes_left writer = writer.calls
