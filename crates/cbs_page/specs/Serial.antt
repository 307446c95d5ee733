-- The serial number of a page. 3GPP TS 23.041, clause 9.4.1.2.1.
use Rattle.std.specs.Prelude.{ℕ, ◌+◌, ◌*◌, ◌<◌}

-- the number: the geographical scope in bits 15 and 14, the message code in bits 13 to 4, the update number in bits 3
-- to 0
abbrev pub serial_number : ℕ → ℕ → ℕ → ℕ
serial_number scope code update = scope * 16384 + code * 16 + update

-- the ranges of the three fields
abbrev pub AreSerialFields : ℕ → ℕ → ℕ → Type 0
AreSerialFields scope code update = (scope < 4) × (code < 1024) × (update < 16)
