-- Causes in words, as 3GPP TS 48.049, 8.2, Cause, names them.
use Rattle.std.specs.Prelude.{ℕ, ◌==◌, if◌then◌else◌, List, codes}
use Rattle.cbsp_wire.specs.declared.cause.TheConstants as cause

-- a cause in words; those that no order is refused with have no words of their own
abbrev pub cause_words : ℕ → List ℕ
cause_words number =
    if number == cause.PARAMETER_NOT_RECOGNISED then codes "parameter not recognised"
    else if number == cause.PARAMETER_VALUE_INVALID then codes "parameter value invalid"
    else if number == cause.MESSAGE_REFERENCE_NOT_IDENTIFIED then codes "message reference not identified"
    else if number == cause.CELL_IDENTITY_NOT_VALID then codes "cell identity not valid"
    else if number == cause.UNRECOGNISED_MESSAGE then codes "unrecognised message"
    else if number == cause.MISSING_MANDATORY_ELEMENT then codes "missing mandatory element"
    else if number == cause.BSC_CAPACITY_EXCEEDED then codes "BSC capacity exceeded"
    else if number == cause.CELL_MEMORY_EXCEEDED then codes "cell memory exceeded"
    else if number == cause.BSC_MEMORY_EXCEEDED then codes "BSC memory exceeded"
    else if number == cause.CELL_BROADCAST_NOT_OPERATIONAL then codes "cell broadcast not operational"
    else if number == cause.EXTENDED_CHANNEL_NOT_SUPPORTED then codes "extended channel not supported"
    else if number == cause.MESSAGE_REFERENCE_ALREADY_USED then codes "message reference already used"
    else codes "another cause"
