-- Faults of whole reads: what each is printed as, and which of them reports the device.
use Rattle.std.specs.Prelude.{ℕ, List, Bool, false, true, Result, Ok, Err, codes}
use Rattle.device_ends.specs.declared.fault.ReadFault.{ReadFault}
use Rattle.device_ends.specs.declared.fault.ReadFault.TheVariants.{Device, Refused}

-- what a fault is printed as
abbrev pub read_fault_text : ReadFault → List ℕ
read_fault_text Device = codes "device failed"
read_fault_text Refused = codes "memory refused"

-- a result reports that the device failed
abbrev pub reports_device : {T : Type 0} → Result T ReadFault → Bool
reports_device (Ok _) = false
reports_device (Err Device) = true
reports_device (Err Refused) = false
