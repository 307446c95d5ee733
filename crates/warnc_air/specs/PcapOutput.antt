-- What `warnc pcap` makes of the octets that it reads: the capture of the tapes that they are. Own.
use Rattle.std.specs.Prelude.{◌≡◌, ℕ, List, Option}
use Rattle.std.specs.Io.KnownBytes.{Keeps}
use Rattle.device_ends.specs.Moves.{AppendsFront}
use Rattle.handset.specs.Tape.{IsShort, IsLong}
use Rattle.gsmtap.specs.Capture.{IsCapture}
use Rattle.gsmtap.specs.declared.capture.CaptureFault.{CaptureFault}
use Rattle.gsmtap.specs.declared.capture.CaptureFault.TheVariants as capture
use Rattle.gsmtap.specs.declared.capture.Settings.{Settings}
use Rattle.warnc_air.specs.declared.pcap.PcapFault.{PcapFault}
use Rattle.warnc_air.specs.declared.pcap.PcapFault.TheVariants as fault

-- why no capture is written, out of memory and devices aside; after a fault of the writer a front of the capture is
-- out, and after any other fault nothing is
abbrev pub IsPcapFault : Settings → (input : List ℕ) (old new : Option (List ℕ)) → PcapFault → Type 0
IsPcapFault settings input old new fault.Short = IsShort input × Keeps old new
IsPcapFault settings input old new fault.Long = IsLong input × Keeps old new
IsPcapFault settings input old new fault.ReadFailed = Keeps old new
IsPcapFault settings input old new fault.Refused = Keeps old new
IsPcapFault settings input old new fault.WriteFailed =
    (output : List ℕ) × IsCapture settings input output × AppendsFront old new output

-- the fault that a fault of a capture is reported as, name by name as in the code
abbrev pub fault_of_capture : CaptureFault → PcapFault
fault_of_capture capture.Short = fault.Short
fault_of_capture capture.Long = fault.Long
fault_of_capture capture.Refused = fault.Refused

-- the fault of a failed writer
abbrev pub IsPcapWriteFault : PcapFault → Type 0
IsPcapWriteFault f = f ≡ fault.WriteFailed
