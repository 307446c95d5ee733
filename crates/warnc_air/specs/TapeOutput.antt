-- What `warnc tape` and `warnc cells` make of the octets that they read: of the capture file that they are, its tape,
-- and a table of who sends in it. Own.
use Rattle.std.specs.Prelude.{◌≡◌, ◌≢◌, ℕ, ◌/◌, ◌%◌, ◌<◌, ◌≤◌, List, [], ◌∷◌, ◌++◌, length, Option, Some, None}
use Rattle.std.specs.Prelude.{codes}
use Rattle.std.specs.Fmt.{decimal}
use Rattle.std.specs.Io.KnownBytes.{Keeps}
use Rattle.std.specs.List.{flat_map}
use Rattle.std.specs.Option.{option_map}
use Rattle.device_ends.specs.Moves.{AppendsFront}
use Rattle.gsmtap.specs.Carried.{Summary, summary_of}
use Rattle.gsmtap.specs.Heard.{IsHeardFault}
use Rattle.gsmtap.specs.Senders.{AreRowsIn}
use Rattle.gsmtap.specs.TapeOfCapture.{IsAirFault, IsTapeOfCapture}
use Rattle.gsmtap.specs.declared.fault.AirFault.{AirFault}
use Rattle.gsmtap.specs.declared.fault.AirFaultKind.{AirFaultKind}
use Rattle.gsmtap.specs.declared.fault.AirFaultKind.TheVariants as kind
use Rattle.gsmtap.specs.declared.heard.Heard.{Heard}
use Rattle.gsmtap.specs.declared.sender_table.SenderRow.{SenderRow}
use Rattle.gsmtap.specs.declared.tape.ChannelType.{ChannelType}
use Rattle.gsmtap.specs.declared.tape.ChannelType.TheVariants.{Cbch, Sdcch}
use Rattle.gsmtap.specs.declared.tape.Wanted.{Wanted}
use Rattle.warnc_air.specs.declared.tape.TapeCommandFault.{TapeCommandFault}
use Rattle.warnc_air.specs.declared.tape.TapeCommandFault.TheVariants as fault

-- the most octets that are read
abbrev pub max_capture : ℕ
max_capture = 1073741824

-- why nothing is written of a capture file that has such faults and such outputs, out of memory and devices aside;
-- after a fault of the writer a front of the output was written, and after any other fault nothing
abbrev pub IsCaptureFaultBy : (IsAir : List ℕ → AirFault → Type 0) (IsOutput : List ℕ → List ℕ → Type 0) →
    (input : List ℕ) (old new : Option (List ℕ)) → TapeCommandFault → Type 0
IsCaptureFaultBy IsAir IsOutput input old new fault.ReadFailed = Keeps old new
IsCaptureFaultBy IsAir IsOutput input old new fault.TooLong = (max_capture < length input) × Keeps old new
IsCaptureFaultBy IsAir IsOutput input old new (fault.Air why) =
    (length input ≤ max_capture) × IsAir input why × (why.kind ≢ kind.Refused) × Keeps old new
IsCaptureFaultBy IsAir IsOutput input old new fault.Refused = Keeps old new
IsCaptureFaultBy IsAir IsOutput input old new fault.WriteFailed =
    (output : List ℕ) × IsOutput input output × AppendsFront old new output

-- why no tape is written
abbrev pub IsTapeCommandFault : Wanted → (input : List ℕ) (old new : Option (List ℕ)) → TapeCommandFault → Type 0
IsTapeCommandFault wanted = IsCaptureFaultBy (IsAirFault wanted) (IsTapeOfCapture wanted)

-- the fault that a fault of a file is reported as, name by name as in the code
abbrev pub fault_of_kind : AirFault → AirFaultKind → TapeCommandFault
fault_of_kind why kind.Refused = fault.Refused
fault_of_kind why other = fault.Air why

abbrev pub fault_of_air : AirFault → TapeCommandFault
fault_of_air why = fault_of_kind why why.kind

-- the fault of a failed writer
abbrev pub IsTapeWriteFault : TapeCommandFault → Type 0
IsTapeWriteFault f = f ≡ fault.WriteFailed

-- the table of senders: no field has a comma, a quotation mark or a line end, so none is quoted
abbrev pub columns_text : List ℕ
columns_text = codes "source,arfcn,channel,blocks,first,last,slots,pages,identifiers,first_time,last_time\n"

-- the word by which `tape` is asked for it
abbrev pub channel_text : ChannelType → List ℕ
channel_text Cbch = codes "cbch"
channel_text Sdcch = codes "sdcch"

-- the four octets of an address, the highest first, with dots between them
abbrev pub address_text : (address : ℕ) → List ℕ
address_text address =
    decimal (address / 16777216) ++ (codes "." ++ (decimal (address / 65536 % 256) ++ (codes "."
    ++ (decimal (address / 256 % 256) ++ (codes "." ++ decimal (address % 256))))))

abbrev pub sender_text : Heard → List ℕ
sender_text one =
    address_text one.station.address ++ (codes "," ++ (decimal one.station.arfcn ++ (codes ","
    ++ (channel_text one.station.channel ++ (codes "," ++ (decimal one.blocks ++ (codes ","
    ++ (decimal one.first ++ (codes "," ++ decimal one.last)))))))))

-- numbers, with one space between two
abbrev pub joined_text : List ℕ → List ℕ
joined_text [] = []
joined_text (first ∷ rest) = decimal first ++ flat_map (λ next. codes " " ++ decimal next) rest

-- what a sender's blocks carry; where they make no tape these columns are empty
abbrev pub carried_text : Option Summary → List ℕ
carried_text None = codes ",,,"
carried_text (Some summary) =
    codes "," ++ (decimal summary.slots ++ (codes "," ++ (decimal summary.pages ++ (codes ","
    ++ joined_text summary.identifiers))))

-- a time, in seconds with nine decimals; nothing where it isn't known
abbrev pub three_digits : ℕ → List ℕ
three_digits number = decimal (number / 100) ++ (decimal (number / 10 % 10) ++ decimal (number % 10))

abbrev pub seconds_text : (nanoseconds : ℕ) → List ℕ
seconds_text time =
    decimal (time / 1000000000) ++ (codes "." ++ (three_digits (time / 1000000 % 1000)
    ++ (three_digits (time / 1000 % 1000) ++ three_digits (time % 1000))))

abbrev pub time_text : Option ℕ → List ℕ
time_text None = []
time_text (Some time) = seconds_text time

-- when its first block came, and its last one
abbrev pub times_text : (first last : Option ℕ) → List ℕ
times_text first last = codes "," ++ (time_text first ++ (codes "," ++ time_text last))

-- the line of a sender
abbrev pub row_text : SenderRow → List ℕ
row_text row =
    sender_text row.heard ++ (carried_text (option_map summary_of row.carried)
    ++ (times_text row.first_time row.last_time ++ codes "\n"))

-- the output is the table of who sends in the capture file that the input is
abbrev pub IsCellsOutput : (input output : List ℕ) → Type 0
IsCellsOutput input output =
    (rows : List SenderRow) × AreRowsIn input rows × (output ≡ columns_text ++ flat_map row_text rows)

-- why no table of senders is written
abbrev pub IsCellsFault : (input : List ℕ) (old new : Option (List ℕ)) → TapeCommandFault → Type 0
IsCellsFault = IsCaptureFaultBy IsHeardFault IsCellsOutput
