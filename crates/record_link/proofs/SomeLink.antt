-- A capture of a link has its header at least.
use Rattle.std.proofs.Common.{◌≡◌, ℕ, ◌+◌, ◌<◌, List, length, refl, arith}
use Rattle.std.proofs.lemmas.List.{length-append}
use Rattle.bsc_table.specs.Record.{Record}
use Rattle.gsmtap.specs.Capture.{file_header}
use Rattle.gsmtap.specs.declared.packet.Start.{Start}
use Rattle.record_link.specs.Sent.{connections_from, run_link}

header_long : length file_header ≡ 24
unfolding file_header
header_long = refl

-- it is never empty
pub some_link : (start : Start) (records : List Record) → 0 < length (run_link start records)
some_link start records =
    let whole = length-append file_header (connections_from start 0 records) in omega (arith, whole, header_long)
