use Rattle.std.proofs.Common.{arith, rules}
use Rattle.warnc_air.proofs.TooLong.{too_long_read}
use Rattle.warnc_air.proofs.pcap.pcap_stream.Goals as goal

pub returns-then-len-gt-MAX_INPUT-clause-err : goal.returns-then-len-gt-MAX_INPUT-clause-err
returns-then-len-gt-MAX_INPUT-clause-err g c =
    too_long_read _ c.in-Ok.input.items _ _ (omega arith) c.in-Ok.ensures.value (search rules)
