use Rattle.std.proofs.Common.{◌≡◌, ◌+◌, ◌%◌, ◌<◌, drop}
use Rattle.link_capture.specs.Segment.{octet_sum}
use Rattle.link_capture.proofs.sums.octet_sum.Given as goal

abbrev pub invariant-loop-place : goal.invariant-loop-place
invariant-loop-place l = record {
  left : (l.sum + octet_sum l.place (drop l.place l.octets)) % 65535 ≡ octet_sum 0 l.octets % 65535;
  small : l.sum < 65535;
}
