use Rattle.std.proofs.Common.{◌≡◌, ◌^◌, length, drop}
use Rattle.gsmtap.specs.TapesSteps.{AreNear, known_of_each}
use Rattle.gsmtap.proofs.TapesLaws.{IsOffered}
use Rattle.gsmtap.specs.PieceSteps.{packet_of}
use Rattle.gsmtap.proofs.tapes.offer.Given as goal

abbrev pub invariant-loop-place : goal.invariant-loop-place
invariant-loop-place l = record {
  offered :
      IsOffered l.wanted (known_of_each l.fn.airs.items) (known_of_each l.airs.items)
      (packet_of l.packet) l.place;
  many : length l.airs.items ≡ length l.wanted;
  near : AreNear (2 ^ 59) (drop l.place (known_of_each l.airs.items));
}
