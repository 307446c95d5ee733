use Rattle.std.proofs.Common.{arith, sym}
use Rattle.gsmtap.specs.PieceSteps.{section_of}
use Rattle.gsmtap.proofs.PieceSteps.{begins_with_piece}
use Rattle.gsmtap.proofs.pieces.Reader.next_piece.Goals as goal

pub returns : goal.returns
returns c =
    begins_with_piece (section_of c.args.self.now) c.args.octets.now c.split_at.result.0.now c.split_at.result.1.now
    c.in-Some.length (sym c.in-Some.ensures) (omega arith) c.split_at.ensures.front c.split_at.ensures.back
