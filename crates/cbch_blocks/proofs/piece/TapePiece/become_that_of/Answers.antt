use native.Mathlib.Omega.{arith}
use Rattle.cbch_blocks.specs.Pieces.{piece_from}
use Rattle.cbch_blocks.proofs.Pieces.{piece_alone, piece_is_short}
use Rattle.cbch_blocks.proofs.piece.TapePiece.become_that_of.Goals as goal

pub returns : goal.returns
returns c =
    let short = piece_is_short c.args.first c.args.run.now in
    piece_alone c.put_piece.result c.clear.new.self.items c.put_piece.new.octets.items
    (piece_from c.args.first c.args.run.now) c.clear.ensures.items
    (c.put_piece.ensures.room (omega (arith, short, c.clear.ensures.len, c.clear.ensures.capacity, c.self.invariant)))
    c.put_piece.ensures.put
