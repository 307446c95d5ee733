use Rattle.cbch_blocks.proofs.Pieces.{piece_is_short, pieces_follow, pieces_have_octets, pieces_start, tapes_begin}
use Rattle.cbch_blocks.proofs.Pieces.{tapes_end}
use Rattle.cbch_blocks.proofs.piece.piece_laws.Goals as goal

pub returns-clause-begin : goal.returns-clause-begin
returns-clause-begin c = tapes_begin

pub returns-clause-follow : goal.returns-clause-follow
returns-clause-follow c = pieces_follow

pub returns-clause-end : goal.returns-clause-end
returns-clause-end c = tapes_end

pub returns-clause-octets : goal.returns-clause-octets
returns-clause-octets c = pieces_have_octets

pub returns-clause-start : goal.returns-clause-start
returns-clause-start c = pieces_start

pub returns-clause-short : goal.returns-clause-short
returns-clause-short c = λ r first. piece_is_short first r
