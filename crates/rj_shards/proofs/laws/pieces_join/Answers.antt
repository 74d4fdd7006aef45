use Rattle.rj_shards.proofs.JoinedPieces.{are_pieces}
use Rattle.rj_shards.proofs.laws.pieces_join.Goals as goal

pub returns : goal.returns
returns c = are_pieces
