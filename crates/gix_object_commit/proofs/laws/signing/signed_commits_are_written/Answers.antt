use Rattle.gix_object_commit.proofs.SignedPieces.{signed_is_fine}
use Rattle.gix_object_commit.proofs.laws.signing.signed_commits_are_written.Goals as goal

pub returns : goal.returns
returns c = λ commit signed signature none is. signed_is_fine commit signed signature none is
