use Rattle.gix_object_commit.proofs.SignedText.{put_in}
use Rattle.gix_object_commit.proofs.laws.signing.signature_is_put_into_the_signed_text.Goals as goal

pub returns : goal.returns
returns c = λ commit signed signature is. put_in commit signed signature is
