use Rattle.gix_object_commit.proofs.SignedText.{same_text}
use Rattle.gix_object_commit.proofs.laws.signing.signed_over_the_same_text.Goals as goal

pub returns : goal.returns
returns c = λ commit signed signature is. same_text commit signed signature is
