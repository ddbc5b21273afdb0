use Rattle.gix_object_commit.proofs.SignedText.{bare_text}
use Rattle.gix_object_commit.proofs.laws.signing.what_is_signed_is_written.Goals as goal

pub returns : goal.returns
returns c = λ commit bare is. bare_text commit bare is
