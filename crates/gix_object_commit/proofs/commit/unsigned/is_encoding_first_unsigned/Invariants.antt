use Rattle.std.proofs.Common.{◌≡◌, take, []}
use Rattle.gix_object_commit.specs.Signing.{unsigned}
use Rattle.gix_object_commit.proofs.commit.unsigned.is_encoding_first_unsigned.Given as goal

abbrev pub invariant-loop-header : goal.invariant-loop-header
invariant-loop-header l = unsigned (take l.header-index l.headers) ≡ []
