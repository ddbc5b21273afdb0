-- The headers that hold signatures (Git's hash-function-transition, "Signed Commits";
-- gitformat-signature).
use Rattle.std.specs.Prelude.{ℕ, List, codes}
use Rattle.gix_hash.specs.declared.kind.Kind.{Kind}
use Rattle.gix_hash.specs.declared.kind.Kind.TheVariants.{Sha1, Sha256}

abbrev pub signature_name : Kind → List ℕ
signature_name Sha1 = codes "gpgsig"
signature_name Sha256 = codes "gpgsig-sha256"
