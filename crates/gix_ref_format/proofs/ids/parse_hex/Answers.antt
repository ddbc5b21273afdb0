use Rattle.std.proofs.Common.{◌≡◌, ◌∙◌, sym, rules, Result, Ok, ap, subst}
use Rattle.std.specs.Prelude.{MatchResult}
use Rattle.gix_hash.specs.Id.{id_of}
use Rattle.gix_hash.specs.Kind.{hex_len}
use Rattle.gix_hash.specs.Views.{IsHexOfId}
use Rattle.gix_ref_format.proofs.IdLemmas.{id_from_hex-reads}
use Rattle.gix_ref_format.proofs.ids.parse_hex.Goals as goal

from_ok : {T E : Type 0} (P : T → Type 0) (Q : E → Type 0) (r : Result T E) (x : T) → r ≡ Ok x → MatchResult r P Q → P x
from_ok P Q r x is told = subst (λ r. MatchResult r P Q) is told

pub returns-then-eq : goal.returns-then-eq
returns-then-eq c =
    let kind : c.kind.result ≡ c.args.kind = search rules in
    let read : c.from_hex.result ≡ Ok c.in_ok-id.id = search rules in
    let spelled : IsHexOfId c.args.digits.now (id_of c.in_ok-id.id) = from_ok _ _ _ _ read c.from_hex.ensures in
    let same = sym c.kind.ensures ∙ kind in
    sym (id_from_hex-reads c.args.kind c.args.digits.now (id_of c.in_ok-id.id) (spelled.whole ∙ ap hex_len same) spelled.spelled same)
