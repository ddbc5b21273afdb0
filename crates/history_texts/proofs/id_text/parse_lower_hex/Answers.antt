use Rattle.std.proofs.Common.{◌≡◌, ◌∙◌, sym, ap, Some}
use Rattle.std.proofs.lemmas.Bool.Decides.{Decides-eqb}
use Rattle.std.proofs.lemmas.Slice.Eq.{slice_eq-Decides}
use Rattle.gix_hash.specs.Id.{id_of}
use Rattle.history_model.specs.Objects.{hex}
use Rattle.history_model.specs.PackedNames.{id_from_hex}
use Rattle.history_model.proofs.IdLemmas.{id_from_hex-hex, id_from_hex-is_id}
use Rattle.history_texts.proofs.id_text.parse_lower_hex.Goals as goal

pub returns-then-eq : goal.returns-then-eq
returns-then-eq c =
    let same = (slice_eq-Decides Decides-eqb _ _ _ c.eq.ensures).0 c.if-eq.true in
    (id_from_hex-is_id c.args.kind c.args.digits.now (id_of c.in_ok-id.id) (sym c.in_ok-id.ensures), sym same ∙ c.hex_digits.ensures)

pub returns-in_err-id : goal.returns-in_err-id
returns-in_err-id c = rw c.from_residual.ensures (λ id formed is.
    cc (c.in_err-id.ensures ∙ ap (id_from_hex c.args.kind) is ∙ id_from_hex-hex c.args.kind id formed))

pub returns-else-eq : goal.returns-else-eq
returns-else-eq c id formed is =
    let found : Some (id_of c.in_ok-id.id) ≡ Some id = c.in_ok-id.ensures ∙ ap (id_from_hex c.args.kind) is ∙ id_from_hex-hex c.args.kind id formed in
    let same : id_of c.in_ok-id.id ≡ id = cc in
    cc (sym c.if-eq.false ∙ (slice_eq-Decides Decides-eqb _ _ _ c.eq.ensures).1 (c.hex_digits.ensures ∙ ap hex same ∙ sym is))
