use Rattle.std.proofs.Common.{◌≡◌, ◌∙◌, ◌*◌, refl}
use Rattle.std.proofs.lemmas.List.{length-map}
use Rattle.gix_hash.specs.Id.{id_of}
use Rattle.gix_hash.specs.Kind.{byte_len, hex_len}
use Rattle.gix_hash.specs.Spelling.{hex_character}
use Rattle.gix_hash.specs.declared.kind.Kind.{Kind}
use Rattle.gix_hash.specs.declared.kind.Kind.TheVariants.{Sha1, Sha256}
use Rattle.gix_hash.proofs.ByteLists.{id-digits_len}
use Rattle.gix_object_tag.proofs.OwnedReadBack.{owned_spells}
use Rattle.gix_object_tag.proofs.laws.owned.owned_written_is_read.Goals as goal

twice : (kind : Kind) → 2 * byte_len kind ≡ hex_len kind
twice Sha1 = refl
twice Sha256 = refl

pub returns : goal.returns
returns c = λ ok.
    let tag = c.args.tag.now in
    let id = id_of tag.target in
    owned_spells tag (length-map id.digits hex_character ∙ id-digits_len id c.as_slice-bytes.result.now c.as_slice-bytes.ensures ∙ twice id.kind)
    c.printed_id_reads_back.ensures c.seconds_fit.ensures ok
