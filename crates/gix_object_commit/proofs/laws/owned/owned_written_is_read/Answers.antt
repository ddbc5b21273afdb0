use Rattle.std.proofs.Common.{◌≡◌, ◌∙◌, ◌*◌, refl, subst, length}
use Rattle.std.proofs.lemmas.List.{length-map}
use Rattle.gix_hash.specs.Id.{id_of}
use Rattle.gix_hash.specs.Kind.{byte_len, hex_len}
use Rattle.gix_hash.specs.Spelling.{hex_character}
use Rattle.gix_hash.specs.declared.kind.Kind.{Kind}
use Rattle.gix_hash.specs.declared.kind.Kind.TheVariants.{Sha1, Sha256}
use Rattle.gix_hash.proofs.ByteLists.{id-digits_len}
use Rattle.gix_object_commit.specs.Commit.{SpellsCommit, commit_text}
use Rattle.gix_object_commit.specs.OwnedText.{own_digits, own_parts}
use Rattle.gix_object_commit.proofs.OwnedLaws.{owned_written}
use Rattle.gix_object_commit.proofs.laws.owned.owned_written_is_read.Goals as goal

twice : (kind : Kind) → 2 * byte_len kind ≡ hex_len kind
twice Sha1 = refl
twice Sha256 = refl

pub returns : goal.returns
returns c = λ none.
    let commit = c.args.commit.now in
    let id = id_of commit.tree in
    let digits : length (own_digits commit.tree) ≡ hex_len id.kind = length-map id.digits hex_character ∙ id-digits_len id c.as_slice-bytes.result.now c.as_slice-bytes.ensures ∙ twice id.kind in
    subst (λ n. SpellsCommit n (commit_text (own_parts commit)) (own_parts commit)) digits
    (owned_written commit c.seconds_fit.ensures c.seconds_fit-2.ensures none)
