use Rattle.std.proofs.Common.{◌∙◌, ap, refl, length}
use Rattle.std.proofs.lemmas.Option.{slice_get_read}
use Rattle.gix_object_lines.specs.HexLine.{is_id}
use Rattle.gix_object_commit.proofs.HexDigits.{id_at}
use Rattle.gix_object_commit.proofs.commit.ids.ParentsIterator.next.Goals as goal

pub id_of_digits-requires : goal.id_of_digits-requires
id_of_digits-requires c =
    let parents = c.args.self.now in
    let text = c.in_ok-digits.digits.now in
    let look = c.in_ok-digits.ensures.lookup in
    let at = slice_get_read parents.digits.now (length parents.digits.now) parents.place text refl look.3.0 look.1 in
    ap is_id c.as_bytes.ensures ∙ id_at parents.digits.now parents.place text parents.are_ids at
