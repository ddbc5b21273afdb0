use Rattle.std.proofs.Common.{◌≡◌, ◌∙◌, ap, subst, sym, false, [], ◌∷◌}
use Rattle.std.specs.Io.KnownBytes.{Appends}
use Rattle.gix_hash.specs.Writes.{AppendsFewer}
use Rattle.gix_object_lines.specs.Writes.{writable, cause_of}
use Rattle.gix_object_tree.specs.Entry.{item_of}
use Rattle.gix_object_tree.specs.Writing.{tree_text, has_zero}
use Rattle.gix_object_tree.proofs.Written.{one_fine, raw_of, parts_text}
use Rattle.gix_object_tree.proofs.tree.write.write_entry.Goals as goal

pub returns-in-Ok : goal.returns-in-Ok
returns-in-Ok g c =
    let item = item_of c.args.entry in
    let plain : has_zero item ≡ false = ap (λ name. has_zero (record { mode = item.mode; name = name; id = item.id })) (sym c.as_bytes-name.ensures) ∙ sym c.contains.ensures.value ∙ c.if-contains.false in
    let text = parts_text item c.as_bytes.result.now c.as_bytes-name.result.now c.as_bytes-2.result.now (c.as_bytes.ensures ∙ c.as_bytes-mode.ensures.text) c.as_bytes-name.ensures (raw_of _ item.id c.as_bytes-2.ensures) in
    (ap cause_of (one_fine item plain), subst (λ t. Appends (g.W.Write.contents c.args.out.now) (g.W.Write.contents c.write_parts.new.out) t) text c.in-Ok.ensures.ok)

pub returns-in-Err : goal.returns-in-Err
returns-in-Err g c =
    let item = item_of c.args.entry in
    let plain : has_zero item ≡ false = ap (λ name. has_zero (record { mode = item.mode; name = name; id = item.id })) (sym c.as_bytes-name.ensures) ∙ sym c.contains.ensures.value ∙ c.if-contains.false in
    let text = parts_text item c.as_bytes.result.now c.as_bytes-name.result.now c.as_bytes-2.result.now (c.as_bytes.ensures ∙ c.as_bytes-mode.ensures.text) c.as_bytes-name.ensures (raw_of _ item.id c.as_bytes-2.ensures) in
    let whole = text ∙ sym (ap (λ r. writable (tree_text (item ∷ [])) r) (one_fine item plain)) in
    subst (λ t. AppendsFewer (g.W.Write.contents c.args.out.now) (g.W.Write.contents c.write_parts.new.out) t) whole c.in-Err.ensures.err
