use Rattle.std.proofs.Common.{◌∙◌, Some, None, ap, sym, if◌then◌else◌}
use Rattle.gix_hash.specs.Id.{id_of}
use Rattle.gix_object_nodes.specs.Writing.{object_item}
use Rattle.gix_object_nodes.proofs.WrittenEntries.{null_test}
use Rattle.gix_object_nodes.proofs.write.entries.named_object.Goals as goal

pub returns-then-is_null : goal.returns-then-is_null
returns-then-is_null c = λ name.
    sym (ap (λ b. if b then None else Some (object_item name (c.args.mode, c.args.oid))) (null_test (id_of c.args.oid) c.is_null.result c.is_null.ensures ∙ c.if-is_null.true))

pub returns : goal.returns
returns c = λ name.
    sym (ap (λ b. if b then None else Some (object_item name (c.args.mode, c.args.oid))) (null_test (id_of c.args.oid) c.is_null.result c.is_null.ensures ∙ c.if-is_null.false))
