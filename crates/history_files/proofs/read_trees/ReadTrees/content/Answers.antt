use Rattle.std.proofs.Common.{subst, sym}
use Rattle.gix_hash.specs.Id.{id_of}
use Rattle.gix_object_lines.specs.declared.kind.Kind.TheVariants as kinds
use Rattle.gix_object_lookup.specs.Existing.{Stands}
use Rattle.history_files.proofs.read_trees.ReadTrees.content.Goals as goal

pub returns : goal.returns
returns c = λ table kept.
    subst (Stands table (id_of c.args.id.now) kinds.Tree) (sym c.as_slice.ensures.value)
    (kept c.args.id.now c.in_ok-get.field-0.now (sym c.in_ok-get.ensures.value))
