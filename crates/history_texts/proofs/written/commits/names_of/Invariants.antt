use Rattle.std.proofs.Common.{◌≡◌, ◌∷◌, map, take}
use Rattle.gix_hash.specs.Id.{id_of}
use Rattle.gix_object_lines.specs.declared.kind.Kind.TheVariants as kinds
use Rattle.history_texts.specs.Written.{naming_of}
use Rattle.history_texts.proofs.written.commits.names_of.Given as goal

-- the tree and the parents so far
abbrev pub invariant-loop-parent : goal.invariant-loop-parent
invariant-loop-parent l = map naming_of l.names.items ≡ (id_of l.commit.tree, kinds.Tree) ∷ map (λ parent. (parent, kinds.Commit)) (map id_of (take l.parent-index l.parent-items))
