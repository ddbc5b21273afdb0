use Rattle.gix_object_tree.proofs.TreeLaws.{mode_back}
use Rattle.std.proofs.Common.{◌<◌, ◌≤◌, length, subst}
use Rattle.gix_object_tree.specs.ModeText.{mode_of}
use Rattle.gix_object_tree.proofs.laws.written_mode_is_read_back.Goals as goal

pub returns : goal.returns
returns c = mode_back (mode_of c.args.mode) (subst (λ n. n < 65536) c.value-value.ensures c.value-value.type_inv) c.args.mode.tree_alone (subst (λ t. length t ≤ 6) c.as_bytes-text.ensures.text c.as_bytes-text.ensures.short)
