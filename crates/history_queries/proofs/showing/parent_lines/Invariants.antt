use Rattle.std.proofs.Common.{◌≡◌, ◌++◌, map, take}
use Rattle.history_model.specs.Objects.{hex}
use Rattle.history_model.specs.Spelling.{parts_text, parent_part}
use Rattle.history_queries.proofs.showing.parent_lines.Given as goal
use Rattle.gix_hash.specs.Id.{id_of}

abbrev pub invariant-loop-parent : goal.invariant-loop-parent
invariant-loop-parent l = l.text.items ≡ l.initial.text.items ++ parts_text (map (λ id. parent_part (hex (id_of id))) (take l.parent-index l.parents))
