use Rattle.std.proofs.Common.{◌≡◌, ◌∷◌, ◌++◌, [], map, take}
use Rattle.gix_hash.specs.Id.{id_of}
use Rattle.history_model.specs.Objects.{hex}
use Rattle.history_model.specs.Spelling.{Line, parts_text}
use Rattle.history_queries.proofs.logs.log_text.Given as goal

-- the ids so far
abbrev pub invariant-loop-id : goal.invariant-loop-id
invariant-loop-id l = l.text.items ≡ l.initial.text.items ++ parts_text (map (λ id. Line (hex (id_of id) ∷ [])) (take l.id-index l.ids))
