-- The objects of the bytes that edits put.
use Rattle.std.proofs.Common.{◌≡◌, refl, ap, List, [], ◌∷◌, map}
use Rattle.std.specs.List.{flat_map}
use Rattle.history_model.specs.Objects.{StoredBytes}
use Rattle.history_model.specs.Commands.{EditLine, PutLine, RemoveLine, RemoveFileLine, GraftLine}
use Rattle.history_model.specs.CommandParts.{put_contents}
use Rattle.history_model.specs.Meaning.{read_edit, put_bytes}
use Rattle.history_model.specs.Repository as plain

pub bytes_put : (r : plain.Repository) (edits : List EditLine) → flat_map put_bytes (map (read_edit r) edits) ≡ map StoredBytes (flat_map put_contents edits)
bytes_put r [] = refl
bytes_put r (PutLine kind path bytes ∷ edits) = ap (λ values. StoredBytes bytes ∷ values) (bytes_put r edits)
bytes_put r (RemoveLine path ∷ edits) = bytes_put r edits
bytes_put r (RemoveFileLine path ∷ edits) = bytes_put r edits
bytes_put r (GraftLine path word source ∷ edits) = bytes_put r edits
