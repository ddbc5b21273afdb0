-- The file that the last change made or wrote, which a folder keeps in mind.
use Rattle.std.proofs.Common.{◌≡◌, ◌∙◌, sym, ap, subst, ℕ, Bool, cond, ◌&&◌, List, [], ◌∷◌, Option, Some, None}
use Rattle.std.specs.Prelude.{Result, Ok, Err, OnOk, IsOk, IfSome, IsTrue, is_some, String, string_bytes}
use Rattle.std.specs.FinMap.{insert}
use Rattle.std.specs.declared.alloc.Global.{Global}
use Rattle.std.specs.declared.io.Error.{Error}
use Rattle.gix_ref_file.specs.Tree.{Tree, file, is_path, node_at, bytes_of}
use Rattle.gix_ref_file.specs.Changes.{to_create, after, is_file_at}
use Rattle.gix_ref_file.proofs.Trees.{get_inserted}
use Rattle.gix_ref_folder.specs.Folders.{IsFileThere}
use Rattle.gix_ref_folder.specs.Systems.{IsPlaceOf}
use Rattle.gix_ref_folder.specs.declared.part.Part.{Part}

-- what is put at a path that isn't the root's is there
file_there : (path bytes : List ℕ) (old new : Tree) (more : Bool) → IsTrue (is_path path && more) → new ≡ insert old path (file bytes) → IsTrue (is_file_at new path)
file_there [] bytes old new more is made = absurd (cc is)
file_there (b ∷ path) bytes old new more is made = ap (λ t. is_file_at t (b ∷ path)) made ∙ ap (λ o. is_some (bytes_of o)) (get_inserted old (b ∷ path) (file bytes))

pub written_there : (path bytes : List ℕ) (old new : Tree) (done : Result (Unit {0}) Error) (more : Bool) → IsTrue (is_path path && more) → OnOk done (new ≡ insert old path (file bytes))
    → OnOk done (IsTrue (is_file_at new path))
written_there path bytes old new (Ok it) more is made = file_there path bytes old new more is made
written_there path bytes old new (Err e) more is made = tt

pub created_there : (path bytes : List ℕ) (old new : Tree) (done : Result (Unit {0}) Error) (more : Bool) → IsTrue (is_path path && more) → OnOk done (node_at old path ≡ None)
    → OnOk done (new ≡ after (to_create path bytes) old) → OnOk done (IsTrue (is_file_at new path))
created_there path bytes old new (Ok it) more is free made =
    file_there path bytes old new more is (made ∙ ap (λ there. cond there old (insert old path (file bytes))) (ap is_some free))
created_there path bytes old new (Err e) more is free made = tt

-- it is kept in mind only if it was made or written
pub written_kept : (root : List ℕ) (part : Part) (tree : Tree) (kept : Option (String Global)) (place : String Global) (done : Result (Unit {0}) Error)
    → IfSome kept (λ written. (written ≡ place) × IsOk done) → ((path : List ℕ) → IsPlaceOf root part path (string_bytes place) → OnOk done (IsTrue (is_file_at tree path)))
    → IfSome kept (λ written. IsFileThere root part tree (string_bytes written))
written_kept root part tree None place done is there = tt
written_kept root part tree (Some written) place (Ok it) is there = subst (λ p. IsFileThere root part tree (string_bytes p)) (sym is.0) there
written_kept root part tree (Some written) place (Err e) is there = absurd (cc is.1)
