-- The parts of a new repository represent the repository without names and objects.
use Rattle.std.proofs.Common.{◌≡◌, refl, sym, ◌∙◌, ap, Bool, true, false, cond, Some, None, bytes_eq, codes}
use Rattle.std.proofs.lemmas.Slice.Eq.{bytes_eq-Decides}
use Rattle.gix_ref_file.specs.Tree.{Tree, is_folder}
use Rattle.history_model.specs.Bytes.{Bytes}
use Rattle.history_model.specs.StandsFor.{StandsFor, StandsWhole, head_text}
use Rattle.history_model.specs.laws.Folders.{IsFresh}
use Rattle.history_model.specs.Places.{file_at, head_place}
use Rattle.history_model.specs.Repository.{fresh}
use Rattle.gix_hash.specs.declared.kind.Kind.{Kind}
use Rattle.history_model.proofs.FreshLemmas.{fresh_stands}
use Rattle.history_store.specs.Creation.{IsNew}

new_is_fresh : (objects names : Tree) → IsNew objects names → IsFresh (record { objects = objects; names = names })
new_is_fresh objects names new = record {
  objects = new.no_object;
  object_folders = λ path is. new.object_folders path (ap is_folder is);
  names = λ path. by_case path (bytes_eq path head_place) refl;
  folders = λ path is. new.name_folders path (ap is_folder is);
}
  where
    by_case : (path : Bytes) (b : Bool) → bytes_eq path head_place ≡ b → file_at names path ≡ cond b (Some (head_text (codes "refs/heads/main"))) None
    by_case path true same = ap (file_at names) ((bytes_eq-Decides path head_place).0 same) ∙ new.head
    by_case path false other = new.no_other path (λ same. cc (sym other ∙ (bytes_eq-Decides path head_place).1 same))

pub new_stands_whole : (kind : Kind) (objects names : Tree) → IsNew objects names → StandsWhole kind (record { objects = objects; names = names }) (fresh kind)
new_stands_whole kind objects names new = fresh_stands kind (record { objects = objects; names = names }) (new_is_fresh objects names new)

pub new_stands : (kind : Kind) (objects names : Tree) → IsNew objects names → StandsFor kind (record { objects = objects; names = names }) (fresh kind)
new_stands kind objects names new = (new_stands_whole kind objects names new).stands
