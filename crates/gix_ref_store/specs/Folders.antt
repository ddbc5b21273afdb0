-- Folders that a store may be of.
use Rattle.std.specs.Prelude.{ℕ, ◌≡◌, ◌+◌, Bool, true, not, ◌&&◌, ◌||◌, List, [], ◌∷◌, length, drop, codes, if◌then◌else◌, Option, Some, None, option_map, bytes_eq, IsTrue, IsFalse}
use Rattle.gix_object_lines.specs.NameTest.{begins}
use Rattle.gix_ref_file.specs.Tree.{is_path}
use Rattle.gix_ref_store.specs.declared.options.Options.{Options}
use Rattle.gix_ref_store.specs.declared.store.file.Store.{Store}
use Rattle.gix_ref_store.specs.declared.store.file.init.Refused.{Refused}
use Rattle.gix_ref_store.specs.declared.store.file.init.FolderError.{FolderError}
use Rattle.gix_ref_store.specs.declared.store.file.init.FolderError.TheVariants.{NoPath, Nested}

-- the root, or a path
abbrev pub is_folder_path : List ℕ → Bool
is_folder_path folder = bytes_eq folder [] || is_path folder

-- `refs` or `logs`, or a path below one of them
abbrev pub is_of_names : List ℕ → Bool
is_of_names path =
    bytes_eq path (codes "refs") || begins (codes "refs/") path || bytes_eq path (codes "logs")
    || begins (codes "logs/") path

-- the path begins with the folder and a slash
abbrev pub is_below : List ℕ → List ℕ → Bool
is_below folder path = begins folder path && begins (47 ∷ []) (drop (length folder) path)

-- the path lies in the `refs` or `logs` of the folder
abbrev pub lies_in_names : List ℕ → List ℕ → Bool
lies_in_names folder path =
    if bytes_eq folder [] then is_of_names path
    else is_below folder path && is_of_names (drop (length folder + 1) path)

-- neither lies in the `refs` or `logs` of the other
abbrev pub are_apart : List ℕ → List ℕ → Bool
are_apart one other = not (lies_in_names one other) && not (lies_in_names other one)

abbrev pub are_clean : List ℕ → Option (List ℕ) → Bool
are_clean git None = is_folder_path git
are_clean git (Some common) = is_folder_path git && is_folder_path common

abbrev pub are_unnested : List ℕ → Option (List ℕ) → Bool
are_unnested git None = true
are_unnested git (Some common) = are_apart git common

-- from how many bytes on Git maps packed references into memory
abbrev pub usual_threshold : ℕ
usual_threshold = 32768

-- a store of these files and folders
pub record IsStoreOf {F : Type 0} (files : F) (git : List ℕ) (common : Option (List ℕ))
    (options : Options) (store : Store F) : Type 0 where
  pub holds : store.files ≡ files
  pub told : store.options ≡ options
  pub git_is : store.git_dir.items ≡ git
  pub common_is : option_map (λ folder. folder.items) store.common_dir ≡ common
  pub clean : IsTrue (are_clean git common)
  pub apart : IsTrue (are_unnested git common)
  pub threshold : store.mmap_threshold ≡ usual_threshold

-- why folders are refused
abbrev pub IsFolderFault : List ℕ → Option (List ℕ) → FolderError → Type 0
IsFolderFault git common NoPath = IsFalse (are_clean git common)
IsFolderFault git common Nested = IsTrue (are_clean git common) × IsFalse (are_unnested git common)

-- the files come back, with why they are refused
abbrev pub IsRefused : {F : Type 0} → F → List ℕ → Option (List ℕ) → Refused F → Type 0
IsRefused files git common refused =
    (refused.files ≡ files) × IsFolderFault git common refused.error
