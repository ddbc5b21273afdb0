-- The statements of the laws on commands with the same effect.
use Rattle.std.specs.Prelude.{◌≡◌, List, [], ◌∷◌, None, option_to_list, IsFalse, ◌↔◌, Contains}
use Rattle.std.specs.List.{flat_map, AllByRecursion}
use Rattle.history_model.specs.Bytes.{Bytes}
use Rattle.history_model.specs.FileMap.{FileMap}
use Rattle.history_model.specs.Objects.{folder_id}
use Rattle.gix_hash.specs.Id.{Id}
use Rattle.history_model.specs.Repository.{Repository}
use Rattle.history_model.specs.Commands.{Commit, CommitCommand, EditLine, Log, LogCommand}
use Rattle.history_model.specs.Meaning.{branch_or_name, name_commit, parents_of, first_files, read_line, read_edit}
use Rattle.history_model.specs.Replies.{Committed, LogIs}
use Rattle.history_model.specs.Answers.{since_of}
use Rattle.history_model.specs.Steps.{Step}
use Rattle.history_model.specs.laws.Wholeness.{IsSound}

-- ---- edits in one commit or in several

-- the files that a commit's edits change: those of its first parent, or none without a parent
abbrev pub base_files : Repository → CommitCommand → FileMap
base_files r c = first_files r (parents_of r c)

-- the files of the commit that a name peels to; none if the name doesn't exist
abbrev pub files_of_name : Repository → Bytes → FileMap
files_of_name r name = first_files r (option_to_list (name_commit r name))

-- each graft's word means a commit with these files
abbrev pub GraftsRead : (Bytes → FileMap) → Repository → List EditLine → Type 0
GraftsRead files r lines = AllByRecursion (λ line. read_edit r line ≡ read_line files line) lines

-- accepted commits on one name, one after another; each graft's word means a commit with these
-- files
abbrev pub Commits : (Bytes → FileMap) → Bytes → Repository → List CommitCommand → Repository
    → Type 0
Commits files name r [] new = new ≡ r
Commits files name r (c ∷ cs) new =
    (mid : Repository) × (id : Id) × (branch_or_name r c.name ≡ name)
    × GraftsRead files r c.edits
    × Step r (Commit c) (Committed id) mid × Commits files name mid cs new

-- A list of edits is cut in two ways into accepted commits, from equal files in repositories of one
-- kind. Both end with equal files and one root tree id, if each graft's word means a commit with
-- the same files however the list is cut.
pub record EndsAlike (r s : Repository) (name other : Bytes) : Type 0 where
  pub files : files_of_name r name ≡ files_of_name s other
  pub tree : folder_id r.kind (files_of_name r name) ≡ folder_id s.kind (files_of_name s other)

abbrev pub EditsCutAnyWay : Type 0
EditsCutAnyWay =
    (read : Bytes → FileMap) (name other : Bytes) (r s new end : Repository) (c d : CommitCommand)
    (cs ds : List CommitCommand)
    → IsSound r → IsSound s → r.kind ≡ s.kind → base_files r c ≡ base_files s d
    → flat_map (λ c. c.edits) (c ∷ cs) ≡ flat_map (λ d. d.edits) (d ∷ ds)
    → Commits read name r (c ∷ cs) new → Commits read other s (d ∷ ds) end
    → EndsAlike new end name other

-- ---- orders

-- a log along all parents, without a cutoff or a path
pub record IsPlainLog (c : LogCommand) : Type 0 where
  pub all_parents : IsFalse c.first_parents
  pub no_cutoff : since_of c.order ≡ None
  pub no_path : c.paths ≡ []

-- For the same tips and hidden words all orders print the same set.
abbrev pub OrdersPrintOneSet : Type 0
OrdersPrintOneSet =
    (r a b : Repository) (c d : LogCommand) (xs ys : List Id) → c.items ≡ d.items → IsPlainLog c
    → IsPlainLog d
    → Step r (Log c) (LogIs xs) a → Step r (Log d) (LogIs ys) b → (id : Id)
    → Contains xs id ↔ Contains ys id
