-- What the clauses on the plan of a commit take for granted.
use Rattle.std.specs.Prelude.{◌≡◌, List, Option, None, map, option_map}
use Rattle.std.specs.List.{AllByRecursion}
use Rattle.gix_hash.specs.declared.object_id.ObjectId.{ObjectId}
use Rattle.gix_ref_file.specs.History.{History}
use Rattle.history_model.specs.Meaning.{parents_of}
use Rattle.history_word.specs.Commands.{AreEdits, IsCommit}
use Rattle.history_word.specs.declared.command.CommitCommand.{CommitCommand}
use Rattle.history_word.specs.declared.command.Edit.{Edit}
use Rattle.history_plans.specs.Bases.{IsRootedSource, source_id}
use Rattle.history_plans.specs.CommitCauses.{first_among, name_causes}
use Rattle.history_repository.specs.Meant.{peeled_id}
use Rattle.history_repository.specs.Stands.{Stands}
use Rattle.history_repository.specs.TreesBefore.{IsTreeBefore}
use Rattle.history_repository.specs.declared.repository.Repository.{Repository}
use Rattle.history_repository.specs.declared.stored.PeeledCommit.{PeeledCommit}
use Rattle.history_model.specs.Commands as commands
use Rattle.history_model.specs.Repository as plain

-- This commit is requested of a repository.
pub record AskedCommit {F : Type 0} (IsHonest : F → Type 0) (history : F → History)
    (repository : Repository F) (command : CommitCommand)
    (r : plain.Repository) (sent : commands.CommitCommand) : Type 0 where
  pub serves : Stands IsHonest history repository r
  pub reads : IsCommit command sent

-- The files of a commit are requested of a repository, with these edits of this tree, which is that
-- of its first parent, and with the commits of the edits' words; none of the causes of its name
-- holds.
pub record AskedFiles {F : Type 0} (IsHonest : F → Type 0) (history : F → History)
    (repository : Repository F) (tree : Option ObjectId) (sources : List (Option PeeledCommit))
    (edits : List Edit)
    (r : plain.Repository) (sent : commands.CommitCommand) : Type 0 where
  pub serves : Stands IsHonest history repository r
  pub unrefused : first_among name_causes r (commands.Commit sent) ≡ None
  pub tree_is : IsTreeBefore r (parents_of r sent) tree
  pub sources_are : map (option_map peeled_id) sources ≡ map (source_id r) sent.edits
  pub rooted : AllByRecursion (IsRootedSource r) sources
  pub edits_are : AreEdits edits sent.edits
