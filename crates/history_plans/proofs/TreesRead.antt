-- Trees that were read from a repository, as those of its store.
use Rattle.std.proofs.Common.{sym, subst}
use Rattle.gix_ref_file.specs.History.{History}
use Rattle.gix_object_lookup.specs.Table.{Table}
use Rattle.history_files.specs.KeptTrees.{AreOf}
use Rattle.history_files.specs.declared.read_trees.ReadTrees.{ReadTrees}
use Rattle.history_store.specs.KnownObjects.{table_of}
use Rattle.history_repository.specs.Reads.{AreTrees}
use Rattle.history_repository.specs.Stands.{Stands}
use Rattle.history_repository.specs.declared.repository.Repository.{Repository}
use Rattle.history_repository.proofs.Tables.{tables_same}
use Rattle.history_model.specs.Repository as plain

module _ {F : Type 0} (IsHonest : F → Type 0) (history : F → History) (repository : Repository F) (r : plain.Repository) (stands : Stands IsHonest history repository r) (read : ReadTrees) where
  pub stored_trees : AreTrees r read → AreOf (table_of history repository.objects) read
  stored_trees trees = subst (λ (t : Table). AreOf t read) (sym (tables_same IsHonest history repository r stands)) trees

  pub read_trees : AreOf (table_of history repository.objects) read → AreTrees r read
  read_trees kept = subst (λ (t : Table). AreOf t read) (tables_same IsHonest history repository r stands) kept
