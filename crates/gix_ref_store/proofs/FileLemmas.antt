-- Files that were read.
use Rattle.std.proofs.Common.{◌≡◌, refl, subst, ℕ, List, Option, Some, None}
use Rattle.std.specs.Prelude.{Ok, Err, IsTrue, IsFalse, is_some}
use Rattle.gix_hash.specs.declared.kind.Kind.{Kind}
use Rattle.gix_ref_file.specs.Tree.{Tree, Node, file, folder, is_folder, bytes_of, node_at}
use Rattle.gix_ref_format.specs.declared.loose.Error.{Error as LooseError}
use Rattle.gix_ref_name.specs.declared.target.Target.{Target}
use Rattle.gix_ref_store.specs.Finds.{TellsFile}
use Rattle.gix_ref_store.specs.OwnFiles.{IsOfText, is_read}
use Rattle.gix_ref_store.specs.Places.{Base, place}
use Rattle.gix_ref_store.specs.RefStates.{Absent, loose_text_at}
use Rattle.gix_ref_store.specs.declared.store.file.find.Error.TheVariants.{ReferenceCreation}
use Rattle.gix_ref_store.specs.declared.store.file.own.OwnFile.{OwnFile}
use Rattle.gix_ref_store.specs.declared.store.file.own.OwnFile.TheVariants.{Holds, Faulty, Missing, Unread}

holds_some : (kind : Kind) (text : Option (List ℕ)) (target : Target) → TellsFile kind text (Ok (Some target)) → IsTrue (is_some text)
holds_some kind (Some text) target told = refl
holds_some kind None target told = absurd (cc (told Absent))

faulty_some : (kind : Kind) (text : Option (List ℕ)) (reason : LooseError) → TellsFile kind text (Err (ReferenceCreation reason)) → IsTrue (is_some text)
faulty_some kind (Some text) reason told = refl
faulty_some kind None reason told = absurd (cc (told Absent))

no_folder : (o : Option Node) → IsTrue (is_some (bytes_of o)) → IsFalse (is_folder o)
no_folder None is = absurd (cc is)
no_folder (Some (file bytes)) is = refl
no_folder (Some folder) is = absurd (cc is)

of_file : (kind : Kind) (o : Option Node) (own : OwnFile) → IsOfText kind (bytes_of o) own → IsTrue (is_read own) → IsFalse (is_folder o)
of_file kind o (Holds target) told so = no_folder o (holds_some kind (bytes_of o) target told)
of_file kind o (Faulty reason) told so = no_folder o (faulty_some kind (bytes_of o) reason told)
of_file kind o Missing told so = absurd (cc so)
of_file kind o Unread told so = absurd (cc so)

-- a file that was read is no folder
pub read_at : (b : Base) (tree : Tree) (name at : List ℕ) (own : OwnFile) → place b name ≡ at → IsOfText b.kind (loose_text_at b tree name) own → IsTrue (is_read own) → IsFalse (is_folder (node_at tree at))
read_at b tree name at own same told so = subst (λ p. IsFalse (is_folder (node_at tree p))) same (of_file b.kind (node_at tree (place b name)) own told so)

-- what is known of a name's file, of the same name
pub told_of : (b : Base) (tree : Tree) (n name : List ℕ) (own : OwnFile) → n ≡ name → IsOfText b.kind (loose_text_at b tree n) own → IsOfText b.kind (loose_text_at b tree name) own
told_of b tree n name own same told = subst (λ n. IsOfText b.kind (loose_text_at b tree n) own) same told
