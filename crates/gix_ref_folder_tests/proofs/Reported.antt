-- From what files return to what the system returns.
use Rattle.std.proofs.Common.{◌≡◌, ℕ, Bool, true, false, List, [], ◌++◌, length, map, Option, Some, None, refl, sym, ◌∙◌, ap, subst}
use Rattle.std.specs.Prelude.{Result, Ok, Err, IfOk, IfErr, OnOk, IsTrue, IsSome, Vec, is_none, option_map, unwrap_or}
use Rattle.std.specs.IoError.{error_kind}
use Rattle.std.specs.declared.alloc.Global.{Global}
use Rattle.std.specs.declared.io.Error.{Error}
use Rattle.std.specs.declared.io.ErrorKind.{ErrorKind}
use Rattle.std.specs.declared.io.ErrorKind.TheVariants.{AlreadyExists}
use Rattle.gix_ref_file.specs.declared.files.FileError.{FileError}
use Rattle.gix_ref_file.specs.declared.files.FileError.TheVariants.{Failed, Memory}
use Rattle.gix_ref_file.specs.declared.files.Place.{Place}
use Rattle.gix_ref_file.specs.declared.files.Place.TheVariants.{Absent, File, Folder}
use Rattle.gix_ref_file.specs.Tree.{Tree, Node, file, folder, place_of, bytes_of, is_folder, names_at}
use Rattle.gix_ref_file.specs.Changes.{Change, to_create, allows, after}
use Rattle.gix_ref_file.specs.History.{History, Makes}
use Rattle.gix_ref_folder.specs.Errors.{means_absent}
use Rattle.gix_ref_folder.specs.Systems.{AreNames, Does}
use Rattle.gix_ref_folder_tests.specs.Reports.{kind_for, IsReport}
use Rattle.gix_ref_folder_tests.proofs.Own.{permuted}

-- ---- errors
not_absent : (why : FileError) → IsTrue (means_absent (kind_for why)) → ⊥
not_absent Memory is = cc
not_absent Failed is = cc

pub never_absent : {A T : Type 0} (done : Result T FileError) (error : Error) → IsReport done (Err error) → IsTrue (means_absent (error_kind error)) → A
never_absent done error report is = absurd (not_absent report.0 (subst (λ (k : ErrorKind). IsTrue (means_absent k)) report.2 is))

-- ---- changes
pub does_of : {T : Type 0} (change : Change) (old new : History) (done : Result T FileError) (told : Result T Error) → IsReport done told → Makes change old new done → Does change old new told
does_of change old new done (Ok value) is makes = record {
  allowed = subst (λ r. OnOk r (IsTrue (allows old.tree change))) is makes.allowed;
  made = subst (λ r. OnOk r (new.tree ≡ after change old.tree)) is makes.made;
  moments = makes.moments;
}
does_of change old new done (Err e) is makes = record { allowed = tt; made = tt; moments = makes.moments }

pub does_new : (path bytes : List ℕ) (old new : History) (made : Result Bool FileError) (told : Result (Unit {0}) Error) → OnOk told (made ≡ Ok true) → Makes (to_create path bytes) old new made
    → Does (to_create path bytes) old new told
does_new path bytes old new made (Ok it) is makes = record {
  allowed = subst (λ r. OnOk r (IsTrue (allows old.tree (to_create path bytes)))) is makes.allowed;
  made = subst (λ r. OnOk r (new.tree ≡ after (to_create path bytes) old.tree)) is makes.made;
  moments = makes.moments;
}
does_new path bytes old new made (Err e) is makes = record { allowed = tt; made = tt; moments = makes.moments }

none_of : (node : Option Node) → true ≡ is_none node → node ≡ None
none_of None is = refl
none_of (Some node) is = absurd (cc is)

some_of : (node : Option Node) → false ≡ is_none node → IsSome node
some_of None is = absurd (cc is)
some_of (Some node) is = refl

pub new_free : (node : Option Node) (made : Result Bool FileError) (told : Result (Unit {0}) Error) → OnOk told (made ≡ Ok true) → IfOk made (λ m. m ≡ is_none node) → OnOk told (node ≡ None)
new_free there made (Ok it) is says = none_of there (subst (λ r. IfOk r (λ m. m ≡ is_none there)) is says)
new_free there made (Err e) is says = tt

pub new_taken : (node : Option Node) (made : Result Bool FileError) (told : Result (Unit {0}) Error) → IfErr told (λ error. error_kind error ≡ AlreadyExists → made ≡ Ok false)
    → IfOk made (λ m. m ≡ is_none node) → IfErr told (λ error. error_kind error ≡ AlreadyExists → IsSome node)
new_taken there made (Ok it) is says = tt
new_taken there made (Err e) is says = λ already. some_of there (subst (λ r. IfOk r (λ m. m ≡ is_none there)) (is already) says)

-- ---- readings
abbrev len_of : Place → ℕ
len_of (File len) = len
len_of Absent = 0
len_of Folder = 0

pub file_found : (node : Option Node) (len : ℕ) → File len ≡ place_of node → option_map length (bytes_of node) ≡ Some len
file_found None len is = absurd (cc is)
file_found (Some (file bytes)) len is = sym (ap (λ p. Some (len_of p)) is)
file_found (Some folder) len is = absurd (cc is)

pub folder_found : (node : Option Node) → Folder ≡ place_of node → IsTrue (is_folder node)
folder_found None is = absurd (cc is)
folder_found (Some (file bytes)) is = absurd (cc is)
folder_found (Some folder) is = refl

pub none_found : (node : Option Node) → Absent ≡ place_of node → node ≡ None
none_found None is = refl
none_found (Some (file bytes)) is = absurd (cc is)
none_found (Some folder) is = absurd (cc is)

pub names_found : (tree : Tree) (path : List ℕ) (done : Result (Vec (Vec ℕ Global) Global) FileError) (told : Result (Vec (Vec ℕ Global) Global) Error) → IsReport done told
    → IfOk done (λ names. map (λ (name : Vec ℕ Global). name.items) names.items ≡ names_at tree path) → IfOk told (λ names. AreNames tree path names.items)
names_found tree path done (Ok names) is says =
    permuted _ _ (subst (λ r. IfOk r (λ ns. map (λ (name : Vec ℕ Global). name.items) ns.items ≡ names_at tree path)) is says)
names_found tree path done (Err e) is says = tt

-- an error for an error of the files says nothing of what exists
pub error_silent : {T : Type 0} (P : Type 0) (done : Result T FileError) (told : Result T Error) → IsReport done told → IfErr told (λ error. IsTrue (means_absent (error_kind error)) → P)
error_silent P done (Ok value) report = tt
error_silent P done (Err e) report = λ is. never_absent done e report is

-- ---- bytes
pub read_whole : (o : Option (List ℕ)) (count : ℕ) (before read : List ℕ) → Some count ≡ option_map length o → before ≡ [] → read ≡ before ++ unwrap_or o [] → Some read ≡ o
read_whole None count before read is none says = absurd (cc is)
read_whole (Some bytes) count before read is none says = ap Some (says ∙ ap (λ b. b ++ bytes) none)

pub read_none : (o : Option (List ℕ)) → None ≡ option_map length o → None ≡ o
read_none None is = refl
read_none (Some bytes) is = absurd (cc is)

pub count_told : (o : Option ℕ) (done : Result (Option ℕ) FileError) (told : Result (Option ℕ) Error) → IsReport done told → IfOk done (λ count. count ≡ o) → IfOk told (λ count. count ≡ o)
count_told o done (Ok count) is says = subst (λ r. IfOk r (λ n. n ≡ o)) is says
count_told o done (Err e) is says = tt

pub read_told : {T : Type 0} (P : Type 0) (done : Result T FileError) (told : Result T Error) → IsReport done told → OnOk done P → OnOk told P
read_told P done (Ok value) is says = subst (λ r. OnOk r P) is says
read_told P done (Err e) is says = tt
