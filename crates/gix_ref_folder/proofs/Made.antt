-- From what the system does at its own paths to what a folder makes.
use Rattle.std.proofs.Common.{◌≡◌, inl, inr, ⊎_elim, ℕ, Bool, true, false, cond, ◌&&◌, ◌||◌, List, [], ◌∷◌, length, take, Option, Some, None, refl, sym, ◌∙◌, ap, subst, arith}
use Rattle.std.specs.Prelude.{Result, Ok, Err, IfOk, IfErr, OnOk, IsTrue, IsFalse, IsSome, IsErrOf, is_some, is_none, ◌==◌}
use Rattle.std.specs.List.{AllByRecursion}
use Rattle.std.specs.FinMap.{get, insert}
use Rattle.std.specs.declared.io.Error.{Error}
use Rattle.std.proofs.lemmas.Bool.{eqb-true}
use Rattle.std.proofs.lemmas.List.{append-nil}
use Rattle.gix_ref_file.specs.declared.files.FileError.{FileError}
use Rattle.gix_ref_file.specs.declared.files.FileError.TheVariants.{Failed}
use Rattle.gix_ref_file.specs.Tree.{Tree, Node, file, is_path, node_at}
use Rattle.gix_ref_file.specs.Changes.{Change, to_create, after, may_hold_file, MayLeave}
use Rattle.gix_ref_file.proofs.Rooted.{adds_now}
use Rattle.gix_ref_file.specs.History.{History, trees, Adds, HasRisen, HasCause}
use Rattle.std.specs.IoError.{error_kind}
use Rattle.std.specs.declared.io.ErrorKind.TheVariants.{AlreadyExists}
use Rattle.gix_ref_folder.specs.Errors.{IsNew}
use Rattle.gix_ref_folder.specs.Parts.{has}
use Rattle.gix_ref_folder.specs.Systems.{IsPlaceOf, IsShown, Does}
use Rattle.gix_ref_folder.specs.declared.part.Part.{Part}

-- ---- places

-- a text that spells a place is that place
pub at_place : (root : List ℕ) (part : Part) (path place text : List ℕ) → text ≡ place → IsPlaceOf root part path place → IsPlaceOf root part path text
at_place root part path place text is of = (is ∙ of.0, of.1)

-- ---- results

pub cause_of : {T : Type 0} (allowed : Bool) (before old now : ℕ) (result : Result T FileError) → before ≡ old → (IsErrOf result Failed → HasRisen before now) → HasCause allowed old now result
cause_of allowed before old now result same risen failed = inl (subst (λ n. HasRisen n now) same (risen failed))

-- what is returned in place of the system's result says what it says
pub passed : {T : Type 0} (P : T → Type 0) (told : Result T Error) (result : Result T FileError) → IfOk result (λ value. told ≡ Ok value) → IfOk told P → IfOk result P
passed P told (Ok value) is says = subst (λ t. IfOk t P) is says
passed P told (Err e) is says = tt

pub passed_ok : {T : Type 0} (P : Type 0) (told : Result T Error) (result : Result T FileError) → IfOk result (λ value. told ≡ Ok value) → OnOk told P → OnOk result P
passed_ok P told (Ok value) is says = subst (λ t. OnOk t P) is says
passed_ok P told (Err e) is says = tt

-- after an error only what was done on the way is known
pub does_err : {T U : Type 0} (change : Change) (old new : History) (told : Result U Error) (e : Error) → Does change old new told → Does {T = T} change old new (Err e)
does_err change old new told e does = record { allowed = tt; made = tt; moments = does.moments }

pub does_ok : {T U : Type 0} (change : Change) (old new : History) (told : U) (value : T) → Does change old new (Ok told) → Does change old new (Ok value)
does_ok change old new told value does = record { allowed = does.allowed; made = does.made; moments = does.moments }

-- the tree after a call has what the one before and each that was added have
pub now_has : (P : Tree → Type 0) (old new : History) → Adds P old new → P old.tree → P new.tree
now_has P old new adds before = ⊎_elim (λ same. subst P (sym same) before) (λ made. made) (adds_now P old new adds)

-- if something is there already, the making of a file changes nothing
made_none : (path bytes : List ℕ) (tree : Tree) → IsSome (node_at tree path) → after (to_create path bytes) tree ≡ tree
made_none path bytes tree there = ap (λ b. cond b tree (insert tree path (file bytes))) there

pub found_already : {T U : Type 0} (path bytes : List ℕ) (old new : History) (told : Result U Error) (value : T) → IsSome (node_at old.tree path)
    → Does (to_create path bytes) old new told → Does (to_create path bytes) old new (Ok value)
found_already path bytes old new told value there does = record {
  allowed = ap (λ b. b || may_hold_file old.tree path) there;
  made = now_has (λ t. t ≡ old.tree) old new same refl ∙ sym (made_none path bytes old.tree there);
  moments = does.moments;
}
  where
    left : (t : Tree) → MayLeave (to_create path bytes) old.tree t → t ≡ old.tree
    left t (inl same) = same
    left t (inr (n, may, is)) = is ∙ made_none path (take n bytes) old.tree there

    all_left : (ts : List Tree) → AllByRecursion (MayLeave (to_create path bytes) old.tree) ts → AllByRecursion (λ t. t ≡ old.tree) ts
    all_left [] all = tt
    all_left (t ∷ ts) all = (left t all.0, all_left ts all.1)

    same : Adds (λ t. t ≡ old.tree) old new
    same = record { during = does.moments.during; added = does.moments.added; all = all_left does.moments.during does.moments.all }

pub not_empty : {A : Type 0} (b : ℕ) (path : List ℕ) → IsTrue (length (b ∷ path) == 0) → A
not_empty b path is = absurd (let none = eqb-true (length (b ∷ path)) 0 is in omega arith)

-- the root is there
pub root_already : {T : Type 0} (path bytes : List ℕ) (history : History) (value : T) → IsTrue (length path == 0) → Does (to_create path bytes) history history (Ok value)
root_already [] bytes history value root = record { allowed = refl; made = refl; moments = record { during = []; added = sym (append-nil (trees history)); all = tt } }
root_already (b ∷ path) bytes history value root = not_empty b path root

pub root_there : (path : List ℕ) (tree : Tree) → IsTrue (length path == 0) → false ≡ is_none (node_at tree path)
root_there [] tree root = refl
root_there (b ∷ path) tree root = not_empty b path root

pub some_there : (there : Option Node) → IsSome there → false ≡ is_none there
some_there None is = absurd (cc is)
some_there (Some there) is = refl

pub new_made : (path bytes : List ℕ) (old new : History) (made : Result (Unit {0}) Error) (told : Result Bool Error) → IsNew made told → Does (to_create path bytes) old new made
    → IfErr made (λ error. error_kind error ≡ AlreadyExists → IsSome (node_at old.tree path)) → Does (to_create path bytes) old new told
new_made path bytes old new (Ok it) (Ok value) is does taken = does_ok (to_create path bytes) old new it value does
new_made path bytes old new (Err e) (Ok value) is does taken = found_already path bytes old new (Err e) value (taken is.1) does
new_made path bytes old new made (Err f) is does taken = does_err (to_create path bytes) old new made f does

pub new_there : (path : List ℕ) (tree : Tree) (made : Result (Unit {0}) Error) (told : Result Bool Error) → IsNew made told → OnOk made (node_at tree path ≡ None)
    → IfErr made (λ error. error_kind error ≡ AlreadyExists → IsSome (node_at tree path)) → IfOk told (λ value. value ≡ is_none (node_at tree path))
new_there path tree (Ok it) (Ok value) is free taken = is ∙ sym (ap is_none free)
new_there path tree (Err e) (Ok value) is free taken = is.0 ∙ some_there (node_at tree path) (taken is.1)
new_there path tree made (Err f) is free taken = tt

-- ---- a path that is none of the part
clash : {A : Type 0} → false ≡ true → A
clash e = absurd (apart e)
  where
    apart : false ≡ true → ⊥
    apart p = cc

pub absent_outside : (part : Part) (tree : Tree) (path : List ℕ) → IsShown part tree → IsFalse (is_path path && has part path) → get tree path ≡ None
absent_outside part tree path shown out = by_case (get tree path) refl
  where
    by_case : (o : Option Node) → get tree path ≡ o → o ≡ None
    by_case None is = refl
    by_case (Some node) is =
        let short = (shown.rooted path (ap is_some is)).0 in
        let own = shown.own path (ap is_some is) in
        clash (sym out ∙ (λ i. short i && own i))
