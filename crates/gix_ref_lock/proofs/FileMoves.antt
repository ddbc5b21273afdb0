-- What single changes leave of the files.
use Rattle.std.proofs.Common.{◌≡◌, ◌⊎◌, inl, inr, refl, sym, ◌∙◌, ap, subst, ℕ, [], ◌++◌, take, Vec}
use Rattle.std.specs.Prelude.{Option, Some, IsTrue, Result, Ok, Err, OnOk, unwrap_or}
use Rattle.std.specs.FinMap.{insert}
use Rattle.std.specs.declared.alloc.Global.{Global}
use Rattle.gix_ref_file.specs.Tree.{Tree, file, bytes_of, bytes_at}
use Rattle.gix_ref_file.specs.Changes.{to_append, to_remove_file, allows, after, MayLeave}
use Rattle.gix_ref_file.specs.History.{History, Adds}
use Rattle.gix_ref_file.proofs.Histories.{adds_weaker, adds_joined}
use Rattle.gix_ref_file.proofs.Others.{others_stay}
use Rattle.gix_ref_file.proofs.Rooted.{adds_now}
use Rattle.gix_ref_file.proofs.Trees.{get_inserted, node_at_path}
use Rattle.gix_ref_lock.specs.Locks.{OthersStay}
use Rattle.gix_ref_lock.proofs.LockLemmas.{removed_others, given_back, one_other}
use Rattle.gix_ref_way.specs.Ways.{Bytes, file_at, SameFiles}
use Rattle.gix_ref_lock.specs.Contents.{MayBeNoted}
use Rattle.gix_ref_lock.specs.Moments.{OtherFilesStay, MayNote, NotesLog, MayGo, IsGone}
use Rattle.gix_ref_lock.proofs.StepEnds.{not_noted}

-- what an outcome that passes another on says
pub on_told : {T U E D : Type 0} (P : Type 0) (r : Result T E) (s : Result U D) (u : U) → OnOk r (s ≡ Ok u) → OnOk s P → OnOk r P
on_told P (Ok x) s u is h = subst (λ o. OnOk o P) is h
on_told P (Err e) s u is h = tt

pub files_stay : (here : Bytes) (old x : Tree) → OthersStay here old x → OtherFilesStay here old x
files_stay here old x stay path apart = ap bytes_of (stay path apart)

-- the same of what exists after all
pub now_of : (P : Tree → Type 0) (old new : History) → P old.tree → Adds P old new → P new.tree
now_of P old new begin adds = by_case (adds_now P old new adds)
  where
    by_case : (new.tree ≡ old.tree) ⊎ P new.tree → P new.tree
    by_case (inl same) = subst P (sym same) begin
    by_case (inr now) = now

pub same_now : (old new : History) → Adds (SameFiles old.tree) old new → SameFiles old.tree new.tree
same_now old new adds = now_of (SameFiles old.tree) old new (λ path. refl) adds

-- ---- a log gets its line
pub unnoted : (line : Option (Vec ℕ Global)) (log : Bytes) (old x : Tree) → SameFiles old x → MayNote line log old x
unnoted line log old x same = record {
  here = subst (MayBeNoted line (file_at old log)) (sym (same log)) (not_noted line (file_at old log));
  others = λ path apart. same path;
}

appended_there : (log bytes : Bytes) (t : Tree) → IsTrue (allows t (to_append log bytes)) → file_at (insert t log (file (bytes_at t log ++ bytes))) log ≡ Some (bytes_at t log ++ bytes)
appended_there log bytes t may = ap bytes_of (node_at_path t (insert t log (file (bytes_at t log ++ bytes))) log may ∙ get_inserted t log (file (bytes_at t log ++ bytes)))

pub noting : (line : Vec ℕ Global) (log : Bytes) (old mid x : Tree) → SameFiles old mid → MayLeave (to_append log line.items) mid x → MayNote (Some line) log old x
noting line log old mid x same (inl stays) = unnoted (Some line) log old x (λ path. ap (λ t. file_at t path) stays ∙ same path)
noting line log old mid x same (inr (n, may, is)) = record {
  here = inr (n, ap (λ t. file_at t log) is ∙ appended_there log (take n line.items) mid may ∙ ap (λ f. Some (unwrap_or f [] ++ take n line.items)) (same log));
  others = λ path apart. ap (λ t. file_at t path) is ∙ ap bytes_of (others_stay (to_append log (take n line.items)) mid path (one_other path log apart)) ∙ same path;
}

pub noting_joined : (line : Vec ℕ Global) (log : Bytes) (old mid new : History) → Adds (SameFiles old.tree) old mid → Adds (MayLeave (to_append log line.items) mid.tree) mid new → Adds (MayNote (Some line) log old.tree) old new
noting_joined line log old mid new first second =
    adds_joined old mid new (adds_weaker old mid first (unnoted (Some line) log old.tree)) (adds_weaker mid new second (λ x left. noting line log old.tree mid.tree x (same_now old mid first) left))

pub is_noted : (line : Vec ℕ Global) (log : Bytes) (old mid new : Tree) → SameFiles old mid → IsTrue (allows mid (to_append log line.items)) → new ≡ after (to_append log line.items) mid → NotesLog (Some line) log old new
is_noted line log old mid new same may is = record {
  here = ap (λ t. file_at t log) is ∙ appended_there log line.items mid may ∙ ap (λ f. Some (unwrap_or f [] ++ line.items)) (same log);
  others = λ path apart. ap (λ t. file_at t path) is ∙ ap bytes_of (others_stay (to_append log line.items) mid path (one_other path log apart)) ∙ same path;
}

-- ---- a file is removed
pub going : (here : Bytes) (old x : Tree) → MayLeave (to_remove_file here) old x → MayGo here old x
going here old x (inl same) = record { file = inl (ap (λ t. file_at t here) same); others = λ path apart. ap (λ t. file_at t path) same }
going here old x (inr (n, may, is)) = record {
  file = inr (ap bytes_of (given_back here old x may is));
  others = files_stay here old x (removed_others here old x (inr (n, may, is)));
}

pub is_gone : (here : Bytes) (old new : Tree) → IsTrue (allows old (to_remove_file here)) → new ≡ after (to_remove_file here) old → IsGone here old new
is_gone here old new may is = record {
  file = ap bytes_of (given_back here old new may is);
  others = files_stay here old new (removed_others here old new (inr (0, may, is)));
}
