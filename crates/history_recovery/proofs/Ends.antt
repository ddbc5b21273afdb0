-- What recovery leaves at its end.
use Rattle.std.proofs.Common.{◌≡◌, ◌⊎◌, inl, inr, refl, sym, ◌∙◌, ap, Bool, true, false, cond, not, ◌&&◌, [], length, drop, Option, Some, None, option_map, is_some, codes, bytes_eq, arith}
use Rattle.std.specs.Prelude.{Result, Ok, Err, OnOk}
use Rattle.std.specs.FinMap.{get, remove}
use Rattle.std.proofs.lemmas.Map.Text.{is_eq-slice_cmp}
use Rattle.std.proofs.lemmas.Slice.Eq.{bytes_eq-Decides}
use Rattle.gix_hash.specs.declared.kind.Kind.{Kind}
use Rattle.gix_hash.specs.declared.kind.Kind.TheVariants.{Sha1}
use Rattle.gix_ref_file.specs.Tree.{Tree, Node, file, folder, same_path, bytes_of, node_at, place_of}
use Rattle.gix_ref_file.specs.Changes.{to_remove_file, is_file_at, MayLeave}
use Rattle.gix_ref_file.specs.History.{History, Adds}
use Rattle.gix_ref_file.specs.declared.files.Place.TheVariants as places
use Rattle.gix_ref_file.proofs.Histories.{adds_weaker}
use Rattle.gix_ref_file.proofs.Rooted.{adds_now}
use Rattle.gix_ref_file.proofs.Trees.{same_tree, get-removed}
use Rattle.history_model.specs.Bytes.{Bytes}
use Rattle.history_model.specs.Logs.{whole_lines}
use Rattle.history_model.specs.Places.{file_at, is_log_place, unfinished_place}
use Rattle.history_model.specs.Recovery.{recovered_node, recovered_objects}
use Rattle.history_model.proofs.RecoveryLemmas.{get-kept, recovery_ends}
use Rattle.history_model.proofs.WholePaths.{begins_parts}
use Rattle.history_recovery.specs.Clearing.{AreKeptBelow, AreAllKept, IsCut, AreCutBelow, Cuts, Clears}
use Rattle.history_recovery.specs.Recovering.{ObjectsAlike, NamesAlike, AreNamesRecovered}
use Rattle.gix_ref_way.proofs.Walked.{above_all}
use Rattle.history_recovery.proofs.Below.{so_many}
use Rattle.history_recovery.proofs.Cuts.{kept_cut}
use Rattle.history_recovery.proofs.Recoveries.{recovered_itself}

-- ---- names

pub all_kept_there : (kind : Kind) (tree : Tree) → AreKeptBelow kind [] tree → AreAllKept kind tree
all_kept_there kind tree kept path = kept (length path) path (above_all path)

all_are_cut : (tree : Tree) → AreCutBelow (codes "logs") tree → (path : Bytes) → IsCut tree path
all_are_cut tree cut path = by_log (is_log_place path) refl
  where
    by_log : (log : Bool) → is_log_place path ≡ log → option_map (recovered_node path) (get tree path) ≡ get tree path
    by_log true log =
        let deep = so_many (length path) (codes "logs") path (drop 5 path) (omega arith) (λ e. cc) (begins_parts (codes "logs/") path log) in
        cut deep.0 path deep.1
    by_log false plain = go (get tree path)
      where
        go : (o : Option Node) → option_map (recovered_node path) o ≡ o
        go None = refl
        go (Some folder) = refl
        go (Some (file bytes)) = ap (λ b. Some (file (cond b (whole_lines bytes) bytes))) plain

pub names_end : (kind : Kind) (old mid new : Tree) → Clears kind old mid → AreKeptBelow kind [] mid → NamesAlike kind mid new → Cuts mid new → AreCutBelow (codes "logs") new → AreNamesRecovered kind old new
names_end kind old mid new clears kept alike cuts cut =
    sym (recovered_itself kind new (kept_cut kind mid new alike cuts (all_kept_there kind mid kept)) (all_are_cut new cut)) ∙ alike ∙ clears.alike

-- ---- objects

same_is : (q k : Bytes) → same_path q k ≡ bytes_eq q k
same_is q k = is_eq-slice_cmp q k

pub without_unfinished : (tree : Tree) → is_file_at tree unfinished_place ≡ true → remove tree unfinished_place ≡ recovered_objects tree
without_unfinished tree there = same_tree (remove tree unfinished_place) (recovered_objects tree) (λ q.
    get-removed tree unfinished_place q ∙ at q (bytes_eq q unfinished_place) refl ∙ sym (get-kept tree _ q))
  where
    at : (q : Bytes) (b : Bool) → bytes_eq q unfinished_place ≡ b → cond (same_path q unfinished_place) None (get tree q) ≡ cond (not (bytes_eq q unfinished_place && is_some (file_at tree q))) (get tree q) None
    at q true e =
        ap (λ b. cond b None (get tree q)) (same_is q unfinished_place ∙ e)
        ∙ sym ((λ i. cond (not (e i && is_some (file_at tree q))) (get tree q) None)
        ∙ ap (λ p. cond (not (is_some (file_at tree p))) (get tree q) None) ((bytes_eq-Decides q unfinished_place).0 e)
        ∙ ap (λ b. cond (not b) (get tree q) None) there)
    at q false e =
        ap (λ b. cond b None (get tree q)) (same_is q unfinished_place ∙ e)
        ∙ sym (λ i. cond (not (e i && is_some (file_at tree q))) (get tree q) None)

pub none_unfinished : (tree : Tree) → is_file_at tree unfinished_place ≡ false → tree ≡ recovered_objects tree
none_unfinished tree none = same_tree tree (recovered_objects tree) (λ q. at q (bytes_eq q unfinished_place) refl ∙ sym (get-kept tree _ q))
  where
    at : (q : Bytes) (b : Bool) → bytes_eq q unfinished_place ≡ b → get tree q ≡ cond (not (bytes_eq q unfinished_place && is_some (file_at tree q))) (get tree q) None
    at q true e =
        sym ((λ i. cond (not (e i && is_some (file_at tree q))) (get tree q) None)
        ∙ ap (λ p. cond (not (is_some (file_at tree p))) (get tree q) None) ((bytes_eq-Decides q unfinished_place).0 e)
        ∙ ap (λ b. cond (not b) (get tree q) None) none)
    at q false e = sym (λ i. cond (not (e i && is_some (file_at tree q))) (get tree q) None)

pub objects_again : (tree : Tree) → recovered_objects (recovered_objects tree) ≡ recovered_objects tree
objects_again tree = ap (λ pair. pair.objects) (recovery_ends Sha1 (record { objects = tree; names = tree }))

pub while_unfinished_goes : (old new : History) → Adds (MayLeave (to_remove_file unfinished_place) old.tree) old new → Adds (ObjectsAlike old.tree) old new
while_unfinished_goes old new adds = adds_weaker old new adds (λ x left. go x left)
  where
    go : (x : Tree) → MayLeave (to_remove_file unfinished_place) old.tree x → recovered_objects x ≡ recovered_objects old.tree
    go x (inl same) = ap recovered_objects same
    go x (inr (n, may, is)) = ap recovered_objects (is ∙ without_unfinished old.tree may) ∙ objects_again old.tree

pub objects_now : (old new : History) → Adds (ObjectsAlike old.tree) old new → ObjectsAlike old.tree new.tree
objects_now old new adds = go (adds_now (ObjectsAlike old.tree) old new adds)
  where
    go : (new.tree ≡ old.tree) ⊎ ObjectsAlike old.tree new.tree → recovered_objects new.tree ≡ recovered_objects old.tree
    go (inl same) = ap recovered_objects same
    go (inr alike) = alike

pub no_file_there : (tree : Tree) (path : Bytes) → place_of (node_at tree path) ≡ places.Absent → is_file_at tree path ≡ false
no_file_there tree path is = go (node_at tree path) is
  where
    go : (o : Option Node) → place_of o ≡ places.Absent → is_some (bytes_of o) ≡ false
    go None e = refl
    go (Some (file bytes)) e = cc
    go (Some folder) e = cc

pub no_file_in : (tree : Tree) (path : Bytes) → place_of (node_at tree path) ≡ places.Folder → is_file_at tree path ≡ false
no_file_in tree path is = go (node_at tree path) is
  where
    go : (o : Option Node) → place_of o ≡ places.Folder → is_some (bytes_of o) ≡ false
    go None e = cc
    go (Some (file bytes)) e = cc
    go (Some folder) e = refl

pub on_ok_both : {T E : Type 0} {A B C : Type 0} (r : Result T E) → (A → B → C) → OnOk r A → OnOk r B → OnOk r C
on_ok_both (Ok x) f a b = f a b
on_ok_both (Err e) f a b = tt
