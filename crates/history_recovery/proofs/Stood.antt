-- Which pairs existed on the way of a recovery.
use Rattle.std.proofs.Common.{◌≡◌, ◌⊎◌, inl, inr, List, [], ◌∷◌, ◌++◌, length, refl, sym, ◌∙◌, ap, subst, Some, slice_get, Contains, append_assoc}
use Rattle.std.proofs.lemmas.Option.{same_Some}
use Rattle.std.specs.List.{AllByRecursion}
use Rattle.gix_ref_file.specs.Tree.{Tree}
use Rattle.gix_ref_file.specs.History.{History, Adds, trees, moment, stood_between}
use Rattle.gix_ref_file.proofs.Histories.{added_stood}
use Rattle.gix_ref_file.proofs.Rooted.{adds_now}
use Rattle.gix_hash.specs.declared.kind.Kind.{Kind}
use Rattle.history_model.specs.Places.{Pair}
use Rattle.history_model.specs.Recovery.{recovered, recovered_names, recovered_objects}
use Rattle.history_model.proofs.WholeLists.{In}
use Rattle.history_model.proofs.WholeSteps.{contains_in}
use Rattle.history_recovery.specs.Recovering.{ObjectsAlike, NamesAlike, IsOnTheWay, pair_of}

got_at : (past : List Tree) (tree : Tree) (more : List Tree) → slice_get (past ++ tree ∷ more) (length past) ≡ Some tree
got_at [] tree more = refl
got_at (t ∷ past) tree more = got_at past tree more

stood_then : {P : Tree → Type 0} (old new : History) (tree : Tree) → Adds P old new → slice_get (trees new) (moment old) ≡ Some tree → tree ≡ old.tree
stood_then old new tree adds at = same_Some tree old.tree (sym at ∙ ap (λ ts. slice_get ts (moment old)) (adds.added ∙ append_assoc old.past (old.tree ∷ []) adds.during) ∙ got_at old.past old.tree adds.during)

stands_now : (new : History) (tree : Tree) → slice_get (trees new) (moment new) ≡ Some tree → tree ≡ new.tree
stands_now new tree at = same_Some tree new.tree (sym at ∙ got_at new.past new.tree [])

one_of : (P : Tree → Type 0) (ts : List Tree) → AllByRecursion P ts → (tree : Tree) → In tree ts → P tree
one_of P [] all tree i = absurd i
one_of P (t ∷ ts) all tree (inl e) = subst P (sym e) all.0
one_of P (t ∷ ts) all tree (inr i) = one_of P ts all.1 tree i

stood_between_then : {P : Tree → Type 0} (old new : History) (tree : Tree) → Adds P old new → Contains (stood_between new (moment old) (moment new)) tree → (tree ≡ old.tree) ⊎ P tree
stood_between_then {P = P} old new tree adds there = go (contains_in (old.tree ∷ adds.during) tree (subst (λ ts. Contains ts tree) (added_stood old new adds.during adds.added) there))
  where
    go : In tree (old.tree ∷ adds.during) → (tree ≡ old.tree) ⊎ P tree
    go (inl e) = inl e
    go (inr i) = inr (one_of P adds.during adds.all tree i)

module _ (kind : Kind) (objects names new_objects new_names : History) (on_objects : Adds (ObjectsAlike objects.tree) objects new_objects) (on_names : Adds (NamesAlike kind names.tree) names new_names)
    (objects_now : ObjectsAlike objects.tree new_objects.tree) where
  from_objects : (t : Tree) → (t ≡ objects.tree) ⊎ ObjectsAlike objects.tree t → recovered_objects t ≡ recovered_objects objects.tree
  from_objects t (inl same) = ap recovered_objects same
  from_objects t (inr alike) = alike

  from_names : (t : Tree) → (t ≡ names.tree) ⊎ NamesAlike kind names.tree t → recovered_names kind t ≡ recovered_names kind names.tree
  from_names t (inl same) = ap (recovered_names kind) same
  from_names t (inr alike) = alike

  pub pairs_alike : (pair : Pair) → IsOnTheWay objects names new_objects new_names pair → recovered kind pair ≡ recovered kind (pair_of objects names)
  pairs_alike pair (inl (o, n)) =
      let first = from_objects pair.objects (stood_between_then objects new_objects pair.objects on_objects o) in
      let second = ap (recovered_names kind) (stood_then names new_names pair.names on_names n) in
      λ i. record { objects = first i; names = second i }
  pairs_alike pair (inr (o, n)) =
      let first = ap recovered_objects (stands_now new_objects pair.objects o) ∙ objects_now in
      let second = from_names pair.names (stood_between_then names new_names pair.names on_names n) in
      λ i. record { objects = first i; names = second i }

  -- the last one too
  pub last_alike : recovered kind (pair_of new_objects new_names) ≡ recovered kind (pair_of objects names)
  last_alike =
      let second = from_names new_names.tree (adds_now (NamesAlike kind names.tree) names new_names on_names) in
      λ i. record { objects = objects_now i; names = second i }
