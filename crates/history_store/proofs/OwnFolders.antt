-- The folders that a path is in: nothing is in one that is missing, and it may be made then.
use Rattle.std.proofs.Common.{◌≡◌, ◌⊎◌, inl, inr, refl, sym, ◌∙◌, ap, subst, Bool, true, false, [], ◌∷◌, length, arith}
use Rattle.std.specs.Prelude.{IsTrue, IsFalse, Option, Some, None, is_some}
use Rattle.std.specs.FinMap.{get}
use Rattle.gix_ref_file.specs.Tree.{Tree, Node, file, folder, is_path, parent, node_at, place_of, bytes_of, is_folder, IsRooted}
use Rattle.gix_ref_file.specs.Changes.{to_make_folder, allows, after, is_file_at, MayLeave}
use Rattle.gix_ref_file.specs.History.{History, Adds}
use Rattle.gix_ref_file.specs.declared.files.Place.TheVariants as places
use Rattle.gix_ref_file.proofs.Histories.{adds_weaker, adds_joined}
use Rattle.gix_ref_way.specs.Ways.{Bytes, IsAbove, FoldersAbove, HasFoldersAbove, NoFileAbove, SameFiles}
use Rattle.gix_ref_way.proofs.Above.{now_above, while_one_made}
use Rattle.gix_ref_way.proofs.FoldersMade.{above_above, above_shorter, folder_there, in_root_or_below, may_make, none_there, path_above}
use Rattle.gix_ref_way.proofs.Stored.{while_made}
use Rattle.gix_ref_way.proofs.Upward.{all_above}
use Rattle.gix_ref_way.proofs.Walked.{parent_of_folder}

-- no folder is in a folder that is missing
pub missing_in_missing : (tree : Tree) (path : Bytes) → IsRooted tree → false ≡ is_folder (node_at tree (parent path)) → false ≡ is_folder (node_at tree path)
missing_in_missing tree path rooted none = by_test (is_folder (node_at tree path)) refl
  where
    by_test : (b : Bool) → is_folder (node_at tree path) ≡ b → false ≡ is_folder (node_at tree path)
    by_test false is = sym is
    by_test true is =
        let wrong : false ≡ true = none ∙ parent_of_folder tree path rooted is in
        absurd (cc wrong)

-- no file is in a folder that is missing
pub none_in_missing : (tree : Tree) (path : Bytes) → IsRooted tree → false ≡ is_folder (node_at tree (parent path)) → false ≡ is_file_at tree path
none_in_missing tree [] rooted none = refl
none_in_missing tree (b ∷ path) rooted none = by_case (get tree (b ∷ path)) refl
  where
    by_case : (o : Option Node) → get tree (b ∷ path) ≡ o → false ≡ is_some (bytes_of o)
    by_case None is = refl
    by_case (Some folder) is = refl
    by_case (Some (file bytes)) is =
        let wrong : false ≡ true = none ∙ (rooted (b ∷ path) (ap is_some is)).1 in
        absurd (cc wrong)

-- the folder of a path is the root, or above the path
pub own_folder : (path own : Bytes) → own ≡ parent path → (own ≡ []) ⊎ IsAbove own path
own_folder path own is = by_case (in_root_or_below path)
  where
    by_case : (parent path ≡ []) ⊎ IsAbove (parent path) path → (own ≡ []) ⊎ IsAbove own path
    by_case (inl root) = inl (is ∙ root)
    by_case (inr below) = inr (subst (λ p. IsAbove p path) (sym is) below)

-- and so is the folder that it is in
pub outer_folder : (path own outer : Bytes) → own ≡ parent path → outer ≡ parent own → (outer ≡ []) ⊎ IsAbove outer path
outer_folder path own outer is out = by_case (own_folder path own is) (own_folder own outer out)
  where
    by_case : (own ≡ []) ⊎ IsAbove own path → (outer ≡ []) ⊎ IsAbove outer own → (outer ≡ []) ⊎ IsAbove outer path
    by_case at (inl root) = inl root
    by_case (inl root) (inr within) = absurd (omega (arith, above_shorter outer own within, ap length root))
    by_case (inr below) (inr within) = inr (above_above outer own path within below)

-- if it is made, all folders above the path exist
pub own_there : (path own : Bytes) → own ≡ parent path → (mid new : Tree) → new ≡ after (to_make_folder own) mid → IsRooted new → HasFoldersAbove path new
own_there path own is mid new made rooted =
    all_above new path rooted (ap (λ p. is_folder (node_at new p)) (sym is) ∙ ap (λ t. is_folder (node_at t own)) made ∙ folder_there mid own)

-- folders that are made one after another, all above the path
pub above_joined : (path : Bytes) (old mid new : History) → Adds (FoldersAbove path old.tree) old mid → Adds (FoldersAbove path mid.tree) mid new → Adds (FoldersAbove path old.tree) old new
above_joined path old mid new first second = adds_joined old mid new first (adds_weaker mid new second (λ x above q is. from q (above q is)))
  where
    from : (q : Bytes) → (get mid.tree q ≡ Some folder) ⊎ IsAbove q path → (get old.tree q ≡ Some folder) ⊎ IsAbove q path
    from q (inl stood) = now_above path old mid first q stood
    from q (inr within) = inr within

module _ (path own : Bytes) (at : (own ≡ []) ⊎ IsAbove own path) where
  pub own_above : (t x : Tree) → MayLeave (to_make_folder own) t x → FoldersAbove path t x
  own_above t x left q is = by_case at left
    where
      more : IsAbove own path → (get t q ≡ Some folder) ⊎ (q ≡ own) → (get t q ≡ Some folder) ⊎ IsAbove q path
      more below (inl stood) = inl stood
      more below (inr same) = inr (subst (λ p. IsAbove p path) (sym same) below)

      by_case : (own ≡ []) ⊎ IsAbove own path → MayLeave (to_make_folder own) t x → (get t q ≡ Some folder) ⊎ IsAbove q path
      by_case (inl root) (inl same) = inl (ap (λ y. get y q) (sym same) ∙ is)
      by_case (inl root) (inr (n, may, made)) =
          let wrong : false ≡ true = ap (λ p. allows t (to_make_folder p)) (sym root) ∙ may in
          absurd (cc wrong)
      by_case (inr below) left = more below (while_one_made own t x left q is)

  pub own_made : (old new : History) → Adds (MayLeave (to_make_folder own) old.tree) old new → Adds (FoldersAbove path old.tree) old new
  own_made old new made = adds_weaker old new made (λ x left. own_above old.tree x left)

  -- one that is missing may be made in a folder that exists
  pub may_make_own : (tree : Tree) → false ≡ is_folder (node_at tree own) → IsTrue (is_path path) → NoFileAbove path tree → IsTrue (is_folder (node_at tree (parent own))) → allows tree (to_make_folder own) ≡ true
  may_make_own tree missing whole none inside = may_make tree own (path_above own path below whole) inside (absent (node_at tree own) (none own below) (sym missing))
    where
      below : IsAbove own path
      below = by_case at
        where
          by_case : (own ≡ []) ⊎ IsAbove own path → IsAbove own path
          by_case (inl root) =
              let wrong : false ≡ true = missing ∙ ap (λ p. is_folder (node_at tree p)) root in
              absurd (cc wrong)
          by_case (inr above) = above

      absent : (o : Option Node) → bytes_of o ≡ None → IsFalse (is_folder o) → place_of o ≡ places.Absent
      absent None no_file no_folder = refl
      absent (Some (file bytes)) no_file no_folder = absurd (cc no_file)
      absent (Some folder) no_file no_folder = absurd (cc no_folder)

-- so may the folder of a path in the outer one that was just made
pub may_make_inner : (path own outer : Bytes) (old mid : Tree) → own ≡ parent path → outer ≡ parent own → IsRooted old → false ≡ is_folder (node_at old outer) → IsTrue (is_path path) → NoFileAbove path old
    → IsTrue (allows old (to_make_folder outer)) → mid ≡ after (to_make_folder outer) old → allows mid (to_make_folder own) ≡ true
may_make_inner path own outer old mid is out rooted missing whole none may made =
    may_make_own path own (own_folder path own is) mid (sym (none_there own old mid (own_above own outer (own_folder own outer out) old mid left) (sym inner))) whole (λ place above. same place ∙ none place above)
    (ap (λ p. is_folder (node_at mid p)) (sym out) ∙ ap (λ t. is_folder (node_at t outer)) made ∙ folder_there old outer)
  where
    left : MayLeave (to_make_folder outer) old mid
    left = inr (0, may, made)

    same : SameFiles old mid
    same = while_made outer old mid left

    inner : false ≡ is_folder (node_at old own)
    inner = missing_in_missing old own rooted (missing ∙ ap (λ p. is_folder (node_at old p)) out)
