-- What a command reads of a whole repository, and the files of its commit.
use Rattle.std.proofs.Common.{◌≡◌, ◌≤◌, ◌⊎◌, Bool, true, false, cond, not, ◌||◌, List, [], ◌∷◌, ◌++◌, length, refl, sym, ◌∙◌, ap, subst, arith, tests, inl, inr, Option, Some, None, is_some, bytes_eq, nat_lt, option_map, option_to_list, unwrap_or, option_and_then, find}
use Rattle.std.specs.List.{list_any, filter_map}
use Rattle.std.specs.FinMap.{entries, get, get-empty, empty, contains_key, retain_keys}
use Rattle.history_model.specs.Bytes.{Bytes, by_bytes, has_byte}
use Rattle.history_model.specs.FileMap.{FileMap, Content, is_path, components, is_within, Edit, Put, Remove, RemoveFile, Graft, edited, edited_by, cleared, carried, grafted, grafted_paths}
use Rattle.history_model.specs.laws.Trees.{ComesFromFiles, edit_path}
use Rattle.history_model.specs.Objects.{Value, CommitValue, StoredCommit, StoredTag, StoredBytes, StoredFolder, id_of}
use Rattle.gix_hash.specs.Id.{Id}
use Rattle.history_model.specs.Repository.{Repository, IsStored, HoldsCommit, as_commit, peeled, peeled_value, id_at, IsWholeStore}
use Rattle.history_model.specs.Forms.{IsWrittenFiles, IsWritten, max_path}
use Rattle.history_model.specs.Words.{WordMeaning, ReadsAs, Unborn, Unknown, Ambiguous, commit_read, commit_of, word_meaning}
use Rattle.history_model.specs.Commands.{Command, Commit, CommitCommand, EditLine, PutLine, RemoveLine, RemoveFileLine, GraftLine}
use Rattle.history_model.specs.Meaning.{parents_of, name_commit, branch_or_name, first_files, read_edit, edits_of, new_commit, put_bytes}
use Rattle.history_model.specs.CommandParts.{edit_paths, paths_in}
use Rattle.history_model.specs.Causes.{first_cause, holds, in_order, is_bad_path, grafted_in}
use Rattle.history_model.specs.declared.Cause.{Cause}
use Rattle.history_model.specs.declared.Cause.TheVariants.{BadName, PrivateName, UnknownWord, AmbiguousWord, UnbornHead, NotACommit, NoSuchName, Collides, TooManyParents, DuplicateParent, BadPath, BadActor, BadTime, BadMessage, TooLarge}
use Rattle.history_model.proofs.EditLemmas.{edits_keep}
use Rattle.history_model.proofs.GraftLemmas.{of_filter, had_all}
use Rattle.history_model.proofs.WholeLists.{In, in_all, in_left, in_right, in_map, in_either, of_map, in_flat, same_text, none_is_some, none_passes, pass_all}
use Rattle.history_model.proofs.WholeRoots.{ArePlain}
use Rattle.history_model.proofs.WholeStores.{get_in, in_get, get_retained}
use Rattle.history_model.proofs.WholeGrowth.{holds_value, has_stored}
use Rattle.std.proofs.lemmas.Bool.{or_parts, and_parts, not-true, not-false}
use Rattle.std.proofs.lemmas.Option.{same_Some}
use Rattle.history_model.proofs.AfterFirstLemmas.{get-with}

-- ---- causes

found_none : {X : Type 0} (test : X → Bool) (xs : List X) → find test xs ≡ None → (x : X) → In x xs → test x ≡ false
found_none test [] e x i = absurd i
found_none {X = X} test (y ∷ ys) e x i = go (test y) refl e i (λ k j. found_none test ys k x j)
  where
    go : (b : Bool) → test y ≡ b → cond b (Some y) (find test ys) ≡ None → (x ≡ y) ⊎ In x ys → (find test ys ≡ None → In x ys → test x ≡ false) → test x ≡ false
    go true f k j rest = cc
    go false f k (inl g) rest = ap test g ∙ f
    go false f k (inr j) rest = rest k j

-- if none is the first cause, no cause holds
pub no_cause : (r : Repository) (command : Command) → first_cause r command ≡ None → (cause : Cause) → In cause in_order → holds cause r command ≡ false
no_cause r command e cause i = found_none (λ cause. holds cause r command) in_order e cause i

-- each cause's place among the tests
pub tests_bad_name : In BadName in_order
tests_bad_name = inl refl

pub tests_private_name : In PrivateName in_order
tests_private_name = inr (inl refl)

pub tests_unknown_word : In UnknownWord in_order
tests_unknown_word = inr (inr (inr (inl refl)))

pub tests_ambiguous_word : In AmbiguousWord in_order
tests_ambiguous_word = inr (inr (inr (inr (inl refl))))

pub tests_unborn_head : In UnbornHead in_order
tests_unborn_head = inr (inr (inr (inr (inr (inl refl)))))

pub tests_not_a_commit : In NotACommit in_order
tests_not_a_commit = inr (inr (inr (inr (inr (inr (inl refl))))))

pub tests_no_such_name : In NoSuchName in_order
tests_no_such_name = inr (inr (inr (inr (inr (inr (inr (inl refl)))))))

pub tests_collides : In Collides in_order
tests_collides = inr (inr (inr (inr (inr (inr (inr (inr (inr (inr (inl refl))))))))))

pub tests_too_many_parents : In TooManyParents in_order
tests_too_many_parents = inr (inr (inr (inr (inr (inr (inr (inr (inr (inr (inr (inr (inl refl))))))))))))

pub tests_duplicate_parent : In DuplicateParent in_order
tests_duplicate_parent = inr (inr (inr (inr (inr (inr (inr (inr (inr (inr (inr (inr (inr (inl refl)))))))))))))

pub tests_bad_path : In BadPath in_order
tests_bad_path = inr (inr (inr (inr (inr (inr (inr (inr (inr (inr (inr (inr (inr (inr (inl refl))))))))))))))

pub tests_bad_actor : In BadActor in_order
tests_bad_actor = inr (inr (inr (inr (inr (inr (inr (inr (inr (inr (inr (inr (inr (inr (inr (inr (inr (inl refl)))))))))))))))))

pub tests_bad_time : In BadTime in_order
tests_bad_time = inr (inr (inr (inr (inr (inr (inr (inr (inr (inr (inr (inr (inr (inr (inr (inr (inr (inr (inl refl))))))))))))))))))

pub tests_bad_message : In BadMessage in_order
tests_bad_message = inr (inr (inr (inr (inr (inr (inr (inr (inr (inr (inr (inr (inr (inr (inr (inr (inr (inr (inr (inl refl)))))))))))))))))))

pub tests_too_large : In TooLarge in_order
tests_too_large = inr (inr (inr (inr (inr (inr (inr (inr (inr (inr (inr (inr (inr (inr (inr (inr (inr (inr (inr (inr (inl refl))))))))))))))))))))

-- ---- commits that are read

module _ (r : Repository) (whole : IsWholeStore r) where
  pub peeled_holds : (id t : Id) → peeled r id ≡ Some t → HoldsCommit r t
  peeled_holds id t e = go (get r.objects id) refl e
    where
      go : (o : Option Value) → get r.objects id ≡ o → option_and_then (peeled_value id) o ≡ Some t → HoldsCommit r t
      go None f k = none_is_some t k
      go (Some (StoredCommit c)) f k = subst (HoldsCommit r) (same_Some id t k) (ap (λ o. is_some (option_and_then as_commit o)) f)
      go (Some (StoredTag tag)) f k = subst (HoldsCommit r) (same_Some tag.target t k) (whole.closed id (StoredTag tag) f)
      go (Some (StoredBytes b)) f k = none_is_some t k
      go (Some (StoredFolder m)) f k = none_is_some t k

  pub read_holds : (meaning : WordMeaning) (t : Id) → commit_read r meaning ≡ Some t → HoldsCommit r t
  read_holds (ReadsAs id) t e = peeled_holds id t e
  read_holds Unborn t e = none_is_some t e
  read_holds Unknown t e = none_is_some t e
  read_holds Ambiguous t e = none_is_some t e

  pub name_holds : (name : Bytes) (t : Id) → name_commit r name ≡ Some t → HoldsCommit r t
  name_holds name t e = go (id_at r name) e
    where
      go : (o : Option Id) → option_and_then (peeled r) o ≡ Some t → HoldsCommit r t
      go None k = none_is_some t k
      go (Some id) k = peeled_holds id t k

  of_option : {X : Type 0} (x : X) (o : Option X) → In x (option_to_list o) → o ≡ Some x
  of_option x None i = absurd i
  of_option x (Some y) (inl e) = ap Some (sym e)
  of_option x (Some y) (inr i) = absurd i

  pub parents_hold : (c : CommitCommand) (id : Id) → In id (parents_of r c) → HoldsCommit r id
  parents_hold c id i = elim (in_either id (option_to_list (name_commit r (branch_or_name r c.name))) (filter_map (commit_of r) c.parents) i) [
    | inl a ↦ name_holds (branch_or_name r c.name) id (of_option id (name_commit r (branch_or_name r c.name)) a)
    | inr b ↦ let from = of_filter (commit_of r) id c.parents b in read_holds (word_meaning r from.0) id from.2
  ]

-- ---- files

pub plain_written : (m : FileMap) → IsWrittenFiles m → ArePlain (entries m)
plain_written m written e i =
    not-true (has_byte 0 e.0) (and_parts (not (list_any Rattle.history_model.specs.Bytes.is_empty (components e.0))) (not (has_byte 0 e.0))
    ((written.map).paths e.0 (ap is_some (in_get m e.0 e.1 i)))).1

-- a file map whose bytes are stored, in its written form
abbrev pub Fine : Repository → FileMap → Type 0
Fine r m = ((path : Bytes) (content : Content) → get m path ≡ Some content → IsStored r (StoredBytes content.bytes)) × IsWrittenFiles m

nothing_there : {A : Type 0} (X : Type 0) (path : Bytes) → contains_key (empty {X = X} {R = by_bytes}) path ≡ true → A
nothing_there X path h = absurd (subst (λ o. is_some o ≡ true → ⊥) (sym (get-empty {X = X} by_bytes path)) (λ k. cc) h)

pub empty_written : IsWrittenFiles empty
empty_written = record {
  map = record { paths = λ p h. nothing_there Content p h; apart = λ p q h k. nothing_there Content p h };
  limit = λ path h. nothing_there Content path h;
}

pub empty_fine : (r : Repository) → Fine r empty
empty_fine r = (λ path content e. nothing_there Content path (ap is_some e), empty_written)

module _ (r : Repository) (whole : IsWholeStore r) (written : IsWritten r) where
  pub commit_fine : (id : Id) (c : CommitValue) → get r.objects id ≡ Some (StoredCommit c) → Fine r c.files
  commit_fine id c at =
      let stored = has_stored r whole (id_of r.kind (StoredFolder c.files)) c.files (whole.closed id (StoredCommit c) at).1 in
      (λ path content e. stored.bytes path content (get_in c.files path content e), ((written.values id (StoredCommit c) at).0).1)

  pub first_fine : (ids : List Id) → ((id : Id) → In id ids → HoldsCommit r id) → Fine r (first_files r ids)
  first_fine [] h = empty_fine r
  first_fine (id ∷ ids) h =
      let held = holds_value r id (h id (inl refl)) in
      subst (Fine r) (sym (ap (λ o. unwrap_or (option_map (λ (c : CommitValue). c.files) (option_and_then as_commit o)) empty) held.1)) (commit_fine id held.0 held.1)

-- ---- edits

-- what is at a path after an edit was there before, or was put there
kept_there : (m : FileMap) (test : Bytes → Bool) (path : Bytes) (content : Content) → get (retain_keys m test) path ≡ Some content → get m path ≡ Some content
kept_there m test path content h = go (test path) (sym (get_retained m test path) ∙ h)
  where
    go : (b : Bool) → cond b (get m path) None ≡ Some content → get m path ≡ Some content
    go true k = k
    go false k = none_is_some content k

-- an edit puts this content at the path, or grafts it there
abbrev pub Gives : Edit → Bytes → Content → Type 0
Gives e path content = ((path ≡ edit_path e) × In (StoredBytes content.bytes) (put_bytes e)) ⊎ In (path, content) (grafted e)

edit_from : (m : FileMap) (e : Edit) (path : Bytes) (content : Content) → get (edited m e) path ≡ Some content → (get m path ≡ Some content) ⊎ Gives e path content
edit_from m (Put kind p bytes) path content h = go (bytes_eq path p) refl (sym (get-with (retain_keys m test) p (record { kind = kind; bytes = bytes }) path) ∙ h)
  where
    test : Bytes → Bool
    test q = not (is_within p q || is_within q p)

    go : (b : Bool) → bytes_eq path p ≡ b → cond b (Some (record { kind = kind; bytes = bytes })) (get (retain_keys m test) path) ≡ Some content
        → (get m path ≡ Some content) ⊎ Gives (Put kind p bytes) path content
    go true e k = inr (inl (same_text path p e, inl (ap (λ (c : Content). StoredBytes c.bytes) (sym (same_Some (record { kind = kind; bytes = bytes }) content k)))))
    go false e k = inl (kept_there m test path content k)
edit_from m (Remove p) path content h = inl (kept_there m (λ q. not (is_within p q)) path content h)
edit_from m (RemoveFile p) path content h = inl (kept_there m (λ q. not (is_within p q)) path content h)
edit_from m (Graft p source from) path content h = elim (had_all (carried p source from) (cleared p m) path content h) [
  | inl i ↦ inr (inr i)
  | inr g ↦ inl (kept_there m (λ q. not (is_within p q || is_within q p)) path content g)
]

pub edits_from : (m : FileMap) (edits : List Edit) (path : Bytes) (content : Content) → get (edited_by m edits) path ≡ Some content
    → (get m path ≡ Some content) ⊎ ((e : Edit) × In e edits × Gives e path content)
edits_from m [] path content h = inl h
edits_from m (e ∷ edits) path content h = elim (edits_from (edited m e) edits path content h) [
  | inl a ↦ elim (edit_from m e path content a) [ inl b ↦ inl b | inr b ↦ inr (e, inl refl, b) ]
  | inr a ↦ inr (a.0, inr a.1, a.2)
]

-- ---- a commit's files

module _ (r : Repository) (c : CommitCommand) (none : first_cause r (Commit c) ≡ None) where
  good_path : (path : Bytes) → In path (paths_in (Commit c) ++ grafted_in r (Commit c)) → (is_path path ≡ true) × (nat_lt max_path (length path) ≡ false)
  good_path path i =
      let good = none_passes is_bad_path (paths_in (Commit c) ++ grafted_in r (Commit c)) (no_cause r (Commit c) none BadPath tests_bad_path) path i in
      let parts = or_parts (not (is_path path)) (nat_lt max_path (length path)) good in
      (not-false (is_path path) parts.0, parts.1)

  edit_in : (e : Edit) → In e (edits_of r c) → In (edit_path e) (paths_in (Commit c) ++ grafted_in r (Commit c))
  edit_in e i =
      let from = of_map (read_edit r) e c.edits i in
      in_left (edit_path e) (paths_in (Commit c)) (grafted_in r (Commit c)) (in_flat edit_paths (edit_path e) from.0 c.edits from.1 (subst (λ f. In (edit_path f) (edit_paths from.0)) (sym from.2) (go from.0)))
    where
      go : (line : EditLine) → In (edit_path (read_edit r line)) (edit_paths line)
      go (PutLine kind path bytes) = inl refl
      go (RemoveLine path) = inl refl
      go (RemoveFileLine path) = inl refl
      go (GraftLine path word source) = inl refl

  graft_in : (e : Edit) (path : Bytes) (content : Content) → In e (edits_of r c) → In (path, content) (grafted e) → In path (paths_in (Commit c) ++ grafted_in r (Commit c))
  graft_in e path content i j =
      in_right path (paths_in (Commit c)) (grafted_in r (Commit c)) (in_flat grafted_paths path e (edits_of r c) i (in_map (λ (x : Bytes × Content). x.0) (path, content) (grafted e) j))

  short_path : (path : Bytes) → nat_lt max_path (length path) ≡ false → length path ≤ max_path
  short_path path h = grind (arith, tests)

  -- the files of the commit keep their form
  pub new_written : IsWrittenFiles (first_files r (parents_of r c)) → ((e : Edit) → In e (edits_of r c) → ComesFromFiles e) → IsWrittenFiles (new_commit r c).files
  new_written old from = record {
    map = edits_keep (first_files r (parents_of r c)) (edits_of r c) old.map (pass_all (λ edit. is_path (edit_path edit)) (edits_of r c) (λ e i. (good_path (edit_path e) (edit_in e i)).0)) (in_all ComesFromFiles (edits_of r c) from);
    limit = λ path h. at path (get (edited_by (first_files r (parents_of r c)) (edits_of r c)) path) refl h;
  }
    where
      at : (path : Bytes) (o : Option Content) → get (edited_by (first_files r (parents_of r c)) (edits_of r c)) path ≡ o → is_some o ≡ true → length path ≤ max_path
      at path None e h = cc
      at path (Some content) e h = elim (edits_from (first_files r (parents_of r c)) (edits_of r c) path content e) [
        | inl a ↦ old.limit path (ap is_some a)
        | inr (e, i, inl b) ↦ subst (λ p. length p ≤ max_path) (sym b.0) (short_path (edit_path e) (good_path (edit_path e) (edit_in e i)).1)
        | inr (e, i, inr b) ↦ short_path path (good_path path (graft_in e path content i b)).1
      ]
