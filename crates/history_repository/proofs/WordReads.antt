-- What the names that a word may mean say of it, read one after another.
use Rattle.std.proofs.Common.{◌≡◌, ℕ, suc, ◌+◌, ◌<◌, length, drop, get_or, drop-cons, subst, ◌≤◌, arith, Bool, true, false, cond, not, ◌&&◌, List, [], ◌∷◌, ◌++◌, map, filter, find, refl, sym, ◌∙◌, ap, Option, Some, None, is_some, option_map, unwrap_or, bytes_eq, codes, Bor}
use Rattle.std.specs.FinMap.{get}
use Rattle.std.proofs.lemmas.List.{append-nil, drop_all}
use Rattle.history_model.specs.Bytes.{Bytes, begins}
use Rattle.history_model.specs.Forms.{is_name, is_private}
use Rattle.history_model.specs.Repository.{Repository, Reference, id_at, stands}
use Rattle.history_model.specs.Words.{ReadsAs, Unborn, word_meaning, name_meaning, id_meaning, candidates, head_word}
use Rattle.gix_ref_file.specs.History.{History}
use Rattle.history_store.specs.Packing.{NameReads}
use Rattle.gix_hash.specs.declared.object_id.ObjectId.{ObjectId}
use Rattle.history_repository.specs.Stands.{Stands}
use Rattle.history_repository.specs.Face.{names_part}
use Rattle.history_repository.proofs.NameReads.{held}
use Rattle.gix_hash.specs.Id.{Id, id_of}
use Rattle.history_repository.specs.declared.repository.Repository as own

-- what is before and after a word
abbrev pub Ends : Type 0
Ends = Bor Bytes × Bor Bytes

abbrev pub whole_name : Bytes → Ends → Bytes
whole_name word ends = (ends.0.now ++ word) ++ ends.1.now

abbrev pub may_mean : Bytes → Bool
may_mean name = begins (codes "refs/") name && not (is_private name)

-- the first existing name of those that a word may mean, and of those that are still to be read
pub first_meant : Repository → Bytes → Option Bytes
first_meant r word = find (stands r) (candidates word)

pub first_left : Repository → Bytes → List Ends → Option Bytes
first_left r word ends = find (stands r) (filter may_mean (map (whole_name word) ends))

abbrev six : Bytes → List Bytes
six word = (([] ++ word) ++ []) ∷ ((codes "refs/" ++ word) ++ []) ∷ ((codes "refs/tags/" ++ word) ++ []) ∷ ((codes "refs/heads/" ++ word) ++ [])
    ∷ ((codes "refs/remotes/" ++ word) ++ []) ∷ ((codes "refs/remotes/" ++ word) ++ codes "/HEAD") ∷ []

six_names : (word : Bytes) → candidates word ≡ filter may_mean (six word)
six_names word = λ i. filter may_mean
    (sym (append-nil word) i ∷ sym (append-nil (codes "refs/" ++ word)) i ∷ sym (append-nil (codes "refs/tags/" ++ word)) i ∷ sym (append-nil (codes "refs/heads/" ++ word)) i
    ∷ sym (append-nil (codes "refs/remotes/" ++ word)) i ∷ (codes "refs/remotes/" ++ word ++ codes "/HEAD") ∷ [])

module _ (r : Repository) (word : Bytes) where
  -- before the first is read, all are left
  pub all_left : (ends : List Ends) → map (whole_name word) ends ≡ six word → first_meant r word ≡ first_left r word ends
  unfolding first_meant first_left
  all_left ends e = ap (find (stands r)) (six_names word ∙ ap (filter may_mean) (sym e))

  pub none_left : first_left r word [] ≡ None
  unfolding first_left
  none_left = refl

  pub passed_over : (ends : Ends) (rest : List Ends) → may_mean (whole_name word ends) ≡ false → first_left r word (ends ∷ rest) ≡ first_left r word rest
  unfolding first_left
  passed_over ends rest e = ap (λ b. find (stands r) (cond b (whole_name word ends ∷ filter may_mean (map (whole_name word) rest)) (filter may_mean (map (whole_name word) rest)))) e

  pub none_there : (ends : Ends) (rest : List Ends) → stands r (whole_name word ends) ≡ false → first_left r word (ends ∷ rest) ≡ first_left r word rest
  unfolding first_left
  none_there ends rest e = by_test (may_mean (whole_name word ends))
    where
      by_test : (b : Bool) → find (stands r) (cond b (whole_name word ends ∷ filter may_mean (map (whole_name word) rest)) (filter may_mean (map (whole_name word) rest))) ≡ first_left r word rest
      by_test true = ap (λ s. cond s (Some (whole_name word ends)) (first_left r word rest)) e
      by_test false = refl

  pub found_here : (ends : Ends) (rest : List Ends) → may_mean (whole_name word ends) ≡ true → stands r (whole_name word ends) ≡ true → first_left r word (ends ∷ rest) ≡ Some (whole_name word ends)
  unfolding first_left
  found_here ends rest e there =
      ap (λ b. find (stands r) (cond b (whole_name word ends ∷ filter may_mean (map (whole_name word) rest)) (filter may_mean (map (whole_name word) rest)))) e
      ∙ ap (λ s. cond s (Some (whole_name word ends)) (first_left r word rest)) there

  -- ---- by index

  module _ (items : List Ends) (i : ℕ) (d : Ends) (within : i < length items) (name : Bytes) (is : name ≡ whole_name word (get_or items i d)) where
    next : first_left r word (drop i items) ≡ first_left r word (get_or items i d ∷ drop (i + 1) items)
    next = ap (first_left r word) (drop-cons items i d within) ∙ ap (λ n. first_left r word (get_or items i d ∷ drop n items)) (let e : suc i ≡ i + 1 = omega arith in e)

    pub next_passed : may_mean name ≡ false → first_left r word (drop i items) ≡ first_left r word (drop (i + 1) items)
    next_passed e = next ∙ passed_over (get_or items i d) (drop (i + 1) items) (ap may_mean (sym is) ∙ e)

    pub next_absent : stands r name ≡ false → first_left r word (drop i items) ≡ first_left r word (drop (i + 1) items)
    next_absent e = next ∙ none_there (get_or items i d) (drop (i + 1) items) (ap (stands r) (sym is) ∙ e)

    pub next_found : may_mean name ≡ true → stands r name ≡ true → first_left r word (drop i items) ≡ Some name
    next_found e there = next ∙ found_here (get_or items i d) (drop (i + 1) items) (ap may_mean (sym is) ∙ e) (ap (stands r) (sym is) ∙ there) ∙ ap Some (sym is)

  pub found_first : (found : Option Bytes) → first_meant r word ≡ found → find (stands r) (candidates word) ≡ found
  unfolding first_meant
  found_first found e = e

  pub none_first : (items : List Ends) (i : ℕ) → length items ≤ i → first_meant r word ≡ first_left r word (drop i items) → find (stands r) (candidates word) ≡ None
  none_first items i past e = found_first None (e ∙ ap (first_left r word) (drop_all i items past) ∙ none_left)

  -- a word but HEAD reads as the first of its names that exists, or as an id
  reads_found : bytes_eq word head_word ≡ false → (found : Option Bytes) → find (stands r) (candidates word) ≡ found → word_meaning r word ≡ unwrap_or (option_map (λ name. name_meaning (id_at r name)) found) (id_meaning r word)
  reads_found other found e =
      ap (λ b. cond b (name_meaning (id_at r r.branch)) (unwrap_or (option_map (λ name. name_meaning (id_at r name)) (find (stands r) (candidates word))) (id_meaning r word))) other
      ∙ ap (λ o. unwrap_or (option_map (λ name. name_meaning (id_at r name)) o) (id_meaning r word)) e

  pub reads_branch : bytes_eq word head_word ≡ true → word_meaning r word ≡ name_meaning (id_at r r.branch)
  reads_branch is = ap (λ b. cond b (name_meaning (id_at r r.branch)) (unwrap_or (option_map (λ name. name_meaning (id_at r name)) (find (stands r) (candidates word))) (id_meaning r word))) is

  pub found_reads : bytes_eq word head_word ≡ false → (name : Bytes) (id : Id) → find (stands r) (candidates word) ≡ Some name → id_at r name ≡ Some id → word_meaning r word ≡ ReadsAs id
  found_reads other name id e at = reads_found other (Some name) e ∙ ap name_meaning at

  pub none_reads : bytes_eq word head_word ≡ false → find (stands r) (candidates word) ≡ None → word_meaning r word ≡ id_meaning r word
  none_reads other e = reads_found other None e

  pub branch_reads : (id : Id) → bytes_eq word head_word ≡ true → id_at r r.branch ≡ Some id → word_meaning r word ≡ ReadsAs id
  branch_reads id is at = reads_branch is ∙ ap name_meaning at

-- a name that holds an id exists, and one that holds none doesn't
pub stands_so : (r : Repository) (name : Bytes) (held : Option Id) → id_at r name ≡ held → stands r name ≡ is_some held
stands_so r name held e = by_ref (get r.names name) ∙ ap is_some e
  where
    by_ref : (o : Option Reference) → is_some o ≡ is_some (option_map (λ (ref : Reference). ref.id) o)
    by_ref None = refl
    by_ref (Some ref) = refl

-- ---- a repository with its files

module _ {F : Type 0} (IsHonest : F → Type 0) (history : F → History) (repository : own.Repository F) (r : Repository) (stand : Stands IsHonest history repository r) where
  -- what is read of a candidate is what it holds
  pub candidate_held : (place name : Bytes) → place ≡ name → may_mean name ≡ true → (found : Option ObjectId) → NameReads repository.names.kind (history (names_part repository)).tree place found → id_at r name ≡ option_map id_of found
  candidate_held place name same e found holds =
      sym (held IsHonest history repository r stand name found (subst (λ p. NameReads repository.names.kind (history (names_part repository)).tree p found) same holds))

  -- a name exists if it reads as an id
  pub name_stands : (name : Bytes) → is_name name ≡ true → (found : Option ObjectId) → NameReads repository.names.kind (history (names_part repository)).tree name found → stands r name ≡ is_some found
  name_stands name formed found holds =
      stands_so r name (option_map id_of found) (sym (held IsHonest history repository r stand name found holds)) ∙ same_there found
    where
      same_there : (o : Option ObjectId) → is_some (option_map id_of o) ≡ is_some o
      same_there None = refl
      same_there (Some id) = refl

  -- HEAD means what its branch reads as
  branch_held : (place : Bytes) → place ≡ repository.branch.items → (found : Option ObjectId) → NameReads repository.names.kind (history (names_part repository)).tree place found → id_at r r.branch ≡ option_map id_of found
  branch_held place same found holds =
      sym (held IsHonest history repository r stand place found holds
      ∙ ap (id_at r) (same ∙ stand.branch))

  pub branch_at : (place : Bytes) → place ≡ repository.branch.items → (found : Option ObjectId) → NameReads repository.names.kind (history (names_part repository)).tree place found
      → (id : ObjectId) → found ≡ Some id → id_at r r.branch ≡ Some (id_of id)
  branch_at place same found holds id there = branch_held place same found holds ∙ ap (option_map id_of) there

  pub branch_unborn : (word place : Bytes) → bytes_eq word head_word ≡ true → place ≡ repository.branch.items → (found : Option ObjectId) → NameReads repository.names.kind (history (names_part repository)).tree place found
      → found ≡ None → word_meaning r word ≡ Unborn
  branch_unborn word place is same found holds none = reads_branch r word is ∙ ap name_meaning (branch_held place same found holds ∙ ap (option_map id_of) none)
