-- The paths at which a graft puts something, and whether one is over the limit.
use Rattle.std.proofs.Common.{◌≡◌, ℕ, ◌+◌, Bool, true, false, not, ◌||◌, List, [], ◌∷◌, ◌++◌, length, map, refl, sym, ◌∙◌, ap, subst, arith, inl, Option, Some, None, nat_lt, append-nil}
use Rattle.std.specs.Prelude.{is_none}
use Rattle.std.specs.List.{list_any}
use Rattle.std.specs.FinMap.{entries, get}
use Rattle.gix_object_lookup.specs.Table.{Table}
use Rattle.gix_hash.specs.declared.kind.Kind.{Kind}
use Rattle.gix_hash.specs.declared.object_id.ObjectId.{ObjectId}
use Rattle.history_model.specs.Bytes.{Bytes, is_empty}
use Rattle.history_model.specs.FileMap.{Content, FileMap, Graft, IsFileMap, carried, grafted_paths, grafts_nothing, is_path, with_rest}
use Rattle.history_model.specs.Causes.{is_bad_path}
use Rattle.history_model.specs.Answers.{file_line}
use Rattle.history_model.specs.Replies.{FileLine}
use Rattle.history_model.specs.Forms.{max_path}
use Rattle.history_model.proofs.PartLemmas.{head_same, tail_same}
use Rattle.history_model.proofs.GraftLemmas.{follows_there, of_carried, with_rest_path}
use Rattle.history_model.proofs.WholeLists.{In, clash, in_map, none_is_some, of_map, one_passes, passes_one}
use Rattle.history_model.proofs.WholeStores.{get_in, in_get}
use Rattle.history_files.specs.Edits.{IsSource}
use Rattle.history_files.specs.Reading.{line_of}
use Rattle.history_files.specs.declared.found.Found.{Found}
use Rattle.history_files.specs.declared.found.Found.TheVariants.{Folder}
use Rattle.history_files.specs.declared.listing.File as listing
use Rattle.history_files.proofs.Grafted.{below_from, below_to, itself_from, itself_to, source_file, source_files}
use Rattle.history_files.proofs.Sources.{AFile, AFolder, Nothing, Source, source_of}
use Rattle.std.proofs.lemmas.Bool.{or_parts}
use Rattle.std.proofs.lemmas.List.{length-append}
use Rattle.history_model.specs.FileMap as model
use Rattle.history_model.specs.Repository.{Repository}
use Rattle.history_files.specs.Editing.{Names}
use Rattle.history_files.specs.Laws.{table_of}
use Rattle.history_files.specs.declared.edits.Change.{Change}
use Rattle.history_files.specs.declared.edits.Change.TheVariants as change
use Rattle.history_plans.specs.Files.{AreChangesOf, grafts_badly, grafts_none}
use Rattle.history_plans.specs.declared.editing.PathChange.{PathChange}

abbrev Entry : Type 0
Entry = Bytes × Content

module _ (path source : Bytes) (other : FileMap) (map_is : IsFileMap other) (good : is_bad_path path ≡ false) where
  fits : is_path path ≡ true
  fits = go (is_path path) (or_parts (not (is_path path)) (nat_lt max_path (length path)) good).0
    where
      go : (b : Bool) → not b ≡ false → b ≡ true
      go true e = refl
      go false e = cc

  short : nat_lt max_path (length path) ≡ false
  short = (or_parts (not (is_path path)) (nat_lt max_path (length path)) good).1

  -- each is a path
  path_there : (q : Bytes) (c : Content) → In (q, c) (carried path source other) → is_path q ≡ true
  path_there q c i =
      let a = of_carried path source other q c i in
      subst (λ p. is_path p ≡ true) (sym a.is) (with_rest_path path a.rest fits (follows_there path source other map_is q c a).some)

  bad_is_long : (q : Bytes) (c : Content) → In (q, c) (carried path source other) → is_bad_path q ≡ nat_lt max_path (length q)
  bad_is_long q c i = ap (λ b. not b || nat_lt max_path (length q)) (path_there q c i)

  -- whether one below the path is over the limit
  abbrev long_below : Entry → Bool
  long_below e = nat_lt max_path (length path + 1 + length e.0)

  below_length : (r : Bytes) → length (path ++ 47 ∷ r) ≡ length path + 1 + length r
  below_length r = let sum = length-append path (47 ∷ r) in omega arith

  badly : (grafts_badly (Graft path source other ∷ []) ≡ true) → (q : Bytes) × (c : Content) × In (q, c) (carried path source other) × (is_bad_path q ≡ true)
  badly h =
      let one = one_passes is_bad_path (grafted_paths (Graft path source other)) (ap (list_any is_bad_path) (sym (append-nil (grafted_paths (Graft path source other)))) ∙ h) in
      let from = of_map (λ (e : Entry). e.0) one.0 (carried path source other) one.1 in
      ((from.0).0, (from.0).1, from.1, ap is_bad_path (sym from.2) ∙ one.2)

  by_one : (q : Bytes) (c : Content) → In (q, c) (carried path source other) → is_bad_path q ≡ true → grafts_badly (Graft path source other ∷ []) ≡ true
  by_one q c i bad =
      ap (list_any is_bad_path) (append-nil (grafted_paths (Graft path source other)))
      ∙ passes_one is_bad_path (grafted_paths (Graft path source other)) q (in_map (λ (e : Entry). e.0) (q, c) (carried path source other) i) bad

  same_bool : (a b : Bool) → (a ≡ true → b ≡ true) → (b ≡ true → a ≡ true) → a ≡ b
  same_bool true b f g = sym (f refl)
  same_bool false true f g = g refl
  same_bool false false f g = refl

  pub badly_by_files : grafts_badly (Graft path source other ∷ []) ≡ list_any long_below (entries (source_files source other))
  badly_by_files = same_bool (grafts_badly (Graft path source other ∷ [])) (list_any long_below (entries (source_files source other))) to from
    where
      to : grafts_badly (Graft path source other ∷ []) ≡ true → list_any long_below (entries (source_files source other)) ≡ true
      to h =
          let one = badly h in
          let a = of_carried path source other one.0 one.1 one.2 in
          go one.0 one.1 one.2 (sym (bad_is_long one.0 one.1 one.2) ∙ one.3) a.rest a.is
        where
          go : (q : Bytes) (c : Content) → In (q, c) (carried path source other) → nat_lt max_path (length q) ≡ true → (rest : Bytes) → q ≡ with_rest path rest → list_any long_below (entries (source_files source other)) ≡ true
          go q c i long [] is = clash (ap (λ p. nat_lt max_path (length p)) (sym is) ∙ long) short
          go q c i long (b ∷ rest) is =
              let at = below_from path source other map_is (b ∷ rest) c (subst (λ p. In (p, c) (carried path source other)) is i) in
              passes_one long_below (entries (source_files source other)) (b ∷ rest, c) (get_in (source_files source other) (b ∷ rest) c at)
              (ap (nat_lt max_path) (sym (below_length (b ∷ rest))) ∙ ap (λ p. nat_lt max_path (length p)) (sym is) ∙ long)

      from : list_any long_below (entries (source_files source other)) ≡ true → grafts_badly (Graft path source other ∷ []) ≡ true
      from h =
          let one = one_passes long_below (entries (source_files source other)) h in
          let r = (one.0).0 in
          let i = below_to path source other map_is r (one.0).1 (in_get (source_files source other) r (one.0).1 one.1) in
          by_one (path ++ 47 ∷ r) (one.0).1 i (bad_is_long (path ++ 47 ∷ r) (one.0).1 i ∙ ap (nat_lt max_path) (below_length r) ∙ one.2)

  pub none_badly : ((q : Bytes) → get (source_files source other) q ≡ None) → grafts_badly (Graft path source other ∷ []) ≡ false
  none_badly none = badly_by_files ∙ no_entry (entries (source_files source other)) (λ q c i. none_is_some c (sym (none q) ∙ in_get (source_files source other) q c i))
    where
      no_entry : (es : List Entry) → ((q : Bytes) (c : Content) → In (q, c) es → ⊥) → list_any long_below es ≡ false
      no_entry [] f = refl
      no_entry (e ∷ es) f = absurd (f e.0 e.1 (inl refl))

-- whether a graft finds nothing
pub nothing_told : (table : Table) (kind : Kind) (path source : Bytes) (other : FileMap) (found : Option Found) → IsSource table kind source other found → grafts_nothing (Graft path source other) ≡ is_none found
nothing_told table kind path source other found is = go (source_of table kind source other found is)
  where
    no_carried : (es : List Entry) → ((q : Bytes) (c : Content) → In (q, c) es → ⊥) → is_empty es ≡ true
    no_carried [] f = refl
    no_carried (e ∷ es) f = absurd (f e.0 e.1 (inl refl))

    some_carried : (es : List Entry) (e : Entry) → In e es → is_empty es ≡ false
    some_carried [] e i = absurd i
    some_carried (x ∷ es) e i = refl

    never : source_file source other ≡ None → ((q : Bytes) → get (source_files source other) q ≡ None) → (q : Bytes) (c : Content) → In (q, c) (carried path source other) → ⊥
    never file none q c i = let a = of_carried path source other q c i in by_rest a.rest a.is
      where
        by_rest : (rest : Bytes) → q ≡ with_rest path rest → ⊥
        by_rest [] e = none_is_some c (sym file ∙ itself_from path source other is.map c (subst (λ p. In (p, c) (carried path source other)) e i))
        by_rest (b ∷ rest) e = none_is_some c (sym (none (b ∷ rest)) ∙ below_from path source other is.map (b ∷ rest) c (subst (λ p. In (p, c) (carried path source other)) e i))

    go : Source kind source other found → grafts_nothing (Graft path source other) ≡ is_none found
    go (Nothing e file none) = no_carried (carried path source other) (never file none) ∙ sym (ap is_none e)
    go (AFile k id content e same_kind same at file none) = some_carried (carried path source other) (path, content) (itself_to path source other is.map content file) ∙ sym (ap is_none e)
    go (AFolder id e same file (rest, content, at)) =
        some_carried (carried path source other) (path ++ 47 ∷ rest, content) (below_to path source other is.map rest content at) ∙ sym (ap is_none e)

pub nothing_in : (r : Repository) (changes : List PathChange) (made : List model.Edit) → AreChangesOf r changes made → list_any (λ (c : PathChange). grafts_none c.change) changes ≡ list_any grafts_nothing made
nothing_in r [] [] are = refl
nothing_in r [] (one ∷ made) are = absurd are
nothing_in r (c ∷ changes) [] are = absurd are
nothing_in r (c ∷ changes) (one ∷ made) are = λ i. by_change c.path.items c.change are.0 i || nothing_in r changes made are.1 i
  where
    told : (found : Option Found) → is_none found ≡ grafts_none (change.Graft found)
    told None = refl
    told (Some f) = refl

    by_change : (path : Bytes) (ch : Change) → Names (table_of r) r.kind path ch one → grafts_none ch ≡ grafts_nothing one
    by_change path (change.Put k id) (bytes, e, same) = sym (ap grafts_nothing e)
    by_change path change.Remove e = sym (ap grafts_nothing e)
    by_change path change.RemoveFile e = sym (ap grafts_nothing e)
    by_change path (change.Graft found) (source, other, e, is) = sym (told found) ∙ sym (nothing_told (table_of r) r.kind path source other found is) ∙ sym (ap grafts_nothing e)

-- ---- the files that are listed below a folder

-- whether one of the files would come at a path over the limit
pub long_listed : (kind : Kind) (size : ℕ) (found : List listing.File) (es : List Entry) → map line_of found ≡ map (file_line kind) es
    → list_any (λ (file : listing.File). nat_lt max_path (size + 1 + length file.path.items)) found ≡ list_any (λ (e : Entry). nat_lt max_path (size + 1 + length e.0)) es
long_listed kind size [] [] same = refl
long_listed kind size [] (e ∷ es) same = absurd (cc same)
long_listed kind size (file ∷ found) [] same = absurd (cc same)
long_listed kind size (file ∷ found) (e ∷ es) same = λ i. nat_lt max_path (size + 1 + length (ap (λ (line : FileLine). line.path) (head_same same) i)) || long_listed kind size found es (tail_same same) i

module _ (MayFail : Type 0) (table : Table) (kind : Kind) (path source : Bytes) (other : FileMap) (found : Option Found) (good : is_bad_path path ≡ false) (is : IsSource table kind source other found) where
  abbrev one : List model.Edit
  one = Graft path source other ∷ []

  -- if what is found is no folder, no path is longer than the target
  pub no_folder_passes : ((id : ObjectId) → found ≡ Some (Folder id) → ⊥) → grafts_badly one ≡ false
  no_folder_passes other_found = go (source_of table kind source other found is)
    where
      go : Source kind source other found → grafts_badly one ≡ false
      go (Nothing e file none) = none_badly path source other is.map good none
      go (AFile k id content e same_kind same at file none) = none_badly path source other is.map good none
      go (AFolder id e same file some) = absurd (other_found id e)

  pub by_listed : (files : List listing.File) → map line_of files ≡ map (file_line kind) (entries (source_files source other))
      → list_any (λ (file : listing.File). nat_lt max_path (length path + 1 + length file.path.items)) files ≡ grafts_badly one
  by_listed files same = long_listed kind (length path) files (entries (source_files source other)) same ∙ sym (badly_by_files path source other is.map good)
