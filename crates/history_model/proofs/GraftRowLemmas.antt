-- The worked grafts.
use Rattle.std.proofs.Common.{◌≡◌, Bool, true, false, cond, not, ◌||◌, List, [], ◌∷◌, refl, sym, ◌∙◌, ap, subst, inl, inr, Some, None, Option, codes, option_map}
use Rattle.std.specs.List.{filter_map}
use Rattle.std.specs.FinMap.{entries, entries-insert, empty, get, get-empty, get-entries, insert}
use Rattle.std.specs.FinMap.Entries.{put, find}
use Rattle.std.proofs.lemmas.Cmp.{nat_list_cmp_total}
use Rattle.history_model.specs.Bytes.{Bytes, by_bytes, is_empty}
use Rattle.history_model.specs.FileMap.{FileMap, Content, Graft, is_within, grafts_nothing, edited, cleared, carried, with_all, with_rest, rest_behind}
use Rattle.std.specs.Fmt.{digits}
use Rattle.history_model.specs.Commands.{GraftLine}
use Rattle.history_model.specs.Spelling.{edit_parts, parts_text}
use Rattle.history_model.specs.laws.Rows.{content, lines, lib_list, lib_files, GraftMakes}
use Rattle.history_model.proofs.RowLemmas.{entries-empty}
use Rattle.history_model.proofs.WholeItems.{entries_from}
use Rattle.history_model.proofs.WholeStores.{one_by_keys, get_in, get_retained}
use Rattle.history_model.proofs.WholeLists.{In}

put_all : List (Bytes × Content) → List (Bytes × Content) → List (Bytes × Content)
put_all [] es = es
put_all (e ∷ more) es = put_all more (put by_bytes e.0 e.1 es)

entries_with : (es : List (Bytes × Content)) (files : FileMap) → entries (with_all es files) ≡ put_all es (entries files)
unfolding put_all
entries_with [] files = refl
entries_with (e ∷ more) files = entries_with more (insert files e.0 e.1) ∙ ap (put_all more) (entries-insert nat_list_cmp_total files e.0 e.1)

none_kept : (path : Bytes) → cleared path empty ≡ empty
none_kept path = one_by_keys (cleared path empty) empty (λ q.
    get_retained empty (λ p. not (is_within path p || is_within p path)) q
    ∙ ap (λ o. cond (not (is_within path q || is_within q path)) o None) (get-empty by_bytes q)
    ∙ either_none (not (is_within path q || is_within q path))
    ∙ sym (get-empty by_bytes q))
  where
    either_none : (b : Bool) → ◌≡◌ {A = Option Content} (cond b None None) None
    either_none true = refl
    either_none false = refl

lib_entries : entries lib_files ≡ lib_list
lib_entries = entries_from lib_list refl

taken : Bytes → Bytes → List (Bytes × Content)
taken path source = filter_map (λ (e : Bytes × Content). option_map {U = Bytes × Content} (λ rest. (with_rest path rest, e.1)) (rest_behind source e.0)) lib_list

made : (path source : Bytes) → entries (edited empty (Graft path source lib_files)) ≡ put_all (taken path source) []
unfolding taken
made path source =
    entries_with (carried path source lib_files) (cleared path empty)
    ∙ ap (λ es. put_all (filter_map (λ (e : Bytes × Content). option_map {U = Bytes × Content} (λ rest. (with_rest path rest, e.1)) (rest_behind source e.0)) es) (entries (cleared path empty))) lib_entries
    ∙ ap (λ files. put_all (taken path source) (entries files)) (none_kept path)
    ∙ ap (put_all (taken path source)) (entries-empty {X = Content})

pub folder_row : GraftMakes (codes "dep") (codes "lib") ((codes "dep/x", content (codes "1")) ∷ (codes "dep/y/z", content (codes "2")) ∷ [])
unfolding put_all taken
folder_row = made (codes "dep") (codes "lib")

pub file_row : GraftMakes (codes "a") (codes "lib/x") ((codes "a", content (codes "1")) ∷ [])
unfolding put_all taken
file_row = made (codes "a") (codes "lib/x")

pub whole_row : GraftMakes (codes "a") [] ((codes "a/lib/x", content (codes "1")) ∷ (codes "a/lib/y/z", content (codes "2")) ∷ [])
unfolding put_all taken
whole_row = made (codes "a") []

pub nothing_row : grafts_nothing (Graft (codes "a") (codes "nope") lib_files) ≡ true
nothing_row = ap (λ es. is_empty (filter_map (λ (e : Bytes × Content). option_map {U = Bytes × Content} (λ rest. (with_rest (codes "a") rest, e.1)) (rest_behind (codes "nope") e.0)) es)) lib_entries

-- a folder that is grafted to its own place
lib_gone : cleared (codes "lib") lib_files ≡ empty
lib_gone = one_by_keys (cleared (codes "lib") lib_files) empty (λ q. get_retained lib_files test q ∙ gone q (get lib_files q) refl ∙ sym (get-empty by_bytes q))
  where
    test : Bytes → Bool
    test q = not (is_within (codes "lib") q || is_within q (codes "lib"))

    none_either : (b : Bool) → ◌≡◌ {A = Option Content} (cond b None None) None
    none_either true = refl
    none_either false = refl

    by_entry : (q : Bytes) (c : Content) → In (q, c) lib_list → cond (not (is_within (codes "lib") q || is_within q (codes "lib"))) (Some c) None ≡ None
    by_entry q c (inl same) = ap (λ p. cond (not (is_within (codes "lib") p || is_within p (codes "lib"))) (Some c) None) (λ i. (same i).0)
    by_entry q c (inr (inl same)) = ap (λ p. cond (not (is_within (codes "lib") p || is_within p (codes "lib"))) (Some c) None) (λ i. (same i).0)
    by_entry q c (inr (inr none)) = absurd none

    gone : (q : Bytes) (o : Option Content) → get lib_files q ≡ o → cond (not (is_within (codes "lib") q || is_within q (codes "lib"))) o None ≡ None
    gone q None e = none_either (not (is_within (codes "lib") q || is_within q (codes "lib")))
    gone q (Some c) e = by_entry q c (subst (In (q, c)) lib_entries (get_in lib_files q c e))

pub same_row : edited lib_files (Graft (codes "lib") (codes "lib") lib_files) ≡ lib_files
unfolding put_all taken
same_row = one_by_keys again lib_files (λ q. get-entries again q ∙ ap (find by_bytes q) (all ∙ sym lib_entries) ∙ sym (get-entries lib_files q))
  where
    again : FileMap
    again = with_all (carried (codes "lib") (codes "lib") lib_files) (cleared (codes "lib") lib_files)

    all : entries (with_all (carried (codes "lib") (codes "lib") lib_files) (cleared (codes "lib") lib_files)) ≡ lib_list
    all =
        entries_with (carried (codes "lib") (codes "lib") lib_files) (cleared (codes "lib") lib_files)
        ∙ ap (λ es. put_all (filter_map (λ (e : Bytes × Content). option_map {U = Bytes × Content} (λ rest. (with_rest (codes "lib") rest, e.1)) (rest_behind (codes "lib") e.0)) es) (entries (cleared (codes "lib") lib_files))) lib_entries
        ∙ ap (λ files. put_all (taken (codes "lib") (codes "lib")) (entries files)) lib_gone
        ∙ ap (put_all (taken (codes "lib") (codes "lib"))) (entries-empty {X = Content})

pub line_row : parts_text (edit_parts (GraftLine (codes "dep") (codes "main") (codes "lib"))) ≡ lines (codes "graft 3 main 3" ∷ codes "dep" ∷ codes "lib" ∷ [])
unfolding digits
line_row = refl
