-- What a stop leaves while a command stores its values.
use Rattle.std.proofs.Common.{◌≡◌, ◌⊎◌, inl, inr, Bool, true, false, not, ◌&&◌, List, [], ◌∷◌, ◌++◌, map, append_assoc, append-nil, refl, sym, ◌∙◌, ap, subst, Option, Some, None, option_map, option_and_then, is_some, unwrap_or, MatchBool}
use Rattle.std.specs.Prelude.{MatchOption, IfSome, IsTrue}
use Rattle.std.specs.List.{AllByRecursion, flat_map}
use Rattle.std.specs.FinMap.{get, entries, keys}
use Rattle.history_model.specs.Bytes.{Bytes}
use Rattle.history_model.specs.FileMap.{FileMap, Content, folders_of, inside, beginnings, Edit, Put, Remove, RemoveFile, Graft}
use Rattle.history_model.specs.Objects.{Value, StoredCommit, StoredTag, StoredBytes, StoredFolder}
use Rattle.gix_hash.specs.Id.{Id}
use Rattle.history_model.specs.Repository.{Repository, IsWhole, peeled, peeled_value, is_tag, is_tag_value}
use Rattle.history_model.specs.Commands.{Command, Commit, Rename, CommitCommand, Tag, TagCommand}
use Rattle.history_model.specs.Meaning.{edits_of, first_files, new_commit, new_tag, parents_of, put_bytes, store_all, stored_by}
use Rattle.history_model.specs.Causes.{first_cause}
use Rattle.history_model.specs.PackedNames.{PackedFile, PackedAgrees, PeelAgrees, packed_file}
use Rattle.gix_ref_format.specs.Packed.{Record}
use Rattle.history_model.specs.Places.{Pair}
use Rattle.history_model.specs.Recovery.{recovered, recovered_names}
use Rattle.history_layout.specs.TreeHalves.{HoldsNames, NamesSpeakOfMore}
use Rattle.history_model.specs.Stops.{LeftByStop, Between, IsNotLost, is_changing}
use Rattle.history_model.specs.Moments.{LeavesStopped}
use Rattle.history_model.specs.laws.Wholeness.{IsSound}
use Rattle.history_layout.specs.Passing.{HoldsSome, StoresWhole, AreNewFolders, commit_puts, CommitsStoreWhole, TagsStoreWhole, StoringStops, SomeStops, FirstAreSome}
use Rattle.history_model.specs.declared.Cause.{Cause}
use Rattle.history_model.proofs.PartLemmas.{head_same, tail_same}
use Rattle.history_layout.proofs.TreePuts.{halves_stand}
use Rattle.history_model.proofs.WholeLists.{In, in_left, in_right, in_either, in_map, of_map, of_flat, in_flat}
use Rattle.history_model.proofs.WholeRoots.{HasAll, ArePlain, of_folders, of_inside, plain_inside}
use Rattle.history_model.proofs.WholeStores.{all_keep, all_from, in_get, near_stored}
use Rattle.history_model.proofs.WholeCommands.{all_fits, edits_come, graft_stored}
use Rattle.history_model.proofs.WholeGrowth.{Coming, Fits, grown_whole}
use Rattle.history_model.proofs.WholeReads.{plain_written, parents_hold, Fine, first_fine, edits_from, new_written}
use Rattle.history_model.proofs.WholeSteps.{contains_in, in_contains, stops_keep_sound}

-- ---- beginnings of a list

-- a beginning of two lists, joined, ends in the first or in the second
begins_in : {X : Type 0} (xs ys first rest : List X) → xs ++ ys ≡ first ++ rest
    → ((more : List X) × (xs ≡ first ++ more)) ⊎ ((more : List X) × (first ≡ xs ++ more) × (ys ≡ more ++ rest))
begins_in xs ys [] rest e = inl (xs, refl)
begins_in [] ys (x ∷ first) rest e = inr (x ∷ first, refl, e)
begins_in (y ∷ xs) ys (x ∷ first) rest e = elim (begins_in xs ys first rest (tail_same e)) [
  | inl more ↦ inl (more.0, λ i. head_same e i ∷ more.1 i)
  | inr more ↦ inr (more.0, (λ i. sym (head_same e) i ∷ more.1 i), more.2)
]

-- a beginning of what a list is mapped to
begins_mapped : {X Y : Type 0} (f : X → Y) (xs : List X) (first rest : List Y) → map f xs ≡ first ++ rest → (front back : List X) × (xs ≡ front ++ back) × (first ≡ map f front)
begins_mapped f xs [] rest e = ([], xs, refl, refl)
begins_mapped f [] (y ∷ first) rest e = cc
begins_mapped f (x ∷ xs) (y ∷ first) rest e =
    let more = begins_mapped f xs first rest (tail_same e) in
    (x ∷ more.0, more.1, ap (λ ys. x ∷ ys) more.2, λ i. sym (head_same e) i ∷ more.3 i)

-- an element of a list, with those before and those after it
stands_between : {X : Type 0} (x : X) (xs : List X) → In x xs → (before after : List X) × (xs ≡ before ++ x ∷ after)
stands_between x [] i = absurd i
stands_between x (y ∷ xs) (inl e) = ([], xs, ap (λ z. z ∷ xs) (sym e))
stands_between x (y ∷ xs) (inr i) = let rest = stands_between x xs i in (y ∷ rest.0, rest.1, ap (λ zs. y ∷ zs) rest.2)

-- ---- a commit

module _ (r : Repository) (c : CommitCommand) (folders : List FileMap) (sound : IsSound r) (none : first_cause r (Commit c) ≡ None) (new : AreNewFolders r (new_commit r c).files folders) where
  abbrev files : FileMap
  files = (new_commit r c).files

  abbrev blobs : List Value
  blobs = flat_map put_bytes (edits_of r c)

  old_fine : Fine r (first_files r (parents_of r c))
  old_fine = first_fine r (sound.whole).store sound.written (parents_of r c) (λ id i. parents_hold r (sound.whole).store c id i)

  put_fits : (vs : List Value) (v : Value) (e : Edit) → In v (put_bytes e) → Fits r vs v
  put_fits vs v (Put kind path bytes) (inl e) = subst (Fits r vs) (sym e) tt
  put_fits vs v (Put kind path bytes) (inr i) = absurd i
  put_fits vs v (Remove path) i = absurd i
  put_fits vs v (RemoveFile path) i = absurd i
  put_fits vs v (Graft path source from) i = absurd i

  blob_fits : (vs : List Value) (v : Value) → In v blobs → Fits r vs v
  blob_fits vs v i = let from = of_flat put_bytes v (edits_of r c) i in put_fits vs v from.0 from.2

  -- what comes with the bytes of all puts
  module _ (vs : List Value) (puts : (v : Value) → In v blobs → In v vs) where
    bytes_come : (path : Bytes) (content : Content) → In (path, content) (entries files) → Coming r vs (StoredBytes content.bytes)
    bytes_come path content i = elim (edits_from (first_files r (parents_of r c)) (edits_of r c) path content (in_get files path content i)) [
      | inl a ↦ inr (near_stored r.kind r.objects (StoredBytes content.bytes) (old_fine.0 path content a))
      | inr (e, j, inl b) ↦ inl (puts (StoredBytes content.bytes) (in_flat put_bytes (StoredBytes content.bytes) e (edits_of r c) j b.1))
      | inr (e, j, inr b) ↦ inr (near_stored r.kind r.objects (StoredBytes content.bytes) (graft_stored r (sound.whole).store sound.written c none e j path content b))
    ]

    -- a folder whose files' bytes come, in its form
    HasFiles : Value → Type 0
    HasFiles (StoredFolder m) = ((path : Bytes) (content : Content) → In (path, content) (entries m) → Coming r vs (StoredBytes content.bytes)) × ArePlain (entries m)
    HasFiles (StoredCommit d) = Unit {0}
    HasFiles (StoredTag t) = Unit {0}
    HasFiles (StoredBytes b) = Unit {0}

    plain : ArePlain (entries files)
    plain = plain_written files (new_written r c none old_fine.1 (edits_come r (sound.whole).store sound.written c none))

    all_have : HasAll HasFiles files
    unfolding HasFiles
    all_have = record {
      itself = (bytes_come, plain);
      folders = λ path content folder i j. ((λ q d k. bytes_come (folder ++ 47 ∷ q) d (of_inside folder files q d k)), plain_inside folder files plain);
      bytes = λ path content i. tt;
    }

    folder_has : (m : FileMap) → In m (folders_of files) → HasFiles (StoredFolder m)
    folder_has m i = of_folders HasFiles files all_have (StoredFolder m) (in_map StoredFolder m (folders_of files) i)

    -- a folder of the files, each folder of which comes
    folder_fits : (m : FileMap) → In m (folders_of files) → ((inner : FileMap) → In inner (folders_of m) → Coming r vs (StoredFolder inner)) → Fits r vs (StoredFolder m)
    unfolding HasFiles
    folder_fits m i inners = (
      record {
        itself = inners m (inl refl);
        folders = λ path content folder k j. inners (inside folder m) (inr (in_map (λ folder. inside folder m) folder (flat_map beginnings (keys m))
            (in_flat beginnings folder path (keys m) (in_map (λ (e : Bytes × Content). e.0) (path, content) (entries m) k) j)));
        bytes = (folder_has m i).0;
      },
      (folder_has m i).1,
    )

    commit_fits : ((m : FileMap) → In m folders → In (StoredFolder m) vs) → Fits r vs (StoredCommit (new_commit r c))
    commit_fits all = let fits = folder_fits files (inl refl) inner_comes in (parents_hold r (sound.whole).store c, fits.0, fits.1)
      where
        inner_comes : (inner : FileMap) → In inner (folders_of files) → Coming r vs (StoredFolder inner)
        inner_comes inner i = elim (new.all inner (in_contains (folders_of files) inner i)) [
          | inl a ↦ inl (all inner (contains_in folders inner a))
          | inr b ↦ inr b
        ]

    -- the first of the folders
    first_fits : (front back : List FileMap) → folders ≡ front ++ back → ((m : FileMap) → In m front → In (StoredFolder m) vs) → (m : FileMap) → In m front → Fits r vs (StoredFolder m)
    first_fits front back split all m i =
        let here = stands_between m front i in
        let between : folders ≡ here.0 ++ m ∷ (here.1 ++ back) = split ∙ ap (λ ms. ms ++ back) here.2 ∙ append_assoc here.0 (m ∷ here.1) back in
        let of_files : In m (folders_of files) = contains_in (folders_of files) m (new.among m (in_contains folders m (subst (In m) (sym split) (in_left m front back i)))) in
        folder_fits m of_files (λ inner j. elim (new.in_order here.0 (here.1 ++ back) m inner between (in_contains (folders_of m) inner j)) [
          | inl a ↦ inl (all inner (subst (In inner) (sym here.2) (before_here inner here.0 m here.1 (contains_in (here.0 ++ m ∷ []) inner a))))
          | inr b ↦ inr b
        ])
      where
        before_here : (inner : FileMap) (before : List FileMap) (m : FileMap) (after : List FileMap) → In inner (before ++ m ∷ []) → In inner (before ++ m ∷ after)
        before_here inner before m after i = elim (in_either inner before (m ∷ []) i) [
          | inl a ↦ in_left inner before (m ∷ after) a
          | inr (inl e) ↦ in_right inner before (m ∷ after) (inl e)
          | inr (inr e) ↦ absurd e
        ]

  abbrev last : Value
  last = StoredCommit (new_commit r c)

  -- each beginning: some of the bytes; all, and some of the folders; all of these, and the commit
  fits : (first rest : List Value) → commit_puts r c folders ≡ first ++ rest → (v : Value) → In v first → Fits r first v
  fits first rest split v i = elim (begins_in blobs (map StoredFolder folders ++ last ∷ []) first rest (sym (append_assoc blobs (map StoredFolder folders) (last ∷ [])) ∙ split)) [
    | inl more ↦ blob_fits first v (subst (In v) (sym more.1) (in_left v first more.0 i))
    | inr more ↦ elim (begins_in (map StoredFolder folders) (last ∷ []) more.0 rest more.2) [
      | inl some ↦
          let mapped = begins_mapped StoredFolder folders more.0 some.0 some.1 in
          folders_fit mapped.0 mapped.1 [] mapped.2 (more.1 ∙ ap (λ vs. blobs ++ vs) (mapped.3 ∙ sym (append-nil (map StoredFolder mapped.0)))) (λ w j. absurd j)
      | inr all ↦
          let whole : first ≡ blobs ++ (map StoredFolder folders ++ all.0) = more.1 ∙ ap (λ vs. blobs ++ vs) all.1 in
          folders_fit folders [] all.0 (sym (append-nil folders)) whole
          (λ w j. subst (Fits r first) (sym (sole w all.0 rest all.2 j)) (commit_fits first (puts_in folders all.0 whole) (λ m k. folder_in folders all.0 whole m k)))
    ]
  ]
    where
      sole : (w : Value) (ends rest : List Value) → last ∷ [] ≡ ends ++ rest → In w ends → w ≡ last
      sole w [] rest e j = absurd j
      sole w (x ∷ []) rest e (inl f) = f ∙ sym (head_same e)
      sole w (x ∷ []) rest e (inr f) = absurd f
      sole w (x ∷ y ∷ ends) rest e j = absurd (cc (tail_same e))

      puts_in : (front : List FileMap) (ends : List Value) → first ≡ blobs ++ (map StoredFolder front ++ ends) → (w : Value) → In w blobs → In w first
      puts_in front ends whole w j = subst (In w) (sym whole) (in_left w blobs (map StoredFolder front ++ ends) j)

      folder_in : (front : List FileMap) (ends : List Value) → first ≡ blobs ++ (map StoredFolder front ++ ends) → (m : FileMap) → In m front → In (StoredFolder m) first
      folder_in front ends whole m j = subst (In (StoredFolder m)) (sym whole)
          (in_right (StoredFolder m) blobs (map StoredFolder front ++ ends) (in_left (StoredFolder m) (map StoredFolder front) ends (in_map StoredFolder m front j)))

      folders_fit : (front back : List FileMap) (ends : List Value) → folders ≡ front ++ back → first ≡ blobs ++ (map StoredFolder front ++ ends) → ((w : Value) → In w ends → Fits r first w) → Fits r first v
      folders_fit front back ends is whole others = elim (in_either v blobs (map StoredFolder front ++ ends) (subst (In v) whole i)) [
        | inl a ↦ blob_fits first v a
        | inr b ↦ elim (in_either v (map StoredFolder front) ends b) [
          | inl d ↦
              let from = of_map StoredFolder v front d in
              subst (Fits r first) (sym from.2) (first_fits first (puts_in front ends whole) front back is (λ m k. folder_in front ends whole m k) from.0 from.1)
          | inr e ↦ others v e
        ]
      ]

  whole_so_far : StoresWhole r (commit_puts r c folders)
  whole_so_far first rest split free =
      grown_whole r (sound.whole).store (λ q m at. plain_written m (((sound.written).values q (StoredFolder m) at).0)) first free (fits first rest split) r.names r.branch

pub commits_store_whole : CommitsStoreWhole
commits_store_whole r c folders sound none new = whole_so_far r c folders sound none new

-- ---- a tag

module _ (r : Repository) (c : TagCommand) (sound : IsSound r) (none : first_cause r (Tag c) ≡ None) where
  tag_fits : (vs : List Value) (v : Value) → In v (stored_by r (Tag c)) → Fits r vs v
  tag_fits vs v (inl e) = subst (Fits r vs) (sym e) (all_fits r (sound.whole).store sound.written (Tag c) none (StoredTag (new_tag r c)) (inl refl))
  tag_fits vs v (inr i) = absurd i

  tag_whole : StoresWhole r (stored_by r (Tag c))
  tag_whole first rest split free =
      grown_whole r (sound.whole).store (λ q m at. plain_written m (((sound.written).values q (StoredFolder m) at).0)) first free
      (λ v i. tag_fits first v (subst (In v) (sym split) (in_left v first rest i))) r.names r.branch

pub tags_store_whole : TagsStoreWhole
tags_store_whole r c sound none = tag_whole r c sound none

-- ---- more values

module _ (old : Repository) (x : Repository) (keep : (id : Id) (v : Value) → get old.objects id ≡ Some v → get x.objects id ≡ Some v) where
  pub peeled_more : (id t : Id) → peeled old id ≡ Some t → peeled x id ≡ Some t
  peeled_more id t h = go (get old.objects id) refl h
    where
      go : (o : Option Value) → get old.objects id ≡ o → option_and_then (peeled_value id) o ≡ Some t → peeled x id ≡ Some t
      go None e k = cc
      go (Some v) e k = ap (option_and_then (peeled_value id)) (keep id v e) ∙ k

  pub held_more : (id : Id) → is_some (peeled old id) ≡ true → is_some (peeled x id) ≡ true
  held_more id h = go (peeled old id) refl h
    where
      go : (o : Option Id) → peeled old id ≡ o → is_some o ≡ true → is_some (peeled x id) ≡ true
      go None e k = cc
      go (Some t) e k = ap is_some (peeled_more id t e)

  tag_more : (id : Id) → is_tag old id ≡ true → is_tag x id ≡ true
  tag_more id h = go (get old.objects id) refl h
    where
      go : (o : Option Value) → get old.objects id ≡ o → unwrap_or (option_map is_tag_value o) false ≡ true → is_tag x id ≡ true
      go None e k = cc
      go (Some v) e k = ap (λ o. unwrap_or (option_map is_tag_value o) false) (keep id v e) ∙ k

  peel_more : (entry : Record) → PeelAgrees old entry → PeelAgrees x entry
  peel_more entry h = go entry.peeled h
    where
      go : (o : Option Id) → IfSome o (λ commit. IsTrue (is_tag old entry.target) × (peeled old entry.target ≡ Some commit)) → IfSome o (λ commit. IsTrue (is_tag x entry.target) × (peeled x entry.target ≡ Some commit))
      go None k = tt
      go (Some commit) k = (tag_more entry.target k.0, peeled_more entry.target commit k.1)

  peels_more : (entries : List Record) → AllByRecursion (PeelAgrees old) entries → AllByRecursion (PeelAgrees x) entries
  peels_more [] h = tt
  peels_more (entry ∷ entries) h = (peel_more entry h.0, peels_more entries h.1)

  pub packed_more : (found : Option PackedFile) → MatchOption found ⊥ (PackedAgrees old) → MatchOption found ⊥ (PackedAgrees x)
  packed_more None h = h
  packed_more (Some packed) h = (h.0, peels_more packed.records h.1)

pub names_speak_of_more : NamesSpeakOfMore
names_speak_of_more tree r values keep h = record {
  head = h.head;
  names = h.names;
  logs = h.logs;
  packed = λ text at. packed_more r (record r { objects = values }) keep (packed_file r.kind text) (h.packed text at);
  places = h.places;
  folders = h.folders;
}

-- ---- a stop

module _ (old : Repository) (command : Command) (pair : Pair) (sound : IsSound old) (changing : is_changing command ≡ true) (none : first_cause old command ≡ None)
    (held : HoldsSome old (stored_by old command) pair.objects) (names : HoldsNames (recovered_names old.kind pair.names) old) where
  abbrev x : Repository
  x = record old { objects = store_all old.kind old.objects held.some }

  keep : (id : Id) (v : Value) → get old.objects id ≡ Some v → get x.objects id ≡ Some v
  keep id v at = all_keep old.kind old.objects held.some id v at

  nothing_lost : (command : Command) → IsNotLost old command x
  nothing_lost (Rename from to) = inl refl
  nothing_lost command = tt

  between : Between old command x
  between = record {
    kind = refl;
    stored = record {
      keeps = keep;
      no_more = λ id v at. elim (all_from old.kind old.objects held.some id v at) [
        | inl a ↦ inl a
        | inr b ↦ inr (held.among v (in_contains held.some v b.0))
      ];
    };
    names = λ name. record { id = inl refl; moves = inl refl; log_follows_name = inl refl };
    branch = inl refl;
    not_lost = nothing_lost command;
  }

  whole_x : IsWhole x
  whole_x = record {
    store = held.whole;
    names = record {
      held = λ name id at. held_more old x keep id (((sound.whole).names).held name id at);
      apart = ((sound.whole).names).apart;
    };
  }

  matched : (b : Bool) (o : Option Cause) → b ≡ true → o ≡ None → MatchBool (b && not (is_some o)) (Between old command x) (x ≡ old)
  matched true None e f = between
  matched true (Some cause) e f = cc
  matched false o e f = cc

  left : LeftByStop old command x
  left = (whole_x, matched (is_changing command) (first_cause old command) changing none)

  holds_names : HoldsNames (recovered_names old.kind pair.names) x
  holds_names = record {
    head = names.head;
    names = names.names;
    logs = names.logs;
    packed = λ text at. packed_more old x keep (packed_file old.kind text) (names.packed text at);
    places = names.places;
    folders = names.folders;
  }

  stopped : LeavesStopped old command pair
  stopped = (
    x,
    left,
    record {
      stands = (halves_stand old.kind (recovered old.kind pair) x).1 (refl, held.holds, holds_names);
      written = (stops_keep_sound old x command left sound).written;
      whole = whole_x;
    },
  )

pub some_stops : SomeStops
some_stops old command pair sound changing none held names = stopped old command pair sound changing none held names

pub first_are_some : FirstAreSome
first_are_some r more tree whole h = record {
  some = h.first;
  among = λ value i. in_contains more value (subst (In value) (sym h.split) (in_left value h.first h.rest (contains_in h.first value i)));
  whole = whole h.first h.rest h.split h.free;
  holds = h.holds;
}

pub storing_stops : StoringStops
storing_stops old command pair sound changing none whole held names = some_stops old command pair sound changing none (first_are_some old (stored_by old command) pair.objects whole held) names
