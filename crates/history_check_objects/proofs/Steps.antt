-- The steps of a survey.
use Rattle.std.proofs.Common.{◌≡◌, ◌≢◌, ℕ, zero, suc, ◌+◌, ◌<◌, ◌≤◌, Bool, true, false, cond, List, [], ◌∷◌, ◌++◌, map, length, take, get_or, refl, sym, ◌∙◌, ap, subst, arith, inl, inr, Option, Some, None, is_some, option_map, MatchOption, length-append, Vec}
use Rattle.std.specs.Prelude.{Contains, IsTrue, option_and_then}
use Rattle.std.specs.Ordering.{is_eq}
use Rattle.std.specs.declared.alloc.Global.{Global}
use Rattle.std.specs.BTreeMap as maps
use Rattle.std.specs.BTreeMap.{BTreeMap}
use Rattle.std.specs.BTreeSet as sets
use Rattle.std.specs.FinMap.{get, insert}
use Rattle.gix_hash.specs.Id.{Id, id_of}
use Rattle.gix_hash.specs.Order.{id_cmp, id_eq}
use Rattle.gix_hash.specs.OrderLaws.{id_tied}
use Rattle.gix_hash.specs.declared.kind.Kind.{Kind}
use Rattle.gix_hash.specs.declared.object_id.ObjectId.{ObjectId}
use Rattle.gix_object_tree.specs.Entry.{Item}
use Rattle.gix_object_lines.specs.declared.kind.Kind.{Kind as ObjectKind}
use Rattle.gix_object_lines.specs.declared.kind.Kind.TheVariants as kinds
use Rattle.gix_ref_file.specs.Tree.{Tree}
use Rattle.history_model.specs.Bytes.{Bytes}
use Rattle.history_model.specs.FileMap.{is_path}
use Rattle.history_model.specs.Forms.{is_id, max_path}
use Rattle.history_model.specs.Objects.{Value, StoredCommit, StoredTag, StoredBytes, StoredFolder, content_of, object_text}
use Rattle.history_model.specs.Places.{file_at, object_place}
use Rattle.history_model.specs.Repository.{Values}
use Rattle.history_model.proofs.IdLemmas.{get_with_id, id_itself, one_id}
use Rattle.history_model.proofs.PlaceLemmas.{values_have_ids}
use Rattle.history_model.proofs.WholeLists.{In, clash, in_map, none_is_some, of_map}
use Rattle.history_model.proofs.WholeSteps.{in_contains}
use Rattle.history_layout.specs.TreeReads.{HasObject}
use Rattle.history_texts.specs.Written.{NamesObjects, Naming, named_by_item}
use Rattle.history_check_objects.specs.Flaws.{HasEntry, HasMissing, HasPath, HasWrongKind, Names, deeper, entry, names, by_way_of}
use Rattle.history_check_objects.specs.Flaws.{Leads as Reaching}
use Rattle.history_check_objects.specs.Links.{AreReady, IsReady, IsWithin, Link, LinksObjects, PathsWithin, link_by_item, plain_link, reach_of}
use Rattle.history_check_objects.specs.Nexts.{IsObject, IsStoredNext, target_linked}
use Rattle.history_check_objects.specs.Opened.{AreInTree}
use Rattle.history_check_objects.specs.Stored.{target_of}
use Rattle.history_check_objects.specs.Surveying.{AreOpen, IsAmong, IsApart, IsDone, IsDue, IsOpen, IsSomewhere, Leads, Reaches, Stands, Unmet, by_id, link_of, links_of}
use Rattle.history_check_objects.specs.declared.stored.Done.{Done}
use Rattle.history_check_objects.specs.declared.stored.Stored.{Stored}
use Rattle.history_check_objects.specs.declared.order.Frame.{Frame}
use Rattle.history_check_objects.specs.declared.reading.Link as own
use Rattle.history_check_objects.proofs.Nexts.{nexts_are_stored}
use Rattle.history_check_objects.proofs.Placed.{named_of_kind, place_tells}
use Rattle.std.proofs.lemmas.Option.{same_Some}

-- ---- ids that are keys

-- equal ids are one key
same_key : (a b : ObjectId) → is_eq (by_id a b) ≡ true → id_of a ≡ id_of b
same_key a b e = one_id (id_of a) (id_of b) (id_tied (id_of a) (id_of b) ∙ e)

itself : (x : ObjectId) → is_eq (by_id x x) ≡ true
itself x = sym (id_tied (id_of x) (id_of x)) ∙ id_itself (id_of x)

pub has_same : (unmet : Unmet) (a b : ObjectId) → id_of a ≡ id_of b → sets.contains by_id unmet a ≡ sets.contains by_id unmet b
has_same unmet a b e = ap (λ (q : Id). sets.contains_by (λ (k : ObjectId). id_cmp q (id_of k)) unmet) e

pub done_same : (done : Stored) (a b : ObjectId) → id_of a ≡ id_of b → maps.get by_id done.done a ≡ maps.get by_id done.done b
done_same done a b e = ap (λ (q : Id). maps.get_by (λ (k : ObjectId). id_cmp q (id_of k)) done.done) e

-- ---- links

module _ (kind : Kind) (tree : Tree) (id : Id) (object : ObjectKind) (content : Bytes) (links : List Link) (formed : is_id kind id ≡ true) (is : IsObject kind tree id object content links) where
  stands : HasObject kind tree id object content
  stands = record { formed = formed; stands = is.stands }

  named_by : (k : ObjectKind) → k ≡ object → (named : List Naming) → NamesObjects kind k content named → links ≡ map plain_link named → (link : Link) → In link links → Names kind tree id link.id link.kind
  named_by k e named by are link i =
      let from = of_map plain_link link named (subst (In link) are i) in
      record {
        object = object;
        content = content;
        stands = stands;
        named = named;
        names = subst (λ o. NamesObjects kind o content named) e by;
        among = subst (λ (l : Link). Contains named (l.id, l.kind)) (sym from.2) (in_contains named from.0 from.1);
      }

  pub names_link : (link : Link) → In link links → Names kind tree id link.id link.kind
  names_link link i = go object refl (is.linked)
    where
      go : (k : ObjectKind) → k ≡ object → LinksObjects kind k content links → Names kind tree id link.id link.kind
      go kinds.Blob e l = named_by kinds.Blob e l.0 l.1 l.2 link i
      go kinds.Commit e l = named_by kinds.Commit e l.0 l.1 l.2 link i
      go kinds.Tag e l = named_by kinds.Tag e l.0 l.1 l.2 link i
      go kinds.Tree e l =
          let from = of_map link_by_item link l.0 (subst (In link) l.2 i) in
          record {
            object = object;
            content = content;
            stands = stands;
            named = map named_by_item l.0;
            names = subst (λ o. NamesObjects kind o content (map named_by_item l.0)) e (record { items = l.0; written = l.1; named_are = refl });
            among = subst (λ (l' : Link). Contains (map named_by_item l.0) (l'.id, l'.kind)) (sym from.2) (in_contains (map named_by_item l.0) (named_by_item from.0) (in_map named_by_item from.0 l.0 from.1));
          }

  -- the entry that a tree's link is of
  pub link_entry : object ≡ kinds.Tree → (link : Link) → In link links → (item : Item) × HasEntry kind tree id item × (link ≡ link_by_item item)
  link_entry e link i = go (subst (λ o. LinksObjects kind o content links) e is.linked)
    where
      go : LinksObjects kind kinds.Tree content links → (item : Item) × HasEntry kind tree id item × (link ≡ link_by_item item)
      go l =
          let from = of_map link_by_item link l.0 (subst (In link) l.2 i) in
          (from.0, record { content = content; stands = subst (λ o. HasObject kind tree id o content) e stands; items = l.0; spelled = (l.1).0; among = in_contains l.0 from.0 from.1 }, from.2)

-- ---- what goes on holding

within_more : (n m name : ℕ) (v : Value) → n ≤ m → IsWithin n name v → IsWithin m name v
within_more n m name (StoredFolder files) less h = λ path there. (let short = h path there in omega arith)
within_more n m name (StoredCommit c) less h = omega arith
within_more n m name (StoredTag t) less h = omega arith
within_more n m name (StoredBytes b) less h = omega arith

ready_more : (values : Values) (by : ObjectKind) (n m : ℕ) (links : List Link) → n ≤ m → AreReady values by n links → AreReady values by m links
ready_more values by n m [] less h = tt
ready_more values by n m (link ∷ links) less h = (
  record { value = (h.0).value; stored = (h.0).stored; of_kind = (h.0).of_kind; within = λ e. within_more n m link.name (h.0).value less ((h.0).within e) },
  ready_more values by n m links less h.1,
)

ready_last : (values : Values) (by : ObjectKind) (n : ℕ) (links : List Link) (link : Link) → AreReady values by n links → IsReady values by n link → AreReady values by n (links ++ link ∷ [])
ready_last values by n [] link h last = (last, tt)
ready_last values by n (l ∷ links) link h last = (h.0, ready_last values by n links link h.1 last)

pub take_more : {X : Type 0} (xs : List X) (n : ℕ) (d : X) → n < length xs → take (n + 1) xs ≡ take n xs ++ get_or xs n d ∷ []
take_more {X} xs n d less = ap (λ k. take k xs) (one n) ∙ next xs n d less
  where
    one : (n : ℕ) → n + 1 ≡ suc n
    one n = omega arith

    next : (ys : List X) (n : ℕ) (d : X) → n < length ys → take (suc n) ys ≡ take n ys ++ get_or ys n d ∷ []
    next [] n d less = absurd (omega arith)
    next (y ∷ ys) zero d less = refl
    next (y ∷ ys) (suc n) d less = ap (λ zs. y ∷ zs) (next ys n d (omega arith))

pub take_whole : {X : Type 0} (xs : List X) (n : ℕ) → length xs ≤ n → take n xs ≡ xs
take_whole [] zero less = refl
take_whole [] (suc n) less = refl
take_whole (x ∷ xs) zero less = absurd (omega arith)
take_whole (x ∷ xs) (suc n) less = ap (λ ys. x ∷ ys) (take_whole xs n (omega arith))

pub in_at : {X : Type 0} (xs : List X) (n : ℕ) (d : X) → n < length xs → In (get_or xs n d) xs
in_at [] n d less = absurd (omega arith)
in_at (x ∷ xs) zero d less = inl refl
in_at (x ∷ xs) (suc n) d less = inr (in_at xs n d (omega arith))

-- ---- one link more

-- what holds of an object holds of it as it goes on
same_parts : (P : ObjectId → ObjectKind → Vec own.Link Global → Type 0) (frame new : Frame) → new.id ≡ frame.id → new.kind ≡ frame.kind → new.links ≡ frame.links → P frame.id frame.kind frame.links → P new.id new.kind new.links
same_parts P frame new a b c p = subst (λ x. P x new.kind new.links) (sym a) (subst (λ k. P frame.id k new.links) (sym b) (subst (λ l. P frame.id frame.kind l) (sym c) p))

module _ (kind : Kind) (tree : Tree) (values : Values) (in_tree : AreInTree kind tree values) where
  none_within : (id : Id) (v : Value) → get values id ≡ Some v → PathsWithin 0 v → (n name : ℕ) → name ≤ n → IsWithin n name v
  none_within id (StoredFolder files) at short n name less = λ path there. absurd (no_path path (short path there) ((((in_tree.sound).written id (StoredFolder files) at).0).map.paths path there))
    where
      no_path : (path : Bytes) → length path ≤ 0 → is_path path ≡ true → ⊥
      no_path [] less h = cc
      no_path (b ∷ path) less h = absurd (omega arith)
  none_within id (StoredCommit c) at short n name less = less
  none_within id (StoredTag t) at short n name less = less
  none_within id (StoredBytes b) at short n name less = less

  reach_within : (id : Id) (v : Value) → get values id ≡ Some v → (longest name n : ℕ) → PathsWithin longest v → reach_of name longest ≤ n → IsWithin n name v
  reach_within id v at zero name n short less = none_within id v at short n name less
  reach_within id (StoredFolder files) at (suc longest) name n short less = λ path there. (let s = short path there in omega arith)
  reach_within id (StoredCommit c) at (suc longest) name n short less = omega arith
  reach_within id (StoredTag t) at (suc longest) name n short less = omega arith
  reach_within id (StoredBytes b) at (suc longest) name n short less = omega arith

  module _ (frame : Frame) (is : IsOpen kind tree values frame) (link : own.Link) (at : link_of link ≡ get_or (links_of frame.links.items) frame.next (link_of link)) (less : frame.next < length (links_of frame.links.items))
      (done : Done) (noted : IsDone kind tree values (id_of link.id) done) where
    among : In (link_of link) (links_of frame.links.items)
    among = subst (λ l. In l (links_of frame.links.items)) (sym at) (in_at (links_of frame.links.items) frame.next (link_of link) less)

    pub named_here : Names kind tree (id_of frame.id) (id_of link.id) link.kind
    named_here = names_link kind tree (id_of frame.id) frame.kind is.content (links_of frame.links.items) is.formed is.object (link_of link) among

    pub wrong_kind : done.kind ≢ link.kind → HasWrongKind kind tree (id_of link.id) (id_of frame.id)
    wrong_kind other = (
      link.kind,
      done.kind,
      content_of kind noted.value,
      named_here,
      record {
        formed = values_have_ids kind values (in_tree.sound).whole.own_ids (id_of link.id) noted.value noted.stored;
        stands = in_tree.texts (id_of link.id) noted.value noted.stored ∙ ap (λ k. Some (object_text k (content_of kind noted.value))) noted.of_kind;
      },
      other,
    )

    -- a path of that length
    pub path_there : frame.kind ≡ kinds.Tree → (path : Bytes) × HasPath kind tree (id_of frame.id) path × (length path ≡ reach_of link.name done.longest)
    path_there e =
        let from = link_entry kind tree (id_of frame.id) frame.kind is.content (links_of frame.links.items) is.formed is.object e (link_of link) among in
        go from.0 from.1 (ap (λ (l : Link). l.id) from.2) (ap (λ (l : Link). l.name) from.2) done.longest noted.reaches
      where
        go : (item : Item) → HasEntry kind tree (id_of frame.id) item → id_of link.id ≡ item.id → link.name ≡ length item.name → (longest : ℕ) → Reaches kind tree (id_of link.id) longest
            → (path : Bytes) × HasPath kind tree (id_of frame.id) path × (length path ≡ reach_of link.name longest)
        go item has same name zero reaches = (item.name, entry item has, sym name)
        go item has same name (suc longest) (inl none) = absurd (omega arith)
        go item has same name (suc longest) (inr (rest, way, long)) =
            (item.name ++ 47 ∷ rest, deeper item rest has (subst (λ q. HasPath kind tree q rest) same way), (let len = length-append item.name (47 ∷ rest) in omega arith))

    ready_link : (n : ℕ) → done.kind ≡ link.kind → (frame.kind ≡ kinds.Tree → reach_of link.name done.longest ≤ n) → IsReady values frame.kind n (link_of link)
    ready_link n same short = record {
      value = noted.value;
      stored = noted.stored;
      of_kind = noted.of_kind ∙ same;
      within = λ e. reach_within (id_of link.id) noted.value noted.stored done.longest link.name n noted.within (short e);
    }

    -- the link is passed
    pub passed : (new : Frame) → new.id ≡ frame.id → new.kind ≡ frame.kind → new.links ≡ frame.links → new.next ≡ frame.next + 1 → done.kind ≡ link.kind → frame.longest ≤ new.longest
        → (frame.kind ≡ kinds.Tree → reach_of link.name done.longest ≤ new.longest) → new.longest ≤ max_path → Reaches kind tree (id_of frame.id) new.longest → IsOpen kind tree values new
    passed new same_id same_kind same_links next same longer short most reaches = record {
      content = is.content;
      object = same_parts (λ x k l. IsObject kind tree (id_of x) k is.content (links_of l.items)) frame new same_id same_kind same_links is.object;
      formed = ap (λ (x : ObjectId). is_id kind (id_of x)) same_id ∙ is.formed;
      absent = ap (λ (x : ObjectId). get values (id_of x)) same_id ∙ is.absent;
      ready = subst (λ n. AreReady values new.kind new.longest (take n (links_of new.links.items))) (sym next)
          (same_parts (λ x k l. AreReady values k new.longest (take (frame.next + 1) (links_of l.items))) frame new same_id same_kind same_links ready);
      reaches = subst (λ (x : ObjectId). Reaches kind tree (id_of x) new.longest) (sym same_id) reaches;
      most = most;
    }
      where
        ready : AreReady values frame.kind new.longest (take (frame.next + 1) (links_of frame.links.items))
        ready = subst (AreReady values frame.kind new.longest) (sym (take_more (links_of frame.links.items) frame.next (link_of link) less))
            (ready_last values frame.kind new.longest (take frame.next (links_of frame.links.items)) (get_or (links_of frame.links.items) frame.next (link_of link))
            (ready_more values frame.kind frame.longest new.longest (take frame.next (links_of frame.links.items)) longer is.ready)
            (subst (IsReady values frame.kind new.longest) at (ready_link new.longest same short)))

-- ---- the survey

module _ (kind : Kind) (tree : Tree) (ids : List ObjectId) (unmet : Unmet) (done : Stored) where
  -- an open object goes on
  pub goes_on : (frame new : Frame) (frames : List Frame) (due : Option ObjectId) (s : Stands kind tree ids unmet done (frame ∷ frames) due) → new.id ≡ frame.id → IsOpen kind tree s.values new
      → Stands kind tree ids unmet done (new ∷ frames) due
  goes_on frame new frames due s same is = record {
    values = s.values;
    in_tree = s.in_tree;
    listed = s.listed;
    known = s.known;
    dones = s.dones;
    tags = s.tags;
    read = λ id among. elim among [ inl e ↦ s.read id (inl (ap id_of (sym same) ∙ e)) | inr a ↦ s.read id (inr a) ];
    open_ones = (is, subst (λ (x : ObjectId). IsApart (id_of x) frames) (sym same) (s.open_ones).1, subst (λ (x : ObjectId). Leads kind tree (id_of x) frames) (sym same) (s.open_ones).2, (s.open_ones).3);
    to_come = λ id h. let c = s.to_come id h in (c.0, c.1, (λ e. (c.2).0 (ap id_of (sym same) ∙ e), (c.2).1));
    each = λ id h. elim (s.each id h) [
      | inl a ↦ inl a
      | inr (inl a) ↦ inr (inl a)
      | inr (inr (inl (inl e))) ↦ inr (inr (inl (inl (ap id_of same ∙ e))))
      | inr (inr (inl (inr a))) ↦ inr (inr (inl (inr a)))
      | inr (inr (inr a)) ↦ inr (inr (inr a))
    ];
    next = λ id e. let d = s.next id e in record {
      listed = d.listed;
      absent = d.absent;
      met = d.met;
      apart = (λ f. (d.apart).0 (ap id_of (sym same) ∙ f), (d.apart).1);
      leads = let l = d.leads in (l.0, subst (λ (x : ObjectId). Names kind tree (id_of x) (id_of id) l.0) (sym same) l.1);
    };
  }

  -- the next one is taken from those that are to come
  pub taken : (frames : List Frame) → Stands kind tree ids unmet done frames None → (id : ObjectId) → IsTrue (sets.contains by_id unmet id) → Leads kind tree (id_of id) frames
      → (new : Unmet) → ((q : ObjectId) → sets.contains by_id new q ≡ cond (is_eq (by_id id q)) false (sets.contains by_id unmet q)) → Stands kind tree ids new done frames (Some id)
  taken frames s id has leads new removed = record {
    values = s.values;
    in_tree = s.in_tree;
    listed = s.listed;
    known = s.known;
    dones = s.dones;
    tags = s.tags;
    open_ones = s.open_ones;
    read = s.read;
    to_come = λ q h. s.to_come q (was (is_eq (by_id id q)) (sets.contains by_id unmet q) (sym (removed q) ∙ h));
    each = λ q h. elim (s.each q h) [
      | inl a ↦ moved q a (is_eq (by_id id q)) refl
      | inr (inl (next, e, f)) ↦ none_is_some next e
      | inr (inr a) ↦ inr (inr a)
    ];
    next = λ q e. subst (λ (x : ObjectId). IsDue kind tree ids s.values new frames x) (same_Some id q e) (let c = s.to_come id has in record {
      listed = c.0;
      absent = c.1;
      met = removed id ∙ ap (λ b. cond b false (sets.contains by_id unmet id)) (itself id);
      apart = c.2;
      leads = leads;
    });
  }
    where
      was : (b c : Bool) → cond b false c ≡ true → c ≡ true
      was true c h = cc
      was false c h = h

      moved : (q : ObjectId) → sets.contains by_id unmet q ≡ true → (b : Bool) → is_eq (by_id id q) ≡ b → IsSomewhere new done frames (Some id) q
      moved q a true e = inr (inl (id, refl, same_key id q e))
      moved q a false e = inl (removed q ∙ ap (λ b. cond b false (sets.contains by_id unmet q)) e ∙ a)

  -- an object that was read is open
  pub entered : (frames : List Frame) (id : ObjectId) → Stands kind tree ids unmet done frames (Some id) → (frame : Frame) → frame.id ≡ id → frame.next ≡ 0 → frame.longest ≡ 0
      → (content : Bytes) → IsObject kind tree (id_of id) frame.kind content (links_of frame.links.items) → Stands kind tree ids unmet done (frame ∷ frames) None
  entered frames id s frame same next longest content is = record {
    values = s.values;
    in_tree = s.in_tree;
    listed = s.listed;
    known = s.known;
    dones = s.dones;
    tags = s.tags;
    read = λ q among. elim among [ inl e ↦ (id, due.listed, sym e ∙ ap id_of same) | inr a ↦ s.read q a ];
    open_ones = (open_one, subst (λ (x : ObjectId). IsApart (id_of x) frames) (sym same) due.apart, subst (λ (x : ObjectId). Leads kind tree (id_of x) frames) (sym same) due.leads, s.open_ones);
    to_come = λ q h. let c = s.to_come q h in (c.0, c.1, (λ e. clash h (has_same unmet q id (sym e ∙ ap id_of same) ∙ due.met), c.2));
    each = λ q h. elim (s.each q h) [
      | inl a ↦ inl a
      | inr (inl (x, e, f)) ↦ inr (inr (inl (inl (ap id_of (same ∙ same_Some id x e) ∙ f))))
      | inr (inr (inl a)) ↦ inr (inr (inl (inr a)))
      | inr (inr (inr a)) ↦ inr (inr (inr a))
    ];
    next = λ q e. none_is_some q e;
  }
    where
      due : IsDue kind tree ids s.values unmet frames id
      due = s.next id refl

      open_one : IsOpen kind tree s.values frame
      open_one = record {
        content = content;
        object = subst (λ (x : ObjectId). IsObject kind tree (id_of x) frame.kind content (links_of frame.links.items)) (sym same) is;
        formed = subst (λ (x : ObjectId). is_id kind (id_of x) ≡ true) (sym same) ((s.listed).formed id due.listed);
        absent = subst (λ (x : ObjectId). get s.values (id_of x) ≡ None) (sym same) due.absent;
        ready = subst (λ n. AreReady s.values frame.kind frame.longest (take n (links_of frame.links.items))) (sym next) tt;
        reaches = inl longest;
        most = subst (λ n. n ≤ max_path) (sym longest) (omega arith);
      }

  -- an object of which all links are done is done
  module _ (frame : Frame) (frames : List Frame) (s : Stands kind tree ids unmet done (frame ∷ frames) None) (ended : length (links_of frame.links.items) ≤ frame.next) where
    is_open : IsOpen kind tree s.values frame
    is_open = (s.open_ones).0

    stored : IsStoredNext kind tree s.values (id_of frame.id) frame.kind (links_of frame.links.items) frame.longest
    stored = nexts_are_stored kind tree s.values (id_of frame.id) frame.kind is_open.content (links_of frame.links.items) frame.longest s.in_tree is_open.object is_open.absent
        (subst (AreReady s.values frame.kind frame.longest) (take_whole (links_of frame.links.items) frame.next ended) is_open.ready) is_open.most

    abbrev values : Values
    values = insert s.values (id_of frame.id) stored.value

    at_id : (q : Id) → get values q ≡ cond (id_eq q (id_of frame.id)) (Some stored.value) (get s.values q)
    at_id q = get_with_id s.values (id_of frame.id) stored.value q

    at_here : get values (id_of frame.id) ≡ Some stored.value
    at_here = at_id (id_of frame.id) ∙ ap (λ b. cond b (Some stored.value) (get s.values (id_of frame.id))) (id_itself (id_of frame.id))

    keeps : (q : Id) (v : Value) → get s.values q ≡ Some v → get values q ≡ Some v
    keeps q v h = go (id_eq q (id_of frame.id)) refl
      where
        go : (b : Bool) → id_eq q (id_of frame.id) ≡ b → get values q ≡ Some v
        go true e = none_is_some v (sym is_open.absent ∙ ap (get s.values) (sym (one_id q (id_of frame.id) e)) ∙ h)
        go false e = at_id q ∙ ap (λ b. cond b (Some stored.value) (get s.values q)) e ∙ h

    still_none : (q : Id) → get s.values q ≡ None → id_of frame.id ≢ q → get values q ≡ None
    still_none q h other = go (id_eq q (id_of frame.id)) refl
      where
        go : (b : Bool) → id_eq q (id_of frame.id) ≡ b → get values q ≡ None
        go true e = absurd (other (sym (one_id q (id_of frame.id) e)))
        go false e = at_id q ∙ ap (λ b. cond b (Some stored.value) (get s.values q)) e ∙ h

    ready_still : (by : ObjectKind) (n : ℕ) (links : List Link) → AreReady s.values by n links → AreReady values by n links
    ready_still by n [] h = tt
    ready_still by n (link ∷ links) h = (
      record { value = (h.0).value; stored = keeps link.id (h.0).value (h.0).stored; of_kind = (h.0).of_kind; within = (h.0).within },
      ready_still by n links h.1,
    )

    open_still : (fs : List Frame) → IsApart (id_of frame.id) fs → AreOpen kind tree s.values fs → AreOpen kind tree values fs
    open_still [] apart are = tt
    open_still (f ∷ fs) apart are = (
      record {
        content = (are.0).content;
        object = (are.0).object;
        formed = (are.0).formed;
        absent = still_none (id_of f.id) (are.0).absent (λ e. apart.0 (sym e));
        ready = ready_still f.kind f.longest (take f.next (links_of f.links.items)) (are.0).ready;
        reaches = (are.0).reaches;
        most = (are.0).most;
      },
      are.1,
      are.2,
      open_still fs apart.1 are.3,
    )

    done_still : (id : Id) (noted : Done) → IsDone kind tree s.values id noted → IsDone kind tree values id noted
    done_still id noted is = record { value = is.value; stored = keeps id is.value is.stored; of_kind = is.of_kind; within = is.within; reaches = is.reaches }

    pub closed : (noted : Done) → noted.kind ≡ frame.kind → noted.longest ≡ frame.longest → (new : Stored)
        → ((q : ObjectId) → maps.get by_id new.done q ≡ cond (is_eq (by_id frame.id q)) (Some noted) (maps.get by_id done.done q))
        → (commit : Option ObjectId) → option_map id_of commit ≡ target_linked frame.kind (links_of frame.links.items)
        → MatchOption commit (new.tags ≡ done.tags) (λ commit. maps.Updates by_id done.tags new.tags frame.id (Some commit)) → Stands kind tree ids unmet new frames None
    closed noted of_kind longest new put commit commit_is tag_put = record {
      values = values;
      in_tree = stored.in_tree;
      listed = s.listed;
      known = λ id v at. known_at id v (id_eq id (id_of frame.id)) refl (sym (at_id id) ∙ at);
      dones = λ id d at. done_at id d (is_eq (by_id frame.id id)) refl (sym (put id) ∙ at);
      tags = λ id. tag_at commit commit_is tag_put id (is_eq (by_id frame.id id)) refl;
      open_ones = open_still frames (s.open_ones).1 (s.open_ones).3;
      read = λ q among. s.read q (inr among);
      to_come = λ q h. let c = s.to_come q h in (c.0, still_none (id_of q) c.1 (c.2).0, (c.2).1);
      each = λ q h. elim (s.each q h) [
        | inl a ↦ inl a
        | inr (inl (x, e, f)) ↦ none_is_some x e
        | inr (inr (inl (inl e))) ↦ inr (inr (inr (now_done q e)))
        | inr (inr (inl (inr a))) ↦ inr (inr (inl a))
        | inr (inr (inr a)) ↦ inr (inr (inr (ap is_some (put q) ∙ either (is_eq (by_id frame.id q)) (maps.get by_id done.done q) a)))
      ];
      next = λ q e. none_is_some q e;
    }
      where
        known_at : (id : Id) (v : Value) (b : Bool) → id_eq id (id_of frame.id) ≡ b → cond b (Some stored.value) (get s.values id) ≡ Some v → (x : ObjectId) × Contains ids x × (id ≡ id_of x)
        known_at id v true e h = let own = s.read (id_of frame.id) (inl refl) in (own.0, own.1, one_id id (id_of frame.id) e ∙ own.2)
        known_at id v false e h = s.known id v h

        here : IsDone kind tree values (id_of frame.id) noted
        here = record {
          value = stored.value;
          stored = at_here;
          of_kind = stored.of_kind ∙ sym of_kind;
          within = subst (λ n. PathsWithin n stored.value) (sym longest) stored.within;
          reaches = subst (Reaches kind tree (id_of frame.id)) (sym longest) is_open.reaches;
        }

        done_at : (id : ObjectId) (d : Done) (b : Bool) → is_eq (by_id frame.id id) ≡ b → cond b (Some noted) (maps.get by_id done.done id) ≡ Some d → IsDone kind tree values (id_of id) d
        done_at id d true e h = subst (λ q. IsDone kind tree values q d) (same_key frame.id id e) (subst (IsDone kind tree values (id_of frame.id)) (same_Some noted d h) here)
        done_at id d false e h = done_still (id_of id) d (s.dones id d h)

        -- no tag was noted under the id before
        untagged : (q : ObjectId) → id_of frame.id ≡ id_of q → option_map id_of (maps.get by_id done.tags q) ≡ None
        untagged q e = s.tags q ∙ ap (option_and_then target_of) (ap (get s.values) (sym e) ∙ is_open.absent)

        target_here : (q : ObjectId) → id_of frame.id ≡ id_of q → target_linked frame.kind (links_of frame.links.items) ≡ option_and_then target_of (get values (id_of q))
        target_here q e = sym stored.target ∙ sym (ap (option_and_then target_of) (ap (get values) (sym e) ∙ at_here))

        target_there : (q : ObjectId) → is_eq (by_id frame.id q) ≡ false → option_and_then target_of (get s.values (id_of q)) ≡ option_and_then target_of (get values (id_of q))
        target_there q other = sym (ap (option_and_then target_of) (at_id (id_of q) ∙ ap (λ b. cond b (Some stored.value) (get s.values (id_of q))) (apart (id_eq (id_of q) (id_of frame.id)) refl)))
          where
            apart : (b : Bool) → id_eq (id_of q) (id_of frame.id) ≡ b → id_eq (id_of q) (id_of frame.id) ≡ false
            apart false e = e
            apart true e = clash (ap is_eq (ap (λ (x : Id). id_cmp (id_of frame.id) x) (one_id (id_of q) (id_of frame.id) e)) ∙ itself frame.id) other

        tag_at : (commit : Option ObjectId) → option_map id_of commit ≡ target_linked frame.kind (links_of frame.links.items)
            → MatchOption commit (new.tags ≡ done.tags) (λ commit. maps.Updates by_id done.tags new.tags frame.id (Some commit))
            → (q : ObjectId) (b : Bool) → is_eq (by_id frame.id q) ≡ b → option_map id_of (maps.get by_id new.tags q) ≡ option_and_then target_of (get values (id_of q))
        tag_at None is same q true e =
            let at = same_key frame.id q e in
            ap (λ (tags : BTreeMap ObjectId ObjectId). option_map id_of (maps.get by_id tags q)) same ∙ untagged q at ∙ is ∙ target_here q at
        tag_at None is same q false e = ap (λ (tags : BTreeMap ObjectId ObjectId). option_map id_of (maps.get by_id tags q)) same ∙ s.tags q ∙ target_there q e
        tag_at (Some commit) is updates q true e =
            ap (option_map id_of) (updates.0 q ∙ ap (λ b. cond b (Some commit) (maps.get by_id done.tags q)) e) ∙ is ∙ target_here q (same_key frame.id q e)
        tag_at (Some commit) is updates q false e =
            ap (option_map id_of) (updates.0 q ∙ ap (λ b. cond b (Some commit) (maps.get by_id done.tags q)) e) ∙ s.tags q ∙ target_there q e

        now_done : (q : ObjectId) → id_of frame.id ≡ id_of q → is_some (maps.get by_id new.done q) ≡ true
        now_done q e = ap is_some (done_same new q frame.id (sym e) ∙ put frame.id) ∙ ap (λ b. is_some (cond b (Some noted) (maps.get by_id done.done frame.id))) (itself frame.id)

        either : (b : Bool) (o : Option Done) → is_some o ≡ true → is_some (cond b (Some noted) o) ≡ true
        either true o h = refl
        either false o h = h

  -- ---- what is wrong if a link is to nothing that is done or to come

  module _ (frame : Frame) (frames : List Frame) (s : Stands kind tree ids unmet done (frame ∷ frames) None) (link : Id) (as_kind : ObjectKind) (named : Names kind tree (id_of frame.id) link as_kind) where
    ways : (f : Frame) (fs : List Frame) → AreOpen kind tree s.values (f ∷ fs) → (id : Id) → IsAmong id fs → Reaching kind tree id (id_of f.id)
    ways f [] are id among = absurd among
    ways f (g ∷ fs) are id (inl e) = subst (λ q. Reaching kind tree q (id_of f.id)) e (names ((are.2).0) ((are.2).1))
    ways f (g ∷ fs) are id (inr among) = by_way_of (id_of g.id) (ways g fs are.3 id among) (names ((are.2).0) ((are.2).1))

    pub cycle : IsAmong link (frame ∷ frames) → Reaching kind tree link link
    cycle (inl e) = subst (λ q. Reaching kind tree q link) e (names as_kind named)
    cycle (inr among) = by_way_of (id_of frame.id) (ways frame frames s.open_ones link among) (names as_kind named)

    pub missing : ((q : ObjectId) → id_of q ≡ link → (sets.contains by_id unmet q ≡ false) × (maps.get by_id done.done q ≡ None)) → (IsAmong link (frame ∷ frames) → ⊥) → HasMissing kind tree link (id_of frame.id)
    missing nowhere apart = (as_kind, named, none (file_at tree (object_place link)) refl)
      where
        none : (o : Option Bytes) → file_at tree (object_place link) ≡ o → o ≡ None
        none None e = refl
        none (Some text) e =
            let own = (s.listed).files (object_place link) text e in
            let same : link ≡ id_of own.0 = place_tells kind link (id_of own.0) (named_of_kind kind tree (id_of frame.id) link as_kind named) ((s.listed).formed own.0 own.1) own.2 in
            let not_there = nowhere own.0 (sym same) in
            absurd (elim (s.each own.0 own.1) [
              | inl a ↦ clash a not_there.0
              | inr (inl (x, e, f)) ↦ none_is_some x e
              | inr (inr (inl a)) ↦ apart (subst (λ q. IsAmong q (frame ∷ frames)) (sym same) a)
              | inr (inr (inr a)) ↦ clash a (ap is_some not_there.1)
            ])
