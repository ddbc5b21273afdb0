-- How an object goes on: past a link that is done, to one that is to come, or to a flaw.
use Rattle.std.proofs.Common.{◌≡◌, ◌≢◌, ℕ, zero, suc, ◌+◌, ◌<◌, ◌≤◌, ◌⊎◌, Bool, true, false, cond, List, [], ◌∷◌, map, length, reverse, get_or, refl, sym, ◌∙◌, ap, subst, arith, tests, inl, inr, Some, None, max, nat_lt}
use Rattle.std.specs.Prelude.{IsTrue}
use Rattle.std.specs.Ordering.{is_eq}
use Rattle.std.specs.BTreeMap as maps
use Rattle.std.specs.BTreeSet as sets
use Rattle.gix_hash.specs.Id.{id_of}
use Rattle.gix_hash.specs.declared.kind.Kind.{Kind}
use Rattle.gix_hash.specs.declared.object_id.ObjectId.{ObjectId}
use Rattle.gix_object_lines.specs.declared.kind.Kind.{Kind as ObjectKind}
use Rattle.gix_object_lines.specs.declared.kind.Kind.TheVariants as kinds
use Rattle.gix_ref_file.specs.Tree.{Tree}
use Rattle.history_model.specs.Forms.{max_path}
use Rattle.history_model.specs.Repository.{Values}
use Rattle.history_model.proofs.WholeLists.{In}
use Rattle.history_check_objects.specs.Flaws.{IsObjectsFlaw, Names, deep}
use Rattle.history_check_objects.specs.Links.{reach_of}
use Rattle.history_check_objects.specs.Passing.{IsPassed, IsRefusedLink, IsSame}
use Rattle.history_check_objects.specs.Surveyed.{IsLacking}
use Rattle.history_check_objects.specs.Surveying.{IsAmong, IsDone, IsOpen, Reaches, Stands, Unmet, by_id, link_of, links_of}
use Rattle.history_texts.specs.declared.open_error.OpenError.{OpenError}
use Rattle.history_texts.specs.declared.open_error.NamedBy.TheVariants.{Object}
use Rattle.history_texts.specs.declared.open_error.OpenError.TheVariants.{BadTree, Missing, WrongKind, Cycle}
use Rattle.history_check_objects.specs.declared.stored.Done.{Done}
use Rattle.history_check_objects.specs.declared.stored.Stored.{Stored}
use Rattle.history_check_objects.specs.declared.order.Frame.{Frame}
use Rattle.history_check_objects.specs.declared.reading.Link as own
use Rattle.history_check_objects.proofs.Begins.{told_apart, told_open}
use Rattle.history_check_objects.proofs.Steps.{cycle, done_same, goes_on, has_same, in_at, missing, names_link, passed, path_there, taken, wrong_kind}

-- ---- a link at its place

pub length_map : {X Y : Type 0} (f : X → Y) (xs : List X) → length (map f xs) ≡ length xs
length_map f [] = refl
length_map f (x ∷ xs) = ap suc (length_map f xs)

get_map : {X Y : Type 0} (f : X → Y) (xs : List X) (n : ℕ) (d : X) → get_or (map f xs) n (f d) ≡ f (get_or xs n d)
get_map f [] n d = refl
get_map f (x ∷ xs) zero d = refl
get_map f (x ∷ xs) (suc n) d = get_map f xs n d

is_tree_or : (k : ObjectKind) → (k ≡ kinds.Tree) ⊎ (k ≢ kinds.Tree)
is_tree_or kinds.Tree = inl refl
is_tree_or kinds.Blob = inr (λ e. cc)
is_tree_or kinds.Commit = inr (λ e. cc)
is_tree_or kinds.Tag = inr (λ e. cc)

either_max : (a b : ℕ) → ((max a b ≡ a) × (b ≤ a)) ⊎ ((max a b ≡ b) × (a ≤ b))
either_max a b = go (nat_lt a b) refl
  where
    lower : (a b : ℕ) → nat_lt a b ≡ true → a ≤ b
    lower a b h = grind (arith, tests)

    upper : (a b : ℕ) → nat_lt a b ≡ false → b ≤ a
    upper a b h = grind (arith, tests)

    go : (t : Bool) → nat_lt a b ≡ t → ((max a b ≡ a) × (b ≤ a)) ⊎ ((max a b ≡ b) × (a ≤ b))
    go true h = let less = lower a b h in inr (omega arith, less)
    go false h = let more = upper a b h in inl (omega arith, more)

pub same_then_same : (old mid new : Frame) → IsSame old mid → IsSame mid new → IsSame old new
same_then_same old mid new first second = record { id = second.id ∙ first.id; kind = second.kind ∙ first.kind; links = second.links ∙ first.links }

module _ (kind : Kind) (tree : Tree) (ids : List ObjectId) (unmet : Unmet) (done : Stored) (frame : Frame) (frames : List Frame) (s : Stands kind tree ids unmet done (frame ∷ frames) None)
    (link : own.Link) (at : link ≡ get_or frame.links.items frame.next link) (less : frame.next < length frame.links.items) where
  abbrev values : Values
  values = s.values

  is : IsOpen kind tree s.values frame
  is = (s.open_ones).0

  at_link : link_of link ≡ get_or (links_of frame.links.items) frame.next (link_of link)
  at_link = ap link_of at ∙ sym (get_map link_of frame.links.items frame.next link)

  less_link : frame.next < length (links_of frame.links.items)
  less_link = subst (λ n. frame.next < n) (sym (length_map link_of frame.links.items)) less

  named : Names kind tree (id_of frame.id) (id_of link.id) link.kind
  named = names_link kind tree (id_of frame.id) frame.kind is.content (links_of frame.links.items) is.formed is.object (link_of link)
      (subst (λ l. In l (links_of frame.links.items)) (sym at_link) (in_at (links_of frame.links.items) frame.next (link_of link) less_link))

  -- the link is to an object that is to come
  pub to_due : IsTrue (sets.contains by_id unmet link.id) → (new : Unmet) → ((q : ObjectId) → sets.contains by_id new q ≡ cond (is_eq (by_id link.id q)) false (sets.contains by_id unmet q))
      → Stands kind tree ids new done (frame ∷ frames) (Some link.id)
  to_due has new removed = taken kind tree ids unmet done (frame ∷ frames) s link.id has (link.kind, named) new removed

  -- it is to none
  pub to_none : maps.get by_id done.done link.id ≡ None → sets.contains by_id unmet link.id ≡ false → (items : List Frame) → frames ≡ reverse items → (flaw : OpenError) → IsLacking items frame.id link.id flaw → IsObjectsFlaw ⊥ kind tree flaw
  to_none absent gone items are (Cycle id) (same, inl e) = subst (λ (x : ObjectId). IsObjectsFlaw ⊥ kind tree (Cycle x)) (sym same) (cycle kind tree ids unmet done frame frames s (id_of link.id) link.kind named (inl e))
  to_none absent gone items are (Cycle id) (same, inr e) =
      subst (λ (x : ObjectId). IsObjectsFlaw ⊥ kind tree (Cycle x)) (sym same) (cycle kind tree ids unmet done frame frames s (id_of link.id) link.kind named (inr (subst (IsAmong (id_of link.id)) (sym are) (told_open (id_of link.id) items e))))
  to_none absent gone items are (Missing id (Object by)) (same, from, apart, none) =
      subst (λ (x : ObjectId). IsObjectsFlaw ⊥ kind tree (Missing x (Object by))) (sym same)
      (subst (λ (x : ObjectId). IsObjectsFlaw ⊥ kind tree (Missing link.id (Object x))) (sym from)
      (missing kind tree ids unmet done frame frames s (id_of link.id) link.kind named
      (λ q e. (has_same unmet q link.id e ∙ gone, done_same done q link.id e ∙ absent))
      (λ among. elim among [ inl e ↦ apart e | inr a ↦ told_apart (id_of link.id) items none (subst (IsAmong (id_of link.id)) are a) ])))
  to_none absent gone items are _ is = absurd is

  module _ (d : Done) (noted_at : maps.get by_id done.done link.id ≡ Some d) where
    noted : IsDone kind tree s.values (id_of link.id) d
    noted = s.dones link.id d noted_at

    -- what is wrong with a link that is done
    pub to_refused : (flaw : OpenError) → IsRefusedLink frame link d flaw → IsObjectsFlaw ⊥ kind tree flaw
    to_refused (WrongKind id (Object by)) (same, from, other) =
        subst (λ (x : ObjectId). IsObjectsFlaw ⊥ kind tree (WrongKind x (Object by))) (sym same)
        (subst (λ (x : ObjectId). IsObjectsFlaw ⊥ kind tree (WrongKind link.id (Object x))) (sym from) (wrong_kind kind tree s.values s.in_tree frame is link at_link less_link d noted other))
    to_refused (BadTree id) (same, of_tree, long) =
        let path = path_there kind tree s.values s.in_tree frame is link at_link less_link d noted of_tree in
        subst (λ (x : ObjectId). IsObjectsFlaw ⊥ kind tree (BadTree x)) (sym same) (deep path.0 path.1 (subst (λ n. max_path < n) (sym path.2) long))
    to_refused _ is = absurd is

    -- the link is passed
    pub past : (new : Frame) → IsPassed frame new link d → Stands kind tree ids unmet done (new ∷ frames) None
    past new p = goes_on kind tree ids unmet done frame new frames None s (p.same).id (elim (is_tree_or frame.kind) [ inl e ↦ in_tree e | inr other ↦ elsewhere other ])
      where
        reach : ℕ
        reach = reach_of link.name d.longest

        next_is : new.next ≡ frame.next + 1
        next_is = p.next

        open_with : frame.longest ≤ new.longest → (frame.kind ≡ kinds.Tree → reach ≤ new.longest) → new.longest ≤ max_path → Reaches kind tree (id_of frame.id) new.longest → IsOpen kind tree s.values new
        open_with longer short most reaches =
            passed kind tree s.values s.in_tree frame is link at_link less_link d noted new (p.same).id (p.same).kind (p.same).links next_is p.of_kind longer short most reaches

        elsewhere : frame.kind ≢ kinds.Tree → IsOpen kind tree s.values new
        elsewhere other =
            let same = p.as_before other in
            let most = is.most in
            open_with (omega arith) (λ e. absurd (other e)) (omega arith) (subst (Reaches kind tree (id_of frame.id)) (sym same) is.reaches)

        in_tree : frame.kind ≡ kinds.Tree → IsOpen kind tree s.values new
        in_tree e = go (either_max frame.longest reach) (p.longest e) (p.short e)
          where
            go : ((max frame.longest reach ≡ frame.longest) × (reach ≤ frame.longest)) ⊎ ((max frame.longest reach ≡ reach) × (frame.longest ≤ reach)) → new.longest ≡ max frame.longest reach → reach ≤ max_path
                → IsOpen kind tree s.values new
            go (inl (one, less)) longest short =
                let same = longest ∙ one in
                let most = is.most in
                open_with (omega arith) (λ e. omega arith) (omega arith) (subst (Reaches kind tree (id_of frame.id)) (sym same) is.reaches)
            go (inr (other, more)) longest short =
                let same = longest ∙ other in
                let path = path_there kind tree s.values s.in_tree frame is link at_link less_link d noted e in
                open_with (omega arith) (λ e. omega arith) (omega arith) (inr (path.0, path.1, path.2 ∙ sym same))
