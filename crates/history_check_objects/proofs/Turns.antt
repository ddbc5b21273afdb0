-- A turn of the survey, by the list of what is open.
use Rattle.std.proofs.Common.{◌≡◌, ◌≤◌, false, List, [], ◌∷◌, ◌++◌, length, reverse, refl, sym, ◌∙◌, ap, subst, inl, inr, IfNone, IfSome, MatchOption, Option, Some, None, option_map}
use Rattle.std.specs.Prelude.{IsTrue}
use Rattle.std.specs.List.{list_any}
use Rattle.std.specs.BTreeMap as maps
use Rattle.std.specs.BTreeSet as sets
use Rattle.gix_hash.specs.Id.{id_of}
use Rattle.gix_hash.specs.declared.kind.Kind.{Kind}
use Rattle.gix_hash.specs.declared.object_id.ObjectId.{ObjectId}
use Rattle.gix_ref_file.specs.Tree.{Tree}
use Rattle.history_model.specs.Bytes.{Bytes}
use Rattle.history_model.proofs.WholeLists.{none_is_some}
use Rattle.history_check_objects.specs.Nexts.{IsObject, target_linked}
use Rattle.history_check_objects.specs.Surveying.{Stands, Unmet, by_id, link_of, links_of}
use Rattle.history_check_objects.specs.declared.stored.Stored.{Stored}
use Rattle.history_check_objects.specs.declared.order.Frame.{Frame}
use Rattle.history_check_objects.proofs.Advances.{length_map}
use Rattle.history_check_objects.proofs.Begins.{open_last}
use Rattle.history_check_objects.proofs.Steps.{closed, entered, taken}

module _ (kind : Kind) (tree : Tree) (ids : List ObjectId) (unmet : Unmet) (done : Stored) where
  -- the last of the open objects goes on
  pub popped : (items rest : List Frame) (frame : Frame) → items ≡ rest ++ frame ∷ [] → Stands kind tree ids unmet done (reverse items) None → Stands kind tree ids unmet done (frame ∷ reverse rest) None
  popped items rest frame are s = subst (λ fs. Stands kind tree ids unmet done fs None) (ap reverse are ∙ open_last rest frame) s

  -- and waits for another
  pub pushed : (items rest : List Frame) (frame : Frame) (due : Option ObjectId) → items ≡ rest ++ frame ∷ [] → Stands kind tree ids unmet done (frame ∷ reverse rest) due → Stands kind tree ids unmet done (reverse items) due
  pushed items rest frame due are s = subst (λ fs. Stands kind tree ids unmet done fs due) (sym (ap reverse are ∙ open_last rest frame)) s

  -- or is done
  pub noted : (rest : List Frame) (frame : Frame) → Stands kind tree ids unmet done (frame ∷ reverse rest) None → length frame.links.items ≤ frame.next → (new : Stored)
      → maps.Updates by_id done.done new.done frame.id (Some (record { kind = frame.kind; longest = frame.longest }))
      → (commit : Option ObjectId) → option_map id_of commit ≡ target_linked frame.kind (links_of frame.links.items)
      → MatchOption commit (new.tags ≡ done.tags) (λ commit. maps.Updates by_id done.tags new.tags frame.id (Some commit)) → Stands kind tree ids unmet new (reverse rest) None
  noted rest frame s ended new put commit commit_is tag_put =
      closed kind tree ids unmet done frame (reverse rest) s (subst (λ n. n ≤ frame.next) (sym (length_map link_of frame.links.items)) ended)
      (record { kind = frame.kind; longest = frame.longest }) refl refl new put.0 commit commit_is tag_put

  -- if none is open, the first of those that are to come is next
  pub first : (items : List Frame) → items ≡ [] → Stands kind tree ids unmet done (reverse items) None → (id : ObjectId) → IsTrue (sets.contains by_id unmet id) → (new : Unmet) → sets.Updates by_id unmet new id false
      → Stands kind tree ids new done (reverse items) (Some id)
  first items none s id has new removed =
      subst (λ fs. Stands kind tree ids new done (reverse fs) (Some id)) (sym none)
      (taken kind tree ids unmet done [] (subst (λ fs. Stands kind tree ids unmet done (reverse fs) None) none s) id has tt new removed.0)

  -- if none is to come, nothing changes
  unchanged : (frames : List Frame) → Stands kind tree ids unmet done frames None → (new : Unmet) → new.keys ≡ unmet.keys → Stands kind tree ids new done frames None
  unchanged frames s new same = record {
    values = s.values;
    in_tree = s.in_tree;
    listed = s.listed;
    known = s.known;
    dones = s.dones;
    tags = s.tags;
    open_ones = s.open_ones;
    read = s.read;
    to_come = λ q h. s.to_come q (sym (has q) ∙ h);
    each = λ q h. elim (s.each q h) [ inl a ↦ inl (has q ∙ a) | inr a ↦ inr a ];
    next = λ q e. none_is_some q e;
  }
    where
      has : (q : ObjectId) → sets.contains by_id new q ≡ sets.contains by_id unmet q
      has q = ap (λ (keys : List ObjectId). list_any (maps.is_at (by_id q)) keys) same

  -- what is taken from those that are to come is next
  pub next_due : (items : List Frame) → items ≡ [] → Stands kind tree ids unmet done (reverse items) None → (new : Unmet) (due : Option ObjectId) → IfSome due (λ id. IsTrue (sets.contains by_id unmet id))
      → IfSome due (λ id. sets.Updates by_id unmet new id false) → IfNone due (sets.IsUnchanged unmet new) → Stands kind tree ids new done (reverse items) due
  next_due items none s new None has removed same = unchanged (reverse items) s new same
  next_due items none s new (Some id) has removed same = first items none s id has new removed

  -- an object that was read is open
  pub opened : (items rest : List Frame) (frame : Frame) (id : ObjectId) → items ≡ rest ++ frame ∷ [] → Stands kind tree ids unmet done (reverse rest) (Some id) → frame.id ≡ id → frame.next ≡ 0 → frame.longest ≡ 0
      → (content : Bytes) → IsObject kind tree (id_of id) frame.kind content (links_of frame.links.items) → Stands kind tree ids unmet done (reverse items) None
  opened items rest frame id are s same next longest content is = pushed items rest frame None are (entered kind tree ids unmet done (reverse rest) id s frame same next longest content is)
