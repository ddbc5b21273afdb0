-- The edits of a change of names are those that it asks for, and test what the names hold.
use Rattle.std.proofs.Common.{◌≡◌, ◌≢◌, inl, inr, ℕ, ◌+◌, ◌<◌, ◌≤◌, true, List, [], ◌∷◌, ◌++◌, map, take, length, get_or, refl, sym, ◌∙◌, ap, subst, Option, Some, None, option_map, unwrap_or}
use Rattle.std.specs.List.{AllByRecursion, AllZip}
use Rattle.std.proofs.lemmas.List.{map_more}
use Rattle.gix_hash.specs.Id.{Id, null_id}
use Rattle.gix_hash.specs.declared.kind.Kind.{Kind}
use Rattle.gix_object_lines.specs.declared.lines.actor.ActorRef.{ActorRef}
use Rattle.gix_ref_file.specs.History.{History}
use Rattle.gix_ref_file.specs.Tree.{Tree}
use Rattle.gix_ref_edit.specs.declared.change.Change.{Change}
use Rattle.gix_ref_edit.specs.declared.change.Change.TheVariants.{Update, Delete}
use Rattle.gix_ref_edit.specs.declared.change.PreviousValue.{PreviousValue}
use Rattle.gix_ref_edit.specs.declared.change.RefEdit.{RefEdit}
use Rattle.history_model.specs.Bytes.{Bytes}
use Rattle.history_model.specs.Forms.{is_actor, is_id, is_name}
use Rattle.history_model.specs.Objects.{Actor}
use Rattle.std.specs.Prelude.{is_some}
use Rattle.std.specs.FinMap.{get}
use Rattle.history_model.specs.Repository.{Reference, Repository, id_at, stands}
use Rattle.history_model.proofs.IdLemmas.{has_kind}
use Rattle.std.proofs.lemmas.Bool.{and_parts}
use Rattle.history_layout.specs.EditFits.{IsNextEntry}
use Rattle.history_layout.specs.EditSteps as edits
use Rattle.history_layout.specs.EditSteps.{edited_names}
use Rattle.history_layout.specs.TreeHalves.{HoldsNames}
use Rattle.history_edits.specs.Bridges.{Commits}
use Rattle.history_edits.specs.EditFaults.{AllTest, Expects, Tests}
use Rattle.history_edits.specs.EditPlans.{AreEdits, IsLogged}
use Rattle.history_store.specs.Changing.{AreUnsplit, AsksAs, AsksChange, AsksToDelete, ExpectsBefore, ExpectsId, HaveOneActor, IsCommitter, MayChange, moved_in, moved_text}
use Rattle.history_store.specs.Packing.{id_read}
use Rattle.history_store.specs.declared.changing.MovedName.{MovedName}
use Rattle.history_store.specs.declared.names.Names.{Names}
use Rattle.history_store.proofs.NamesRead.{id_held}

abbrev Moved : Type 0
Moved = edits.MovedName

-- ---- all edits

pub are_edits : (moved : List Moved) (asked : List RefEdit) → AllZip AsksAs moved asked → AreEdits moved None asked
are_edits [] [] zip = refl
are_edits [] (edit ∷ asked) zip = absurd zip
are_edits (m ∷ moved) [] zip = absurd zip
are_edits (m ∷ moved) (edit ∷ asked) zip = (zip.0.move, are_edits moved asked zip.1)

pub with_deletion : (moved : List Moved) (name : Bytes) (asked : List RefEdit) (last : RefEdit) → AllZip AsksAs moved asked → AsksToDelete name last → AreEdits moved (Some name) (asked ++ last ∷ [])
with_deletion [] name [] last zip gone = (gone.deletes, refl)
with_deletion [] name (edit ∷ asked) last zip gone = absurd zip
with_deletion (m ∷ moved) name [] last zip gone = absurd zip
with_deletion (m ∷ moved) name (edit ∷ asked) last zip gone = (zip.0.move, with_deletion moved name asked last zip.1 gone)

pub all_plain : (moved : List Moved) (asked : List RefEdit) → AllZip AsksAs moved asked → AreUnsplit asked
all_plain [] [] zip = tt
all_plain [] (edit ∷ asked) zip = absurd zip
all_plain (m ∷ moved) [] zip = absurd zip
all_plain (m ∷ moved) (edit ∷ asked) zip = (zip.0.plain, all_plain moved asked zip.1)

pub and_last : (P : RefEdit → Type 0) (asked : List RefEdit) (last : RefEdit) → AllByRecursion P asked → P last → AllByRecursion P (asked ++ last ∷ [])
and_last P [] last all own = (own, tt)
and_last P (edit ∷ asked) last all own = (all.0, and_last P asked last all.1 own)

-- ---- what they test

module _ (r : Repository) (set : (name : Bytes) → id_at r name ≢ Some (null_id r.kind)) where
  -- a name that an entry comes next of holds its id before, or doesn't exist if that is null
  expected_next : (held : Option Id) (before : Id) (expected : PreviousValue) → (held ≢ Some (null_id r.kind)) → before.kind ≡ r.kind → before ≡ unwrap_or held (null_id r.kind) → ExpectsId before expected → Expects held expected
  expected_next None before expected some kind next (inl (none, is)) = is
  expected_next None before expected some kind next (inr (set_so, is)) = absurd (set_so (next ∙ ap null_id (sym kind)))
  expected_next (Some id) before expected some kind next (inl (none, is)) = absurd (some (ap Some (sym next ∙ none ∙ ap null_id kind)))
  expected_next (Some id) before expected some kind next (inr (set_so, is)) = subst (λ i. Expects (Some i) expected) next is

  of_kind : (m : Moved) → IsNextEntry r m → m.entry.before.kind ≡ r.kind
  of_kind m next =
      let e = m.entry in
      let four = and_parts _ _ next.formed in
      let three = and_parts _ _ four.0 in
      let two = and_parts _ _ three.0 in
      (has_kind r.kind e.before (and_parts (is_id r.kind e.before) (is_id r.kind e.after) two.0).0).of_kind

  one_tests : (m : Moved) (edit : RefEdit) → IsNextEntry r m → AsksAs m edit → Tests (id_at r edit.name) edit.change
  one_tests m edit next asks =
      subst (λ n. Tests (id_at r n) edit.change) (sym asks.move.name) (go edit.change asks.expects)
    where
      go : (change : Change) → ExpectsBefore m change → Tests (id_at r m.name) change
      go (Update log expected new) expects = expected_next (id_at r m.name) m.entry.before expected (set m.name) (of_kind m next) next.before expects
      go (Delete expected log) expects = absurd expects

  pub all_test : (moved : List Moved) (asked : List RefEdit) → AllByRecursion (IsNextEntry r) moved → AllZip AsksAs moved asked → AllTest r asked
  all_test [] [] next zip = tt
  all_test [] (edit ∷ asked) next zip = absurd zip
  all_test (m ∷ moved) [] next zip = absurd zip
  all_test (m ∷ moved) (edit ∷ asked) next zip = (one_tests m edit next.0 zip.0, all_test moved asked next.1 zip.1)

-- ---- what the deleted name holds

-- a name reads as what it holds
held_is : (r : Repository) (tree : Tree) (kind : Kind) (name : Bytes) → kind ≡ r.kind → HoldsNames tree r → id_read kind tree name ≡ id_at r name
held_is r tree kind name same holds = ap (λ k. id_read k tree name) same ∙ id_held r tree holds name

pub held_told : (r : Repository) (tree : Tree) (kind : Kind) (name : Bytes) → kind ≡ r.kind → HoldsNames tree r → stands r name ≡ true → id_read kind tree name ≢ None
held_told r tree kind name same holds stood none = go (get r.names name) stood (sym (held_is r tree kind name same holds) ∙ none)
  where
    go : (found : Option Reference) → is_some found ≡ true → option_map (λ ref. ref.id) found ≡ None → ⊥
    go None exists lacks = cc
    go (Some ref) exists lacks = cc

pub held_tests : (r : Repository) (tree : Tree) (kind : Kind) (name : Bytes) (edit : RefEdit) → kind ≡ r.kind → HoldsNames tree r → edit.name ≡ name → Tests (id_read kind tree name) edit.change → Tests (id_at r edit.name) edit.change
held_tests r tree kind name edit same holds is tests =
    subst (λ n. Tests (id_at r n) edit.change) (sym is) (subst (λ held. Tests held edit.change) (held_is r tree kind name same holds) tests)

-- ---- who makes them

formed_actor : (r : Repository) (m : Moved) → IsNextEntry r m → is_actor m.entry.actor ≡ true
formed_actor r m next = let four = and_parts _ _ next.formed in let three = and_parts _ _ four.0 in (and_parts _ _ three.0).1

same_actor : (actor : Actor) (moved : List Moved) → AllByRecursion (λ (m : Moved). m.entry.actor ≡ actor) moved → (r : Repository) (who : ActorRef) → Commits actor who → AllByRecursion (IsNextEntry r) moved → AllByRecursion (IsLogged r (Some who)) moved
same_actor actor [] one r who commits next = tt
same_actor actor (m ∷ moved) one r who commits next =
    (record { before = next.0.before; formed = formed_actor r m next.0; who = who; given = refl; commits = subst (λ a. Commits a who) (sym one.0) commits }, same_actor actor moved one.1 r who commits next.1)

pub all_logged : (r : Repository) (committer : Option ActorRef) (moved : List Moved) → AllByRecursion (IsNextEntry r) moved → HaveOneActor moved → IsCommitter moved committer → AllByRecursion (IsLogged r committer) moved
all_logged r committer [] next one is = tt
all_logged r None (m ∷ moved) next one is = absurd is
all_logged r (Some who) (m ∷ moved) next one is = same_actor m.entry.actor (m ∷ moved) (refl, one) r who is next

-- ---- names

pub moved_named : (moved : List MovedName) (taken : Option Bytes) → AllByRecursion (λ name. is_name name ≡ true) (edited_names (map moved_in moved) taken) → AllByRecursion (λ m. is_name (moved_text m) ≡ true) moved
moved_named [] taken named = tt
moved_named (m ∷ moved) taken named = (named.0, moved_named moved taken named.1)

pub last_is : (moved : List Moved) (name : Bytes) → AllByRecursion (λ n. is_name n ≡ true) (edited_names moved (Some name)) → is_name name ≡ true
last_is [] name named = named.0
last_is (m ∷ moved) name named = last_is moved name named.1

-- ---- one more edit

zip_more : (moved : List Moved) (asked : List RefEdit) (m : Moved) (edit : RefEdit) → AllZip AsksAs moved asked → AsksAs m edit → AllZip AsksAs (moved ++ m ∷ []) (asked ++ edit ∷ [])
zip_more [] [] m edit zip one = (one, tt)
zip_more [] (e ∷ asked) m edit zip one = absurd zip
zip_more (x ∷ moved) [] m edit zip one = absurd zip
zip_more (x ∷ moved) (e ∷ asked) m edit zip one = (zip.0, zip_more moved asked m edit zip.1 one)

pub one_more : (moved : List MovedName) (i : ℕ) (d m : MovedName) (asked : List RefEdit) (edit : RefEdit) (after : List RefEdit) → i < length moved → m ≡ get_or moved i d → after ≡ asked ++ edit ∷ [] → AllZip AsksAs (map moved_in (take i moved)) asked → AsksAs (moved_in m) edit
    → AllZip AsksAs (map moved_in (take (i + 1) moved)) after
one_more moved i d m asked edit after inside is pushed zip one =
    subst (AllZip AsksAs (map moved_in (take (i + 1) moved))) (sym pushed)
    (subst (λ ms. AllZip AsksAs ms (asked ++ edit ∷ [])) (sym (map_more moved_in moved i d inside ∙ ap (λ x. map moved_in (take i moved) ++ moved_in x ∷ []) (sym is))) (zip_more (map moved_in (take i moved)) asked (moved_in m) edit zip one))

-- ---- what is asked of a transaction

pub asks_change : {F : Type 0} (IsHonest : F → Type 0) (history : F → History) (names : Names F) (r : Repository) (moved : List Moved) (taken : Option Bytes) (committer : Option ActorRef) (asked : List RefEdit) → MayChange IsHonest history names r moved taken → AreEdits moved taken asked → AreUnsplit asked → AllTest r asked
    → IsCommitter moved committer → AsksChange IsHonest history names r moved taken committer asked
asks_change IsHonest history names r moved taken committer asked may are plain tests who = record {
  may = may;
  edits = record { named = may.fit.named; logged = all_logged r committer moved may.fit.each may.one_actor who; asks = are; plain = plain };
  tests = tests;
}
