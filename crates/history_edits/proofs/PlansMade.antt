-- What is made of edits are the moves of their names.
use Rattle.std.proofs.Common.{◌≡◌, ◌≢◌, Bool, true, false, cond, not, List, [], ◌∷◌, ◌++◌, refl, sym, ◌∙◌, ap, subst, Option, Some, None, unwrap_or, ℕ, Vec}
use Rattle.std.specs.List.{AllByRecursion}
use Rattle.std.specs.Option.{option_to_list}
use Rattle.std.proofs.lemmas.List.{append-nil}
use Rattle.std.specs.declared.alloc.Global.{Global}
use Rattle.gix_hash.specs.Id.{Id, null_id}
use Rattle.gix_hash.specs.Order.{id_eq}
use Rattle.gix_hash.specs.declared.kind.Kind.{Kind}
use Rattle.gix_object_lines.specs.declared.lines.actor.ActorRef.{ActorRef}
use Rattle.gix_ref_file.specs.Tree.{Tree}
use Rattle.gix_ref_name.specs.Targets.{Points, ToObject, target_view}
use Rattle.gix_ref_name.specs.declared.target.Target.{Target}
use Rattle.gix_ref_edit.specs.declared.change.Change.TheVariants.{Update, Delete}
use Rattle.gix_ref_edit.specs.declared.change.PreviousValue.{PreviousValue}
use Rattle.gix_ref_edit.specs.declared.change.RefEdit.{RefEdit}
use Rattle.gix_ref_edit.specs.declared.log.LogChange.{LogChange}
use Rattle.gix_ref_edit.specs.declared.log.RefLog.TheVariants.{AndReference}
use Rattle.gix_ref_format.specs.Lookup.{packed_key}
use Rattle.gix_ref_format.specs.Loose.{loose_text}
use Rattle.gix_ref_format.specs.Packed.{Record}
use Rattle.gix_ref_format.specs.PackedBuffer.{KeepsFile}
use Rattle.gix_ref_format.specs.Edited.{Line}
use Rattle.gix_ref_lock.specs.Contents.{place_of, lock_path_of, log_path_of}
use Rattle.gix_ref_lock.specs.declared.act.Act.{Act}
use Rattle.gix_ref_lock.specs.declared.act.Act.TheVariants.{Put, Note, Pack, Remove, Forget}
use Rattle.gix_ref_lock.specs.declared.act.Move.{Move}
use Rattle.gix_ref_transaction.specs.Repacking.{SaysByKey, SaysOfRecord, SayOfRecords}
use Rattle.gix_ref_store.specs.Follows.{follow}
use Rattle.gix_ref_store.specs.Places as store
use Rattle.gix_ref_store.specs.RefStates.{RefState}
use Rattle.gix_ref_transaction.specs.LogLines.{Logging, AllLined, IsLineOf, IsUpdateLine, IsLineIf, IsLineBy, end_id, has_log, id_before, line_in}
use Rattle.gix_ref_transaction.specs.Plans.{AllPlanned, AllHold, HoldsText, IsActOf, IsDeletionBy, IsPlanOf, IsPut, IsUpdateBy, is_packed_alone}
use Rattle.history_model.specs.Bytes.{Bytes}
use Rattle.history_model.specs.Forms.{is_name, is_private}
use Rattle.history_model.specs.Places.{file_at, packed_place, log_place}
use Rattle.history_model.specs.Repository.{Repository, id_at}
use Rattle.history_model.proofs.FormatLemmas.{records_alike}
use Rattle.history_model.proofs.IdLemmas.{apart_ids, one_id}
use Rattle.history_layout.specs.EditSteps.{MovedName, edited_names}
use Rattle.history_layout.specs.TreeHalves.{HoldsNames}
use Rattle.history_edits.specs.Bridges.{ReadsAs, removals, root_base}
use Rattle.history_edits.specs.EditCommits.{AreMovesOf, IsLineFor, PutsName, RemovesName}
use Rattle.history_edits.specs.EditPlans.{AsksMove, AsksDeletion, AreEdits, EditsSay, IsLogged, logging_of}
use Rattle.history_edits.proofs.LinesTold.{line_told}
use Rattle.history_edits.proofs.WholeReads.{names_stand_in_place, reads_whole}

-- ---- acts

-- an update of a reference to an object is `Put`
pub put_line : (alone : Bool) (act : Act) → alone ≡ false → IsUpdateBy AndReference alone act → (line : Option (Vec ℕ Global)) × (act ≡ Put line)
put_line alone (Put line) never is = (line, refl)
put_line alone (Note line) never is = absurd is
put_line alone (Pack line) never is = cc (sym is ∙ never)
put_line alone Remove never is = absurd is
put_line alone Forget never is = absurd is

removal : (act : Act) → IsDeletionBy AndReference act → act ≡ Remove
removal (Put line) is = absurd is
removal (Note line) is = absurd is
removal (Pack line) is = absurd is
removal Remove is = refl
removal Forget is = absurd is

never_alone : (name : Bytes) (new : Points) (id : Id) → new ≡ ToObject id → is_packed_alone false name new ≡ false
never_alone name new id is = ap (is_packed_alone false name) is

-- ---- what a name held before

pub id_held : (kind : Kind) (read : Bytes → RefState) (held : Option Id) (name : Bytes) → ReadsAs held (read name) → end_id kind (follow read 5 [] name (read name)) ≡ unwrap_or held (null_id kind)
id_held kind read None name e = ap (λ state. end_id kind (follow read 5 [] name state)) e
id_held kind read (Some id) name e = ap (λ state. end_id kind (follow read 5 [] name state)) e.1

-- ---- one name

module _ (r : Repository) (tree locked : Tree) (kept : Option (List Record)) (committer : Option ActorRef) (h : HoldsNames tree r) (keeps : KeepsFile r.kind (file_at tree packed_place) kept) where
  abbrev l : Logging
  l = logging_of r.kind kept committer tree

  module _ (m : MovedName) (edit : RefEdit) (made : Move) (named : is_name m.name ≡ true) (logged : IsLogged r committer m) (asks : AsksMove m edit)
      (plan : IsPlanOf (root_base r.kind) false edit made) (holds : HoldsText edit.change made.act (lock_path_of made) locked) (lined : IsLineOf l (has_log (root_base r.kind) tree edit.name) edit.name edit.change (line_in made.act)) where
    place : place_of made ≡ m.name
    place = plan.file ∙ ap (store.place (root_base r.kind)) asks.name ∙ (names_stand_in_place r.kind m.name named).file

    log : log_path_of made ≡ log_place m.name
    log = plan.log ∙ ap (store.log_place (root_base r.kind)) asks.name ∙ (names_stand_in_place r.kind m.name named).log

    acts_so : IsUpdateBy AndReference (is_packed_alone false edit.name (target_view asks.new)) made.act
    acts_so = subst (λ mode. IsUpdateBy mode (is_packed_alone false edit.name (target_view asks.new)) made.act) asks.whole
        (subst (λ change. IsActOf false edit.name change made.act) asks.change plan.act)

    put : (line : Option (Vec ℕ Global)) × (made.act ≡ Put line)
    put = put_line (is_packed_alone false edit.name (target_view asks.new)) made.act (never_alone edit.name (target_view asks.new) m.entry.after asks.target) acts_so

    text : file_at locked (lock_path_of made) ≡ Some (loose_text (ToObject m.entry.after))
    text = subst (λ change. HoldsText change made.act (lock_path_of made) locked) asks.change holds (subst IsPut (sym put.1) tt) ∙ ap (λ new. Some (loose_text new)) asks.target

    before : id_before l edit.name ≡ m.entry.before
    before = ap (id_before l) asks.name ∙ id_held r.kind l.read (id_at r m.name) m.name (reads_whole r tree kept m.name h keeps named) ∙ sym logged.before

    line_so : IsLineIf (not (id_eq m.entry.before m.entry.after)) l edit.name asks.log m.entry.after put.0
    line_so = subst (λ (b : Id). IsLineIf (not (id_eq b m.entry.after)) l edit.name asks.log m.entry.after put.0) before
        (subst (λ new. IsUpdateLine l (has_log (root_base r.kind) tree edit.name) edit.name asks.log new put.0) asks.target
        (subst (λ act. IsUpdateLine l (has_log (root_base r.kind) tree edit.name) edit.name asks.log (target_view asks.new) (line_in act)) put.1
        (subst (λ change. IsLineOf l (has_log (root_base r.kind) tree edit.name) edit.name change (line_in made.act)) asks.change lined)))

    by_line : (line : Option (Vec ℕ Global)) → m.entry.before ≢ m.entry.after → IsLineBy (Some logged.who) m.entry.before m.entry.after m.entry.message line → IsLineFor m line
    by_line None differ is = absurd is
    by_line (Some one) differ is = (differ, line_told m.entry logged.who one.items logged.formed logged.commits is)

    told : (b : Bool) → id_eq m.entry.before m.entry.after ≡ b → IsLineIf (not b) l edit.name asks.log m.entry.after put.0 → IsLineFor m put.0
    told true same is = subst (IsLineFor m) (sym is) (one_id m.entry.before m.entry.after same)
    told false apart is = by_line put.0 (λ same. apart_ids m.entry.before m.entry.after apart same)
        (subst (λ (o : Option ActorRef). IsLineBy o m.entry.before m.entry.after m.entry.message put.0) logged.given
        (subst (λ (id : Id). IsLineBy committer id m.entry.after m.entry.message put.0) before
        (subst (λ (text : Bytes). IsLineBy committer (id_before l edit.name) m.entry.after text put.0) asks.message is)))

    puts : PutsName m locked made
    puts = record { line = put.0; act = put.1; place = place; log = log; text = text; told = told (id_eq m.entry.before m.entry.after) refl line_so }

  -- ---- all of them

  last_moves : (name : Bytes) (edit : RefEdit) (made : Move) → is_name name ≡ true → AsksDeletion name edit → IsPlanOf (root_base r.kind) false edit made → RemovesName name made
  last_moves name edit made named asks plan = record {
    act = removal made.act (subst (λ change. IsActOf false edit.name change made.act) asks.change plan.act);
    place = plan.file ∙ ap (store.place (root_base r.kind)) asks.name_is ∙ (names_stand_in_place r.kind name named).file;
    log = plan.log ∙ ap (store.log_place (root_base r.kind)) asks.name_is ∙ (names_stand_in_place r.kind name named).log;
  }

  pub all_move : (moved : List MovedName) (taken : Option Bytes) (edits : List RefEdit) (moves : List Move) → AllByRecursion (λ name. is_name name ≡ true) (edited_names moved taken)
      → AllByRecursion (IsLogged r committer) moved → AreEdits moved taken edits
      → AllPlanned (root_base r.kind) false edits moves → AllHold locked edits moves → AllLined l (root_base r.kind) tree edits moves → AreMovesOf moved taken locked moves
  all_move [] None [] [] named logged asks plans hold lined = refl
  all_move [] None [] (made ∷ moves) named logged asks plans hold lined = absurd plans
  all_move [] None (edit ∷ edits) moves named logged asks plans hold lined = cc
  all_move [] (Some name) [] moves named logged asks plans hold lined = absurd asks
  all_move [] (Some name) (edit ∷ edits) [] named logged asks plans hold lined = absurd plans
  all_move [] (Some name) (edit ∷ edits) (made ∷ moves) named logged asks plans hold lined =
      (last_moves name edit made named.0 asks.0 plans.0, none_left edits moves asks.1 plans.1)
    where
      none_left : (edits : List RefEdit) (moves : List Move) → edits ≡ [] → AllPlanned (root_base r.kind) false edits moves → moves ≡ []
      none_left [] [] is plans = refl
      none_left [] (made ∷ moves) is plans = absurd plans
      none_left (edit ∷ edits) moves is plans = cc
  all_move (m ∷ moved) taken [] moves named logged asks plans hold lined = absurd asks
  all_move (m ∷ moved) taken (edit ∷ edits) [] named logged asks plans hold lined = absurd plans
  all_move (m ∷ moved) taken (edit ∷ edits) (made ∷ moves) named logged asks plans hold lined = (
    puts m edit made named.0 logged.0 asks.0 plans.0 hold.0 lined.0,
    all_move moved taken edits moves named.1 logged.1 asks.1 plans.1 hold.1 lined.1,
  )

-- ---- what edits say of records

pub update_says : (log : LogChange) (expected : PreviousValue) (new : Target) (edit : RefEdit) (own : Option Line) → edit.change ≡ Update log expected new → SaysOfRecord None edit own → own ≡ None
update_says log expected new edit own change says = go (packed_key edit.name) (subst (λ c. SaysByKey None c (packed_key edit.name) own) change says)
  where
    go : (key : Option Bytes) → SaysByKey None (Update log expected new) key own → own ≡ None
    go None is = is
    go (Some key) is = is

deletion_says : (name : Bytes) (edit : RefEdit) (own : Option Line) → is_name name ≡ true → AsksDeletion name edit → SaysOfRecord None edit own → option_to_list own ≡ removals name
deletion_says name edit own named asks says = go (is_private name)
    (subst (λ key. SaysByKey None (Delete asks.expected AndReference) key own) (ap packed_key asks.name_is ∙ records_alike name named)
    (subst (λ change. SaysByKey None change (packed_key edit.name) own) asks.change says))
  where
    go : (b : Bool) → SaysByKey None (Delete asks.expected AndReference) (cond b None (Some name)) own → option_to_list own ≡ cond b [] (record { name = name; says = None } ∷ [])
    go true is = ap option_to_list is
    go false is = ap option_to_list is

pub edits_say : EditsSay
edits_say [] None [] lines named asks say = say
edits_say [] None (edit ∷ edits) lines named asks say = cc
edits_say [] (Some name) [] lines named asks say = absurd asks
edits_say [] (Some name) (edit ∷ edits) lines named asks (own, rest, says, more, is) =
    is ∙ ap (λ ls. option_to_list own ++ ls) (none_more edits rest asks.1 more) ∙ append-nil (option_to_list own) ∙ deletion_says name edit own named.0 asks.0 says
  where
    none_more : (edits : List RefEdit) (rest : List Line) → edits ≡ [] → SayOfRecords None edits rest → rest ≡ []
    none_more [] rest none more = more
    none_more (edit ∷ edits) rest none more = cc
edits_say (m ∷ moved) taken [] lines named asks say = absurd asks
edits_say (m ∷ moved) taken (edit ∷ edits) lines named asks (own, rest, says, more, is) =
    is ∙ ap (λ o. option_to_list o ++ rest) (update_says asks.0.log asks.0.expected asks.0.new edit own asks.0.change says) ∙ edits_say moved taken edits rest named.1 asks.1 more
