-- How far the entries of a tree are shown, in breadth order.
use Rattle.std.proofs.Common.{◌≡◌, ◌≢◌, ◌∙◌, sym, ap, subst, ℕ, Bool, List, [], ◌++◌, Option, Some, Ok, Err, map, refl, append_assoc}
use Rattle.std.specs.declared.ops.ControlFlow.TheVariants.{Continue, Break}
use Rattle.std.proofs.lemmas.List.{map-append, append-nil}
use Rattle.gix_hash.specs.Id.{Id, id_of}
use Rattle.gix_hash.specs.declared.kind.Kind.{Kind}
use Rattle.gix_object_lines.specs.declared.decode.Error as decode
use Rattle.gix_object_tree.specs.Entry.{Item, item_of, SpellsEntry, SpellsNoEntry, EntryFault}
use Rattle.gix_object_tree.specs.Reading.{Place, Steps}
use Rattle.gix_object_tree.specs.declared.tree.entry.EntryRef.{EntryRef}
use Rattle.gix_traverse_tree.specs.Breadth.{Listing, none, entry, ended, unread, behind, queued_id}
use Rattle.gix_traverse_tree.specs.Calls.{Call, Runs, shown, descends}
use Rattle.gix_traverse_tree.specs.Nodes.{node_under, Queues, ShowsListing, StopsListing}
use Rattle.gix_traverse_tree.specs.Trees.{End, whole, failed}
use Rattle.gix_traverse_tree.specs.declared.breadthfirst.Node.{Node}
use Rattle.gix_traverse_tree.specs.declared.error.Error.TheVariants.{Cancelled, ObjectDecode}
use Rattle.gix_traverse_tree.proofs.Called.{runs_more}

pub queues_none : (above : Option ℕ) (nodes : List Node) → Queues above nodes nodes []
queues_none above nodes = ([], refl, sym (append-nil nodes))

pub queues_more : (above : Option ℕ) (a b c : List Node) (xs ys : List Id) → Queues above a b xs → Queues above b c ys → Queues above a c (xs ++ ys)
queues_more above a b c xs ys (first, named, put) (second, named2, put2) = (
  first ++ second,
  map-append id_of first second ∙ (λ i. named i ++ named2 i),
  put2 ∙ ap (λ (ns : List Node). ns ++ map (node_under above) second) put
      ∙ append_assoc a (map (node_under above) first) (map (node_under above) second)
      ∙ ap (λ (ns : List Node). a ++ ns) (sym (map-append (node_under above) first second)),
)

-- what was shown from `start` on; `now` is still to be shown
pub record Listed {S : Type 0} (G : S → Call → S → Type 0) (ids : Kind) (start now : List ℕ) (above : Option ℕ) (before : S) (nodes : List Node) (after : S) (queued : List Node) : Type 0 where
  pub calls : List Call
  pub below : List Id
  pub runs : Runs G before calls after
  pub queues : Queues above nodes queued below
  pub later : (more : List Call) (deeper : List Id) (end : End) → Listing ids now more deeper end → Listing ids start (calls ++ more) (below ++ deeper) end

module _ {S : Type 0} (G : S → Call → S → Type 0) (ids : Kind) (above : Option ℕ) where
  pub listed_start : (start : List ℕ) (before : S) (nodes : List Node) → Listed G ids start start above before nodes before nodes
  listed_start start before nodes = record {
    calls = [];
    below = [];
    runs = refl;
    queues = queues_none above nodes;
    later = λ more deeper end l. l;
  }

  pub listed_entry : (start now next : List ℕ) (before after again : S) (nodes queued more_queued : List Node) (item : Item) (answer : Bool) → Listed G ids start now above before nodes after queued
      → SpellsEntry ids now item next
      → Runs G after (shown item (Continue answer) ++ behind item (descends item (Continue answer))) again
      → Queues above queued more_queued (queued_id item (descends item (Continue answer)))
      → Listed G ids start next above before nodes again more_queued
  listed_entry start now next before after again nodes queued more_queued item answer so spelled runs queues =
      let told = shown item (Continue answer) ++ behind item (descends item (Continue answer)) in
      let id = queued_id item (descends item (Continue answer)) in
      record {
        calls = so.calls ++ told;
        below = so.below ++ id;
        runs = runs_more G so.calls told before after again so.runs runs;
        queues = queues_more above nodes queued more_queued so.below id so.queues queues;
        later = λ more deeper end l.
            let step = so.later (shown item (Continue answer) ++ (behind item (descends item (Continue answer)) ++ more)) (id ++ deeper) end (entry answer spelled l) in
            let e = ap (λ (cs : List Call). so.calls ++ cs) (sym (append_assoc (shown item (Continue answer)) (behind item (descends item (Continue answer))) more)) ∙ sym (append_assoc so.calls told more) in
            let f = sym (append_assoc so.below id deeper) in
            subst (λ (cs : List Call). Listing ids start cs ((so.below ++ id) ++ deeper) end) e
            (subst (λ (bs : List Id). Listing ids start (so.calls ++ (shown item (Continue answer) ++ (behind item (descends item (Continue answer)) ++ more))) bs end) f step);
      }

  pub listed_done : (start now : List ℕ) (before after : S) (nodes queued : List Node) → now ≡ [] → Listed G ids start now above before nodes after queued → ShowsListing G ids start above before nodes after queued
  listed_done start now before after nodes queued e so =
      let end = so.later [] [] whole (subst (λ (t : List ℕ). Listing ids t [] [] whole) (sym e) none) in
      let a = subst (λ (cs : List Call). Listing ids start cs (so.below ++ []) whole) (append-nil so.calls) end in
      (so.calls, so.below, so.runs, subst (λ (bs : List Id). Listing ids start so.calls bs whole) (append-nil so.below) a, so.queues)

  pub listed_ended : (start now next : List ℕ) (before after last : S) (nodes queued : List Node) (item : Item) → Listed G ids start now above before nodes after queued → SpellsEntry ids now item next
      → Runs G after (shown item (Break tt)) last → StopsListing G ids start before last Cancelled
  listed_ended start now next before after last nodes queued item so spelled runs =
      (so.calls ++ shown item (Break tt), so.below ++ [], runs_more G so.calls (shown item (Break tt)) before after last so.runs runs, so.later (shown item (Break tt)) [] (failed Cancelled) (ended spelled))

  pub listed_unread : (start now : List ℕ) (before after : S) (nodes queued : List Node) (error : decode.Error) → Listed G ids start now above before nodes after queued
      → now ≢ [] → SpellsNoEntry ids now → EntryFault ids now error → StopsListing G ids start before after (ObjectDecode error)
  listed_unread start now before after nodes queued error so some nothing fault =
      (so.calls ++ [], so.below ++ [], runs_more G so.calls [] before after after so.runs refl, so.later [] [] (failed (ObjectDecode error)) (unread some nothing fault))

  -- the same, as the reader of entries gives them
  pub step_entry : (start : List ℕ) (at next : Place) (shows : EntryRef) (before after again : S) (nodes queued more_queued : List Node) (answer : Bool) → at.kind ≡ ids
      → Listed G ids start at.input above before nodes after queued → Steps at (Some (Ok shows)) next
      → Runs G after (shown (item_of shows) (Continue answer) ++ behind (item_of shows) (descends (item_of shows) (Continue answer))) again
      → Queues above queued more_queued (queued_id (item_of shows) (descends (item_of shows) (Continue answer)))
      → Listed G ids start next.input above before nodes again more_queued
  step_entry start at next shows before after again nodes queued more_queued answer e so steps =
      listed_entry start at.input next.input before after again nodes queued more_queued (item_of shows) answer so (subst (λ (k : Kind). SpellsEntry k at.input (item_of shows) next.input) e steps.1)

  pub step_ended : (start : List ℕ) (at next : Place) (shows : EntryRef) (before after last : S) (nodes queued : List Node) → at.kind ≡ ids
      → Listed G ids start at.input above before nodes after queued → Steps at (Some (Ok shows)) next
      → Runs G after (shown (item_of shows) (Break tt)) last → StopsListing G ids start before last Cancelled
  step_ended start at next shows before after last nodes queued e so steps =
      listed_ended start at.input next.input before after last nodes queued (item_of shows) so (subst (λ (k : Kind). SpellsEntry k at.input (item_of shows) next.input) e steps.1)

  pub step_unread : (start : List ℕ) (at next : Place) (error : decode.Error) (before after : S) (nodes queued : List Node) → at.kind ≡ ids
      → Listed G ids start at.input above before nodes after queued → Steps at (Some (Err error)) next → StopsListing G ids start before after (ObjectDecode error)
  step_unread start at next error before after nodes queued e so steps =
      listed_unread start at.input before after nodes queued error so steps.0 (subst (λ (k : Kind). SpellsNoEntry k at.input) e steps.1) (subst (λ (k : Kind). EntryFault k at.input error) e steps.2)
