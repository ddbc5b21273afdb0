-- Why a commit's time isn't read, and what it is then.
use Rattle.std.proofs.Common.{◌≡◌, ℕ, inl, inr, List, refl, sym, ap, ◌∙◌, Option, Some, None, Result, Ok, Err, ℤ, pos, take, Bool, true, false}
use Rattle.std.specs.Prelude.{unwrap_or, ◌≢◌, Contains}
use Rattle.std.specs.Result.{result_ok}
use Rattle.gix_hash.specs.Id.{Id, id_of}
use Rattle.gix_hash.specs.declared.object_id.ObjectId.{ObjectId}
use Rattle.gix_object_lookup.specs.Existing.{Stands, KindFault}
use Rattle.gix_object_lookup.specs.Table.{Table, kind_at}
use Rattle.gix_object_lookup.specs.declared.find.Error.TheVariants as lookup
use Rattle.gix_object_lookup.specs.declared.find.existing_iter.Error as existing_iter
use Rattle.gix_object_lookup.specs.declared.find.existing_iter.Error.TheVariants as iter_case
use Rattle.gix_object_lines.specs.declared.decode.Error as decode
use Rattle.gix_object_lines.specs.declared.kind.Kind as object
use Rattle.gix_object_lines.specs.declared.kind.Kind.TheVariants as kinds
use Rattle.gix_traverse_graph.specs.Commits.{Commits}
use Rattle.gix_traverse_commit_known.specs.Fetching.{TimeFault, TimeIsTold, find_error}
use Rattle.gix_traverse_graph.specs.Rows.{Holds}
use Rattle.gix_traverse_commit_known.specs.Faults.{IsFirstUnread, TipFault, error_of}
use Rattle.gix_traverse_commit_known.specs.Timely.{CountsAs}
use Rattle.gix_traverse_commit_known.specs.Told.{AreTold}
use Rattle.gix_traverse_commit_known.specs.declared.fetch.FetchError.{FetchError}
use Rattle.gix_traverse_commit_known.specs.declared.fetch.FetchError.TheVariants as fault
use Rattle.gix_traverse_commit_known.specs.Nodes.{Node, is_met}
use Rattle.gix_traverse_graph.specs.declared.rows.Row.{Row}
use Rattle.gix_traverse_commit_known.specs.declared.faults.Error.{Error}
use Rattle.gix_traverse_commit_known.specs.declared.faults.Error.TheVariants as simple
use Rattle.gix_traverse_graph.specs.Order.{At}
use Rattle.gix_traverse_graph.proofs.Lists.{at_from_contains, at_from_take, contains_from_at}

pub time_fault : (honest may_fail : Type 0) (rows : List Row) (table : Table) (id : ObjectId) (e : existing_iter.Error) → (¬ Holds rows id) → KindFault honest may_fail table (id_of id) kinds.Commit e → TimeFault honest may_fail rows table id (find_error e)
time_fault honest may_fail rows table id (iter_case.Find lookup.Memory) h k = tt
time_fault honest may_fail rows table id (iter_case.Find lookup.Failed) h k = (h, k)
time_fault honest may_fail rows table id (iter_case.NotFound oid) h k = (h, k)
time_fault honest may_fail rows table id (iter_case.ObjectKind oid actual expected) h k = (h, k)

-- a commit that isn't found counts with the time 0
pub counts_zero : (honest may_fail : Type 0) (rows : List Row) (table : Table) (g : Commits ObjectId) (id : ObjectId) (e : existing_iter.Error) → honest → AreTold rows table g → (¬ Holds rows id) → KindFault honest may_fail table (id_of id) kinds.Commit e → find_error e ≢ fault.Memory → CountsAs may_fail g id (pos 0)
counts_zero honest may_fail rows table g id (iter_case.Find lookup.Memory) t told h k n = absurd (n refl)
counts_zero honest may_fail rows table g id (iter_case.Find lookup.Failed) t told h k n = inr (refl, k)
counts_zero honest may_fail rows table g id (iter_case.NotFound oid) t told h k n = inl (sym (told.missing id h (λ content s. let e = k.1 t in let z : ⊥ = cc in z)))
counts_zero honest may_fail rows table g id (iter_case.ObjectKind oid actual expected) t told h k n = inl (sym (told.missing id h (λ content s. k.2 (other content s))))
  where
    in_object : Option object.Kind → object.Kind
    in_object None = kinds.Commit
    in_object (Some kind) = kind

    other : (content : List ℕ) → Stands table (id_of id) kinds.Commit content → actual ≡ kinds.Commit
    other content s = let e = k.3 t in let f : kind_at table (id_of id) ≡ Some kinds.Commit = rw s refl in ap in_object (sym e ∙ f)

pub zero_unread : (r : Result ℤ decode.Error) (e : decode.Error) (n : ℤ) → r ≡ Err e → unwrap_or (result_ok r) (pos 0) ≡ n → n ≡ pos 0
zero_unread r e n is h = sym (rw is at h)

pub time_read : (r : Result ℤ decode.Error) (v n : ℤ) → r ≡ Ok v → unwrap_or (result_ok r) (pos 0) ≡ n → v ≡ n
time_read r v n is h = rw is at h

pub tip_fault : (honest may_fail : Type 0) (rows : List Row) (table : Table) (tips : List ObjectId) (wanted : ObjectId → Type 0) (id : ObjectId) (place : ℕ) (e : FetchError) → At tips place id → wanted id → (honest → (x : ObjectId) → Contains (take place tips) x → wanted x → TimeIsTold rows table x) → TimeFault honest may_fail rows table id e → TipFault honest may_fail rows table tips wanted (error_of e)
tip_fault honest may_fail rows table tips wanted id place (fault.Find error) a w before h = record { id = id; place = place; at = a; is_wanted = w; cause = h; before = before }
tip_fault honest may_fail rows table tips wanted id place (fault.ObjectDecode error) a w before h = record { id = id; place = place; at = a; is_wanted = w; cause = h; before = before }
tip_fault honest may_fail rows table tips wanted id place fault.Memory a w before h = tt

-- those of the tips are wanted that are wanted otherwise
module _ (honest may_fail : Type 0) (rows : List Row) (table : Table) (tips : List ObjectId) (wanted wanted' : ObjectId → Type 0) (to : (x : ObjectId) → Contains tips x → wanted x → wanted' x) (from : (x : ObjectId) → Contains tips x → wanted' x → wanted x) where
  first_unread : (e : FetchError) → IsFirstUnread honest may_fail rows table tips wanted e → IsFirstUnread honest may_fail rows table tips wanted' e
  first_unread e f = record {
    id = f.id;
    place = f.place;
    at = f.at;
    is_wanted = to f.id (contains_from_at tips f.place f.id f.at) f.is_wanted;
    cause = f.cause;
    before = λ h x c w. f.before h x c (from x (taken f.place x c) w);
  }
    where
      taken : (n : ℕ) (x : ObjectId) → Contains (take n tips) x → Contains tips x
      taken n x c = let (k, a) = at_from_contains (take n tips) x c in contains_from_at tips k x (at_from_take tips n k x a).1

  pub tip_fault_more : (e : Error) → TipFault honest may_fail rows table tips wanted e → TipFault honest may_fail rows table tips wanted' e
  tip_fault_more (simple.Find error) f = first_unread (fault.Find error) f
  tip_fault_more (simple.ObjectDecode error) f = first_unread (fault.ObjectDecode error) f
  tip_fault_more (simple.HiddenGraph error) f = f
  tip_fault_more simple.Memory f = tt

-- no predicate refuses what isn't met
pub met_or_accepted : (accepts : Id → Bool) (nodes : List Node) (x : ObjectId) → (is_met nodes x ≡ true → accepts (id_of x) ≡ false) → accepts (id_of x) ≡ true → is_met nodes x ≡ false
met_or_accepted accepts nodes x refused e = go (is_met nodes x) refl
  where
    go : (b : Bool) → is_met nodes x ≡ b → is_met nodes x ≡ false
    go false m = m
    go true m = let f = refused m in let z : ⊥ = cc in absurd z
