-- What was read of objects, and of one more.
use Rattle.std.proofs.Common.{◌≡◌, ◌∙◌, ap, refl, sym, subst, Bool, true, false, cond, Option, Some, None, [], List, ℕ, Vec}
use Rattle.std.specs.BTreeMap.{Updates, get, is_at}
use Rattle.std.specs.Map.{lookup}
use Rattle.std.specs.Ordering.{is_eq}
use Rattle.std.specs.declared.cmp.Ordering.{Ordering}
use Rattle.std.specs.declared.alloc.Global.{Global}
use Rattle.std.proofs.lemmas.Option.{same_Some}
use Rattle.std.specs.Prelude.{option_map, ⊤, MatchOption, Result, Ok, Err}
use Rattle.std.specs.FinMap.{get as stored_at}
use Rattle.gix_hash.specs.Id.{Id, id_of}
use Rattle.gix_hash.specs.Order.{id_cmp}
use Rattle.gix_hash.specs.OrderLaws.{id_eq-same, id_tied}
use Rattle.gix_hash.specs.declared.object_id.ObjectId.{ObjectId}
use Rattle.gix_object_lookup.specs.Existing.{Stands}
use Rattle.gix_object_lookup.specs.Table.{Object}
use Rattle.gix_object_lines.specs.declared.kind.Kind.TheVariants as kinds
use Rattle.history_files.specs.Laws.{table_of}
use Rattle.history_model.specs.Objects.{CommitValue, StoredCommit, Value, commit_content, content_of, object_kind}
use Rattle.history_model.specs.Repository.{Repository}
use Rattle.history_walks.specs.ReadCommits.{AreOf, kept_in}
use Rattle.history_walks.specs.declared.read_commits.ReadCommits.{ReadCommits}
use Rattle.history_repository.specs.Known.{AreMeant, contents_in, meant_in}
use Rattle.history_repository.specs.Meant.{HasContent, IsContentOf, IsPeeledBy}
use Rattle.history_repository.specs.declared.read_objects.ReadObjects.{ReadObjects}
use Rattle.history_repository.specs.declared.stored.MeantCommit.{MeantCommit}
use Rattle.history_repository.specs.declared.stored.PeeledCommit.{PeeledCommit}

abbrev pub by_id : ObjectId → ObjectId → Ordering
by_id x y = id_cmp (id_of x) (id_of y)

-- nothing was read
pub none_known : (r : Repository) (read : ReadObjects) → read.peeled.entries ≡ [] → ((id : Id) → kept_in (contents_in read) id ≡ None) → AreMeant r read
none_known r read empty none = record {
  objects = λ id commit is. let e : meant_in read id ≡ None = ap (lookup (is_at (λ key. id_cmp (id_of id) (id_of key)))) empty in let z : ⊥ = cc in absurd z;
  contents = λ x content there. let e = none (id_of x) in let z : ⊥ = cc in absurd z;
}

-- one more is known
pub one_known : (r : Repository) (before now : ReadObjects) (id : ObjectId) (commit : Option PeeledCommit) → Updates by_id before.peeled now.peeled id (Some commit) → contents_in now ≡ contents_in before
    → IsPeeledBy r (id_of id) commit → AreMeant r before → AreMeant r now
one_known r before now id commit put same is are = record {
  objects = λ x found there. by_tie x found there (is_eq (by_id id x)) refl;
  contents = subst (λ (commits : ReadCommits). AreOf (table_of r) (kept_in commits)) (sym same) are.contents;
}
  where
    at : (x : ObjectId) (tied : Bool) → is_eq (by_id id x) ≡ tied → meant_in now x ≡ cond tied (Some commit) (meant_in before x)
    at x tied is = put.0 x ∙ ap (λ b. cond b (Some commit) (meant_in before x)) is

    by_tie : (x : ObjectId) (found : Option PeeledCommit) → meant_in now x ≡ Some found → (tied : Bool) → is_eq (by_id id x) ≡ tied → IsPeeledBy r (id_of x) found
    by_tie x found there true tied =
        subst (λ (i : Id). IsPeeledBy r i found) (id_eq-same (id_of id) (id_of x) (id_tied (id_of id) (id_of x) ∙ tied))
        (subst (IsPeeledBy r (id_of id)) (same_Some commit found (sym (at x true tied) ∙ there)) is)
    by_tie x found there false tied = are.objects x found (sym (at x false tied) ∙ there)

abbrev object_of : Repository → Value → Object
object_of r value = record { kind = object_kind value; content = content_of r.kind value }

-- the content of a stored commit is the table's
pub content_there : (r : Repository) (id : Id) (value : CommitValue) (content : List ℕ) → stored_at r.objects id ≡ Some (StoredCommit value) → content ≡ commit_content r.kind value → Stands (table_of r) id kinds.Commit content
content_there r id value content at is = subst (λ (bytes : List ℕ). Stands (table_of r) id kinds.Commit bytes) (sym is) (ap (option_map (object_of r)) at)

-- one more content is kept
pub one_kept : (r : Repository) (before now : ReadObjects) → now.peeled ≡ before.peeled → AreOf (table_of r) (kept_in (contents_in now)) → AreMeant r before → AreMeant r now
one_kept r before now same kept are = record {
  objects = λ x found there. are.objects x found (ap (λ es. get by_id es x) (sym same) ∙ there);
  contents = kept;
}
