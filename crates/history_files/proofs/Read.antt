-- Trees that are read are one.
use Rattle.std.proofs.Common.{◌≡◌, ◌∙◌, ap, sym, subst, List}
use Rattle.gix_hash.specs.Id.{Id}
use Rattle.gix_object_lines.specs.declared.kind.Kind.TheVariants as objects
use Rattle.gix_object_tree.specs.Entry.{Item, SpellsTree}
use Rattle.gix_object_tree.proofs.TreeLaws.{one_tree}
use Rattle.gix_object_any.specs.Object.{Tree}
use Rattle.gix_object_lookup.specs.Table.{Table, Object}
use Rattle.gix_object_find.specs.Values.{StandsAs}
use Rattle.history_files.specs.Reading.{TreeFault, RootFault}
use Rattle.history_files.specs.declared.error.ReadError.{ReadError}
use Rattle.history_files.specs.declared.error.ReadError.TheVariants.{Failed, Broken, Memory}
use Rattle.std.proofs.lemmas.Option.{same_Some}

pub same_tree : (table : Table) (id : Id) (a b : List Item) → StandsAs table id objects.Tree (Tree a) → StandsAs table id objects.Tree (Tree b) → a ≡ b
same_tree table id a b one other =
    let content = ap (λ (x : Object). x.content) (same_Some _ _ (sym one.1 ∙ other.1)) in
    one_tree id.kind other.0 a b (subst (λ c. SpellsTree id.kind c a) content one.2.spelled) other.2.spelled

-- a tree that isn't read isn't opened
pub not_opened : (honest may_fail : Type 0) (table : Table) (id : Id) (error : ReadError) → TreeFault honest may_fail table id error → RootFault honest may_fail table id error
not_opened honest may_fail table id Failed h = h
not_opened honest may_fail table id (Broken oid) h = (h.0, λ answers items stands fine. h.1 answers items stands)
not_opened honest may_fail table id Memory h = tt
