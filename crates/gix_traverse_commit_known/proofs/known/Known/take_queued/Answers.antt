use Rattle.std.proofs.Common.{rules, ◌≡◌, ◌∙◌, List, [], ◌∷◌, sym, subst, Option}
use Rattle.std.specs.Prelude.{IfNone}
use Rattle.gix_hash.specs.declared.object_id.ObjectId.{ObjectId}
use Rattle.gix_traverse_commit_known.specs.Known.{HaveNodes, ids_at}
use Rattle.gix_traverse_commit_known.specs.Nodes.{Node, ids_of}
use Rattle.gix_traverse_commit_known.specs.declared.nodes.Number.{Number}
use Rattle.gix_traverse_commit_known.proofs.Pending.{in_head}
use Rattle.std.specs.Prelude.{Contains, slice_get}
use Rattle.gix_traverse_commit_known.proofs.known.Known.take_queued.Goals as goal

-- what is queued has a node
found : (nodes : List Node) (numbers rest : List Number) (n : Number) (P : Type 0) (result : Option ObjectId) → HaveNodes nodes numbers → numbers ≡ n ∷ rest → result ≡ slice_get (ids_of nodes) n.0 → IfNone result P
found nodes numbers rest n P result w first told =
    let (x, a) = w n (subst (λ (ns : List Number). Contains ns n) (sym first) (in_head n rest)) in
    subst (λ (o : Option ObjectId). IfNone o P) (sym (told ∙ a)) tt

pub returns-clause-none : goal.returns-clause-none
returns-clause-none c =
    let first : c.self.inside.queue.items ≡ c.in_ok-number.number ∷ c.pop_front.new.self.items = search rules in
    found c.self.inside.nodes c.self.inside.queue.items c.pop_front.new.self.items c.in_ok-number.number (c.args.self.now.queue ≡ []) c.id.result c.self.invariant.queued first c.id.ensures.id

pub returns-clause-emptied : goal.returns-clause-emptied
returns-clause-emptied c =
    let first : c.self.inside.queue.items ≡ c.in_ok-number.number ∷ c.pop_front.new.self.items = search rules in
    found c.self.inside.nodes c.self.inside.queue.items c.pop_front.new.self.items c.in_ok-number.number (ids_at c.self.inside.nodes c.pop_front.new.self.items ≡ []) c.id.result c.self.invariant.queued first c.id.ensures.id
