use Rattle.std.proofs.Common.{rules, ◌≡◌, ◌∙◌, List, sym, ap, subst, arith}
use Rattle.std.proofs.lemmas.Result.{err_from_is_err_and}
use Rattle.gix_hash.specs.declared.object_id.ObjectId.{ObjectId}
use Rattle.gix_traverse_graph.specs.Commits.{asked}
use Rattle.gix_traverse_graph.specs.Rows.{AllHeld}
use Rattle.gix_traverse_commit_known.specs.Told.{rows_of}
use Rattle.gix_traverse_graph.specs.declared.rows.Row.{Row}
use Rattle.gix_traverse_graph.specs.Numbered.{same_id}
use Rattle.gix_traverse_topo.specs.Turns.{times}
use Rattle.gix_traverse_topo.specs.Walking.{Meets, Names}
use Rattle.gix_traverse_topo.specs.declared.known.Node.{Node}
use Rattle.gix_traverse_topo.proofs.Walking.{meets_longer, names_put}
use Rattle.gix_traverse_topo.proofs.Meeting.{row_met, met_held, asked_held}
use Rattle.gix_traverse_topo.proofs.Flagged.{first_same, hidden_same}
use Rattle.gix_traverse_topo.proofs.known.Known.visit.Goals as goal

pub returns-clause-held : goal.returns-clause-held
returns-clause-held g c = λ holds held.
    let rows : List Row = rows_of c.args.source.now.rows in
    let keys : List ObjectId = c.args.self.now.ids.keys in
    let names : List ObjectId = c.asked_of.result.now in
    let all : c.as_slice.result.now ≡ c.in_ok-facts.facts.parents.items = search rules in
    let names_held : AllHeld rows names = subst (λ (zs : List ObjectId). AllHeld rows zs) (sym (c.asked_of.ensures ∙ ap (asked c.args.along) all)) (asked_held rows c.args.along c.in_ok-facts.facts.parents.items (c.in_ok-facts.ensures.closed holds)) in
    met_held rows names keys c.name_all.new.self.ids.keys (row_met keys c.name_all.new.self.ids.keys names c.in_ok-name_all.ensures.meets.met) held names_held

pub returns-clause-visited : goal.returns-clause-visited
returns-clause-visited g c =
    let keys : List ObjectId = c.args.self.now.ids.keys in
    let nodes : List Node = c.args.self.now.nodes.items in
    let keys' : List ObjectId = c.name_all.new.self.ids.keys in
    let middle : List Node = c.name_all.new.self.nodes.items in
    let all : c.as_slice.result.now ≡ c.in_ok-facts.facts.parents.items = search rules in
    let row : c.asked_of.result.now ≡ asked c.args.along c.in_ok-facts.facts.parents.items = c.asked_of.ensures ∙ ap (asked c.args.along) all in
    record {
      facts = c.in_ok-facts.facts;
      is_read = c.in_ok-facts.ensures.read;
      placed = c.in_ok-put_facts.ensures.put;
      others = λ k other apart a. c.put_facts.ensures.others k other apart (c.in_ok-name_all.ensures.meets.told k other a);
      middle = middle;
      meets = subst (λ (zs : List ObjectId). Meets zs keys nodes keys' middle) row c.in_ok-name_all.ensures.meets;
      many = c.put_facts.ensures.as_many;
      names = names_put (λ y. times (same_id y) (asked c.args.along c.in_ok-facts.facts.parents.items)) keys nodes keys' middle c.put_facts.new.nodes.items c.put_facts.ensures.counts
          (subst (λ (zs : List ObjectId). Names (λ y. times (same_id y) zs) keys nodes keys' middle) row c.in_ok-name_all.ensures.names);
    }

pub returns-in_err-put_facts-clause-refused : goal.returns-in_err-put_facts-clause-refused
returns-in_err-put_facts-clause-refused g c =
    let p = err_from_is_err_and c.from_residual-in_err-put_facts.result c.from_residual-in_err-put_facts.ensures.1 in
    let longer = meets_longer c.asked_of.result.now c.args.self.now.ids.keys c.args.self.now.nodes.items c.name_all.new.self.ids.keys c.name_all.new.self.nodes.items c.in_ok-name_all.ensures.meets in
    rw (p.1, p.2) (λ many less. absurd (let out = c.in_err-put_facts.ensures.refused in omega arith))

pub returns-clause-hidden : goal.returns-clause-hidden
returns-clause-hidden g c = hidden_same c.name_all.new.self.nodes.items c.put_facts.new.nodes.items c.put_facts.ensures.flags ∙ c.name_all.ensures.hidden

pub returns-in_err-put_facts-clause-hidden : goal.returns-in_err-put_facts-clause-hidden
returns-in_err-put_facts-clause-hidden g c = hidden_same c.name_all.new.self.nodes.items c.put_facts.new.nodes.items c.put_facts.ensures.flags ∙ c.name_all.ensures.hidden

pub invariant_of-self : goal.invariant_of-self
invariant_of-self g c = record { hidden_first = first_same c.name_all.new.self.nodes.items c.put_facts.new.nodes.items c.put_facts.ensures.flags c.name_all.new.self.hidden_first }
