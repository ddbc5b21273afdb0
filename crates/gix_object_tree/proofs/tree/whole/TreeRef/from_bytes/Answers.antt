use Rattle.std.proofs.Common.{◌≡◌, ◌∙◌, ap, sym, subst, ℕ, true, List, [], ◌∷◌, ◌++◌, length, map, inr, if◌then◌else◌, rules}
use Rattle.std.specs.Prelude.{is_ok}
use Rattle.std.proofs.lemmas.List.{map-append}
use Rattle.std.proofs.lemmas.Result.{err_from_is_err_and}
use Rattle.gix_object_tree.specs.Entry.{item_of, SpellsEntries, SpellsTree, SpellsNoEntry}
use Rattle.gix_object_tree.proofs.Spelled.{read_first, must_be, empty_of, append_none, none_left, entries_more}
use Rattle.gix_object_tree.proofs.tree.whole.TreeRef.from_bytes.Goals as goal

pub returns-in_err-entry-clause-every : goal.returns-in_err-entry-clause-every
returns-in_err-entry-clause-every c = λ items whole.
    let later = read_first c.args.hash_kind c.args.content.now (map item_of c.entries.entries.items) c.entries.rest.now items c.entries.invariant whole in
    let none : SpellsNoEntry c.args.hash_kind c.entries.rest.now = λ item rest is. let h = c.in_err-entry.ensures.every item rest is in cc in
    let test = c.entries-test.true in
    let tested = c.is_empty.ensures in
    let left : c.entries.rest.now ≡ [] → ⊥ = λ e. let long : length c.entries.rest.now ≡ 0 = ap (λ (t : List ℕ). length t) e in search rules in
    absurd (must_be c.args.hash_kind c.entries.rest.now later.0 left later.2 none)

pub returns-in_err-entry-clause-refused : goal.returns-in_err-entry-clause-refused
returns-in_err-entry-clause-refused c =
    let p = err_from_is_err_and c.from_residual.result c.from_residual.ensures.1 in
    let none : SpellsNoEntry c.args.hash_kind c.entries.rest.now = λ item rest is. let h = c.in_err-entry.ensures.every item rest is in cc in
    rw (p.1, p.2) (inr (record {
      items = map item_of c.entries.entries.items;
      rest = c.entries.rest.now;
      spelled = c.entries.invariant;
      left = none;
      fault = c.in_err-entry.ensures.refused;
    }))

pub entries-preserved : goal.entries-preserved
entries-preserved c =
    let ok : is_ok c.push.result ≡ true = search rules in
    let pushed = c.push.ensures.items ∙ ap (λ b. if b then c.entries.entries.items ++ c.in_ok-entry.entry ∷ [] else c.entries.entries.items) ok in
    subst (λ xs. SpellsEntries c.args.hash_kind c.args.content.now xs c.in_ok-entry.after.now)
    (sym (ap (map item_of) pushed ∙ map-append item_of c.entries.entries.items (c.in_ok-entry.entry ∷ [])))
    (entries_more c.args.hash_kind c.args.content.now (map item_of c.entries.entries.items) c.entries.rest.now (item_of c.in_ok-entry.entry) c.in_ok-entry.after.now c.entries.invariant c.in_ok-entry.ensures.read)

pub returns-clause-every : goal.returns-clause-every
returns-clause-every c = λ items whole.
    let later = read_first c.args.hash_kind c.args.content.now (map item_of c.entries.entries.items) c.entries.rest.now items c.entries.invariant whole in
    let test = c.entries-test.false in
    let tested = c.is_empty.ensures in
    let long : length c.entries.rest.now ≡ 0 = search rules in
    let nothing = none_left c.args.hash_kind later.0 (subst (λ t. SpellsTree c.args.hash_kind t later.0) (empty_of c.entries.rest.now long) later.2) in
    sym (later.1 ∙ ap (λ more. map item_of c.entries.entries.items ++ more) nothing ∙ append_none (map item_of c.entries.entries.items))
