use Rattle.std.proofs.Common.{◌∙◌, ◌+◌, ap, sym, subst, Bor, List, ℕ, [], drop, get_or, refl}
use Rattle.std.proofs.lemmas.Result.{err_from_is_err_and}
use Rattle.gix_hash.specs.Id.{id_of}
use Rattle.history_model.specs.Objects.{entry_at}
use Rattle.history_files.specs.NamedTrees.{texts}
use Rattle.history_files.specs.Reading.{StepsBelow}
use Rattle.history_files.specs.declared.found.Found.TheVariants.{Folder}
use Rattle.history_files.proofs.AtNames.{Leads, from_root, step_none, step_some, own, next_name, name_is_plain}
use Rattle.history_files.proofs.Breaks.{tells_unread}
use Rattle.history_files.proofs.found.entry_at.Goals as goal

pub loop-name-init : goal.loop-name-init
loop-name-init g c = λ honest kind files is.
    let table = g.S.Lookup.table c.args.store.now in
    let names = ap texts c.as_slice-name-items.ensures.value ∙ c.in_ok-names.ensures in
    subst (λ parts. Leads table kind (Folder c.args.root.now) parts (entry_at kind files c.args.path.now)) (sym names) (from_root table kind (id_of c.args.root.now) files is c.args.root.now refl c.args.path.now)

pub returns-in_err-next-clause-refused : goal.returns-in_err-next-clause-refused
returns-in_err-next-clause-refused g c = λ honest kind files is.
    let table = g.S.Lookup.table c.args.store.now in
    let p = err_from_is_err_and c.from_residual-in_err-next.result c.from_residual-in_err-next.ensures.1 in
    rw (p.1, p.2) (own table kind (g.S.Lookup.is_honest c.args.store.now) (g.S.Lookup.may_fail c.args.store.now) honest c.loop-name.found _ _
    (c.loop-name.invariant honest kind files is) _ c.in_err-next.ensures.refused)

pub returns-in-None-clause-found : goal.returns-in-None-clause-found
returns-in-None-clause-found g c = λ honest kind files is.
    let table = g.S.Lookup.table c.args.store.now in
    let items = c.as_slice-name-items.result.now in
    let at = c.loop-name.name-index in
    let none : Bor (List ℕ) = record { ref_ptr = (0, 0); now = [] } in
    let names = ap texts c.as_slice-name-items.ensures.value ∙ c.in_ok-names.ensures in
    let plain = name_is_plain c.args.path.now items names at none c.loop-name-test.true in
    let leads = subst (λ parts. Leads table kind c.loop-name.found parts (entry_at kind files c.args.path.now)) (next_name items at none c.loop-name-test.true) (c.loop-name.invariant honest kind files is) in
    let step = subst (λ next. StepsBelow table c.loop-name.found (get_or items at none).now next) c.in-None.is (c.in_ok-next.ensures.found honest) in
    sym (step_none table kind c.loop-name.found (get_or items at none).now (texts (drop (at + 1) items)) (entry_at kind files c.args.path.now) plain leads step)

pub loop-name-preserved : goal.loop-name-preserved
loop-name-preserved g c = λ honest kind files is.
    let table = g.S.Lookup.table c.args.store.now in
    let items = c.as_slice-name-items.result.now in
    let at = c.loop-name.name-index in
    let none : Bor (List ℕ) = record { ref_ptr = (0, 0); now = [] } in
    let names = ap texts c.as_slice-name-items.ensures.value ∙ c.in_ok-names.ensures in
    let plain = name_is_plain c.args.path.now items names at none c.loop-name-test.true in
    let leads = subst (λ parts. Leads table kind c.loop-name.found parts (entry_at kind files c.args.path.now)) (next_name items at none c.loop-name-test.true) (c.loop-name.invariant honest kind files is) in
    let step = subst (λ next. StepsBelow table c.loop-name.found (get_or items at none).now next) c.in-Some.is (c.in_ok-next.ensures.found honest) in
    step_some table kind c.loop-name.found c.in-Some.next (get_or items at none).now (texts (drop (at + 1) items)) (entry_at kind files c.args.path.now) plain leads step

pub returns-in_err-next-clause-broken : goal.returns-in_err-next-clause-broken
returns-in_err-next-clause-broken g c =
    let store = c.args.store.now in
    let fault = c.in_err-next.ensures.refused in
    let p = err_from_is_err_and c.from_residual-in_err-next.result c.from_residual-in_err-next.ensures.1 in
    rw (p.1, p.2) (tells_unread (g.S.Lookup.is_honest store) (g.S.Lookup.may_fail store) (g.S.Lookup.table store) (id_of fault.0) _ fault.2)
