use Rattle.std.proofs.Common.{◌∙◌, ◌+◌, ap, sym, subst, Bor, List, ℕ, [], drop, get_or, refl}
use Rattle.std.specs.Prelude.{Contains}
use Rattle.std.proofs.lemmas.List.{drop_all}
use Rattle.std.proofs.lemmas.Result.{err_from_is_err_and}
use Rattle.gix_hash.specs.Id.{id_of}
use Rattle.history_model.specs.Objects.{entry_at}
use Rattle.history_model.proofs.WholeSteps.{in_contains}
use Rattle.history_files.specs.NamedTrees.{IsNext, texts}
use Rattle.history_files.specs.declared.found.Found.TheVariants.{Folder}
use Rattle.history_files.proofs.AtNames.{Leads, from_root, in_texts, next_name}
use Rattle.history_files.proofs.NamesKept.{last_there, next_none, next_some, own_next}
use Rattle.history_files.proofs.named_trees.Answers.follow.Goals as goal

pub loop-name-init : goal.loop-name-init
loop-name-init g c = (
  λ honest answers. answers,
  refl,
  λ text can honest kind files is.
      let table = g.S.Lookup.table c.args.store.now in
      subst (λ parts. Leads table kind (Folder c.args.root.now) parts (entry_at kind files text)) (sym can.split) (from_root table kind (id_of c.args.root.now) files is c.args.root.now refl text),
)

pub loop-name-preserved : goal.loop-name-preserved
loop-name-preserved g c =
    let table = g.S.Lookup.table c.args.store.now in
    let path = c.args.path.now in
    let at = c.loop-name.name-index in
    let none : Bor (List ℕ) = record { ref_ptr = (0, 0); now = [] } in
    let name = (get_or path at none).now in
    let so = c.loop-name.invariant in (
      λ honest answers. c.in_ok-next.ensures.kept honest (so.0 honest answers),
      ◌∙◌ {A = List (Bor (List ℕ))} c.in_ok-next.ensures.names so.1,
      λ text can honest kind files is.
          let among = subst (λ names. Contains (texts names) name) (sym so.1) (can.among name (in_contains (texts path) name (in_texts path at none c.loop-name-test.true))) in
          let leads = subst (λ parts. Leads table kind c.loop-name.found parts (entry_at kind files text)) (next_name path at none c.loop-name-test.true) (so.2 text can honest kind files is) in
          let step = subst (λ next. IsNext table c.loop-name.found name next) c.in-Some.is (c.in_ok-next.ensures.found honest (so.0 honest can.kept) among) in
          next_some table kind c.loop-name.found c.in-Some.next name (texts (drop (at + 1) path)) (entry_at kind files text) leads step,
    )

pub returns-in_err-next-clause-refused : goal.returns-in_err-next-clause-refused
returns-in_err-next-clause-refused g c = λ text can honest kind files is.
    let table = g.S.Lookup.table c.args.store.now in
    let p = err_from_is_err_and c.from_residual.result c.from_residual.ensures.1 in
    rw (p.1, p.2) (own_next table kind (g.S.Lookup.is_honest c.args.store.now) _ honest c.loop-name.found _ _ (c.loop-name.invariant.2 text can honest kind files is) c.in_err-next.ensures.refused)

pub returns-in_err-next-clause-names : goal.returns-in_err-next-clause-names
returns-in_err-next-clause-names g c = ◌∙◌ {A = List (Bor (List ℕ))} c.in_err-next.ensures.names c.loop-name.invariant.1

pub returns-in-None-clause-found : goal.returns-in-None-clause-found
returns-in-None-clause-found g c = λ text can honest kind files is.
    let table = g.S.Lookup.table c.args.store.now in
    let path = c.args.path.now in
    let at = c.loop-name.name-index in
    let none : Bor (List ℕ) = record { ref_ptr = (0, 0); now = [] } in
    let name = (get_or path at none).now in
    let so = c.loop-name.invariant in
    let among = subst (λ names. Contains (texts names) name) (sym so.1) (can.among name (in_contains (texts path) name (in_texts path at none c.loop-name-test.true))) in
    let leads = subst (λ parts. Leads table kind c.loop-name.found parts (entry_at kind files text)) (next_name path at none c.loop-name-test.true) (so.2 text can honest kind files is) in
    let step = subst (λ next. IsNext table c.loop-name.found name next) c.in-None.is (c.in_ok-next.ensures.found honest (so.0 honest can.kept) among) in
    sym (next_none table kind c.loop-name.found name (texts (drop (at + 1) path)) (entry_at kind files text) leads step)

pub returns-in-None-clause-kept : goal.returns-in-None-clause-kept
returns-in-None-clause-kept g c = λ honest answers. c.in_ok-next.ensures.kept honest (c.loop-name.invariant.0 honest answers)

pub returns-in-None-clause-names : goal.returns-in-None-clause-names
returns-in-None-clause-names g c = ◌∙◌ {A = List (Bor (List ℕ))} c.in_ok-next.ensures.names c.loop-name.invariant.1

pub returns-clause-found : goal.returns-clause-found
returns-clause-found g c = λ text can honest kind files is.
    let table = g.S.Lookup.table c.args.store.now in
    last_there table kind c.loop-name.found (entry_at kind files text)
    (subst (λ parts. Leads table kind c.loop-name.found parts (entry_at kind files text)) (ap texts (drop_all c.loop-name.name-index c.args.path.now c.loop-name-test.false)) (c.loop-name.invariant.2 text can honest kind files is))

pub returns-clause-kept : goal.returns-clause-kept
returns-clause-kept g c = c.loop-name.invariant.0
