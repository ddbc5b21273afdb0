use Rattle.std.proofs.Common.{◌≡◌, ◌∙◌, ◌++◌, ◌∷◌, [], sym, ap, refl, length, take, true, false, Some, Ok, Err, Result, OnErr, rules}
use Rattle.std.specs.FinMap as map
use Rattle.std.specs.Prelude.{unwrap_or, is_some}
use Rattle.gix_ref_file.specs.Tree.{file, bytes_at, bytes_of}
use Rattle.gix_ref_file.specs.Nodes.{node_of}
use Rattle.gix_ref_file.specs.declared.memory.record.Undo.TheVariants.{Shorten}
use Rattle.gix_ref_file.proofs.Moved.{append_undone, inserted_same}
use Rattle.gix_ref_file.proofs.Rooted.{bytes_stand}
use Rattle.gix_ref_file.proofs.Undone.{steps, history_from}
use Rattle.gix_ref_file.proofs.memory.MemoryFiles.lengthen.Goals as goal

on_err : {T E : Type 0} (P : Type 0) (r : Result T E) → P → OnErr r P
on_err P (Ok x) p = tt
on_err P (Err e) p = p

pub returns-in_default-clause-found : goal.returns-in_default-clause-found
returns-in_default-clause-found c rooted = ap (λ o. is_some (bytes_of o)) c.in_default.ensures.value ∙ ap is_some (bytes_stand c.args.self.now.nodes c.args.path.now rooted)

pub returns-then-not-is_file-clause-found : goal.returns-then-not-is_file-clause-found
returns-then-not-is_file-clause-found c rooted =
    let isnt : false ≡ is_some (bytes_of (Some (node_of c.in-Some.entry.now))) = search rules in
    isnt ∙ ap (λ o. is_some (bytes_of o)) c.in-Some.ensures.value ∙ ap is_some (bytes_stand c.args.self.now.nodes c.args.path.now rooted)

pub returns-then-not-is_file-clause-none : goal.returns-then-not-is_file-clause-none
returns-then-not-is_file-clause-none c _ = ap (history_from c.args.self.now.past.items) (inserted_same c.args.self.now.nodes c.args.path.now _ (sym c.in-Some.ensures.value))

pub returns-in_err-reserve-clause-err : goal.returns-in_err-reserve-clause-err
returns-in_err-reserve-clause-err c =
    on_err _ c.from_residual.result (λ i. history_from (c.reserve.ensures.items i) (inserted_same c.args.self.now.nodes c.args.path.now _ (sym c.in-Some.ensures.value) i))

pub returns-in_err-kept-clause-err : goal.returns-in_err-kept-clause-err
returns-in_err-kept-clause-err c =
    on_err _ c.from_residual-in_err-kept.result (λ i. history_from (c.reserve.ensures.items i) (inserted_same c.args.self.now.nodes c.args.path.now _ (sym c.in-Some.ensures.value) i))

pub returns-in_err-len-clause-err : goal.returns-in_err-len-clause-err
returns-in_err-len-clause-err c =
    let back = ap (map.insert c.args.self.now.nodes c.args.path.now) c.in_err-len.ensures.err ∙ inserted_same c.args.self.now.nodes c.args.path.now _ (sym c.in-Some.ensures.value) in
    on_err _ c.from_residual-in_err-len.result (λ i. history_from (c.reserve.ensures.items i) (back i))

pub returns-clause-found : goal.returns-clause-found
returns-clause-found c rooted =
    let is : true ≡ is_some (bytes_of (Some (node_of c.in-Some.entry.now))) = search rules in
    is ∙ ap (λ o. is_some (bytes_of o)) c.in-Some.ensures.value ∙ ap is_some (bytes_stand c.args.self.now.nodes c.args.path.now rooted)

pub returns-clause-longer : goal.returns-clause-longer
returns-clause-longer c rooted _ =
    let t = c.args.self.now.nodes in
    let path = c.args.path.now in
    let is : true ≡ is_some (bytes_of (Some (node_of c.in-Some.entry.now))) = search rules in
    let stored = ap bytes_of c.in-Some.ensures.value ∙ bytes_stand t path rooted in
    let there = sym (is ∙ ap is_some stored) in
    let kept : c.in_ok-kept.kept.items ≡ path = search rules in
    let done = ap (map.insert t path) c.in_ok-len.ensures.ok ∙ ap (λ o. map.insert t path (file (unwrap_or o [] ++ c.args.bytes.now))) stored in
    let len_is = c.in_ok-len.ensures.before ∙ ap (λ o. length (unwrap_or o [])) stored in
    let undo = Shorten c.in_ok-kept.kept c.in_ok-len.len in
    let longer = map.insert t path (file (bytes_at t path ++ c.args.bytes.now)) in
    steps _ _ _ _ undo _ done
    (c.push_reserved.ensures.items ∙ ap (λ us. us ++ undo ∷ []) c.reserve.ensures.items)
    ((λ i. map.insert longer (kept i) (file (take (len_is i) (bytes_at longer (kept i)))))
    ∙ append_undone t longer path c.args.bytes.now there refl)
