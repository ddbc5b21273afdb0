use Rattle.std.proofs.Common.{[], arith, option_map, subst, sym, take, unwrap_or}
use Rattle.std.proofs.lemmas.List.{take_all}
use Rattle.gix_ref_format.specs.PackedKept.{kept}
use Rattle.history_edits.specs.PackPlans.{AsksToPack}
use Rattle.history_store.specs.Packed.{records_of}
use Rattle.history_store.proofs.NamesPacked.{grown_records, none_asked}
use Rattle.history_store.proofs.names.Names.edits_to_pack.Goals as goal

pub loop-named-init : goal.loop-named-init
loop-named-init g c = λ honest.
    subst (AsksToPack (g.F.Files.history c.args.self.now.store.files).tree (unwrap_or (option_map kept c.args.self.now.packed) []) []) (sym c.new-edits.ensures.items)
    (none_asked (g.F.Files.history c.args.self.now.store.files).tree (unwrap_or (option_map kept c.args.self.now.packed) []))

pub loop-named-preserved : goal.loop-named-preserved
loop-named-preserved g c = λ honest.
    let tree = (g.F.Files.history c.args.self.now.store.files).tree in
    let records = unwrap_or (option_map kept c.args.self.now.packed) [] in
    let names = c.args.names.now in
    let i = c.loop-named.named-index in
    subst (λ es. AsksToPack tree records es c.add_edit.new.edits.items) (sym (grown_records names i c.named-item.result c.named-item.result c.loop-named-test.true c.named-item.is))
    (c.in_ok-add_edit.ensures.asks honest (records_of (take i names)) (c.loop-named.invariant honest))

pub returns-clause-asks : goal.returns-clause-asks
returns-clause-asks g c = λ honest.
    let tree = (g.F.Files.history c.args.self.now.store.files).tree in
    let records = unwrap_or (option_map kept c.args.self.now.packed) [] in
    subst (λ ns. AsksToPack tree records (records_of ns) c.loop-named.edits.items) (take_all c.loop-named.named-index c.args.names.now (omega (arith, c.loop-named-test.false))) (c.loop-named.invariant honest)
