use Rattle.std.proofs.Common.{subst, Some}
use Rattle.std.proofs.lemmas.Result.{err_from_is_err_and}
use Rattle.gix_object_tree.specs.Reading.{place_of, Steps}
use Rattle.gix_traverse_tree.proofs.Telling.{told_start, told_inside, told_more, told_all, told_unread}
use Rattle.gix_traverse_tree.proofs.at_paths.record_all_found.Goals as goal

pub entries-init : goal.entries-init
entries-init c = told_start (place_of c.args.entries) c.args.folder.now c.args.found.now.items c.requires

pub record_found-requires : goal.record_found-requires
record_found-requires c = told_inside (place_of c.args.entries) c.args.folder.now c.args.found.now.items c.requires (place_of c.entries.rest) c.entries.found.items c.entries.invariant

pub entries-preserved : goal.entries-preserved
entries-preserved c =
    let steps = subst (λ r. Steps (place_of c.entries.rest) (Some r) (place_of c.next.new.self)) c.in_ok-entry.was c.in-Some.ensures.steps in
    told_more (place_of c.args.entries) c.args.folder.now c.args.found.now.items c.requires (place_of c.entries.rest) (place_of c.next.new.self) c.in_ok-entry.entry c.entries.found.items c.record_found.new.found.items c.entries.invariant steps c.record_found.ensures.here c.record_found.ensures.others c.record_found.ensures.len

pub returns-in_err-entry-clause-refused : goal.returns-in_err-entry-clause-refused
returns-in_err-entry-clause-refused c =
    let steps = subst (λ e. Steps (place_of c.entries.rest) (Some e) (place_of c.next.new.self)) c.in_err-entry.was c.in-Some.ensures.steps in
    let p = err_from_is_err_and c.from_residual.result c.from_residual.ensures.1 in
    rw (p.1, p.2) (told_unread (place_of c.args.entries) c.args.folder.now c.args.found.now.items c.requires (place_of c.entries.rest) (place_of c.next.new.self) c.in_err-entry.field-0.0 c.entries.found.items c.entries.invariant steps)

pub returns-in_err-entry-clause-others : goal.returns-in_err-entry-clause-others
returns-in_err-entry-clause-others c = c.entries.invariant.keeps

pub returns-clause-told : goal.returns-clause-told
returns-clause-told c =
    let steps = subst (λ r. Steps (place_of c.entries.rest) r (place_of c.next.new.self)) c.in_default.is c.next.ensures.steps in
    told_all (place_of c.args.entries) c.args.folder.now c.args.found.now.items c.requires (place_of c.entries.rest) c.entries.found.items steps.0 c.entries.invariant

pub returns-clause-others : goal.returns-clause-others
returns-clause-others c = c.entries.invariant.keeps
