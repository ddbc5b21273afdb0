use Rattle.std.proofs.Common.{refl, sym, subst}
use Rattle.history_model.specs.Commands.{Delete, Move, Pack, Rename, Switch}
use Rattle.history_word.specs.Commands.{IsCommandOf}
use Rattle.history.specs.Calls.{StoresAsAsked}
use Rattle.history_word.proofs.Changing.{received_changes}
use Rattle.history.proofs.ActLemmas.{changes_none, commit_read, delete_read, move_read, pack_read, rename_read, switch_read, tag_read}
use Rattle.history.proofs.MovesPlanned.{moves_given}
use Rattle.history.proofs.Puts.{alone_none}
use Rattle.history_word.specs.declared.reader.Received.TheVariants as received
use Rattle.history.proofs.moves.store_objects.Goals as goal

pub returns-in-Commit-clause-stores : goal.returns-in-Commit-clause-stores
returns-in-Commit-clause-stores g c = λ r sent asked.
    let read = commit_read c.in-Commit.command sent (subst (λ x. IsCommandOf x sent) c.in-Commit.is asked.reads) in
    subst (λ o. StoresAsAsked g.F.Files r o c.args.repository.now c.store_commit.new.repository c.store_commit.result) (sym read.1) (c.store_commit.ensures.stores r read.0 (record { serves = asked.serves; reads = read.2 }))

pub returns-in-Tag-clause-stores : goal.returns-in-Tag-clause-stores
returns-in-Tag-clause-stores g c = λ r sent asked.
    let read = tag_read c.in-Tag.command sent (subst (λ x. IsCommandOf x sent) c.in-Tag.is asked.reads) in
    subst (λ o. StoresAsAsked g.F.Files r o c.args.repository.now c.store_tag.new.repository c.store_tag.result) (sym read.1) (c.store_tag.ensures.stores r read.0 asked.serves read.2)

pub returns-in-Move-clause-stores : goal.returns-in-Move-clause-stores
returns-in-Move-clause-stores g c = λ r sent asked.
    let read = move_read c.in-Move.command sent (subst (λ x. IsCommandOf x sent) c.in-Move.is asked.reads) in
    moves_given g.F.Files c.args.repository.now r sent (Move read.0) read.1 refl asked.serves c.plan_together.result (c.plan_together.ensures r read.0 asked.serves read.2)

pub returns-in-Rename-clause-stores : goal.returns-in-Rename-clause-stores
returns-in-Rename-clause-stores g c = λ r sent asked.
    let read = rename_read c.in-Rename.command sent (subst (λ x. IsCommandOf x sent) c.in-Rename.is asked.reads) in
    moves_given g.F.Files c.args.repository.now r sent (Rename read.0 read.1) read.2 refl asked.serves c.plan_renaming.result (c.plan_renaming.ensures r read.0 read.1 asked.serves read.3)

pub returns-in-Delete-clause-stores : goal.returns-in-Delete-clause-stores
returns-in-Delete-clause-stores g c = λ r sent asked.
    let read = delete_read c.in-Delete.command sent (subst (λ x. IsCommandOf x sent) c.in-Delete.is asked.reads) in
    moves_given g.F.Files c.args.repository.now r sent (Delete read.0 read.1) read.2 refl asked.serves c.plan_deletion.result (c.plan_deletion.ensures r read.0 read.1 asked.serves read.3)

pub returns-in-Switch-clause-stores : goal.returns-in-Switch-clause-stores
returns-in-Switch-clause-stores g c = λ r sent asked.
    let read = switch_read c.in-Switch.name sent (subst (λ x. IsCommandOf x sent) c.in-Switch.is asked.reads) in
    moves_given g.F.Files c.args.repository.now r sent (Switch c.in-Switch.name.items) read refl asked.serves c.plan_switch.result (c.plan_switch.ensures r asked.serves)

pub returns-in-Pack-clause-stores : goal.returns-in-Pack-clause-stores
returns-in-Pack-clause-stores g c = λ r sent asked.
    let read = pack_read sent (subst (λ x. IsCommandOf x sent) c.in-Pack.is asked.reads) in
    moves_given g.F.Files c.args.repository.now r sent Pack read refl asked.serves c.plan_pack.result (c.plan_pack.ensures r asked.serves)

-- this clause is only of commands that change files
pub returns-clause-stores : goal.returns-clause-stores
returns-clause-stores g c = λ r sent asked.
    let d = c.in_default in
    absurd (cc (asked.changes, received_changes (received.Command c.args.command) sent asked.reads, changes_none c.args.command d.not-Commit d.not-Tag d.not-Move d.not-Rename d.not-Delete d.not-Switch d.not-Pack))

pub returns-in-Move-clause-alone : goal.returns-in-Move-clause-alone
returns-in-Move-clause-alone g c = alone_none g.F.Files _ c.args.repository.now

pub returns-in-Rename-clause-alone : goal.returns-in-Rename-clause-alone
returns-in-Rename-clause-alone g c = alone_none g.F.Files _ c.args.repository.now

pub returns-in-Delete-clause-alone : goal.returns-in-Delete-clause-alone
returns-in-Delete-clause-alone g c = alone_none g.F.Files _ c.args.repository.now

pub returns-in-Switch-clause-alone : goal.returns-in-Switch-clause-alone
returns-in-Switch-clause-alone g c = alone_none g.F.Files _ c.args.repository.now

pub returns-in-Pack-clause-alone : goal.returns-in-Pack-clause-alone
returns-in-Pack-clause-alone g c = alone_none g.F.Files _ c.args.repository.now
