use Rattle.gix_ref_file.proofs.Histories.{adds_nothing}
use Rattle.history_recovery.proofs.Ends.{objects_now}
use Rattle.history_recovery.proofs.Stood.{pairs_alike, last_alike}
use Rattle.history_recovery.proofs.recovering.recover.Goals as goal

pub returns-clause-recovered : goal.returns-clause-recovered
returns-clause-recovered g c = λ honest_objects honest_names.
    let objects = c.in_ok-remove_unfinished.ensures.recovered honest_objects in
    let names = c.in_ok-recover_names.ensures.recovered honest_names in
    λ i. record { objects = objects i; names = names i }

pub returns-in_err-remove_unfinished-clause-stops : goal.returns-in_err-remove_unfinished-clause-stops
returns-in_err-remove_unfinished-clause-stops g c = λ honest_objects honest_names.
    let objects = g.F.Files.history c.args.objects.now in
    let names = g.F.Files.history c.args.names.now in
    let new = g.F.Files.history c.remove_unfinished.new.objects in
    let alike = c.remove_unfinished.ensures.alike honest_objects in
    pairs_alike c.args.kind objects names new names alike (adds_nothing names) (objects_now objects new alike)

pub returns-in_err-recover_names-clause-stops : goal.returns-in_err-recover_names-clause-stops
returns-in_err-recover_names-clause-stops g c = λ honest_objects honest_names.
    let objects = g.F.Files.history c.args.objects.now in
    let names = g.F.Files.history c.args.names.now in
    let new = g.F.Files.history c.remove_unfinished.new.objects in
    let alike = c.remove_unfinished.ensures.alike honest_objects in
    pairs_alike c.args.kind objects names new (g.F.Files.history c.recover_names.new.names) alike (c.recover_names.ensures.alike honest_names) (objects_now objects new alike)

pub returns-clause-stops : goal.returns-clause-stops
returns-clause-stops g c = λ honest_objects honest_names.
    let objects = g.F.Files.history c.args.objects.now in
    let names = g.F.Files.history c.args.names.now in
    let new = g.F.Files.history c.remove_unfinished.new.objects in
    let alike = c.remove_unfinished.ensures.alike honest_objects in
    pairs_alike c.args.kind objects names new (g.F.Files.history c.recover_names.new.names) alike (c.recover_names.ensures.alike honest_names) (objects_now objects new alike)

pub returns-in_err-remove_unfinished-clause-left : goal.returns-in_err-remove_unfinished-clause-left
returns-in_err-remove_unfinished-clause-left g c = λ honest_objects honest_names.
    let objects = g.F.Files.history c.args.objects.now in
    let names = g.F.Files.history c.args.names.now in
    let new = g.F.Files.history c.remove_unfinished.new.objects in
    let alike = c.remove_unfinished.ensures.alike honest_objects in
    last_alike c.args.kind objects names new names alike (adds_nothing names) (objects_now objects new alike)

pub returns-in_err-recover_names-clause-left : goal.returns-in_err-recover_names-clause-left
returns-in_err-recover_names-clause-left g c = λ honest_objects honest_names.
    let objects = g.F.Files.history c.args.objects.now in
    let names = g.F.Files.history c.args.names.now in
    let new = g.F.Files.history c.remove_unfinished.new.objects in
    let alike = c.remove_unfinished.ensures.alike honest_objects in
    last_alike c.args.kind objects names new (g.F.Files.history c.recover_names.new.names) alike (c.recover_names.ensures.alike honest_names) (objects_now objects new alike)

pub returns-clause-left : goal.returns-clause-left
returns-clause-left g c = λ honest_objects honest_names.
    let objects = g.F.Files.history c.args.objects.now in
    let names = g.F.Files.history c.args.names.now in
    let new = g.F.Files.history c.remove_unfinished.new.objects in
    let alike = c.remove_unfinished.ensures.alike honest_objects in
    last_alike c.args.kind objects names new (g.F.Files.history c.recover_names.new.names) alike (c.recover_names.ensures.alike honest_names) (objects_now objects new alike)
