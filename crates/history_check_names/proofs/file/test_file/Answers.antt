use Rattle.std.proofs.Common.{◌≡◌, inl, inr, rules, false, true, bytes_eq}
use Rattle.history_check_objects.specs.Stored.{facts_in}
use Rattle.history_model.specs.Bytes.{begins}
use Rattle.history_model.specs.Forms.{refs_front}
use Rattle.history_model.specs.Places.{head_place, packed_place, is_lock_file, is_log_place}
use Rattle.history_check_names.proofs.Told.{stray_file}
use Rattle.history_check_names.proofs.file.test_file.Goals as goal

pub returns-then-eq-clause-sound : goal.returns-then-eq-clause-sound
returns-then-eq-clause-sound g c = λ honest text at. let same : c.args.path.items ≡ head_place = search rules in inl same

pub returns-then-eq-2-clause-sound : goal.returns-then-eq-2-clause-sound
returns-then-eq-2-clause-sound g c = λ honest text at. let same : c.args.path.items ≡ packed_place = search rules in inr (inl same)

pub returns-then-ends_with-clause-wrong : goal.returns-then-ends_with-clause-wrong
returns-then-ends_with-clause-wrong g c = λ honest there. let lock : is_lock_file c.args.path.items ≡ true = search rules in (there, lock)

pub returns-then-starts_with-2-clause-sound : goal.returns-then-starts_with-2-clause-sound
returns-then-starts_with-2-clause-sound g c = λ honest. c.test_log_file.ensures.sound (facts_in c.args.stored.now) honest

pub returns-then-starts_with-2-clause-wrong : goal.returns-then-starts_with-2-clause-wrong
returns-then-starts_with-2-clause-wrong g c = λ honest there.
    c.test_log_file.ensures.wrong (facts_in c.args.stored.now) honest there

pub returns-clause-wrong : goal.returns-clause-wrong
returns-clause-wrong g c = λ honest there.
    let path = c.args.path.items in
    let head : bytes_eq path head_place ≡ false = search rules in
    let packed : bytes_eq path packed_place ≡ false = search rules in
    let lock : is_lock_file path ≡ false = search rules in
    let refs : begins refs_front path ≡ false = search rules in
    let log : is_log_place path ≡ false = search rules in
    stray_file (g.F.Files.history c.args.files.now).tree path there head packed lock refs log
