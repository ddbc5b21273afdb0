use Rattle.std.proofs.Common.{◌≡◌, ◌∙◌, refl, sym, subst, rules, true, [], Some, arith, List, ℕ, Option}
use Rattle.std.specs.Prelude.{MatchBool, None}
use Rattle.std.proofs.lemmas.Result.{err_from_is_err_and}
use Rattle.gix_hash.specs.Id.{id_of}
use Rattle.gix_object_tree.specs.Order.{is_tree}
use Rattle.gix_object_tree.specs.Reading.{place_of, start}
use Rattle.gix_object_lookup.specs.Path.{IsNamedBy}
use Rattle.gix_traverse_tree.specs.AtPaths.{Answer}
use Rattle.gix_traverse_tree.specs.Folders.{number_in}
use Rattle.gix_traverse_tree.specs.Known.{known, item_named, ReadFault}
use Rattle.gix_traverse_tree.specs.declared.error.Error.TheVariants.{ObjectDecode}
use Rattle.gix_traverse_tree.proofs.Stepping.{known_at, steps_read}
use Rattle.gix_traverse_tree.proofs.at_paths.EntriesState.read.Goals as goal

pub returns-in_err-record_all_found-clause-refused : goal.returns-in_err-record_all_found-clause-refused
returns-in_err-record_all_found-clause-refused g c =
    let H = g.F.Lookup.is_honest c.args.objects.now in
    let M = g.F.Lookup.may_fail c.args.objects.now in
    let table = g.F.Lookup.table c.args.objects.now in
    let found = c.args.self.now.found.items in
    let answer : Answer = (c.in-Some.mode, c.in-Some.id) in
    let place : known found c.args.number ≡ Some answer = known_at found c.args.number c.index.result.now c.requires.within ∙ sym c.index.ensures ∙ c.in-Some.is in
    let of_tree : is_tree (item_named [] answer) ≡ true = search rules in
    let some = subst (λ b. MatchBool b ((name : List ℕ) → number_in c.args.folder.now name ≡ None) ((name : List ℕ) × (n : ℕ) × (number_in c.args.folder.now name ≡ Some n))) c.if-is_empty.false c.is_empty.ensures in
    let content = c.read_tree.new.buffer.items in
    let same : place_of c.from_bytes-entries.result ≡ start (id_of c.in-Some.id).kind content = c.from_bytes-entries.ensures ∙ (λ i. start (c.kind.ensures i) (c.as_slice.ensures.value i)) in
    let named = subst (IsNamedBy H table (item_named [] answer)) (sym same) (λ h. (refl, c.in_ok-read_tree.ensures.found h)) in
    let p = err_from_is_err_and c.from_residual-in_err-record_all_found.result c.from_residual-in_err-record_all_found.ensures.1 in
    rw (p.1, p.2) (subst (λ (o : Option Answer). ReadFault H M table c.args.folder.now o (ObjectDecode c.in_err-record_all_found.field-0.0)) (sym place) ((of_tree, some), (place_of c.from_bytes-entries.result, named, c.in_err-record_all_found.ensures.refused)))

pub returns-clause-steps : goal.returns-clause-steps
returns-clause-steps g c =
    let H = g.F.Lookup.is_honest c.args.objects.now in
    let table = g.F.Lookup.table c.args.objects.now in
    let found = c.args.self.now.found.items in
    let now = c.record_all_found.new.found.items in
    let answer : Answer = (c.in-Some.mode, c.in-Some.id) in
    let kept : known now c.args.number ≡ known found c.args.number = c.in_ok-record_all_found.ensures.others.others c.args.number (λ name e. let lt = c.requires.later name c.args.number e in absurd (omega arith)) in
    let place : known now c.args.number ≡ Some answer = kept ∙ known_at found c.args.number c.index.result.now c.requires.within ∙ sym c.index.ensures ∙ c.in-Some.is in
    let of_tree : is_tree (item_named [] answer) ≡ true = search rules in
    let content = c.read_tree.new.buffer.items in
    let same : place_of c.from_bytes-entries.result ≡ start (id_of c.in-Some.id).kind content = c.from_bytes-entries.ensures ∙ (λ i. start (c.kind.ensures i) (c.as_slice.ensures.value i)) in
    let named = subst (IsNamedBy H table (item_named [] answer)) (sym same) (λ h. (refl, c.in_ok-read_tree.ensures.found h)) in
    steps_read H table c.args.folder.now answer (known now c.args.number) (place_of c.from_bytes-entries.result) now place of_tree named c.in_ok-record_all_found.ensures.told
