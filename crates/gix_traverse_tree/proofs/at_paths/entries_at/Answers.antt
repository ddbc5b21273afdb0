use Rattle.std.proofs.Common.{◌≡◌, ◌∙◌, sym, ap, subst, map, length, ◌<◌, [], List, ℕ, Bor, get_or}
use Rattle.std.specs.Prelude.{option_map}
use Rattle.std.proofs.lemmas.Result.{err_from_is_err_and}
use Rattle.gix_hash.specs.Id.{id_of}
use Rattle.gix_object_lookup.specs.Path.{Path}
use Rattle.gix_traverse_tree.specs.AtPaths.{names_of, TellsEach}
use Rattle.gix_traverse_tree.specs.Known.{known, item_named, ReadsBelow, StopsReading}
use Rattle.gix_traverse_tree.specs.declared.folders.Folder.{Folder}
use Rattle.gix_traverse_tree.proofs.Answering.{asks_whole, asks_read, tells_each, asks_stopped, fault, numbers_inside}
use Rattle.gix_traverse_tree.proofs.at_paths.entries_at.Goals as goal

pub returns-in_err-read_all-clause-asked : goal.returns-in_err-read_all-clause-asked
returns-in_err-read_all-clause-asked g c =
    let H = g.F.Lookup.is_honest c.args.objects in
    let M = g.F.Lookup.may_fail c.args.objects in
    let table = g.F.Lookup.table c.args.objects in
    let found = c.read_all.new.self.found.items in
    let root = ap (option_map (item_named [])) c.in_err-read_all.ensures.root ∙ c.in_ok-begin.ensures.root in
    let stopped = subst (λ (folders : List Folder). StopsReading H M table folders found c.read_all.new.self.asked c.in_err-read_all.field-0.0) c.as_slice.ensures.value c.in_err-read_all.ensures.stopped in
    asks_stopped H M table (id_of c.args.root) (map (λ (path : Bor (List ℕ)). names_of path.now) c.args.paths.now) c.in_ok-numbers.numbers.items c.number_paths.new.folders.items found c.read_all.new.self.asked c.in_ok-numbers.ensures root c.in_err-read_all.field-0.0 stopped

pub returns-in_err-read_all-clause-refused : goal.returns-in_err-read_all-clause-refused
returns-in_err-read_all-clause-refused g c =
    let H = g.F.Lookup.is_honest c.args.objects in
    let M = g.F.Lookup.may_fail c.args.objects in
    let table = g.F.Lookup.table c.args.objects in
    let found = c.read_all.new.self.found.items in
    let root = ap (option_map (item_named [])) c.in_err-read_all.ensures.root ∙ c.in_ok-begin.ensures.root in
    let stopped = subst (λ (folders : List Folder). StopsReading H M table folders found c.read_all.new.self.asked c.in_err-read_all.field-0.0) c.as_slice.ensures.value c.in_err-read_all.ensures.stopped in
    let p = err_from_is_err_and c.from_residual-in_err-read_all.result c.from_residual-in_err-read_all.ensures.1 in
    rw (p.1, p.2) (fault H M table (id_of c.args.root) (map (λ (path : Bor (List ℕ)). names_of path.now) c.args.paths.now) c.in_ok-numbers.numbers.items c.number_paths.new.folders.items found c.read_all.new.self.asked c.in_ok-numbers.ensures root c.in_err-read_all.field-0.0 stopped)

pub answers-requires : goal.answers-requires
answers-requires g c = λ k d lt.
    let folders = c.number_paths.new.folders.items in
    let numbers = c.in_ok-numbers.numbers.items in
    let all : length c.read_all.new.self.found.items ≡ length folders =
    c.in_ok-read_all.ensures.len ∙ c.in_ok-begin.ensures.len ∙ c.len.ensures ∙ sym c.as_slice.ensures.len ∙ ap (λ (fs : List Folder). length fs) c.as_slice.ensures.value in
    subst (λ (ns : List ℕ). get_or ns k d < length c.read_all.new.self.found.items) (sym c.as_slice-2.ensures.value)
    (subst (λ n. get_or numbers k d < n) (sym all)
    (numbers_inside folders (map (λ (path : Bor (List ℕ)). names_of path.now) c.args.paths.now) numbers c.in_ok-numbers.ensures.have k d (subst (λ (ns : List ℕ). k < length ns) c.as_slice-2.ensures.value lt)))

pub returns-in_err-answers-clause-asked : goal.returns-in_err-answers-clause-asked
returns-in_err-answers-clause-asked g c =
    let H = g.F.Lookup.is_honest c.args.objects in
    let M = g.F.Lookup.may_fail c.args.objects in
    let table = g.F.Lookup.table c.args.objects in
    let found = c.read_all.new.self.found.items in
    let root = ap (option_map (item_named [])) c.in_ok-read_all.ensures.root ∙ c.in_ok-begin.ensures.root in
    let read = subst (λ (folders : List Folder). ReadsBelow H table folders found c.read_all.new.self.asked (length folders)) c.as_slice.ensures.value c.in_ok-read_all.ensures.read in
    asks_read H M table (id_of c.args.root) (map (λ (path : Bor (List ℕ)). names_of path.now) c.args.paths.now) c.in_ok-numbers.numbers.items c.number_paths.new.folders.items found c.read_all.new.self.asked c.in_ok-numbers.ensures root read

pub returns-clause-told : goal.returns-clause-told
returns-clause-told g c =
    let H = g.F.Lookup.is_honest c.args.objects in
    let M = g.F.Lookup.may_fail c.args.objects in
    let table = g.F.Lookup.table c.args.objects in
    let found = c.read_all.new.self.found.items in
    let paths : List Path = map (λ (path : Bor (List ℕ)). names_of path.now) c.args.paths.now in
    let root = ap (option_map (item_named [])) c.in_ok-read_all.ensures.root ∙ c.in_ok-begin.ensures.root in
    let read = subst (λ (folders : List Folder). ReadsBelow H table folders found c.read_all.new.self.asked (length folders)) c.as_slice.ensures.value c.in_ok-read_all.ensures.read in
    subst (TellsEach H table (id_of c.args.root) paths) (sym (c.in_ok-answers.ensures ∙ ap (λ (ns : List ℕ). map (known found) ns) c.as_slice-2.ensures.value))
    (tells_each H M table (id_of c.args.root) paths c.in_ok-numbers.numbers.items c.number_paths.new.folders.items found c.read_all.new.self.asked c.in_ok-numbers.ensures root read)

pub returns-clause-asked : goal.returns-clause-asked
returns-clause-asked g c =
    let H = g.F.Lookup.is_honest c.args.objects in
    let M = g.F.Lookup.may_fail c.args.objects in
    let table = g.F.Lookup.table c.args.objects in
    let found = c.read_all.new.self.found.items in
    let root = ap (option_map (item_named [])) c.in_ok-read_all.ensures.root ∙ c.in_ok-begin.ensures.root in
    let read = subst (λ (folders : List Folder). ReadsBelow H table folders found c.read_all.new.self.asked (length folders)) c.as_slice.ensures.value c.in_ok-read_all.ensures.read in
    asks_read H M table (id_of c.args.root) (map (λ (path : Bor (List ℕ)). names_of path.now) c.args.paths.now) c.in_ok-numbers.numbers.items c.number_paths.new.folders.items found c.read_all.new.self.asked c.in_ok-numbers.ensures root read

pub returns-clause-whole : goal.returns-clause-whole
returns-clause-whole g c =
    let H = g.F.Lookup.is_honest c.args.objects in
    let M = g.F.Lookup.may_fail c.args.objects in
    let table = g.F.Lookup.table c.args.objects in
    let found = c.read_all.new.self.found.items in
    let root = ap (option_map (item_named [])) c.in_ok-read_all.ensures.root ∙ c.in_ok-begin.ensures.root in
    let read = subst (λ (folders : List Folder). ReadsBelow H table folders found c.read_all.new.self.asked (length folders)) c.as_slice.ensures.value c.in_ok-read_all.ensures.read in
    asks_whole H M table (id_of c.args.root) (map (λ (path : Bor (List ℕ)). names_of path.now) c.args.paths.now) c.in_ok-numbers.numbers.items c.number_paths.new.folders.items found c.read_all.new.self.asked c.in_ok-numbers.ensures root read
