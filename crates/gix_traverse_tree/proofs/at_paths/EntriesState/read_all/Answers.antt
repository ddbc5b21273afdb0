use Rattle.std.proofs.Common.{◌≡◌, ◌∙◌, sym, ap, List, ℕ, ◌≤◌, arith}
use Rattle.std.proofs.lemmas.Result.{err_from_is_err_and}
use Rattle.gix_traverse_tree.specs.Folders.{number_in, numbers_of}
use Rattle.gix_traverse_tree.proofs.Numbering.{folder_at}
use Rattle.gix_traverse_tree.proofs.Stepping.{awaits, later, few, not_later, reads_more, stops}
use Rattle.gix_traverse_tree.proofs.at_paths.EntriesState.read_all.Goals as goal

pub read-requires-clause-awaits : goal.read-requires-clause-awaits
read-requires-clause-awaits g c =
    let folder = c.index-folders-number.result in
    let there : (name : List ℕ) → numbers_of c.args.folders.now c.folders.number name ≡ number_in folder name = λ name. folder_at c.args.folders.now c.folders.number folder name c.folders-test.true ∙ ap (λ f. number_in f name) (sym c.index-folders-number.is) in
    awaits (g.F.Lookup.is_honest c.args.objects.now) (g.F.Lookup.may_fail c.args.objects.now) (g.F.Lookup.table c.args.objects.now) c.args.folders.now c.requires.numbered c.folders.number folder there c.folders.self.found.items c.folders.self.asked c.folders.invariant.reads (c.folders.invariant.len ∙ c.requires.len)

pub read-requires-clause-later : goal.read-requires-clause-later
read-requires-clause-later g c =
    let folder = c.index-folders-number.result in
    let there : (name : List ℕ) → numbers_of c.args.folders.now c.folders.number name ≡ number_in folder name = λ name. folder_at c.args.folders.now c.folders.number folder name c.folders-test.true ∙ ap (λ f. number_in f name) (sym c.index-folders-number.is) in
    later (g.F.Lookup.is_honest c.args.objects.now) (g.F.Lookup.may_fail c.args.objects.now) (g.F.Lookup.table c.args.objects.now) c.args.folders.now c.requires.numbered c.folders.number folder there c.folders.self.found.items c.folders.self.asked c.folders.invariant.reads

pub read-requires-clause-few : goal.read-requires-clause-few
read-requires-clause-few g c =
    let folder = c.index-folders-number.result in
    let there : (name : List ℕ) → numbers_of c.args.folders.now c.folders.number name ≡ number_in folder name = λ name. folder_at c.args.folders.now c.folders.number folder name c.folders-test.true ∙ ap (λ f. number_in f name) (sym c.index-folders-number.is) in
    few (g.F.Lookup.is_honest c.args.objects.now) (g.F.Lookup.may_fail c.args.objects.now) (g.F.Lookup.table c.args.objects.now) c.args.folders.now c.requires.numbered c.folders.number folder there c.folders.self.found.items c.folders.self.asked c.folders.invariant.reads

pub returns-in_err-read-clause-stopped : goal.returns-in_err-read-clause-stopped
returns-in_err-read-clause-stopped g c =
    let folder = c.index-folders-number.result in
    let there : (name : List ℕ) → numbers_of c.args.folders.now c.folders.number name ≡ number_in folder name = λ name. folder_at c.args.folders.now c.folders.number folder name c.folders-test.true ∙ ap (λ f. number_in f name) (sym c.index-folders-number.is) in
    let p = err_from_is_err_and c.from_residual.result c.from_residual.ensures.1 in
    rw (p.1, p.2) (stops (g.F.Lookup.is_honest c.args.objects.now) (g.F.Lookup.may_fail c.args.objects.now) (g.F.Lookup.table c.args.objects.now) c.args.folders.now c.requires.numbered c.folders.number folder there c.folders.self.found.items c.folders.self.asked c.folders.invariant.reads
    c.read.new.self.found.items c.in_err-read.ensures.others c.read.new.self.asked c.in_err-read.field-0.0 c.in_err-read.ensures.asked c.in_err-read.ensures.refused)

pub returns-in_err-read-clause-root : goal.returns-in_err-read-clause-root
returns-in_err-read-clause-root g c =
    let folder = c.index-folders-number.result in
    let there : (name : List ℕ) → numbers_of c.args.folders.now c.folders.number name ≡ number_in folder name = λ name. folder_at c.args.folders.now c.folders.number folder name c.folders-test.true ∙ ap (λ f. number_in f name) (sym c.index-folders-number.is) in
    let first : 0 ≤ c.folders.number = omega arith in
    not_later (g.F.Lookup.is_honest c.args.objects.now) (g.F.Lookup.may_fail c.args.objects.now) (g.F.Lookup.table c.args.objects.now) c.args.folders.now c.requires.numbered c.folders.number folder there c.folders.self.found.items c.folders.self.asked c.folders.invariant.reads
    c.read.new.self.found.items c.in_err-read.ensures.others 0 first ∙ c.folders.invariant.root

pub folders-preserved : goal.folders-preserved
folders-preserved g c =
    let folder = c.index-folders-number.result in
    let there : (name : List ℕ) → numbers_of c.args.folders.now c.folders.number name ≡ number_in folder name = λ name. folder_at c.args.folders.now c.folders.number folder name c.folders-test.true ∙ ap (λ f. number_in f name) (sym c.index-folders-number.is) in
    let first : 0 ≤ c.folders.number = omega arith in
    record {
      len = c.in_ok-read.ensures.others.len ∙ c.folders.invariant.len;
      root = not_later (g.F.Lookup.is_honest c.args.objects.now) (g.F.Lookup.may_fail c.args.objects.now) (g.F.Lookup.table c.args.objects.now) c.args.folders.now c.requires.numbered c.folders.number folder there c.folders.self.found.items c.folders.self.asked c.folders.invariant.reads
          c.read.new.self.found.items c.in_ok-read.ensures.others 0 first ∙ c.folders.invariant.root;
      reads = reads_more (g.F.Lookup.is_honest c.args.objects.now) (g.F.Lookup.may_fail c.args.objects.now) (g.F.Lookup.table c.args.objects.now) c.args.folders.now c.requires.numbered c.folders.number folder there c.folders.self.found.items c.folders.self.asked c.folders.invariant.reads
          c.read.new.self.found.items c.in_ok-read.ensures.others c.read.new.self.asked c.in_ok-read.ensures.asked c.in_ok-read.ensures.steps;
    }
