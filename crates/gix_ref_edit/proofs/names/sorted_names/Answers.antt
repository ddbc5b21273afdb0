use Rattle.std.proofs.Common.{map, subst, List, ℕ}
use Rattle.std.specs.List.Sorted.{IsPermutation}
use Rattle.std.proofs.lemmas.List.Sorted.{IsPermutation-map}
use Rattle.gix_ref_edit.proofs.NameLemmas.{sorted_now}
use Rattle.gix_ref_edit.proofs.names.sorted_names.Goals as goal

pub returns : goal.returns
returns c = record {
  same = subst (λ (l : List (List ℕ)). IsPermutation l (map (λ name. name.now) c.sort.new.self.items)) c.in_ok-names.ensures
      (IsPermutation-map (λ name. name.now) c.in_ok-names.names.items c.sort.new.self.items c.in_ok-sort.ensures.permutation);
  ascending = sorted_now (λ name. name.now) c.sort.new.self.items c.in_ok-sort.ensures.sorted;
}
