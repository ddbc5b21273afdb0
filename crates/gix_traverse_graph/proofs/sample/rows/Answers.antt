use Rattle.std.proofs.Common.{ℕ, [], ◌∷◌, refl, zero, suc}
use Rattle.gix_traverse_graph.specs.Sample.{graph_of, history, skewed, line, from_8, from_8_less_7, from_8_less_8, from_8_by_first, from_8_past_6, from_8_since_4, from_3_less_4, from_2_since_4}
use Rattle.gix_traverse_graph.specs.Order.{At}
use Rattle.gix_traverse_graph.proofs.Lists.{at_from_contains, contains_from_at}
use Rattle.gix_traverse_graph.proofs.SampleRows.{slow_is, topological_is, date_is, newest_is, oldest_is}
use Rattle.gix_traverse_graph.proofs.Listing.{breadth_is_one, topological_is_one}
use Rattle.gix_traverse_graph.proofs.sample.rows.Goals as goal

not_there : (k : ℕ) × At {I = ℕ} (2 ∷ []) k 0 → ⊥
not_there (zero, a) = cc
not_there (suc k, a) = cc

pub returns : goal.returns
returns c = record {
  breadth = slow_is history from_8 [] refl (8 ∷ 6 ∷ 7 ∷ 5 ∷ 4 ∷ 3 ∷ 2 ∷ 1 ∷ []) refl;
  breadth_not = λ h. let e = breadth_is_one (graph_of history) from_8 _ _ h (slow_is history from_8 [] refl (8 ∷ 6 ∷ 7 ∷ 5 ∷ 4 ∷ 3 ∷ 2 ∷ 1 ∷ []) refl) in cc;
  hidden = slow_is history from_8_less_7 (7 ∷ 4 ∷ 2 ∷ 1 ∷ []) refl (8 ∷ 6 ∷ 5 ∷ 3 ∷ []) refl;
  hidden_not = λ h. let e = breadth_is_one (graph_of history) from_8_less_7 _ _ h (slow_is history from_8_less_7 (7 ∷ 4 ∷ 2 ∷ 1 ∷ []) refl (8 ∷ 6 ∷ 5 ∷ 3 ∷ []) refl) in cc;
  first = slow_is history from_8_by_first [] refl (8 ∷ 6 ∷ 5 ∷ 3 ∷ 1 ∷ []) refl;
  breadth_refused = slow_is history from_8_past_6 [] refl (8 ∷ 7 ∷ 4 ∷ 2 ∷ 1 ∷ []) refl;
  skewed = slow_is skewed from_3_less_4 (4 ∷ 2 ∷ 1 ∷ 0 ∷ []) refl (3 ∷ []) refl;
  skewed_not = λ h. let e = breadth_is_one (graph_of skewed) from_3_less_4 _ _ h (slow_is skewed from_3_less_4 (4 ∷ 2 ∷ 1 ∷ 0 ∷ []) refl (3 ∷ []) refl) in cc;
  topological = ((8 ∷ 7 ∷ 4 ∷ 2 ∷ 6 ∷ 5 ∷ 3 ∷ 1 ∷ []), topological_is history from_8 [] refl (8 ∷ 6 ∷ 7 ∷ 5 ∷ 4 ∷ 3 ∷ 2 ∷ 1 ∷ []) refl (8 ∷ 7 ∷ 4 ∷ 2 ∷ 6 ∷ 5 ∷ 3 ∷ 1 ∷ []) refl, refl);
  topological_not = λ h. let e = topological_is_one (graph_of history) from_8 _ _ h (((8 ∷ 7 ∷ 4 ∷ 2 ∷ 6 ∷ 5 ∷ 3 ∷ 1 ∷ []), topological_is history from_8 [] refl (8 ∷ 6 ∷ 7 ∷ 5 ∷ 4 ∷ 3 ∷ 2 ∷ 1 ∷ []) refl (8 ∷ 7 ∷ 4 ∷ 2 ∷ 6 ∷ 5 ∷ 3 ∷ 1 ∷ []) refl, refl)) in cc;
  hidden_tip = ([], topological_is history from_8_less_8 (8 ∷ 6 ∷ 7 ∷ 5 ∷ 4 ∷ 3 ∷ 2 ∷ 1 ∷ []) refl [] refl [] refl, refl);
  date = ((8 ∷ 7 ∷ 6 ∷ 5 ∷ 4 ∷ 3 ∷ 2 ∷ 1 ∷ []), date_is history from_8 [] refl (8 ∷ 6 ∷ 7 ∷ 5 ∷ 4 ∷ 3 ∷ 2 ∷ 1 ∷ []) refl (8 ∷ 7 ∷ 6 ∷ 5 ∷ 4 ∷ 3 ∷ 2 ∷ 1 ∷ []) refl, refl);
  date_refused = ((8 ∷ 7 ∷ 6 ∷ 5 ∷ 4 ∷ 3 ∷ 2 ∷ 1 ∷ []), date_is history from_8 [] refl (8 ∷ 6 ∷ 7 ∷ 5 ∷ 4 ∷ 3 ∷ 2 ∷ 1 ∷ []) refl (8 ∷ 7 ∷ 6 ∷ 5 ∷ 4 ∷ 3 ∷ 2 ∷ 1 ∷ []) refl, refl);
  oldest = oldest_is history from_8 [] refl (8 ∷ 6 ∷ 7 ∷ 5 ∷ 4 ∷ 3 ∷ 2 ∷ 1 ∷ []) refl (8 ∷ 6 ∷ 5 ∷ 3 ∷ 1 ∷ 7 ∷ 4 ∷ 2 ∷ []) refl;
  newest = newest_is history from_8_since_4 [] refl (8 ∷ 6 ∷ 7 ∷ 5 ∷ 4 ∷ []) refl (8 ∷ 7 ∷ 6 ∷ 5 ∷ 4 ∷ []) refl;
  newest_line = newest_is line from_2_since_4 [] refl (2 ∷ []) refl (2 ∷ []) refl;
  newest_line_not = λ h. not_there (at_from_contains {I = ℕ} (2 ∷ []) 0 (((slow_is line from_2_since_4 [] refl (2 ∷ []) refl).list.each 0).1 ((h.list.each 0).0 (contains_from_at {I = ℕ} (2 ∷ 0 ∷ []) 1 0 refl))));
}
