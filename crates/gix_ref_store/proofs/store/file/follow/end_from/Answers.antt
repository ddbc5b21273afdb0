use Rattle.std.proofs.Common.{subst, List, ℕ}
use Rattle.std.specs.Prelude.{MatchResult, unwrap_or}
use Rattle.gix_ref_store.specs.Finds.{state_of}
use Rattle.gix_ref_store.specs.Follows.{EndsBy, FollowFault, IsGiven, follow}
use Rattle.gix_ref_store.specs.Searches.{reads_in}
use Rattle.gix_ref_store.proofs.store.file.follow.end_from.Goals as goal

pub returns-clause-followed : goal.returns-clause-followed
returns-clause-followed g c = λ honest.
    let read = reads_in (g.F.Files.history c.args.search.now.store.now.files).tree c.args.search.now in
    let from = c.args.from.now in
    subst (λ (s : List (List ℕ)). let end = follow read 5 s from.name (state_of from) in MatchResult c.end_of.result (λ found. EndsBy (unwrap_or found.1 from) found.0 end) (FollowFault IsGiven end))
    c.new.ensures.items (c.end_of.ensures.followed honest)
