use Rattle.std.proofs.Common.{[]}
use Rattle.gix_object_tag.specs.ReadingOn.{Tells, tagger_told}
use Rattle.gix_object_tag.specs.Tokens.{place_of, tokens_left}
use Rattle.gix_object_tag.proofs.tag.ref_iter.TagRefIter.tagger.Given as goal

abbrev pub invariant-tokens : goal.invariant-tokens
invariant-tokens l = Tells tagger_told (place_of l.fn.self) [] (place_of l.tokens)

abbrev pub decreases-tokens : goal.decreases-tokens
decreases-tokens l = tokens_left (place_of l.tokens)
