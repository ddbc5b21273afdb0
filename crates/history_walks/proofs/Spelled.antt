-- What is read of a commit whose tokens are a tree, parents, an author, a committer and a message.
use Rattle.std.proofs.Common.{◌≡◌, ◌∙◌, ap, refl, sym, subst, ℕ, ℤ, List, [], ◌∷◌, ◌++◌, map, take, append-nil, inl, inr, Some}
use Rattle.std.specs.Prelude.{filter_map}
use Rattle.std.proofs.lemmas.List.{take-map}
use Rattle.std.proofs.lemmas.List.Elements.{filter_map-append}
use Rattle.gix_hash.specs.Id.{Id, id_of}
use Rattle.gix_hash.specs.declared.kind.Kind as hash
use Rattle.gix_hash.specs.declared.object_id.ObjectId.{ObjectId}
use Rattle.gix_object_lines.specs.Person.{Person}
use Rattle.gix_object_lines.specs.Time.{SpellsTime}
use Rattle.gix_object_lines.specs.declared.decode.Error as decode
use Rattle.gix_object_lines.specs.declared.lines.time.Time.{Time}
use Rattle.gix_object_lines.proofs.TimeLemmas.{time_once}
use Rattle.gix_object_commit.specs.ReadingOn.{Reads, TellsFirst, TellsNone, committer_told, parent_told}
use Rattle.gix_object_commit.specs.Tokens.{Part, Tree, Parent, Author, Committer, Encoding, Header, Message, IsPartAt, Place, LacksPart, start}
use Rattle.gix_object_commit.specs.Whole.{parent_tokens}
use Rattle.gix_object_commit.proofs.Left.{no_part}
use Rattle.gix_object_commit.proofs.OnePart.{one_next}
use Rattle.gix_traverse_graph.specs.Commits.{Commit}
use Rattle.gix_traverse_commit_known.specs.Fetching.{LacksParents}
use Rattle.gix_traverse_commit_known.specs.Told.{beyond_told, IsPastParents, TellsCommit, TellsParents, TellsSeconds}
use Rattle.gix_traverse_graph.specs.declared.parents.Parents.TheVariants.{All}

-- ---- readings

none_next : (here : Place) (part : Part) (rest : List ℕ) → here.input ≡ [] → IsPartAt here.kind here.stage here.input part rest → ⊥
none_next here part rest empty is = no_part here.kind here.stage part rest (subst (λ input. IsPartAt here.kind here.stage input part rest) empty is)

-- what was read is a beginning of what is read to the end
ahead : (here there last : Place) (parts tokens : List Part) → Reads here parts there → Reads here tokens last → last.input ≡ [] → (more : List Part) × (tokens ≡ parts ++ more) × Reads there more last
ahead here there last [] tokens reads all ends = (tokens, refl, subst (λ p. Reads p tokens last) reads all)
ahead here there last (part ∷ parts) [] (next, is, reads) all ends = absurd (none_next here part next.input (ap (λ (p : Place). p.input) all ∙ ends) is.0)
ahead here there last (part ∷ parts) (token ∷ tokens) (next, is, reads) (next', is', all) ends =
    let same = one_next here part token next next' is is' in
    let rest = ahead next there last parts tokens reads (subst (λ p. Reads p tokens last) (sym same.1) all) ends in
    (rest.0, (λ i. sym same.0 i ∷ rest.1 i), rest.2)

-- ---- the parents that come first

abbrev leading : List Part → List Id
leading [] = []
leading (Tree id ∷ parts) = leading parts
leading (Parent id ∷ parts) = id ∷ leading parts
leading (Author person ∷ parts) = []
leading (Committer person ∷ parts) = []
leading (Encoding name ∷ parts) = []
leading (Header field ∷ parts) = []
leading (Message message ∷ parts) = []

leading_front : (parts more : List Part) → filter_map beyond_told parts ≡ [] → leading (parts ++ more) ≡ filter_map parent_told parts ++ leading more
leading_front [] more e = refl
leading_front (Tree id ∷ parts) more e = leading_front parts more e
leading_front (Parent id ∷ parts) more e = ap (λ ids. id ∷ ids) (leading_front parts more e)
leading_front (Author person ∷ parts) more e = let z : ⊥ = cc in absurd z
leading_front (Committer person ∷ parts) more e = let z : ⊥ = cc in absurd z
leading_front (Encoding name ∷ parts) more e = let z : ⊥ = cc in absurd z
leading_front (Header field ∷ parts) more e = let z : ⊥ = cc in absurd z
leading_front (Message message ∷ parts) more e = let z : ⊥ = cc in absurd z

leading_parents : (ids : List Id) (more : List Part) → leading (parent_tokens ids ++ more) ≡ ids ++ leading more
leading_parents [] more = refl
leading_parents (id ∷ ids) more = ap (λ xs. id ∷ xs) (leading_parents ids more)

leads_none : (part : Part) (more : List Part) → beyond_told part ≡ Some part → leading (part ∷ more) ≡ []
leads_none (Tree id) more e = let z : ⊥ = cc in absurd z
leads_none (Parent id) more e = let z : ⊥ = cc in absurd z
leads_none (Author person) more e = refl
leads_none (Committer person) more e = refl
leads_none (Encoding name) more e = refl
leads_none (Header field) more e = refl
leads_none (Message message) more e = refl

past_none : (there last : Place) (more : List Part) → Reads there more last → IsPastParents there → leading more ≡ []
past_none there last [] reads past = refl
past_none there last (part ∷ more) (next, is, reads) (inl empty) = absurd (none_next there part next.input empty is.0)
past_none there last (part ∷ more) (next, is, reads) (inr (other, after, stands, beyond)) =
    let same = one_next there part other next after is stands in
    ap (λ p. leading (p ∷ more)) same.0 ∙ leads_none other more beyond

-- ---- a commit

abbrev behind : Person → Person → List ℕ → List Part
behind author committer message = Author author ∷ (Committer committer ∷ (Message message ∷ []))

abbrev pub line : Id → List Id → Person → Person → List ℕ → List Part
line tree ids author committer message = Tree tree ∷ (parent_tokens ids ++ behind author committer message)

parents_in : (ids : List Id) (more : List Part) → filter_map parent_told (parent_tokens ids ++ more) ≡ ids ++ filter_map parent_told more
parents_in [] more = refl
parents_in (id ∷ ids) more = ap (λ xs. id ∷ xs) (parents_in ids more)

committer_in : (ids : List Id) (more : List Part) → filter_map committer_told (parent_tokens ids ++ more) ≡ filter_map committer_told more
committer_in [] more = refl
committer_in (id ∷ ids) more = committer_in ids more

first_of : (ids : List Id) (id : Id) (more : List Id) → ids ≡ id ∷ more → take 1 ids ≡ id ∷ []
first_of [] id more e = let z : ⊥ = cc in absurd z
first_of (x ∷ ids) id more e = let same : x ≡ id = cc in ap (λ y. y ∷ []) same

module _ (kind : hash.Kind) (content : List ℕ) (tree : Id) (ids : List Id) (author committer : Person) (message : List ℕ) (last : Place)
    (reads : Reads (start kind content) (line tree ids author committer message) last) (ends : last.input ≡ []) where
  abbrev tokens : List Part
  tokens = line tree ids author committer message

  all_parents : filter_map parent_told tokens ≡ ids
  all_parents = parents_in ids (behind author committer message) ∙ append-nil ids

  the_committer : filter_map committer_told tokens ≡ committer ∷ []
  the_committer = committer_in ids (behind author committer message)

  pub parents_are : (told : List Id) → TellsParents (start kind content) told → ids ≡ told
  parents_are told (there, front, past) =
      let rest = ahead (start kind content) there last front.parts tokens front.read reads ends in
      let none : leading rest.0 ≡ [] = past_none there last rest.0 rest.2 past in
      let whole : leading tokens ≡ ids = leading_parents ids (behind author committer message) ∙ append-nil ids in
      sym whole ∙ ap leading rest.1 ∙ leading_front front.parts rest.0 front.front ∙ (λ i. front.parents i ++ none i) ∙ append-nil told

  pub first_is : (id : Id) → TellsFirst parent_told (start kind content) id → take 1 ids ≡ id ∷ []
  first_is id (there, (parts, read, told)) =
      let rest = ahead (start kind content) there last parts tokens read reads ends in
      first_of ids id (filter_map parent_told rest.0)
      (sym all_parents ∙ ap (filter_map parent_told) rest.1 ∙ filter_map-append parent_told parts rest.0 ∙ ap (λ xs. xs ++ filter_map parent_told rest.0) told)

  committer_is : (person : Person) → TellsFirst committer_told (start kind content) person → committer ≡ person
  committer_is person (there, (parts, read, told)) =
      let rest = ahead (start kind content) there last parts tokens read reads ends in
      let same : committer ∷ [] ≡ person ∷ filter_map committer_told rest.0 =
      sym the_committer ∙ ap (filter_map committer_told) rest.1 ∙ filter_map-append committer_told parts rest.0 ∙ ap (λ xs. xs ++ filter_map committer_told rest.0) told in
      cc

  -- each line is read
  no_stop : (there : Place) (more : List Part) → Reads there more last → LacksPart there → ⊥
  no_stop there [] read lacks = lacks.0 (ap (λ (p : Place). p.input) read ∙ ends)
  no_stop there (part ∷ more) (next, is, read) lacks = lacks.1 part next.input is.0

  pub no_parent_fault : (error : decode.Error) → LacksParents All (start kind content) error → ⊥
  no_parent_fault error (told, there, after, front, gives, none) =
      let rest = ahead (start kind content) there last front.parts tokens front.read reads ends in
      no_stop there rest.0 rest.2 gives.0

  pub no_time_fault : (error : decode.Error) → TellsNone committer_told (start kind content) error → ⊥
  no_time_fault error (there, (parts, read, told), stop) =
      let rest = ahead (start kind content) there last parts tokens read reads ends in
      let behind_is : filter_map committer_told rest.0 ≡ committer ∷ [] =
      sym (sym the_committer ∙ ap (filter_map committer_told) rest.1 ∙ filter_map-append committer_told parts rest.0 ∙ ap (λ xs. xs ++ filter_map committer_told rest.0) told) in
      elim stop [
        | inl empty ↦ at_end there rest.0 rest.2 empty.0 behind_is
        | inr given ↦ no_stop there rest.0 rest.2 (given.1).0
      ]
    where
      at_end : (there : Place) (more : List Part) → Reads there more last → there.input ≡ [] → filter_map committer_told more ≡ committer ∷ [] → ⊥
      at_end there [] read empty told = cc
      at_end there (part ∷ more) (next, is, read) empty told = none_next there part next.input empty is.0

  module _ (time : Time) (spelled : SpellsTime committer.time time) where
    seconds_are : (seconds : ℤ) → TellsSeconds (start kind content) seconds → time.seconds ≡ seconds
    seconds_are seconds told =
        let same = committer_is told.committer told.committed in
        let once = time_once committer.time time told.time spelled (subst (λ (p : Person). SpellsTime p.time told.time) (sym same) told.spelled) in
        ap (λ (t : Time). t.seconds) once ∙ sym told.same

    seconds_there : TellsSeconds (start kind content) time.seconds
    seconds_there = record {
      committer = committer;
      time = time;
      committed = (last, (tokens, reads, the_committer));
      spelled = spelled;
      same = refl;
    }

    pub commit_told : (commit : Commit ObjectId) → map id_of commit.parents ≡ ids → commit.time ≡ time.seconds → TellsCommit kind content commit
    commit_told commit parents same = record {
      parents = λ told tells. parents ∙ parents_are told tells;
      first = λ id tells. sym (take-map id_of 1 commit.parents) ∙ ap (take 1) parents ∙ first_is id tells;
      seconds = λ seconds tells. same ∙ seconds_are seconds tells;
      no_seconds = λ lacks. absurd (lacks time.seconds seconds_there);
    }
