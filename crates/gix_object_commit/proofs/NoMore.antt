-- When no more values come.
use Rattle.std.proofs.Common.{◌≡◌, ◌∙◌, ap, refl, sym, subst, ℕ, ◌<◌, List, [], ◌∷◌, ◌++◌, ◌⊎◌, inl, inr, length, Option, Some, None, Result, Ok, Err, arith}
use Rattle.std.specs.Prelude.{codes, filter_map}
use Rattle.std.specs.List.{cons_option}
use Rattle.std.specs.Result.{result_ok}
use Rattle.gix_hash.specs.declared.kind.Kind.{Kind}
use Rattle.gix_hash.specs.declared.object_id.ObjectId.{ObjectId}
use Rattle.gix_object_lines.specs.declared.lines.actor.ActorRef.{ActorRef}
use Rattle.gix_object_lines.specs.declared.decode.Error.{Error}
use Rattle.gix_object_lines.specs.Person.{actor_line}
use Rattle.gix_object_commit.specs.declared.ref_iter.Stage.{Stage}
use Rattle.gix_object_commit.specs.declared.ref_iter.Stage.TheVariants as at
use Rattle.gix_object_commit.specs.declared.ref_iter.Token.{Token}
use Rattle.gix_object_commit.specs.declared.ref_iter.Token.TheVariants as token
use Rattle.gix_object_commit.specs.Tokens.{Part, Tree, Parent, Author, Committer, Encoding, Header, Message, IsPartAt, Place, IsNext, LacksPart, GivesToken, part_of, stage_after}
use Rattle.gix_object_commit.specs.ReadingOn.{Reads, Tells, TellsNoMore, GivesTold, parent_told, actor_told}
use Rattle.gix_object_commit.proofs.Lines.{line_shape, hex_shape, field_shorter}
use Rattle.gix_object_commit.proofs.OnePart.{one_next}

-- ---- no part is at the input's end

empty_part : (kind : Kind) (stage : Stage) (input : List ℕ) (part : Part) (rest : List ℕ) → input ≡ [] → IsPartAt kind stage input part rest → ⊥
empty_part kind stage input (Tree id) rest none h = let e : codes "tree" ++ 32 ∷ (h.1.digits ++ 10 ∷ rest) ≡ [] = sym (hex_shape (codes "tree") h.1.digits rest) ∙ sym h.1.spelled ∙ none in cc
empty_part kind stage input (Parent id) rest none h = let e : codes "parent" ++ 32 ∷ (h.1.digits ++ 10 ∷ rest) ≡ [] = sym (hex_shape (codes "parent") h.1.digits rest) ∙ sym h.1.spelled ∙ none in cc
empty_part kind stage input (Author person) rest none h = let e : codes "author" ++ 32 ∷ (actor_line person ++ 10 ∷ rest) ≡ [] = sym (line_shape (codes "author") (actor_line person) rest) ∙ sym h.2 ∙ none in cc
empty_part kind stage input (Committer person) rest none h = let e : codes "committer" ++ 32 ∷ (actor_line person ++ 10 ∷ rest) ≡ [] = sym (line_shape (codes "committer") (actor_line person) rest) ∙ sym h.2 ∙ none in cc
empty_part kind stage input (Encoding name) rest none h = let e : codes "encoding" ++ 32 ∷ (name ++ 10 ∷ rest) ≡ [] = sym (line_shape (codes "encoding") name rest) ∙ sym h.2 ∙ none in cc
empty_part kind stage input (Header field) rest none h = let less : length rest < length input = field_shorter input rest field h.3 in let zero : length input ≡ 0 = ap length none in omega arith
empty_part kind stage input (Message message) rest none h = let e : 10 ∷ message ≡ [] = sym h.1 ∙ none in cc

-- ---- which values come from a place on

module _ {X : Type 0} (told : Part → Option X) where
  nothing_next : (here : Place) → ((part : Part) (next : Place) → IsNext here part next → ⊥) → TellsNoMore told here
  nothing_next here none values there tells = by tells.0 tells.1 tells.2
    where
      by : (parts : List Part) → Reads here parts there → filter_map told parts ≡ values → values ≡ []
      by [] reads whole = sym whole
      by (part ∷ parts) reads whole = absurd (none part reads.0 reads.1)

  pub none_at_end : (here : Place) → here.input ≡ [] → TellsNoMore told here
  none_at_end here none = nothing_next here (λ part next is. empty_part here.kind here.stage here.input part next.input none is.0)

  pub none_at_fault : (here : Place) → LacksPart here → TellsNoMore told here
  none_at_fault here lacks = nothing_next here (λ part next is. lacks.1 part next.input is.0)

  pub none_told : (o : Option X) (xs : List X) → cons_option o xs ≡ [] → (o ≡ None) × (xs ≡ [])
  none_told None xs e = (refl, e)
  none_told (Some x) xs e = absurd cc

  -- what is read without a value has none before it
  pub none_before : (here mid : Place) (parts : List Part) → Reads here parts mid → filter_map told parts ≡ [] → TellsNoMore told mid → TellsNoMore told here
  none_before here mid [] reads none more = subst (TellsNoMore told) (sym reads) more
  none_before here mid (part ∷ parts) reads none more =
      let cut = none_told (told part) (filter_map told parts) none in
      further cut.0 (none_before reads.0 mid parts reads.2 cut.1 more)
    where
      further : told part ≡ None → TellsNoMore told reads.0 → TellsNoMore told here
      further silent later values there tells = by tells.0 tells.1 tells.2
        where
          by : (others : List Part) → Reads here others there → filter_map told others ≡ values → values ≡ []
          by [] other whole = sym whole
          by (first ∷ others) other whole =
              let same = one_next here part first reads.0 other.0 reads.1 other.1 in
              let still : told first ≡ None = ap told (sym same.0) ∙ silent in
              later values there (others, subst (λ p. Reads p others there) (sym same.1) other.2, ap (λ o. cons_option o (filter_map told others)) (sym still) ∙ whole)

  -- after a stage no value comes
  module _ (Past : Stage → Type 0) (step : (here next : Place) (part : Part) → IsNext here part next → Past here.stage → (told part ≡ None) × Past next.stage) where
    pub none_past : (here : Place) → Past here.stage → TellsNoMore told here
    none_past here past values there tells = sym tells.2 ∙ silent here past tells.0 tells.1
      where
        silent : (here : Place) → Past here.stage → (parts : List Part) → Reads here parts there → filter_map told parts ≡ []
        silent here past [] reads = refl
        silent here past (part ∷ parts) reads =
            let on = step here reads.0 part reads.1 past in
            ap (λ o. cons_option o (filter_map told parts)) on.0 ∙ silent reads.0 on.1 parts reads.2

-- ---- what a call of an iterator gives

pub ok_given : (given : Result Token Error) (token : Token) → Some token ≡ result_ok given → given ≡ Ok token
ok_given (Ok other) token e = let same : other ≡ token = cc in ap (λ t. Ok t) same
ok_given (Err error) token e = absurd cc

module _ {X : Type 0} (told : Part → Option X) (before mid after : Place) (passed : Tells told before [] mid) (item : Option X) (none : item ≡ None) where
  ends : TellsNoMore told mid → TellsNoMore told after → GivesTold told before item after
  ends more later = subst (λ (o : Option X). GivesTold told before o after) (sym none) (none_before told before mid passed.0 passed.1 passed.2 more, later)

  pub ends_at_end : GivesToken mid None after → GivesTold told before item after
  ends_at_end gives =
      let more = none_at_end told mid gives.0 in
      ends more (subst (TellsNoMore told) (sym gives.1) more)

  pub ends_at_fault : (given : Result Token Error) → GivesToken mid (Some given) after → None ≡ result_ok given → GivesTold told before item after
  ends_at_fault (Ok token) gives lost = absurd cc
  ends_at_fault (Err error) gives lost = ends (none_at_fault told mid gives.0) (none_at_end told after gives.2)

-- ---- after the parents

abbrev pub PastParents : Stage → Type 0
PastParents at.Tree = ⊥
PastParents at.Parents = ⊥
PastParents at.Committer = Unit {0}
PastParents at.Encoding = Unit {0}
PastParents at.Headers = Unit {0}

past_parent : (here next : Place) (part : Part) → IsNext here part next → PastParents here.stage → (parent_told part ≡ None) × PastParents next.stage
past_parent here next (Tree id) is past = absurd (subst PastParents is.0.0 past)
past_parent here next (Parent id) is past = absurd (subst PastParents is.0.0 past)
past_parent here next (Author person) is past = absurd (subst PastParents is.0.0 past)
past_parent here next (Committer person) is past = (refl, subst PastParents (sym is.1) tt)
past_parent here next (Encoding name) is past = (refl, subst PastParents (sym is.1) tt)
past_parent here next (Header field) is past = (refl, subst PastParents (sym is.1) tt)
past_parent here next (Message message) is past = (refl, subst PastParents (sym is.1) tt)

pub no_parent_past : (here : Place) → PastParents here.stage → TellsNoMore parent_told here
no_parent_past here past = none_past parent_told PastParents past_parent here past

-- an author, or what follows it
pub no_parent_from : (here next : Place) (part : Part) → IsNext here part next → (parent_told part ≡ None) → PastParents next.stage → TellsNoMore parent_told here
no_parent_from here next part is silent past = none_before parent_told here next (part ∷ []) (next, is, refl) (ap (λ o. cons_option o []) silent) (no_parent_past next past)

pub behind_parents : (given : Token) → ((id : ObjectId) → given ≡ token.Tree id → ⊥) → ((id : ObjectId) → given ≡ token.Parent id → ⊥) → (parent_told (part_of given) ≡ None) × PastParents (stage_after (part_of given))
behind_parents (token.Tree id) tree parent = absurd (tree id refl)
behind_parents (token.Parent id) tree parent = absurd (parent id refl)
behind_parents _ tree parent = (refl, tt)

pub ends_behind_parents : (before mid after : Place) (given : Result Token Error) (last : Token) → Tells parent_told before [] mid → GivesToken mid (Some given) after → given ≡ Ok last
    → ((id : ObjectId) → last ≡ token.Tree id → ⊥) → ((id : ObjectId) → last ≡ token.Parent id → ⊥) → GivesTold parent_told before None after
ends_behind_parents before mid after given last passed gives ok tree parent =
    let is : IsNext mid (part_of last) after = subst (λ g. GivesToken mid (Some g) after) ok gives in
    let behind = behind_parents last tree parent in
    let past = subst PastParents (sym is.1) behind.1 in
    ends parent_told before mid after passed None refl (no_parent_from mid after (part_of last) is behind.0 past) (no_parent_past after past)

-- ---- after the actors

pub before_actors : (given : Token) → ((id : ObjectId) × (given ≡ token.Tree id)) ⊎ ((id : ObjectId) × (given ≡ token.Parent id)) → actor_told (part_of given) ≡ None
before_actors given (inl is) = ap (λ t. actor_told (part_of t)) is.1
before_actors given (inr is) = ap (λ t. actor_told (part_of t)) is.1

abbrev pub PastActors : Stage → Type 0
PastActors at.Tree = ⊥
PastActors at.Parents = ⊥
PastActors at.Committer = ⊥
PastActors at.Encoding = Unit {0}
PastActors at.Headers = Unit {0}

past_actor : (here next : Place) (part : Part) → IsNext here part next → PastActors here.stage → (actor_told part ≡ None) × PastActors next.stage
past_actor here next (Tree id) is past = absurd (subst PastActors is.0.0 past)
past_actor here next (Parent id) is past = absurd (subst PastActors is.0.0 past)
past_actor here next (Author person) is past = absurd (subst PastActors is.0.0 past)
past_actor here next (Committer person) is past = absurd (subst PastActors is.0.0 past)
past_actor here next (Encoding name) is past = (refl, subst PastActors (sym is.1) tt)
past_actor here next (Header field) is past = (refl, subst PastActors (sym is.1) tt)
past_actor here next (Message message) is past = (refl, subst PastActors (sym is.1) tt)

pub no_actor_past : (here : Place) → PastActors here.stage → TellsNoMore actor_told here
no_actor_past here past = none_past actor_told PastActors past_actor here past

pub no_actor_from : (here next : Place) (part : Part) → IsNext here part next → (actor_told part ≡ None) → PastActors next.stage → TellsNoMore actor_told here
no_actor_from here next part is silent past = none_before actor_told here next (part ∷ []) (next, is, refl) (ap (λ o. cons_option o []) silent) (no_actor_past next past)

pub behind_actors : (given : Token) → ((id : ObjectId) → given ≡ token.Tree id → ⊥) → ((id : ObjectId) → given ≡ token.Parent id → ⊥) → ((actor : ActorRef) → given ≡ token.Author actor → ⊥)
    → ((actor : ActorRef) → given ≡ token.Committer actor → ⊥) → (actor_told (part_of given) ≡ None) × PastActors (stage_after (part_of given))
behind_actors (token.Tree id) tree parent author committer = absurd (tree id refl)
behind_actors (token.Parent id) tree parent author committer = absurd (parent id refl)
behind_actors (token.Author actor) tree parent author committer = absurd (author actor refl)
behind_actors (token.Committer actor) tree parent author committer = absurd (committer actor refl)
behind_actors _ tree parent author committer = (refl, tt)

pub ends_behind_actors : (before mid after : Place) (given : Result Token Error) (last : Token) → Tells actor_told before [] mid → GivesToken mid (Some given) after → given ≡ Ok last
    → ((id : ObjectId) → last ≡ token.Tree id → ⊥) → ((id : ObjectId) → last ≡ token.Parent id → ⊥) → ((actor : ActorRef) → last ≡ token.Author actor → ⊥)
    → ((actor : ActorRef) → last ≡ token.Committer actor → ⊥) → GivesTold actor_told before None after
ends_behind_actors before mid after given last passed gives ok tree parent author committer =
    let is : IsNext mid (part_of last) after = subst (λ g. GivesToken mid (Some g) after) ok gives in
    let behind = behind_actors last tree parent author committer in
    let past = subst PastActors (sym is.1) behind.1 in
    ends actor_told before mid after passed None refl (no_actor_from mid after (part_of last) is behind.0 past) (no_actor_past after past)
