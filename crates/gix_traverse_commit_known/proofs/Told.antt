-- What the readers' parts say of a commit.
use Rattle.std.proofs.Common.{◌≡◌, ℕ, List, [], ◌∷◌, ◌++◌, refl, sym, ap, ◌∙◌, subst, inl, inr, Option, Some, Result, Ok, Err, map, take, append-nil, ℤ, pos}
use Rattle.std.specs.Prelude.{filter_map, IfOk, unwrap_or}
use Rattle.std.specs.Result.{result_ok}
use Rattle.std.proofs.lemmas.List.{map-append}
use Rattle.std.proofs.lemmas.List.Elements.{filter_map-append}
use Rattle.gix_hash.specs.Id.{Id, id_of}
use Rattle.gix_hash.specs.Packed.{object_id_of, object_id_of-id_of}
use Rattle.gix_hash.specs.declared.kind.Kind as hash
use Rattle.gix_hash.specs.declared.object_id.ObjectId.{ObjectId}
use Rattle.gix_object_lines.specs.Actor.{TellsTime}
use Rattle.gix_object_lines.specs.declared.decode.Error as decode
use Rattle.gix_object_commit.specs.Commit.{IsPerson}
use Rattle.gix_object_commit.specs.ReadingOn.{Reads, TellsFirst, committer_told, parent_told}
use Rattle.gix_object_commit.specs.Tokens.{Part, Tree, Parent, Author, Committer, Encoding, Header, Message, Place, IsNext, GivesToken, part_of, start}
use Rattle.gix_object_commit.specs.declared.ref_iter.Token.{Token}
use Rattle.gix_object_commit.specs.declared.ref_iter.Token.TheVariants as token
use Rattle.gix_object_lookup.specs.Existing.{Stands, KindFault}
use Rattle.gix_object_lookup.specs.Table.{Table}
use Rattle.gix_object_lookup.specs.declared.find.Error.TheVariants as lookup
use Rattle.gix_object_lookup.specs.declared.find.existing_iter.Error as existing_iter
use Rattle.gix_object_lookup.specs.declared.find.existing_iter.Error.TheVariants as iter_case
use Rattle.gix_object_lines.specs.declared.kind.Kind.TheVariants as kinds
use Rattle.gix_object_lines.specs.Person.{Person}
use Rattle.gix_traverse_graph.specs.Commits.{Commit, Commits, asked, asked_parents}
use Rattle.gix_traverse_commit_known.specs.Fetching.{ReadsParents, LacksParents, ParentsFault, ReadFault, find_error}
use Rattle.gix_traverse_graph.specs.Rows.{Holds}
use Rattle.gix_traverse_commit_known.specs.Told.{TellsFront, TellsParents, TellsCommit, TellsSeconds, AreTold, beyond_told}
use Rattle.gix_traverse_commit_known.specs.declared.fetch.FetchError.{FetchError}
use Rattle.gix_traverse_commit_known.specs.declared.fetch.FetchError.TheVariants as fault
use Rattle.gix_traverse_graph.specs.declared.rows.Row.{Row}
use Rattle.gix_traverse_graph.specs.declared.parents.Parents.{Parents}
use Rattle.gix_traverse_graph.specs.declared.parents.Parents.TheVariants.{All, First}

-- a committer that is given has a time
read_committer : (here there : Place) (parts : List Part) (person : Person) → Reads here parts there → filter_map committer_told parts ≡ person ∷ [] → TellsTime person.time
read_committer here there [] person r e = let z : ⊥ = cc in absurd z
read_committer here there (Tree id ∷ parts) person (next, n, r) e = read_committer next there parts person r e
read_committer here there (Parent id ∷ parts) person (next, n, r) e = read_committer next there parts person r e
read_committer here there (Author actor ∷ parts) person (next, n, r) e = read_committer next there parts person r e
read_committer here there (Committer actor ∷ parts) person (next, n, r) e =
    let same : actor ≡ person = cc in
    let told : IsPerson actor = n.0.1 in
    subst (λ (p : Person). TellsTime p.time) same told.time_told
read_committer here there (Encoding name ∷ parts) person (next, n, r) e = read_committer next there parts person r e
read_committer here there (Header field ∷ parts) person (next, n, r) e = read_committer next there parts person r e
read_committer here there (Message message ∷ parts) person (next, n, r) e = read_committer next there parts person r e

pub committer_time : (here : Place) (person : Person) → TellsFirst committer_told here person → TellsTime person.time
committer_time here person (there, (parts, r, e)) = read_committer here there parts person r e

-- ---- the lines of tree and parents

pub reads_more : (here mid there : Place) (parts : List Part) (part : Part) → Reads here parts mid → IsNext mid part there → Reads here (parts ++ part ∷ []) there
reads_more here mid there [] part reads next = (there, subst (λ (p : Place). IsNext p part there) (sym reads) next, refl)
reads_more here mid there (first ∷ parts) part reads next = (reads.0, reads.1, reads_more reads.0 mid there parts part reads.2 next)

-- a line more of the front
front_more : (here mid there : Place) (ids told : List Id) (part : Part) → TellsFront here ids mid → IsNext mid part there → filter_map parent_told (part ∷ []) ≡ told → filter_map beyond_told (part ∷ []) ≡ [] → TellsFront here (ids ++ told) there
front_more here mid there ids told part f next p b = record {
  parts = f.parts ++ part ∷ [];
  read = reads_more here mid there f.parts part f.read next;
  parents = filter_map-append parent_told f.parts (part ∷ []) ∙ ap (λ (t : List Id). t ++ filter_map parent_told (part ∷ [])) f.parents ∙ ap (λ (t : List Id). ids ++ t) p;
  front = filter_map-append beyond_told f.parts (part ∷ []) ∙ ap (λ (t : List Part). t ++ filter_map beyond_told (part ∷ [])) f.front ∙ b;
}

module _ (here mid there : Place) (xs : List ObjectId) (given : Result Token decode.Error) (t : Token) (f : TellsFront here (map id_of xs) mid) (gives : GivesToken mid (Some given) there) (is : given ≡ Ok t) where
  next : IsNext mid (part_of t) there
  next = subst (λ (g : Result Token decode.Error). GivesToken mid (Some g) there) is gives

  pub front_tree : (id : ObjectId) → t ≡ token.Tree id → TellsFront here (map id_of xs) there
  front_tree id e =
      let n : IsNext mid (Tree (id_of id)) there = subst (λ (u : Token). IsNext mid (part_of u) there) e next in
      subst (λ (ids : List Id). TellsFront here ids there) (append-nil (map id_of xs)) (front_more here mid there (map id_of xs) [] (Tree (id_of id)) f n refl refl)

  pub front_parent : (id : ObjectId) (xs' : List ObjectId) → t ≡ token.Parent id → xs' ≡ xs ++ id ∷ [] → TellsFront here (map id_of xs') there
  front_parent id xs' e s =
      let n : IsNext mid (Parent (id_of id)) there = subst (λ (u : Token). IsNext mid (part_of u) there) e next in
      let same : map id_of xs' ≡ map id_of xs ++ id_of id ∷ [] = ap (map id_of) s ∙ map-append id_of xs (id ∷ []) in
      subst (λ (ids : List Id). TellsFront here ids there) (sym same) (front_more here mid there (map id_of xs) (id_of id ∷ []) (Parent (id_of id)) f n refl refl)

  -- another part is next
  pub past_other : ((id : ObjectId) → t ≡ token.Tree id → ⊥) → ((id : ObjectId) → t ≡ token.Parent id → ⊥) → TellsParents here (map id_of xs)
  past_other tree parent = (mid, f, inr (part_of t, there, next, other t tree parent))
    where
      other : (u : Token) → ((id : ObjectId) → u ≡ token.Tree id → ⊥) → ((id : ObjectId) → u ≡ token.Parent id → ⊥) → beyond_told (part_of u) ≡ Some (part_of u)
      other (token.Tree id) a b = absurd (a id refl)
      other (token.Parent id) a b = absurd (b id refl)
      other (token.Author x) a b = refl
      other (token.Committer x) a b = refl
      other (token.Encoding x) a b = refl
      other (token.ExtraHeader x) a b = refl
      other (token.Message x) a b = refl

-- the first parent's line ends what is wanted
pub first_parent : (here there : Place) (xs xs' : List ObjectId) (id : ObjectId) → xs ≡ [] → xs' ≡ xs ++ id ∷ [] → TellsFront here (map id_of xs') there → ReadsParents First here (map id_of xs')
first_parent here there xs xs' id e s f =
    let same : xs' ≡ id ∷ [] = s ∙ ap (λ (zs : List ObjectId). zs ++ id ∷ []) e in
    let ids : map id_of xs' ≡ id_of id ∷ [] = ap (map id_of) same in
    inr (id_of id, ids, (there, (f.parts, f.read, f.parents ∙ ids)))

-- all that are given are wanted
pub reads_all : (along : Parents) (here : Place) (xs : List ObjectId) → (along ≡ First → xs ≡ []) → TellsParents here (map id_of xs) → ReadsParents along here (map id_of xs)
reads_all All here xs none told = told
reads_all First here xs none told = inl (told, ap (map id_of) (none refl))

-- a token that is no part
pub lacks_parents : (along : Parents) (here mid after : Place) (ids : List Id) (given : Result Token decode.Error) (error : decode.Error) → TellsFront here ids mid → GivesToken mid (Some given) after → given ≡ Err error → (along ≡ First → ids ≡ []) → LacksParents along here error
lacks_parents along here mid after ids given error f gives is none = (ids, mid, after, f, subst (λ (g : Result Token decode.Error). GivesToken mid (Some g) after) is gives, none)

-- ---- what is read is what the commit is

ids_same : (xs ys : List ObjectId) → map id_of xs ≡ map id_of ys → xs ≡ ys
ids_same [] [] e = refl
ids_same [] (y ∷ ys) e = let z : ⊥ = cc in absurd z
ids_same (x ∷ xs) [] e = let z : ⊥ = cc in absurd z
ids_same (x ∷ xs) (y ∷ ys) e =
    let h : id_of x ≡ id_of y = cc in
    let t : map id_of xs ≡ map id_of ys = cc in
    let same : x ≡ y = sym (object_id_of-id_of x) ∙ ap object_id_of h ∙ object_id_of-id_of y in
    let rest = ids_same xs ys t in
    cc

none_taken : (xs : List ObjectId) → map id_of xs ≡ [] → take 1 xs ≡ []
none_taken [] e = refl
none_taken (x ∷ xs) e = let z : ⊥ = cc in absurd z

pub parents_told : (kind : hash.Kind) (content : List ℕ) (commit : Commit ObjectId) (along : Parents) (xs : List ObjectId) → TellsCommit kind content commit → ReadsParents along (start kind content) (map id_of xs) → xs ≡ asked along commit.parents
parents_told kind content commit All xs t r = sym (ids_same commit.parents xs (t.parents (map id_of xs) r))
parents_told kind content commit First xs t (inl (r, e)) =
    let none : map id_of commit.parents ≡ [] = t.parents (map id_of xs) r ∙ e in
    ids_same xs [] e ∙ sym (none_taken commit.parents none)
parents_told kind content commit First xs t (inr (id, e, f)) = ids_same xs (take 1 commit.parents) (e ∙ sym (t.first id f))

-- ---- over rows and objects

module _ (rows : List Row) (table : Table) (g : Commits ObjectId) (told : AreTold rows table g) where
  pub object_parents : (id : ObjectId) (content : List ℕ) (along : Parents) (here : Place) (xs : List ObjectId) → (¬ Holds rows id) → Stands table (id_of id) kinds.Commit content → here ≡ start (id_of id).kind content → ReadsParents along here (map id_of xs) → xs ≡ asked_parents along g id
  object_parents id content All here xs h s e r = parents_told (id_of id).kind content (g id) All xs (told.stored id content h s) (subst (λ (p : Place). ReadsParents All p (map id_of xs)) e r)
  object_parents id content First here xs h s e r = parents_told (id_of id).kind content (g id) First xs (told.stored id content h s) (subst (λ (p : Place). ReadsParents First p (map id_of xs)) e r)

  -- the seconds if they are given, and otherwise 0
  pub object_time : (id : ObjectId) (content : List ℕ) (here : Place) (read : Result ℤ decode.Error) (time : Option ℤ) → (¬ Holds rows id) → Stands table (id_of id) kinds.Commit content → here ≡ start (id_of id).kind content
      → IfOk read (TellsSeconds here) → ((seconds : ℤ) → TellsSeconds here seconds → read ≡ Ok seconds) → time ≡ result_ok read → unwrap_or time (pos 0) ≡ (g id).time
  object_time id content here (Ok seconds) time h s e ok every same =
      let t : TellsCommit (id_of id).kind content (g id) = told.stored id content h s in
      rw same (sym (t.seconds seconds (subst (λ (p : Place). TellsSeconds p seconds) e ok)))
  object_time id content here (Err error) time h s e ok every same =
      let t : TellsCommit (id_of id).kind content (g id) = told.stored id content h s in
      rw same (sym (t.no_seconds (λ seconds tells. unread seconds (every seconds (subst (λ (p : Place). TellsSeconds p seconds) (sym e) tells)))))
    where
      unread : (seconds : ℤ) → ◌≡◌ {A = Result ℤ decode.Error} (Err error) (Ok seconds) → ⊥
      unread seconds f = cc

-- want of memory is reported as that, and other faults of a lookup as they are
pub read_fault : (along : Parents) (honest may_fail : Type 0) (rows : List Row) (table : Table) (id : ObjectId) (e : existing_iter.Error) → (¬ Holds rows id) → KindFault honest may_fail table (id_of id) kinds.Commit e → ReadFault along honest may_fail rows table id (find_error e)
read_fault along honest may_fail rows table id (iter_case.Find lookup.Memory) h k = tt
read_fault along honest may_fail rows table id (iter_case.Find lookup.Failed) h k = (h, k)
read_fault along honest may_fail rows table id (iter_case.NotFound oid) h k = (h, k)
read_fault along honest may_fail rows table id (iter_case.ObjectKind oid actual expected) h k = (h, k)

-- lines that aren't a commit's
pub parents_unread : (along : Parents) (honest may_fail : Type 0) (rows : List Row) (table : Table) (id : ObjectId) (content : List ℕ) (here : Place) (e : FetchError) → (¬ Holds rows id) → (honest → Stands table (id_of id) kinds.Commit content) → here ≡ start (id_of id).kind content → ParentsFault along here e → ReadFault along honest may_fail rows table id e
parents_unread along honest may_fail rows table id content here (fault.Find error) h s e f = absurd f
parents_unread along honest may_fail rows table id content here (fault.ObjectDecode error) h s e f = (h, λ t. (content, s t, subst (λ (p : Place). LacksParents along p error) e f))
parents_unread along honest may_fail rows table id content here fault.Memory h s e f = tt
