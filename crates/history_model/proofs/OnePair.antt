-- One pair of file trees represents one whole repository.
use Rattle.std.proofs.Common.{◌≡◌, ◌⊎◌, true, [], ◌++◌, refl, sym, ◌∙◌, ap, subst, inl, inr, Option, Some, None, option_map, unwrap_or, codes}
use Rattle.std.specs.FinMap.{FinMap, get}
use Rattle.history_model.specs.Bytes.{Bytes, by_bytes}
use Rattle.history_model.specs.FileMap.{FileMap}
use Rattle.history_model.specs.Objects.{by_id, Value, CommitValue, StoredCommit, StoredTag, StoredBytes, StoredFolder, value_text, id_of}
use Rattle.gix_hash.specs.Id.{Id}
use Rattle.history_model.specs.Repository.{Repository, Reference, IsStored, IsWholeStore, id_at, moves_at}
use Rattle.history_model.specs.Forms.{is_id}
use Rattle.history_model.specs.Places.{Pair, object_place}
use Rattle.history_model.specs.StandsFor.{StandsWhole, object_files, head_text}
use Rattle.gix_hash.specs.declared.kind.Kind.{Kind}
use Rattle.history_model.proofs.IdLemmas.{one_by_ids, digest_is_id}
use Rattle.history_model.proofs.PlaceLemmas.{file_at_id}
use Rattle.history_model.proofs.WholeLists.{texts_differ, none_is_some}
use Rattle.history_model.proofs.WholeTexts.{text_same, cut_same}
use Rattle.history_model.proofs.WholeRoots.{HasAll, one_map}
use Rattle.history_model.proofs.WholeStores.{one_by_keys}
use Rattle.history_model.proofs.WholeGrowth.{has_stored}
use Rattle.history_model.proofs.WholeReads.{plain_written}
use Rattle.history_model.proofs.WholeForms.{moves_formed}
use Rattle.history_model.proofs.OnePairTexts.{last_same}
use Rattle.history_model.proofs.OnePairLines.{moves_same, commit_same, tag_same}
use Rattle.std.proofs.lemmas.Option.{same_Some}

-- ---- objects at their places

stored_id : (r : Repository) → IsWholeStore r → (q : Id) (v : Value) → get r.objects q ≡ Some v → is_id r.kind q ≡ true
stored_id r whole q v at = ap (is_id r.kind) (whole.own_ids q v at) ∙ digest_is_id r.kind (value_text r.kind v)

-- the file at an id's place is its value's text
at_place : (r : Repository) → IsWholeStore r → (q : Id) → is_id r.kind q ≡ true → get (object_files r) (object_place q) ≡ option_map (value_text r.kind) (get r.objects q)
at_place r whole q h = file_at_id r.kind r.objects whole.own_ids q h

-- ---- two repositories of one kind

module _ (kind : Kind) (pair : Pair) (r : Repository) (other_names : FinMap by_bytes Reference) (other_branch : Bytes) (other_objects : FinMap by_id Value) where
  abbrev s : Repository
  s = record { kind = r.kind; names = other_names; branch = other_branch; objects = other_objects }

  module _ (left : StandsWhole kind pair r) (right : StandsWhole kind pair s) where
    -- the objects' texts

    one_text : (q : Id) → is_id r.kind q ≡ true → option_map (value_text r.kind) (get r.objects q) ≡ option_map (value_text r.kind) (get s.objects q)
    one_text q h =
        sym (at_place r (left.whole).store q h) ∙ sym ((left.stands).objects (object_place q)) ∙ (right.stands).objects (object_place q) ∙ at_place s (right.whole).store q h

    texts : (q : Id) (v w : Value) → get r.objects q ≡ Some v → get s.objects q ≡ Some w → value_text r.kind v ≡ value_text r.kind w
    texts q v w at_r at_s =
        same_Some (value_text r.kind v) (value_text r.kind w)
        (ap (option_map (value_text r.kind)) (sym at_r) ∙ one_text q (stored_id r (left.whole).store q v at_r) ∙ ap (option_map (value_text r.kind)) at_s)

    -- what is stored in one of the two
    abbrev InEither : Value → Type 0
    InEither v = IsStored r v ⊎ IsStored s v

    either_same : (v w : Value) → InEither v → InEither w → id_of r.kind v ≡ id_of r.kind w → value_text r.kind v ≡ value_text r.kind w
    either_same v w (inl h) (inl k) e = ap (value_text r.kind) (same_Some v w (sym h ∙ ap (get r.objects) e ∙ k))
    either_same v w (inl h) (inr k) e = texts (id_of r.kind w) v w (ap (get r.objects) (sym e) ∙ h) k
    either_same v w (inr h) (inl k) e = sym (texts (id_of r.kind w) w v k (ap (get s.objects) (sym e) ∙ h))
    either_same v w (inr h) (inr k) e = ap (value_text r.kind) (same_Some v w (sym h ∙ ap (get s.objects) e ∙ k))

    in_r : (m : FileMap) → HasAll (IsStored r) m → HasAll InEither m
    in_r m h = record { itself = inl h.itself; folders = λ path content folder i j. inl (h.folders path content folder i j); bytes = λ path content i. inl (h.bytes path content i) }

    in_s : (m : FileMap) → HasAll (IsStored s) m → HasAll InEither m
    in_s m h = record { itself = inr h.itself; folders = λ path content folder i j. inr (h.folders path content folder i j); bytes = λ path content i. inr (h.bytes path content i) }

    folder_same : (p q : Id) (m n : FileMap) → get r.objects p ≡ Some (StoredFolder m) → get s.objects q ≡ Some (StoredFolder n) → value_text r.kind (StoredFolder m) ≡ value_text r.kind (StoredFolder n) → m ≡ n
    folder_same p q m n at_r at_s same =
        one_map r.kind InEither either_same m n (plain_written m (((left.written).values p (StoredFolder m) at_r).0)) (plain_written n (((right.written).values q (StoredFolder n) at_s).0))
        (in_r m (has_stored r (left.whole).store p m at_r)) (in_s n (has_stored s (right.whole).store q n at_s)) (text_same r.kind (StoredFolder m) (StoredFolder n) same).1

    commits_same : (q : Id) (c d : CommitValue) → get r.objects q ≡ Some (StoredCommit c) → get s.objects q ≡ Some (StoredCommit d) → value_text r.kind (StoredCommit c) ≡ value_text r.kind (StoredCommit d) → c ≡ d
    commits_same q c d at_r at_s same =
        let parts = commit_same r.kind c d (((left.written).values q (StoredCommit c) at_r).0).0 (((right.written).values q (StoredCommit d) at_s).0).0 (text_same r.kind (StoredCommit c) (StoredCommit d) same).1 in
        let tree_r : IsStored r (StoredFolder c.files) = (((left.whole).store).closed q (StoredCommit c) at_r).1 in
        let tree_s : IsStored s (StoredFolder d.files) = (((right.whole).store).closed q (StoredCommit d) at_s).1 in
        let files = folder_same (id_of r.kind (StoredFolder c.files)) (id_of r.kind (StoredFolder d.files)) c.files d.files tree_r tree_s (either_same (StoredFolder c.files) (StoredFolder d.files) (inl tree_r) (inr tree_s) parts.0) in
        λ i. record { parents = parts.1 i; author = parts.2 i; committer = parts.3 i; message = parts.4 i; files = files i }

    value_same : (q : Id) (v w : Value) → get r.objects q ≡ Some v → get s.objects q ≡ Some w → value_text r.kind v ≡ value_text r.kind w → v ≡ w
    value_same q (StoredCommit c) (StoredCommit d) at_r at_s same = ap StoredCommit (commits_same q c d at_r at_s same)
    value_same q (StoredTag c) (StoredTag d) at_r at_s same =
        ap StoredTag (tag_same r.kind c d ((left.written).values q (StoredTag c) at_r).0 ((right.written).values q (StoredTag d) at_s).0 (text_same r.kind (StoredTag c) (StoredTag d) same).1)
    value_same q (StoredBytes b) (StoredBytes c) at_r at_s same = ap StoredBytes (text_same r.kind (StoredBytes b) (StoredBytes c) same).1
    value_same q (StoredFolder m) (StoredFolder n) at_r at_s same = ap StoredFolder (folder_same q q m n at_r at_s same)
    value_same q v w at_r at_s same = texts_differ _ _ refl (text_same r.kind v w same).0

    objects_at : (q : Id) → get r.objects q ≡ get s.objects q
    objects_at q = go (get r.objects q) refl (get s.objects q) refl
      where
        go : (a : Option Value) → get r.objects q ≡ a → (b : Option Value) → get s.objects q ≡ b → a ≡ b
        go None e None f = refl
        go (Some v) e None f = none_is_some (value_text r.kind v)
            (ap (option_map (value_text r.kind)) (sym f) ∙ sym (one_text q (stored_id r (left.whole).store q v e)) ∙ ap (option_map (value_text r.kind)) e)
        go None e (Some w) f = none_is_some (value_text r.kind w)
            (ap (option_map (value_text r.kind)) (sym e) ∙ one_text q (stored_id s (right.whole).store q w f) ∙ ap (option_map (value_text r.kind)) f)
        go (Some v) e (Some w) f = ap Some (value_same q v w e f (texts q v w e f))

    -- names

    ids_at : (name : Bytes) → id_at r name ≡ id_at s name
    ids_at name = go (id_at r name) refl (id_at s name) refl
      where
        go : (a : Option Id) → id_at r name ≡ a → (b : Option Id) → id_at s name ≡ b → a ≡ b
        go None e None f = refl
        go None e (Some id) f = sym e ∙ ((left.stands).names name id).0 (((right.stands).names name id).1 f)
        go (Some id) e b f = sym (((right.stands).names name id).0 (((left.stands).names name id).1 e)) ∙ f

    moves_at_one : (name : Bytes) → moves_at r name ≡ moves_at s name
    moves_at_one name = moves_same r.kind (moves_at r name) (moves_at s name) (moves_formed r left.written name) (moves_formed s right.written name) (sym ((left.stands).logs name) ∙ (right.stands).logs name)

    names_at : (name : Bytes) → get r.names name ≡ get s.names name
    names_at name = go (get r.names name) (get s.names name) (ids_at name) (moves_at_one name)
      where
        go : (a b : Option Reference) → option_map (λ (ref : Reference). ref.id) a ≡ option_map (λ (ref : Reference). ref.id) b
            → unwrap_or (option_map (λ (ref : Reference). ref.moves) a) [] ≡ unwrap_or (option_map (λ (ref : Reference). ref.moves) b) [] → a ≡ b
        go None None e f = refl
        go None (Some b) e f = none_is_some b.id e
        go (Some a) None e f = none_is_some a.id (sym e)
        go (Some a) (Some b) e f = λ i. Some (record { id = same_Some a.id b.id e i; moves = f i })

    -- HEAD

    branches : r.branch ≡ s.branch
    branches = (cut_same (codes "ref: ") (codes "ref: ") r.branch s.branch refl (last_same (codes "ref: " ++ r.branch) (codes "ref: " ++ s.branch) 10
        (same_Some (head_text r.branch) (head_text s.branch) (sym (left.stands).head ∙ (right.stands).head)))).1

    of_one_kind : r ≡ s
    of_one_kind = λ i. record { kind = r.kind; names = one_by_keys r.names s.names names_at i; branch = branches i; objects = one_by_ids r.objects s.objects objects_at i }

pub one_pair : (kind : Kind) (pair : Pair) (r s : Repository) → StandsWhole kind pair r → StandsWhole kind pair s → r ≡ s
one_pair kind pair r s left right = of_one_kind kind pair r s.names s.branch s.objects left (subst (StandsWhole kind pair) same right) ∙ sym same
  where
    kinds : s.kind ≡ r.kind
    kinds = (right.stands).of_kind ∙ sym (left.stands).of_kind

    same : s ≡ record { kind = r.kind; names = s.names; branch = s.branch; objects = s.objects }
    same = λ i. record { kind = kinds i; names = s.names; branch = s.branch; objects = s.objects }
