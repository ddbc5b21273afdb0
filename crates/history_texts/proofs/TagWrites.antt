-- A tag of the store is written whole, as the text of the plain repository's tag.
use Rattle.std.proofs.Common.{◌≡◌, ◌∙◌, ap, refl, sym, ◌%◌, Bool, true, false, cond, not, ◌&&◌, ◌||◌, [], ◌∷◌, ◌++◌, append_assoc}
use Rattle.std.specs.Prelude.{IsTrue, MatchOption, Option, None, Some, bytes_eq, codes, unsigned_abs, ◌==◌, nat_le}
use Rattle.std.specs.Fmt.{signed_decimal}
use Rattle.std.specs.List.{list_any}
use Rattle.std.specs.Str.{is_utf8}
use Rattle.std.proofs.lemmas.Bool.Decides.{Decides-eqb, Decides-ltb}
use Rattle.std.proofs.lemmas.Bool.{or_from, or_parts}
use Rattle.gix_hash.specs.Id.{id_of}
use Rattle.gix_hash.specs.declared.kind.Kind.{Kind}
use Rattle.gix_object_lines.specs.HexLine.{is_id as is_id_text}
use Rattle.gix_object_lines.specs.Kind.{kind_word}
use Rattle.gix_object_lines.specs.NameTest.{begins, ends, holds, is_barred, is_partial_name}
use Rattle.gix_object_lines.specs.Person.{actor_line, own_person}
use Rattle.gix_object_lines.specs.Time.{offset_text}
use Rattle.gix_object_lines.specs.declared.kind.Kind.TheVariants as objects
use Rattle.gix_object_lines.specs.declared.lines.actor.Actor as lines
use Rattle.gix_object_tag.specs.NameTest.{name_fault}
use Rattle.gix_object_tag.specs.OwnedText.{is_bad_actor, is_bad_offset, own_parts, own_tagger}
use Rattle.gix_object_tag.specs.Pieces.{first_refusal}
use Rattle.gix_object_tag.specs.TagText.{body_piece, head_text, is_marked, name_line, name_refusal, tag_refusal, tag_text, tagger_line, tagger_piece, tagger_text, unspellable_unless}
use Rattle.gix_object_tag.specs.declared.tag.owned.Tag.{Tag}
use Rattle.gix_object_tag.proofs.Accepted.{target_is_id}
use Rattle.history_model.specs.Bytes.{Bytes, has_byte}
use Rattle.history_model.specs.Forms.{is_actor_part, is_name, is_tag_form, is_tag_name, max_name}
use Rattle.history_model.specs.Objects.{Actor, TagValue, actor_text, hex, tag_content}
use Rattle.history_model.proofs.NameLemmas.{ends_cons}
use Rattle.history_model.proofs.OnePairTexts.{part_plain}
use Rattle.history_texts.specs.Actors.{HasActorForm}
use Rattle.history_texts.specs.Formats.{own_actor, person_of}
use Rattle.history_texts.specs.Written.{tag_lines}
use Rattle.history_texts.proofs.ActorTexts.{actor_parts, line_of_person}
use Rattle.history_texts.proofs.CommitTexts.{id_formed}
use Rattle.history_texts.proofs.Spelled.{and_from, not_from}
use Rattle.history_texts.proofs.TagLines.{content_lines, tag_form}
use Rattle.gix_ref_file.proofs.Rooted.{both}
use Rattle.gix_ref_file.proofs.Trees.{from_not}

-- ---- the name after `refs/tags/`

-- an end of what follows is one of the whole
ends_behind : (front back rest : Bytes) → ends back rest ≡ true → ends back (front ++ rest) ≡ true
ends_behind [] back rest h = h
ends_behind (b ∷ front) back rest h = ends_cons b back (front ++ rest) (ends_behind front back rest h)

no_end : (back rest : Bytes) → ends back (codes "refs/tags/" ++ rest) ≡ false → ends back rest ≡ false
no_end back rest none = by_test (ends back rest) refl
  where
    by_test : (b : Bool) → ends back rest ≡ b → b ≡ false
    by_test false e = refl
    by_test true e = absurd (cc (ends_behind (codes "refs/tags/") back rest e, none))

some_behind : (rest : Bytes) → ends (codes "/") (codes "refs/tags/" ++ rest) ≡ false → bytes_eq rest [] ≡ false
some_behind [] none = cc
some_behind (b ∷ rest) none = refl

-- each rule that the name obeys what follows `refs/tags/` does, but for `@`
partial_behind : (rest : Bytes) → is_partial_name (codes "refs/tags/" ++ rest) ≡ true → bytes_eq rest (codes "@") ≡ false → is_partial_name rest ≡ true
partial_behind rest whole alone =
    let full = codes "refs/tags/" ++ rest in
    let some = both (not (bytes_eq full [])) _ whole in
    let dot = both (not (begins (codes ".") full)) _ some.1 in
    let slash_dot = both (not (holds (codes "/.") full)) _ dot.1 in
    let lock = both (not (ends (codes ".lock") full)) _ slash_dot.1 in
    let lock_slash = both (not (holds (codes ".lock/") full)) _ lock.1 in
    let dots = both (not (holds (codes "..") full)) _ lock_slash.1 in
    let barred = both (not (list_any is_barred full)) _ dots.1 in
    let slash = both (not (begins (codes "/") full)) _ barred.1 in
    let last_slash = both (not (ends (codes "/") full)) _ slash.1 in
    let slashes = both (not (holds (codes "//") full)) _ last_slash.1 in
    let last_dot = both (not (ends (codes ".") full)) _ slashes.1 in
    let brace = both (not (holds (codes "@{") full)) _ last_dot.1 in
    let dotted = or_parts (begins (codes ".") rest) (holds (codes "/.") rest) (from_not _ slash_dot.0) in
    let slashed = or_parts (begins (codes "/") rest) (holds (codes "//") rest) (from_not _ slashes.0) in
    and_from _ _ (not_from _ (some_behind rest (from_not _ last_slash.0)))
    (and_from _ _ (not_from _ dotted.0)
    (and_from _ _ (not_from _ dotted.1)
    (and_from _ _ (not_from _ (no_end (codes ".lock") rest (from_not _ lock.0)))
    (and_from _ _ (not_from _ (from_not _ lock_slash.0))
    (and_from _ _ (not_from _ (from_not _ dots.0))
    (and_from _ _ (not_from _ (from_not _ barred.0))
    (and_from _ _ (not_from _ slashed.0)
    (and_from _ _ (not_from _ (no_end (codes "/") rest (from_not _ last_slash.0)))
    (and_from _ _ (not_from _ slashed.1)
    (and_from _ _ (not_from _ (no_end (codes ".") rest (from_not _ last_dot.0)))
    (and_from _ _ (not_from _ (from_not _ brace.0)) (not_from _ alone))))))))))))

-- so it is one that a tag's line may have
name_fits : (name : Bytes) → IsTrue (is_tag_name name) → name_fault name ≡ None
name_fits name is =
    let full = codes "refs/tags/" ++ name in
    let a = both (is_name full && not (bytes_eq name (codes "@"))) (not (begins (codes "-") name)) is in
    let b = both (is_name full) (not (bytes_eq name (codes "@"))) a.0 in
    let c = both (is_partial_name full && begins (codes "refs/") full && is_utf8 full) (nat_le (Rattle.std.proofs.Common.length full) max_name) b.0 in
    let d = both (is_partial_name full && begins (codes "refs/") full) (is_utf8 full) c.0 in
    let e = both (is_partial_name full) (begins (codes "refs/") full) d.0 in
    fits (is_partial_name name) (begins (codes "-") name) (partial_behind name e.0 (from_not _ b.1)) (from_not _ a.1)
  where
    fits : (partial dashed : Bool) → partial ≡ true → dashed ≡ false
        → cond partial (cond dashed (Some Rattle.gix_object_lines.specs.declared.write.TagNameError.TheVariants.StartsWithDash) None) (Some Rattle.gix_object_lines.specs.declared.write.TagNameError.TheVariants.InvalidRefName) ≡ None
    fits true false p d = refl
    fits true true p d = cc
    fits false dashed p d = cc

-- ---- the tagger

part_fits : (part : Bytes) → IsTrue (is_actor_part part) → is_marked part ≡ false
part_fits part is = three part (part_plain 60 refl part is) (part_plain 62 refl part is) (part_plain 10 refl part is)
  where
    three : (text : Bytes) → has_byte 60 text ≡ false → has_byte 62 text ≡ false → has_byte 10 text ≡ false → list_any (λ byte. byte == 60 || byte == 62 || byte == 10) text ≡ false
    three [] a b c = refl
    three (x ∷ text) a b c =
        let open_mark = or_parts (x == 60) (has_byte 60 text) a in
        let close_mark = or_parts (x == 62) (has_byte 62 text) b in
        let feed = or_parts (x == 10) (has_byte 10 text) c in
        or_from _ _ (λ i. open_mark.0 i || close_mark.0 i || feed.0 i) (three text open_mark.1 close_mark.1 feed.1)

offset_fits : (offset : Rattle.std.specs.Prelude.ℤ) → Rattle.gix_object_lines.specs.Time.IsSpellableOffset offset → is_bad_offset offset ≡ false
offset_fits offset whole =
    let amount = unsigned_abs offset in
    λ i. not ((Decides-eqb (amount % 60) 0).1 whole.0 i) || not ((Decides-ltb amount 360_000).1 whole.1 i)

actor_fits : (actor : lines.Actor) → HasActorForm actor → is_bad_actor (Some actor) ≡ false
actor_fits actor formed =
    let parts = actor_parts (own_actor actor) formed.actor in
    let name = part_fits actor.name parts.name in
    let email = part_fits actor.email parts.email in
    let offset = offset_fits actor.time.offset formed.plain_time.whole in
    λ i. (name i || email i) || offset i

tagger_said : (actor : lines.Actor) (value : Actor) → HasActorForm actor → own_actor actor ≡ value → tagger_line (own_tagger (Some actor)) ≡ codes "tagger " ++ (actor_text value ++ 10 ∷ [])
tagger_said actor value formed is =
    let person : own_person actor ≡ person_of (own_actor actor) = λ i. record { name = actor.name; email = actor.email; time = signed_decimal (formed.plain_time.since i) ++ 32 ∷ offset_text actor.time.offset } in
    ap (λ p. tagger_line (Some p)) person
    ∙ ap (λ text. codes "tagger " ++ (text ++ 10 ∷ [])) (shape (own_actor actor) ∙ line_of_person (own_actor actor) ∙ ap actor_text is)
  where
    parted : (n i e c t : Bytes) → n ++ (i ++ (e ++ (c ++ t))) ≡ n ++ i ++ e ++ c ++ t
    parted n i e c t = simp append_assoc

    shape : (a : Actor) → tagger_text (person_of a) ≡ actor_line (person_of a)
    shape a = parted (person_of a).name (codes " <") (person_of a).email (codes "> ") (person_of a).time

-- ---- the whole

module _ (kind : Kind) (tag : Tag) (value : TagValue) (form : IsTrue (is_tag_form kind value)) (actor : lines.Actor) (formed : HasActorForm actor)
    (target : id_of tag.target ≡ value.target) (of_commit : tag.target_kind ≡ objects.Commit) (name : tag.name ≡ value.name)
    (tagger : tag.tagger ≡ Some actor) (said : own_actor actor ≡ value.tagger) (message : tag.message ≡ []) (signature : tag.pgp_signature ≡ None) where
  no_refusal : tag_refusal (own_parts tag) (is_bad_actor tag.tagger) ≡ None
  no_refusal =
      let parts = tag_form kind value form in
      let id : is_id_text (hex (id_of tag.target)) ≡ true = ap (λ i. is_id_text (hex i)) target ∙ target_is_id kind (hex value.target) (id_formed kind value.target parts.target) in
      let named : name_fault tag.name ≡ None = ap name_fault name ∙ name_fits value.name parts.name in
      let good : is_bad_actor tag.tagger ≡ false = ap is_bad_actor tagger ∙ actor_fits actor formed in
      let whole : Rattle.gix_object_tag.specs.BodyTest.is_whole_body tag.message tag.pgp_signature ≡ true = λ i. Rattle.gix_object_tag.specs.BodyTest.is_whole_body (message i) (signature i) in
      λ i. first_refusal (
      record { text = head_text (hex (id_of tag.target)) (kind_word tag.target_kind); refusal = unspellable_unless (id i) }
      ∷ record { text = name_line tag.name; refusal = name_refusal (named i) }
      ∷ tagger_piece (own_parts tag) (good i)
      ∷ body_piece (own_parts tag) (whole i)
      ∷ [])

  -- its lines, and the empty one
  text_is : tag_text (own_parts tag) ≡ head_text (hex value.target) (codes "commit") ++ (name_line value.name ++ ((codes "tagger " ++ (actor_text value.tagger ++ 10 ∷ [])) ++ ((10 ∷ []) ++ [])))
  text_is =
      (λ i. head_text (hex (target i)) (kind_word (of_commit i)) ++ (name_line (name i) ++ (tagger_line (own_tagger (tagger i)) ++ (Rattle.gix_object_tag.specs.TagText.body_text (message i) (signature i) ++ []))))
      ∙ ap (λ line. head_text (hex value.target) (codes "commit") ++ (name_line value.name ++ (line ++ ((10 ∷ []) ++ [])))) (tagger_said actor value.tagger formed said)

  -- with the message after them they are the value's content
  whole : (text more : Bytes) → text ≡ tag_text (own_parts tag) → more ≡ value.message → text ++ more ≡ tag_content value
  whole text more written behind =
      (λ i. (written ∙ text_is) i ++ behind i) ∙ joined (hex value.target) value.name (actor_text value.tagger) value.message ∙ sym (content_lines value)
    where
      lines_of : (o id f k t n g a m : Bytes) → (((o ++ (id ++ f)) ++ k) ++ ((t ++ (n ++ f)) ++ ((g ++ (a ++ f)) ++ (f ++ [])))) ++ m ≡ o ++ (id ++ (f ++ (k ++ (t ++ (n ++ (f ++ (g ++ (a ++ (f ++ (f ++ m))))))))))
      lines_of o id f k t n g a m = simp append_assoc

      joined : (id n actor m : Bytes) → (head_text id (codes "commit") ++ (name_line n ++ ((codes "tagger " ++ (actor ++ 10 ∷ [])) ++ ((10 ∷ []) ++ [])))) ++ m
          ≡ tag_lines (record { target = id; name = n; tagger = actor; message = m })
      joined id n actor m = lines_of (codes "object ") id (10 ∷ []) (codes "type commit\n") (codes "tag ") n (codes "tagger ") actor m

-- a tag with these parts and without a message
module _ (kind : Kind) (tag : Tag) (value : TagValue) (form : IsTrue (is_tag_form kind value)) (target : id_of tag.target ≡ value.target) (of_commit : tag.target_kind ≡ objects.Commit) (name : tag.name ≡ value.name)
    (told : MatchOption tag.tagger ⊥ (λ actor. (own_actor actor ≡ value.tagger) × HasActorForm actor)) (message : tag.message ≡ []) (signature : tag.pgp_signature ≡ None) where
  pub none_refused : tag_refusal (own_parts tag) (is_bad_actor tag.tagger) ≡ None
  none_refused = go tag.tagger refl told
    where
      go : (found : Option lines.Actor) → tag.tagger ≡ found → MatchOption found ⊥ (λ actor. (own_actor actor ≡ value.tagger) × HasActorForm actor) → tag_refusal (own_parts tag) (is_bad_actor tag.tagger) ≡ None
      go None is h = absurd h
      go (Some actor) is h = no_refusal kind tag value form actor h.1 target of_commit name is h.0 message signature

  pub content_is : (text more : Bytes) → text ≡ tag_text (own_parts tag) → more ≡ value.message → text ++ more ≡ tag_content value
  content_is text more written behind = go tag.tagger refl told
    where
      go : (found : Option lines.Actor) → tag.tagger ≡ found → MatchOption found ⊥ (λ actor. (own_actor actor ≡ value.tagger) × HasActorForm actor) → text ++ more ≡ tag_content value
      go None is h = absurd h
      go (Some actor) is h = whole kind tag value form actor h.1 target of_commit name is h.0 message signature text more written behind
