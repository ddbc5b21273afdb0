-- A line is cut in one way.
use Rattle.std.proofs.Common.{◌≡◌, ◌∙◌, refl, sym, subst, inl, inr, ℕ, List, [], ◌∷◌, ◌++◌, true, arith}
use Rattle.std.specs.Prelude.{◌⊎◌, Option, None, Some, Result, Ok, Err, IsOkAnd, MatchOption}
use Rattle.std.specs.Option.{ok_or}
use Rattle.std.specs.Result.{result_ok}
use Rattle.gix_object_lines.specs.Actor.{SpellsActor}
use Rattle.gix_object_lines.specs.Bytes.{Lacks}
use Rattle.gix_object_lines.specs.HexLine.{is_id}
use Rattle.gix_object_lines.proofs.ActorLemmas.{one_cut}
use Rattle.gix_object_lines.proofs.Cuts.{cut_once}
use Rattle.gix_object_lines.proofs.CutLemmas.{lacks_both, lacks_cons, lacks_it}
use Rattle.gix_ref_log.specs.LogCuts.{IsIdsCut, IsMessageCut}
use Rattle.gix_ref_log.specs.LogLine.{LineParts, SpellsLine, IsNoLine, front_text}
use Rattle.gix_ref_log.specs.LogViews.{parts_of}
use Rattle.gix_ref_log.specs.declared.line.LineRef.{LineRef}
use Rattle.gix_ref_log.specs.declared.line.decode.Error.{Error}
use Rattle.gix_object_lines.proofs.HexDigits.{id_lacks}

-- ---- before the tab

pub one_ids_cut : (front b a x b' a' x' : List ℕ) → IsIdsCut front b a x → IsIdsCut front b' a' x' → (b ≡ b') × ((a ≡ a') × (x ≡ x'))
one_ids_cut front b a x b' a' x' c c' =
    let first = cut_once 32 b (a ++ 32 ∷ x) b' (a' ++ 32 ∷ x') (id_lacks 32 b refl c.before_is_id) (id_lacks 32 b' refl c'.before_is_id) (sym c.spelled ∙ c'.spelled) in
    (first.0, cut_once 32 a x a' x' (id_lacks 32 a refl c.after_is_id) (id_lacks 32 a' refl c'.after_is_id) first.1)

-- no tab is there
pub front_lacks : (b a x : List ℕ) → is_id b ≡ true → is_id a ≡ true → Lacks 9 x → Lacks 9 (front_text b a x)
front_lacks b a x b_is a_is l =
    lacks_both 9 b (32 ∷ (a ++ 32 ∷ x)) (id_lacks 9 b refl b_is)
    (lacks_cons 9 32 (a ++ 32 ∷ x) (λ e. omega arith) (lacks_both 9 a (32 ∷ x) (id_lacks 9 a refl a_is) (lacks_cons 9 32 x (λ e. omega arith) l)))

-- ---- at the tab

pub one_message_cut : (line front message front' message' : List ℕ) → IsMessageCut line front message → IsMessageCut line front' message' → (front ≡ front') × (message ≡ message')
one_message_cut line front message front' message' c c' = by_cases c.cut c'.cut
  where
    by_cases : (line ≡ front ++ 9 ∷ message) ⊎ ((line ≡ front) × (message ≡ [])) → (line ≡ front' ++ 9 ∷ message') ⊎ ((line ≡ front') × (message' ≡ [])) → (front ≡ front') × (message ≡ message')
    by_cases (inl e) (inl e') = cut_once 9 front message front' message' c.no_tab c'.no_tab (sym e ∙ e')
    by_cases (inl e) (inr e') = absurd (lacks_it 9 front' front message (sym e'.0 ∙ e) c'.no_tab)
    by_cases (inr e) (inl e') = absurd (lacks_it 9 front front' message' (sym e.0 ∙ e') c.no_tab)
    by_cases (inr e) (inr e') = (sym e.0 ∙ e'.0, e.1 ∙ sym e'.1)

-- ---- the whole line

pub message_cut : (text : List ℕ) (p : LineParts) (s : SpellsLine text p) → IsMessageCut text (front_text p.before p.after s.actor) p.message
message_cut text p s = record { no_tab = front_lacks p.before p.after s.actor s.before_is_id s.after_is_id s.no_tab; cut = s.spelled }

pub ids_cut : (text : List ℕ) (p : LineParts) (s : SpellsLine text p) → IsIdsCut (front_text p.before p.after s.actor) p.before p.after s.actor
ids_cut text p s = record { spelled = refl; before_is_id = s.before_is_id; after_is_id = s.after_is_id }

-- where the line is cut so, the parts are cut so
pub cuts_of : (text front message : List ℕ) (p : LineParts) → IsMessageCut text front message → (s : SpellsLine text p) → (front ≡ front_text p.before p.after s.actor) × (message ≡ p.message)
cuts_of text front message p c s = one_message_cut text front message (front_text p.before p.after s.actor) p.message c (message_cut text p s)

pub ids_of : (text front message b a x : List ℕ) (p : LineParts) → IsMessageCut text front message → IsIdsCut front b a x → (s : SpellsLine text p) → (b ≡ p.before) × ((a ≡ p.after) × (x ≡ s.actor))
ids_of text front message b a x p c i s =
    let same = cuts_of text front message p c s in
    one_ids_cut (front_text p.before p.after s.actor) b a x p.before p.after s.actor (subst (λ f. IsIdsCut f b a x) same.0 i) (ids_cut text p s)

-- there are no two readings
pub one_line : (text : List ℕ) (p q : LineParts) → SpellsLine text p → SpellsLine text q → p ≡ q
one_line text p q s t =
    let mine = message_cut text p s in
    let cut = cuts_of text (front_text p.before p.after s.actor) p.message q mine t in
    let ids = ids_of text (front_text p.before p.after s.actor) p.message p.before p.after s.actor q mine (ids_cut text p s) t in
    let actor = one_cut t.actor p.name p.email p.time q.name q.email q.time (subst (λ x. SpellsActor x p.name p.email p.time) ids.1.1 s.actor_spelled).cut t.actor_spelled.cut in
    same_made ids.0 ids.1.0 actor.0 actor.1 actor.2 cut.1
  where
    same_made : {b b' a a' n n' e e' t t' m m' : List ℕ} → b ≡ b' → a ≡ a' → n ≡ n' → e ≡ e' → t ≡ t' → m ≡ m'
        → ◌≡◌ {A = LineParts} (record { before = b; after = a; name = n; email = e; time = t; message = m }) (record { before = b'; after = a'; name = n'; email = e'; time = t'; message = m' })
    same_made p q r s t u = cc

-- ---- what readers answer

pub every_of : (text : List ℕ) (read : Option LineRef) (error : Error) → MatchOption read (IsNoLine text) (λ line. SpellsLine text (parts_of line))
    → (parts : LineParts) → SpellsLine text parts → IsOkAnd (ok_or read error) (λ line. parts_of line ≡ parts)
every_of text None error h parts is = absurd (h parts is)
every_of text (Some line) error h parts is = one_line text (parts_of line) parts h is

pub not_none : {A E : Type 0} (r : Result A E) (P : A → Type 0) → IsOkAnd r P → result_ok r ≡ None → ⊥
not_none (Ok x) P h e = cc
not_none (Err x) P h e = h
