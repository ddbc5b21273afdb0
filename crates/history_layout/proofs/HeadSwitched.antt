-- A switch passes: HEAD is as before or names the branch, and each name is as before.
use Rattle.std.proofs.Common.{◌≡◌, ◌⊎◌, inl, inr, Bool, true, false, cond, not, ◌&&◌, ◌||◌, [], refl, sym, ◌∙◌, ap, Option, Some, None, option_map, unwrap_or, bytes_eq}
use Rattle.gix_ref_file.specs.Tree.{Tree}
use Rattle.history_model.specs.Bytes.{Bytes}
use Rattle.history_model.specs.Repository.{Repository, stands}
use Rattle.history_model.specs.Forms.{is_name}
use Rattle.history_model.specs.Commands.{Switch}
use Rattle.history_model.specs.Meaning.{after}
use Rattle.history_model.specs.Causes.{first_cause}
use Rattle.history_model.specs.NameStates.{NameState, Absent, is_absent, loose_state, packed_text_state, name_state}
use Rattle.history_model.specs.PackedNames.{packed_file}
use Rattle.history_model.specs.Logs.{whole_lines}
use Rattle.history_model.specs.Places.{Pair, file_at, head_place, packed_place, log_place, is_lock_file, is_log_place, is_name_place, log_name}
use Rattle.history_model.specs.StandsFor.{StandsFor}
use Rattle.history_model.specs.laws.Wholeness.{IsSound}
use Rattle.gix_hash.specs.declared.kind.Kind.{Kind}
use Rattle.history_layout.specs.TreeHalves.{HoldsNames}
use Rattle.history_layout.specs.Passing.{NamesOnTheWay, log_in}
use Rattle.history_layout.specs.SwitchSteps.{NamesBranch, HeadOnTheWay, SwitchesStand, SwitchesPass}
use Rattle.history_model.proofs.NameLemmas.{log-lock, name-lock}
use Rattle.history_model.proofs.WholeLists.{either}
use Rattle.history_layout.proofs.PassedStates.{names_begin, names_pass}
use Rattle.history_layout.proofs.PassedStops.{packed_more}
use Rattle.history_layout.proofs.TreeMoves.{head_apart, state_same}

-- what doesn't read as absent is a name
there_named : (b : Bool) (x : NameState) → is_absent (cond b x Absent) ≡ false → b ≡ true
there_named true x e = refl
there_named false x e = cc

third : (a b c d e : Bool) → c ≡ true → (a || b || c || d || e) ≡ true
third true b c d e h = refl
third false true c d e h = refl
third false false true d e h = refl
third false false false d e h = cc

-- ---- once it is made

module _ (old new : Tree) (r : Repository) (name : Bytes) (holds : HoldsNames old r) (named : NamesBranch name old new) where
  same_packed : file_at new packed_place ≡ file_at old packed_place
  same_packed = named.others packed_place (λ same. cc)

  same_state : (q : Bytes) → name_state r.kind new q ≡ name_state r.kind old q
  same_state q = state_same r.kind old new q (λ is. named.others q (λ same. head_apart q is (sym same))) same_packed

  placed : (path text : Bytes) → file_at new path ≡ Some text → is_name_place r path ≡ true
  placed path text at = elim (either (bytes_eq path head_place)) [
    | inl e ↦ ap (λ b. b || bytes_eq path packed_place || stands r path || (is_log_place path && stands r (log_name path))) e
    | inr e ↦ holds.places path text (sym (named.others path (λ same. absurd (cc (e, ap (λ p. bytes_eq p head_place) same)))) ∙ at)
  ]

  stands_so : HoldsNames new (after r (Switch name))
  stands_so = record {
    head = named.here;
    names = λ q id. (
      λ h. (holds.names q id).0 (sym (same_state q) ∙ h),
      λ h. same_state q ∙ (holds.names q id).1 h,
    );
    logs = λ q. ap (λ o. unwrap_or o []) (named.others (log_place q) (λ same. cc)) ∙ holds.logs q;
    packed = λ text at. packed_more r (after r (Switch name)) (λ q v h. h) (packed_file r.kind text) (holds.packed text (sym same_packed ∙ at));
    places = placed;
    folders = named.folders;
  }

pub switches_stand : SwitchesStand
switches_stand old new r name holds named = stands_so old new r name holds named

-- ---- meanwhile

module _ (pair : Pair) (tree : Tree) (r : Repository) (name : Bytes) (s : StandsFor r.kind pair r) (may : HeadOnTheWay name pair.names tree) where
  begin : NamesOnTheWay r (Switch name) pair.names
  begin = names_begin r (Switch name) pair s

  packed_then : file_at tree packed_place ≡ file_at pair.names packed_place
  packed_then = may.others packed_place (λ same. cc) refl

  state_then : (q : Bytes) → name_state r.kind tree q ≡ name_state r.kind pair.names q
  state_then q = state_same r.kind pair.names tree q (λ is. may.others q (λ same. head_apart q is (sym same)) (name-lock q is)) packed_then

  there_then : (q : Bytes) → is_absent (name_state r.kind tree q) ≡ false → is_absent (name_state r.kind pair.names q) ≡ false
  there_then q there = sym (ap is_absent (state_then q)) ∙ there

  log_then : (q : Bytes) → is_absent (name_state r.kind tree q) ≡ false → log_in tree q ≡ log_in pair.names q
  log_then q there = ap (λ o. whole_lines (unwrap_or o [])) (may.others (log_place q) (λ same. cc) (log-lock q (there_named (is_name q) _ there)))

  places_then : (path text : Bytes) → file_at tree path ≡ Some text
      → (bytes_eq path head_place || bytes_eq path packed_place || is_lock_file path || is_log_place path || not (is_absent (name_state r.kind tree path))) ≡ true
  places_then path text at = elim (either (bytes_eq path head_place)) [
    | inl e ↦ ap (λ b. b || bytes_eq path packed_place || is_lock_file path || is_log_place path || not (is_absent (name_state r.kind tree path))) e
    | inr e ↦ elim (either (is_lock_file path)) [
      | inl f ↦ third (bytes_eq path head_place) (bytes_eq path packed_place) (is_lock_file path) (is_log_place path) (not (is_absent (name_state r.kind tree path))) f
      | inr f ↦ ap (λ x. bytes_eq path head_place || bytes_eq path packed_place || is_lock_file path || is_log_place path || not (is_absent x)) (state_then path)
          ∙ begin.places path text (sym (may.others path (λ same. absurd (cc (e, ap (λ p. bytes_eq p head_place) same))) f) ∙ at)
    ]
  ]

  on_the_way : NamesOnTheWay r (Switch name) tree
  on_the_way = record {
    head = elim may.here [
      | inl e ↦ inl (e ∙ s.head)
      | inr e ↦ inr e
    ];
    reads = λ q. elim (begin.reads q) [
      | inl e ↦ inl (state_then q ∙ e)
      | inr e ↦ inr (state_then q ∙ e)
    ];
    logs = λ q there. elim (begin.logs q (there_then q there)) [
      | inl e ↦ inl (log_then q there ∙ e)
      | inr (inl e) ↦ inr (inl (log_then q there ∙ e))
      | inr (inr e) ↦ inr (inr (e.0, log_then q there ∙ e.1))
    ];
    log_first = λ q there. elim (begin.log_first q (there_then q there)) [
      | inl e ↦ inl (state_then q ∙ e)
      | inr e ↦ inr (log_then q there ∙ e)
    ];
    packed = λ text at. begin.packed text (sym packed_then ∙ at);
    places = places_then;
    folders = may.folders;
    not_lost = tt;
  }

pub switches_pass : SwitchesPass
switches_pass pair tree r name sound s none may = names_pass r (Switch name) tree sound none (on_the_way pair tree r name s may)
