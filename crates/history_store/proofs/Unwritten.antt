-- Calls that write nothing, and objects whose ids are taken or aren't.
use Rattle.std.proofs.Common.{◌≡◌, ◌≢◌, ◌∙◌, ◌++◌, [], refl, ap, inl, inr, subst, sym, Result, Ok, Err, Option, Some, None, true, false, is_some, OnOk}
use Rattle.std.specs.Prelude.{unwrap_or}
use Rattle.std.proofs.lemmas.Result.{on_ok_weaker}
use Rattle.gix_hash.specs.declared.object_id.ObjectId.{ObjectId}
use Rattle.gix_ref_file.specs.Calls.{Finds}
use Rattle.gix_ref_file.specs.Changes.{is_file_at}
use Rattle.gix_ref_file.specs.Tree.{Tree, bytes_at}
use Rattle.gix_ref_file.specs.declared.files.FileError.{FileError}
use Rattle.gix_ref_file.specs.declared.files.FileError.TheVariants as files
use Rattle.gix_ref_file.specs.declared.files.Files.{Ghosts}
use Rattle.gix_ref_file.proofs.Histories.{adds_nothing}
use Rattle.history_model.specs.Bytes.{Bytes}
use Rattle.history_model.specs.Places.{file_at, unfinished_place}
use Rattle.history_texts.specs.declared.object.NewObject.{NewObject}
use Rattle.history_store.specs.Calls.{RefusesTaken, WritesObject, WritesText}
use Rattle.history_store.specs.Stores.{IsTaken, put_fault}
use Rattle.history_store.specs.declared.objects.PutMadeError.{PutMadeError}
use Rattle.history_store.specs.declared.objects.PutMadeError.TheVariants.{File, IdTaken, Memory}

-- a fault isn't that an id is taken
pub fault_apart : (error : FileError) (id : ObjectId) → put_fault error ≡ IdTaken id → ⊥
fault_apart files.Failed id is = cc
fault_apart files.Memory id is = cc

pub fault_of_file : (error : FileError) → put_fault error ≡ File → error ≡ files.Failed
fault_of_file files.Failed is = refl
fault_of_file files.Memory is = cc

-- no file is at a place, and none of this text
pub none_here : (tree : Tree) (stands place bytes : Bytes) → stands ≡ place → is_file_at tree stands ≡ false → file_at tree place ≡ Some bytes → ⊥
none_here tree stands place bytes same none at = absurd (cc (sym none ∙ ap (is_file_at tree) same ∙ ap is_some at))

-- a file of this text is there
pub text_here : (tree : Tree) (stands place header content bytes : Bytes) → stands ≡ place → is_file_at tree stands ≡ true → bytes_at tree stands ≡ header ++ content → header ++ content ≡ bytes → file_at tree place ≡ Some bytes
text_here tree stands place header content bytes same is_file text is = ap (file_at tree) (sym same) ∙ file_of (file_at tree stands) is_file ∙ ap Some (text ∙ is)
  where
    file_of : (o : Option Bytes) → is_some o ≡ true → o ≡ Some (unwrap_or o [])
    file_of (Some b) h = refl
    file_of None h = cc

module _ {F : Type 0} (files : Ghosts F) where
  -- the text is there already
  pub found_written : {T E : Type 0} (place text : Bytes) (a : F) (result : Result T E) (x : T) → result ≡ Ok x → (files.is_honest a → file_at (files.history a).tree place ≡ Some text)
      → WritesObject files place text a a result
  found_written place text a result x is here = subst (λ r. WritesObject files place text a a r) (sym is) (record {
    stored = λ honest. record { here = here honest; others = λ path apart other. refl };
    finished = λ honest. inr refl;
    once = λ honest here. refl;
    moments = λ honest. adds_nothing (files.history a);
    atomic = λ atomic honest. tt;
  })

  -- it is written where no file is
  pub newly_written : {T E : Type 0} (written place joined text : Bytes) (a b : F) (result : Result T E) → written ≡ place → joined ≡ text → place ≢ unfinished_place
      → (files.is_honest a → file_at (files.history a).tree place ≡ Some text → ⊥) → WritesText files written joined a b result → WritesObject files place text a b result
  newly_written written place joined text a b result same_place same_text apart none writes =
      let own = subst (λ t. WritesText files place t a b result) same_text (subst (λ p. WritesText files p joined a b result) same_place writes) in
      record {
        stored = own.stored;
        finished = λ honest. on_ok_weaker result (λ gone. inl gone) (own.finished honest apart);
        once = λ honest here. absurd (none honest here);
        moments = own.moments;
        atomic = own.atomic;
      }

  -- both are errors
  pub also_written : {T E T' E' : Type 0} (place text : Bytes) (a b : F) (first : Result T E) (error : E) (result : Result T' E') (error' : E') → first ≡ Err error → result ≡ Err error'
      → WritesObject files place text a b first → WritesObject files place text a b result
  also_written place text a b first error result error' was is writes =
      let own = subst (λ r. WritesObject files place text a b r) was writes in
      subst (λ r. WritesObject files place text a b r) (sym is) (record { stored = λ honest. tt; finished = λ honest. tt; once = own.once; moments = own.moments; atomic = own.atomic })

  -- or none is
  pub both_written : {T E T' E' : Type 0} (place text : Bytes) (a b : F) (first : Result T E) (x : T) (result : Result T' E') (x' : T') → first ≡ Ok x → result ≡ Ok x'
      → WritesObject files place text a b first → WritesObject files place text a b result
  both_written place text a b first x result x' was is writes =
      let own = subst (λ r. WritesObject files place text a b r) was writes in
      subst (λ r. WritesObject files place text a b r) (sym is) (record { stored = own.stored; finished = own.finished; once = own.once; moments = own.moments; atomic = λ atomic honest. tt })

  -- the id isn't taken
  pub untaken_ok : {T : Type 0} (object : NewObject) (a b : F) (result : Result T PutMadeError) (x : T) → result ≡ Ok x → (files.is_honest a → IsTaken object (files.history a).tree → ⊥)
      → RefusesTaken files object a b result
  untaken_ok object a b result x is free = record {
    own = λ id told. absurd (cc (is, told));
    taken = λ id told. absurd (cc (is, told));
    unwritten = λ id told. absurd (cc (is, told));
    untouched = λ honest taken. absurd (free honest taken);
    free = λ honest. subst (λ r. OnOk r (IsTaken object (files.history a).tree → ⊥)) (sym is) (free honest);
  }

  -- with an error nothing is written
  pub none_written : {T E : Type 0} (place text : Bytes) (a : F) (result : Result T E) (error : E) → result ≡ Err error → WritesObject files place text a a result
  none_written place text a result error is = subst (λ r. WritesObject files place text a a r) (sym is) (record {
    stored = λ honest. tt;
    finished = λ honest. tt;
    once = λ honest here. refl;
    moments = λ honest. adds_nothing (files.history a);
    atomic = λ atomic honest path apart. refl;
  })

  -- another error than that the id is taken, if it isn't, or nothing is written
  pub other_error : {T : Type 0} (object : NewObject) (a b : F) (result : Result T PutMadeError) (error : PutMadeError) → result ≡ Err error → ((id : ObjectId) → error ≡ IdTaken id → ⊥)
      → (files.is_honest a → IsTaken object (files.history a).tree → b ≡ a) → RefusesTaken files object a b result
  other_error object a b result error is other untouched = record {
    own = λ id told. absurd (other id (cc (is, told)));
    taken = λ id told. absurd (other id (cc (is, told)));
    unwritten = λ id told. absurd (other id (cc (is, told)));
    untouched = untouched;
    free = λ honest. subst (λ r. OnOk r (IsTaken object (files.history a).tree → ⊥)) (sym is) tt;
  }

  -- that it is taken
  pub taken_error : {T : Type 0} (object : NewObject) (a : F) (result : Result T PutMadeError) → result ≡ Err (IdTaken object.id) → Finds files.is_honest files.history a (IsTaken object)
      → RefusesTaken files object a a result
  taken_error object a result is found = record {
    own = λ id told. cc (is, told);
    taken = λ id told. found;
    unwritten = λ id told. refl;
    untouched = λ honest taken. refl;
    free = λ honest. subst (λ r. OnOk r (IsTaken object (files.history a).tree → ⊥)) (sym is) tt;
  }
