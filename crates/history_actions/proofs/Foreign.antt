-- Why a folder isn't a repository's, by what a look at its parts finds.
use Rattle.std.proofs.Common.{inl, inr}
use Rattle.gix_hash.specs.declared.kind.Kind.{Kind}
use Rattle.gix_ref_file.specs.Tree.{bytes_at}
use Rattle.history_texts.specs.declared.parts.Part.TheVariants.{Objects, Names}
use Rattle.history_model.specs.Bytes.{Bytes}
use Rattle.history_model.specs.Places.{Pair, packed_place}
use Rattle.history_check_names.specs.PackedRead.{IsPackedCause, MayBePacked}
use Rattle.history_check_names.specs.Parts.{NamesBranch}
use Rattle.history_texts.specs.declared.open_error.OpenError.{OpenError}
use Rattle.history_texts.specs.declared.open_error.OpenError.TheVariants.{NoHead, BadHead, BadPacked, Stray, File, Memory}
use Rattle.history_actions.specs.Looking.{AreOwn, IsForeign, IsHeadless, IsRecoverable, IsStrayed}

pub foreign_head : (MayFail : Type 0) (kind : Kind) (pair : Pair) (cause : OpenError)
    → IsHeadless MayFail pair.names cause → IsForeign MayFail kind pair cause
foreign_head MayFail kind pair NoHead is = is
foreign_head MayFail kind pair BadHead is = is
foreign_head MayFail kind pair File is = is
foreign_head MayFail kind pair Memory is = tt
foreign_head MayFail kind pair _ is = absurd is

pub foreign_objects : (MayFail : Type 0) (kind : Kind) (pair : Pair) (cause : OpenError)
    → IsStrayed MayFail Objects kind pair.objects cause → IsForeign MayFail kind pair cause
foreign_objects MayFail kind pair (Stray path) is = inl is
foreign_objects MayFail kind pair File is = is
foreign_objects MayFail kind pair Memory is = tt
foreign_objects MayFail kind pair _ is = absurd is

pub foreign_names : (MayFail : Type 0) (kind : Kind) (pair : Pair) (cause : OpenError)
    → IsStrayed MayFail Names kind pair.names cause → IsForeign MayFail kind pair cause
foreign_names MayFail kind pair (Stray path) is = inr is
foreign_names MayFail kind pair File is = is
foreign_names MayFail kind pair Memory is = tt
foreign_names MayFail kind pair _ is = absurd is

pub foreign_packed : (MayFail : Type 0) (kind : Kind) (pair : Pair) (cause : OpenError)
    → IsPackedCause MayFail kind (bytes_at pair.names packed_place) cause → IsForeign MayFail kind pair cause
foreign_packed MayFail kind pair (BadPacked number) is = is
foreign_packed MayFail kind pair File is = is
foreign_packed MayFail kind pair Memory is = tt
foreign_packed MayFail kind pair _ is = absurd is

pub is_recoverable : (kind : Kind) (pair : Pair) → (branch : Bytes) × NamesBranch pair.names branch
    → AreOwn Objects kind pair.objects → AreOwn Names kind pair.names
    → MayBePacked kind (bytes_at pair.names packed_place) → IsRecoverable kind pair
is_recoverable kind pair (branch, head) objects names packed =
    record { branch = branch; head = head; objects = objects; names = names; packed = packed }
