-- What a run over files in memory comes to.
use Rattle.std.proofs.Common.{◌≡◌, ◌⊎◌, inl, inr, Bool, true, false, List, [], ◌∷◌, ◌++◌, Option, Some, None, sym, subst, arith}
use Rattle.std.specs.Bool.{⊤}
use Rattle.std.specs.Io.KnownBytes.{Consumes, Appends, IsAtEnd}
use Rattle.gix_ref_file.specs.History.{HasRisen}
use Rattle.history_model.specs.Bytes.{Bytes}
use Rattle.history_model.specs.Repository.{Repository, fresh}
use Rattle.history_model.specs.Commands.{Command}
use Rattle.history_model.specs.Replies.{Reply}
use Rattle.history_model.specs.Runs.{Runs}
use Rattle.history_model.specs.laws.Rows.{Gives}
use Rattle.history_model.proofs.RunsAgree.{runs_give}
use Rattle.history_model.proofs.RunsTold.{runs_told}
use Rattle.gix_hash.specs.declared.kind.Kind.{Kind}
use Rattle.gix_hash.specs.declared.kind.Kind.TheVariants.{Sha1}
use Rattle.history_model.specs.declared.End.{End}
use Rattle.history_model.specs.declared.End.TheVariants.{Input}
use Rattle.history.specs.Answered.{IsAnswered, Answers, IsMeant, AreOrTellFault}

-- ---- what is written

-- no count of failed calls rises in memory, and no reading fails there
pub none_failed : HasRisen 0 0 ⊎ HasRisen 0 0 ⊎ ⊥ → ⊥
none_failed (inl risen) = omega (arith, risen)
none_failed (inr (inl risen)) = omega (arith, risen)
none_failed (inr (inr may)) = may

pub answered : (kind : Kind) (input : Bytes) (left contents : Option Bytes) (end : End) (failed : Bool) (commands : List Command) (replies : List Reply) (read written : Bytes) (new : Repository) (Fail : Type 0)
    → (Fail → ⊥) → Consumes (Some input) left read → Appends (Some []) contents written
    → Runs (IsAtEnd left) Fail (fresh kind) commands replies read written end failed new → Answers kind input contents end
answered kind input None contents end failed commands replies read written new Fail none came gone runs = absurd came
answered kind input (Some unread) None end failed commands replies read written new Fail none came gone runs = absurd gone
answered kind input (Some unread) (Some text) end failed commands replies read written new Fail none came gone runs = record {
  commands = commands;
  replies = replies;
  read = read;
  unread = unread;
  failed = failed;
  new = new;
  all = came;
  runs = subst (λ t. Runs (unread ≡ []) ⊥ (fresh kind) commands replies read t end failed new) (sym gone)
      (runs_told (unread ≡ []) (unread ≡ []) Fail ⊥ (λ at. at) none (fresh kind) new commands replies read written end failed runs);
}

pub given : (kind : Kind) (input output : Bytes) (contents : Option Bytes) (end : End) → IsMeant kind input output → Answers kind input contents end → AreOrTellFault kind input contents end output
given kind input output None end meant told = absurd told
given kind input output (Some text) end meant told = λ answers.
    runs_give (fresh kind) meant.new answers.new meant.commands answers.commands meant.replies answers.replies input output answers.read answers.unread text end answers.failed
    meant.runs meant.no_fault meant.sure answers.all
    (runs_told (answers.unread ≡ []) (answers.unread ≡ []) ⊥ ⊤ (λ at. at) (λ never. tt) (fresh kind) answers.new answers.commands answers.replies answers.read text end answers.failed answers.runs)

pub row_meant : (input output : Bytes) → Gives input output → IsMeant Sha1 input output
row_meant input output (commands, replies, new, runs, no_fault, sure) = record {
  commands = commands;
  replies = replies;
  new = new;
  runs = runs_told ⊤ ⊤ ⊥ ⊤ (λ at. at) (λ never. tt) (fresh Sha1) new commands replies input output Input false runs;
  no_fault = no_fault;
  sure = sure;
}
