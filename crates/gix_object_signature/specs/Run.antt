-- The request to run a program.
use denote.Ref.{Bor}
use Rattle.std.specs.Prelude.{ℕ, ◌≡◌, List, map}
use Rattle.std.specs.Fn.{Called, Mut}
use Rattle.bstr.specs.BStr.{bstr_bytes}
use Rattle.gix_object_signature.specs.declared.run.Word.{Word}
use Rattle.gix_object_signature.specs.declared.run.Word.TheVariants.{Text, FileWith, FileToSign}

-- a word of a command line: its bytes, or those of the temporary file that it names
pub data Argument : Type 0 where
  Plain : List ℕ → Argument
  File : List ℕ → Argument
  ToSign : List ℕ → Argument

-- a command line, and what the program reads
pub record Request : Type 0 where
  pub words : List Argument
  pub input : List ℕ

abbrev pub argument_of : Word → Argument
argument_of (Text bytes) = Plain (bstr_bytes bytes)
argument_of (FileWith bytes) = File (bstr_bytes bytes)
argument_of (FileToSign bytes) = ToSign (bstr_bytes bytes)

abbrev pub request_of : List Word → List ℕ → Request
request_of words input = record { words = map argument_of words; input = input }

-- the runner, called with words and an input that make the request, gives the result, and is what
-- follows then
pub record Answers {F R : Type 0} (calls : Mut F (Bor (List Word) × (Bor (List ℕ) × Unit {0})) R)
    (before : F) (request : Request) (result : R) (after : F) : Type 0 where
  pub words : Bor (List Word)
  pub input : Bor (List ℕ)
  pub asked : request_of words.now input.now ≡ request
  pub called : Called calls before (words, (input, tt)) result after
