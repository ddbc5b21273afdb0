-- What the request to a runner was, from the words that it got.
use Rattle.std.proofs.Common.{◌≡◌, List, ℕ, map, subst, Result}
use Rattle.gix_object_signature.specs.Asking.{Asks, Answered, told}
use Rattle.gix_object_signature.specs.Run.{Argument, Request, argument_of, request_of}
use Rattle.gix_object_signature.specs.declared.run.Answer.{Answer}
use Rattle.gix_object_signature.specs.declared.run.RunError as run
use Rattle.gix_object_signature.specs.declared.run.Word.{Word}
use Rattle.gix_object_signature.specs.declared.verify.Error as verify

pub asks_by : {R : Type 0} (answers : R → Request → Result Answer run.RunError → R → Type 0) (before after : R) (words : List Word) (arguments : List Argument) (input : List ℕ) (answer : Result Answer run.RunError) (result : Result Answer verify.Error)
    → answers before (request_of words input) answer after → map argument_of words ≡ arguments → result ≡ told answer
    → Asks answers before (record { words = arguments; input = input }) result after
asks_by answers before after words arguments input answer result answered same tells =
    Answered answer (subst (λ a. answers before (record { words = a; input = input }) answer after) same answered) tells
