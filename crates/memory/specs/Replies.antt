-- The replies that the results of functions stand for.
use Rattle.std.specs.Prelude.{◌≡◌, ℕ, ◌≤◌, Bool, List, ◌++◌, length, take, drop, Ok, Err, Result}
use Rattle.calls.specs.declared.answer.Answer.TheVariants.{Value, Words, Same, Tally}
use Rattle.calls.specs.declared.answer.Refusal.{Refusal}
use Rattle.calls.specs.declared.answer.Usage.{Usage}
use Rattle.model.specs.Calls.{Reply, answered, refused, done}

abbrev pub done_reply : Result (Unit {0}) Refusal → Reply
done_reply (Ok u) = done
done_reply (Err e) = refused e

abbrev pub value_reply : Result ℕ Refusal → Reply
value_reply (Ok v) = answered (Value v)
value_reply (Err e) = refused e

abbrev pub same_reply : Result Bool Refusal → Reply
same_reply (Ok b) = answered (Same b)
same_reply (Err e) = refused e

-- so many words were written to the front of the buffer
abbrev pub words_reply : Result ℕ Refusal → (buffer : List ℕ) → Reply
words_reply (Ok n) buffer = record { answer = Words n; written = take n buffer }
words_reply (Err e) buffer = refused e

abbrev pub usage_reply : Usage → Reply
usage_reply u = answered (Tally u)

-- what a reply says to be written stands at the front of the buffer, and what stood behind it there stays
pub record Writes (p : Reply) (before after : List ℕ) : Type 0 where
  pub room : length p.written ≤ length before
  pub buffer : after ≡ p.written ++ drop (length p.written) before
