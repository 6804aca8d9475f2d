-- What is answered for the front of a file is the answer for the file.
use Rattle.std.proofs.Common.{◌≡◌, ℕ, ◌+◌, ◌*◌, ◌<◌, min, List, [], ◌++◌, take, false, Option, Some, None, IfSome, string_bytes, subst}
use Rattle.std.specs.Prelude.{option_map}
use Rattle.tilefile.proofs.Bounded.{front_tells}
use Rattle.report.specs.Answering.{Answers, Printed}
use Rattle.flatten.specs.Answering.{Refuses, Answered}
use Rattle.flatten.specs.declared.answering.Answer.{Answer}

-- the bytes that were read are the first m of the file that the reader had
pub front_read : (m : ℕ) (had : Option (List ℕ)) (read : List ℕ) (P : List ℕ → Type 0) → IfSome (option_map (take m) had) (λ xs. read ≡ [] ++ xs) → ((f : List ℕ) → read ≡ take m f → P f) → IfSome had P
front_read m None read P e answered = tt
front_read m (Some f) read P e answered = answered f e

pub answered : (m n : ℕ) (front f : List ℕ) (a : Answer) → 15 + 7 * min n 4096 < m → front ≡ take m f → Answers front n (string_bytes a.text) → Refuses front n a.refused → Answered f n a
answered m n front f a lt e prints refuses = record {
  prints = front_tells (λ g s. Printed s g (string_bytes a.text)) m n f lt (subst (λ g. Answers g n (string_bytes a.text)) e prints);
  refuses = front_tells (λ g s. a.refused ≡ false) m n f lt (subst (λ g. Refuses g n a.refused) e refuses);
}
