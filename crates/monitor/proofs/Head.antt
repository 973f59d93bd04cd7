-- What questions 1 to 5 answered yes say of a body.
use mathlib.Core.Path.{◌≡◌}
use mathlib.Core.List.{List, [], ◌∷◌}
use Prim.Native.Nat.{ℕ, ◌+◌, ◌*◌, ◌≤◌, ◌<◌}
use lib.ListN.{length}
use lib.Dec.{leb}
use borrow.Author.Tests.{leb-true, eqb-true, ltb-true}
use Rattle.theory.specs.Answer.{answered, asks}
use Rattle.theory.specs.Monitor.{symbol_limit}
use Rattle.theory.proofs.Below.{and_left, and_right}
use Rattle.theory.proofs.Answer.{asks_yes}
use Rattle.monitor.specs.Format.{states_of, symbols_of, start_of}
use Rattle.monitor.specs.Questions.{question1, question2, question3, question4, question5, head_questions, no_values}

-- the sizes of a body and its start are as they must be
pub record Head (limit : ℕ) (b : List ℕ) : Type 0 where
  pub long : 3 ≤ length b
  pub states_least : 1 ≤ states_of b
  pub states_most : states_of b ≤ limit
  pub symbols_least : 1 ≤ symbols_of b
  pub symbols_most : symbols_of b ≤ symbol_limit
  pub exact : length b ≡ 3 + states_of b + states_of b * symbols_of b
  pub start_in : start_of b < states_of b

pub passed_head : (limit : ℕ) (b : List ℕ) → asks (head_questions limit b) no_values ≡ answered no_values → Head limit b
passed_head limit b p₁ =
    let q₁ = asks_yes (question1 b) (question2 limit b ∷ question3 b ∷ question4 b ∷ question5 b ∷ []) [] p₁ in
    let q₂ = asks_yes (question2 limit b) (question3 b ∷ question4 b ∷ question5 b ∷ []) [] q₁.1 in
    let q₃ = asks_yes (question3 b) (question4 b ∷ question5 b ∷ []) [] q₂.1 in
    let q₄ = asks_yes (question4 b) (question5 b ∷ []) [] q₃.1 in
    let q₅ = asks_yes (question5 b) [] [] q₄.1 in
    record {
      long = leb-true 3 (length b) q₁.0;
      states_least = leb-true 1 (states_of b) (and_left (leb 1 (states_of b)) (leb (states_of b) limit) q₂.0);
      states_most = leb-true (states_of b) limit (and_right (leb 1 (states_of b)) (leb (states_of b) limit) q₂.0);
      symbols_least = leb-true 1 (symbols_of b) (and_left (leb 1 (symbols_of b)) (leb (symbols_of b) symbol_limit) q₃.0);
      symbols_most = leb-true (symbols_of b) symbol_limit (and_right (leb 1 (symbols_of b)) (leb (symbols_of b) symbol_limit) q₃.0);
      exact = eqb-true (length b) (3 + states_of b + states_of b * symbols_of b) q₄.0;
      start_in = ltb-true (start_of b) (states_of b) q₅.0;
    }
