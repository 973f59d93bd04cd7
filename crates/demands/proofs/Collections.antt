-- What reading a collection hands back, proved of every accepted collection file.
use mathlib.Core.Path.{◌≡◌, sym, ap, ◌∙◌}
use mathlib.Core.List.{List, [], ◌∷◌}
use Prim.Native.Nat.{ℕ}
use Rattle.theory.specs.Answer.{answered}
use Rattle.collection.specs.Contents.{count_of, entry_with, collection_answer}
use Rattle.collection.proofs.Placed.{bodies_placed}
use Rattle.collection.proofs.Found.{found_again, found_right}
use Rattle.demands.specs.Collections.{Collections}

pub collections : (file : List ℕ) → collection_answer file ≡ answered (count_of file ∷ []) → Collections file
collections file accepted = record {
  placed = bodies_placed file accepted;
  found = λ rule i. (found_right file rule i, λ h. ap (entry_with file) (sym h.1) ∙ found_again file accepted i h.0);
}
