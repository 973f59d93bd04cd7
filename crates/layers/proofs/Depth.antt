-- The depth of a state is the fewest symbols that lead to it.
use mathlib.Core.Path.{◌≡◌, subst}
use mathlib.Core.List.{List, [], ◌∷◌}
use Prim.Native.Nat.{ℕ, ◌+◌, ◌<◌}
use native.Mathlib.Omega.{arith}
use lib.ListN.{length, get_or}
use Rattle.theory.specs.Automaton.{Automaton, Closed, Trace, run}
use Rattle.layers.specs.Layers.{By, Explored}

module _ {limit : ℕ} {g : Automaton} {start c : ℕ} {order depths : List ℕ} (closed : Closed g) (e : Explored limit g start c order depths) where
  -- a symbol leads at most one deeper
  by_next : (d q a : ℕ) → q < g.states → a < g.symbols → By limit depths d q → By limit depths (d + 1) (g.next q a)
  by_next d q a lq la b =
      let at = e.queue.listed q lq b.is_found in
      let on = subst (λ (p : ℕ). By limit depths (get_or depths p 0 + 1) (g.next p a)) at.2 (e.expanded at.0 at.1 a la) in
      record { is_found = on.is_found; near = omega (arith, on.near, b.near) }

  by_run : (w : List ℕ) (d q : ℕ) → q < g.states → Trace g w → By limit depths d q → By limit depths (d + length w) (run g q w)
  unfolding Trace run
  by_run [] d q lq t b = (let z : d ≡ d + 0 = omega arith in subst (λ (x : ℕ). By limit depths x q) z b)
  by_run (a ∷ w) d q lq t b =
      let r = by_run w (d + 1) (g.next q a) (closed.next_in q a lq t.0) t.1 (by_next d q a lq t.0 b) in
      (let z : d + 1 + length w ≡ d + length (a ∷ w) = omega arith in subst (λ (x : ℕ). By limit depths x (run g (g.next q a) w)) z r)

  -- a state that a trace leads to is found, and no trace that leads there is shorter than its depth
  pub explored_by : start < g.states → (w : List ℕ) → Trace g w → By limit depths (length w) (run g start w)
  explored_by ls w t =
      let r = by_run w 0 start ls t e.begins in
      (let z : 0 + length w ≡ length w = omega arith in subst (λ (x : ℕ). By limit depths x (run g start w)) z r)
