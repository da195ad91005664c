-- `pair::running::Ring::send` meets its contract. Assumes nothing.
use mathlib.Core.Path.{ap, ◌∙◌}
use mathlib.Core.List.{List, [], ◌∷◌, ◌++◌}
use Prim.Native.Nat.{ℕ, ◌≤◌}
use borrow.Author.Rules.{rules}
use lib.ListN.{length, drop}
use Rattle.pair.proofs.Rings.{turned_on, turned_back}
use Rattle.pair.proofs.running.Ring.send.Goals.{then-self, else-self}
use Rattle.pair.proofs.running.Ring.send.Goals as goal

pub returns : goal.returns
returns c =
    let r = c.self.inside in
    let fits : r.delay ≤ length r.bytes = search rules in
    let seen = ap (λ (bytes : List ℕ). drop 1 bytes ++ c.args.byte ∷ []) c.self.view_is in
    elim c.if-self.branch [
      | then-self w ↦ rw w.self-is (turned_on _ _ _ c.self.invariant.0 fits _ w.if-self.true) ∙ seen
      | else-self w ↦ rw w.self-is (turned_back _ _ _ c.self.invariant.0 fits _ w.if-self.false) ∙ seen
    ]
