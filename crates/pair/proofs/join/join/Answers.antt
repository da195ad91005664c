-- `pair::join::join` meets its contract. Assumes nothing.
use mathlib.Core.Path.{◌≡◌}
use Prim.Native.Nat.{◌<◌}
use Rattle.std.specs.Prelude.{Ok}
use Rattle.std.proofs.lemmas.Result.{IfOk-at_ok}
use Rattle.pair.proofs.BooksJoined.{wrong_role, both_run}
use native.Mathlib.Omega.{arith}
use Rattle.pair.proofs.join.join.Goals as goal

pub returns-then-not-right_roles : goal.returns-then-not-right_roles
returns-then-not-right_roles c =
    let delay : 0 < c.args.delay = grind arith in
    let o : c.started.result ≡ Ok c.in_ok-o.o = grind arith in
    let a : c.started-2.result ≡ Ok c.in_ok-a.a = grind arith in
    wrong_role _ _ _ delay (IfOk-at_ok _ o c.started.ensures.starts) (IfOk-at_ok _ a c.started-2.ensures.starts) c.right_roles.ensures
    c.if-not-right_roles.true

pub returns : goal.returns
returns c =
    let delay : 0 < c.args.delay = grind arith in
    let is : c.in_ok-delay.delay.value ≡ c.args.delay = grind arith in
    let o : c.started.result ≡ Ok c.in_ok-o.o = grind arith in
    let a : c.started-2.result ≡ Ok c.in_ok-a.a = grind arith in
    both_run _ _ _ delay (IfOk-at_ok _ o c.started.ensures.starts) (IfOk-at_ok _ a c.started-2.ensures.starts) c.right_roles.ensures
    c.if-not-right_roles.false (rw is at c.ran.ensures)
