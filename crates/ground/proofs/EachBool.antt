-- A rule of five flags, proved at each choice of them by one test that is computed. Assumes nothing.
use mathlib.Core.Bool.{Bool, true, false, ◌&&◌}
use lib.Dec.{T}
use Rattle.ground.proofs.Test.{and_left, and_right}

abbrev pub every_flag : (Bool → Bool) → Bool
every_flag f = f true && f false

each_flag : (f : Bool → Bool) → T (every_flag f) → (a : Bool) → T (f a)
each_flag f t true = and_left (f true) (f false) t
each_flag f t false = and_right (f true) (f false) t

abbrev pub every5 : (Bool → Bool → Bool → Bool → Bool → Bool) → Bool
every5 f = every_flag λ a. every_flag λ b. every_flag λ c. every_flag λ d. every_flag λ e. f a b c d e

pub each5 : (f : Bool → Bool → Bool → Bool → Bool → Bool) → T (every5 f) → (a b c d e : Bool) → T (f a b c d e)
each5 f t a b c d e =
    each_flag (f a b c d)
    (each_flag (λ d. every_flag (f a b c d))
    (each_flag (λ c. every_flag λ d. every_flag (f a b c d))
    (each_flag (λ b. every_flag λ c. every_flag λ d. every_flag (f a b c d))
    (each_flag (λ a. every_flag λ b. every_flag λ c. every_flag λ d. every_flag (f a b c d)) t a) b) c) d) e
