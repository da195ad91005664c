-- A promise that names its reply admits one reply only. Assumes nothing.
use mathlib.Core.Path.{◌≡◌, sym, ◌∙◌}

pub one_reply : {A : Type 0} (reply : A) {r s : A} → r ≡ reply → s ≡ reply → r ≡ s
one_reply reply p q = p ∙ sym q
