-- "Forms of data": packing octets, least bit first, into units of k bits, and unpacking them. Assumes nothing.
use Rattle.std.specs.Prelude.{List, [], ◌∷◌, ◌++◌, ℕ, zero, suc, ◌+◌, ◌*◌, ◌-◌, ◌/◌, length, take, drop}
use Rattle.ground.specs.Digits.{val, digits}

-- the bits of numbers of k bits each, least bit first
unfoldable pub bits_of : ℕ → List ℕ → List ℕ
bits_of k [] = []
bits_of k (x ∷ xs) = digits 2 k x ++ bits_of k xs

-- n numbers of k bits each out of the bits bs, least bit first; positions past the end of bs are zero
unfoldable pub grouped : ℕ → ℕ → List ℕ → List ℕ
grouped k zero bs = []
grouped k (suc n) bs = val 2 (take k bs) ∷ grouped k n (drop k bs)

-- ceil (8 n / k)
unfoldable pub units_for : ℕ → ℕ → ℕ
units_for k n = (8 * n + (k - 1)) / k

-- floor (k u / 8)
unfoldable pub octets_in : ℕ → ℕ → ℕ
octets_in k u = k * u / 8

-- the units that the octets s are packed into
unfoldable pub packed : ℕ → List ℕ → List ℕ
packed k s = grouped k (units_for k (length s)) (bits_of 8 s)

-- the octets that the units us are unpacked into
unfoldable pub unpacked : ℕ → List ℕ → List ℕ
unpacked k us = grouped 8 (octets_in k (length us)) (bits_of k us)

-- the bits of the units us that no octet takes
unfoldable pub left_over : ℕ → List ℕ → List ℕ
left_over k us = drop (8 * octets_in k (length us)) (bits_of k us)
