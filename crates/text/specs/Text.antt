-- A short text: at most 64 characters, zeros past them. Assumes nothing.
use Rattle.std.specs.Prelude.{cond, List, [], ◌∷◌, ◌++◌, ℕ, ◌+◌, min, ltb, length, take, set, replicate}
use Rattle.text.specs.declared.Text.{Text}

abbrev pub room : ℕ
room = 64

-- the text of the first 64 of the characters
unfoldable pub text : List ℕ → Text
text xs = record { bytes = take room (xs ++ replicate room 0); length = min (length xs) room }

-- where there is no room the text stays as it is
unfoldable pub pushed : Text → ℕ → Text
pushed t c = cond (ltb t.length room) (record { bytes = set t.bytes t.length c; length = t.length + 1 }) t

unfoldable pub appended : Text → List ℕ → Text
appended t [] = t
appended t (x ∷ xs) = appended (pushed t x) xs
