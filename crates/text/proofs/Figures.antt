-- Numbers and texts as they are written, and texts put into a buffer: at figures, and numbers read back. Assumes nothing.
use mathlib.Core.Path.{◌≡◌, refl, ap, ◌∙◌}
use mathlib.Core.Bool.{Bool, true, false}
use mathlib.Core.List.{List, [], ◌∷◌, ◌++◌, map, append_assoc}
use Prim.Native.Nat.{ℕ, ◌+◌, ◌*◌, ◌-◌, ◌/◌, ◌%◌, ◌<◌}
use native.Mathlib.Nat.{div-div-eq-div-mul, div-eq_of_lt}
use native.Mathlib.Omega.{arith}
use lib.Dec.{ltb}
use lib.ListN.{replicate}
use lib.Seq.{paste}
use borrow.Author.Tests.{ltb-true}
use Rattle.text.specs.declared.Text.{Text}
use Rattle.text.specs.Ascii.{ascii}
use Rattle.text.specs.Numerals.{digit, place_of, decimal_of, hex_of, parameters_of}
use Rattle.text.specs.Text.{text, pushed, appended}
use Rattle.text.specs.Output.{over, put_count}

abbrev okay : Text
okay = text (ascii "OK!")

abbrev four : List ℕ
four = 6 ∷ 7 ∷ 8 ∷ 9 ∷ []

-- each number, word or text beside its characters, and these by their codes
pub record Figures : Type 0 where
  pub characters : ascii "O A0z\n" ≡ 79 ∷ 32 ∷ 65 ∷ 48 ∷ 122 ∷ 10 ∷ []
  -- without leading zeros; each place from the first number that has it
  pub decimal : map decimal_of (0 ∷ 7 ∷ 9 ∷ 10 ∷ 99 ∷ 100 ∷ 424 ∷ 999 ∷ 1000 ∷ 9999 ∷ 10000 ∷ 65535 ∷ [])
      ≡ ascii "0" ∷ ascii "7" ∷ ascii "9" ∷ ascii "10" ∷ ascii "99" ∷ ascii "100" ∷ ascii "424" ∷ ascii "999" ∷ ascii "1000"
      ∷ ascii "9999" ∷ ascii "10000" ∷ ascii "65535" ∷ []
  pub zeros_within : map decimal_of (101 ∷ 1001 ∷ 20030 ∷ []) ≡ ascii "101" ∷ ascii "1001" ∷ ascii "20030" ∷ []
  -- two upper-case digits
  pub hex : map hex_of (0x00 ∷ 0x09 ∷ 0x0A ∷ 0x0F ∷ 0x10 ∷ 0x90 ∷ 0xA5 ∷ 0xFF ∷ [])
      ≡ ascii "00" ∷ ascii "09" ∷ ascii "0A" ∷ ascii "0F" ∷ ascii "10" ∷ ascii "90" ∷ ascii "A5" ∷ ascii "FF" ∷ []
  -- five parameters, in order
  pub parameters : parameters_of (record { p0 = 0x01; p1 = 0x23; p2 = 0x45; p3 = 0xAB; p4 = 0xEF; form = 7; w = 8 }) ≡ ascii "012345ABEF"
  -- a text's characters, and zeros past them
  pub empty : text [] ≡ record { bytes = replicate 64 0; length = 0 }
  pub short : text (79 ∷ 75 ∷ []) ≡ record { bytes = 79 ∷ 75 ∷ replicate 62 0; length = 2 }
  -- 64 of them at the most
  pub full : text (replicate 64 65) ≡ record { bytes = replicate 64 65; length = 64 }
  pub cut : text (replicate 64 65 ++ (66 ∷ [])) ≡ record { bytes = replicate 64 65; length = 64 }
  pub appends : appended (text (79 ∷ [])) (75 ∷ 33 ∷ []) ≡ record { bytes = 79 ∷ 75 ∷ 33 ∷ replicate 61 0; length = 3 }
  pub last_place : pushed (text (replicate 63 65)) 66 ≡ record { bytes = replicate 63 65 ++ (66 ∷ []); length = 64 }
  pub no_place : pushed (text (replicate 64 65)) 66 ≡ record { bytes = replicate 64 65; length = 64 }
  -- OK! over buffers of none to four places: one place too few, just as many, one more
  pub overs : map (λ n. over (79 ∷ 75 ∷ 33 ∷ []) (replicate n 9)) (0 ∷ 1 ∷ 2 ∷ 3 ∷ 4 ∷ [])
      ≡ [] ∷ (79 ∷ []) ∷ (79 ∷ 75 ∷ []) ∷ (79 ∷ 75 ∷ 33 ∷ []) ∷ (79 ∷ 75 ∷ 33 ∷ 9 ∷ []) ∷ []
  -- OK! put into four places: one is left, it fits exactly, one place too few, the last place, the end, beyond the end
  pub counts : map (λ at. put_count okay at four) (0 ∷ 1 ∷ 2 ∷ 3 ∷ 4 ∷ 5 ∷ []) ≡ 3 ∷ 3 ∷ 2 ∷ 1 ∷ 0 ∷ 0 ∷ []
  pub puts : map (λ at. paste four at okay.bytes (put_count okay at four)) (0 ∷ 1 ∷ 2 ∷ 3 ∷ 4 ∷ 5 ∷ [])
      ≡ (79 ∷ 75 ∷ 33 ∷ 9 ∷ [])
      ∷ (6 ∷ 79 ∷ 75 ∷ 33 ∷ [])
      ∷ (6 ∷ 7 ∷ 79 ∷ 75 ∷ [])
      ∷ (6 ∷ 7 ∷ 8 ∷ 79 ∷ [])
      ∷ (6 ∷ 7 ∷ 8 ∷ 9 ∷ [])
      ∷ (6 ∷ 7 ∷ 8 ∷ 9 ∷ [])
      ∷ []
  -- 64 characters at the most, whatever length a text is said to have
  pub most : map (λ n. put_count (record { bytes = replicate 64 65; length = n }) 1 (replicate 70 0)) (0 ∷ 63 ∷ 64 ∷ 65 ∷ 255 ∷ [])
      ≡ 0 ∷ 63 ∷ 64 ∷ 64 ∷ 64 ∷ []

pub figures : Figures
unfolding decimal_of hex_of parameters_of text pushed appended put_count
figures =
    record {
      characters = refl;
      decimal = refl;
      zeros_within = refl;
      hex = refl;
      parameters = refl;
      empty = refl;
      short = refl;
      full = refl;
      cut = refl;
      appends = refl;
      last_place = refl;
      no_place = refl;
      overs = refl;
      counts = refl;
      puts = refl;
      most = refl;
    }

-- the number that decimal digits say, after those that say v
abbrev pub read_from : ℕ → List ℕ → ℕ
read_from v [] = v
read_from v (c ∷ cs) = read_from (10 * v + (c - 48)) cs

-- a place, written or left out, brings the number so far from n / (10 unit) to n / unit
place_read : (n unit : ℕ) (rest : List ℕ) → read_from (n / (unit * 10)) (place_of n unit ++ rest) ≡ read_from (n / unit) rest
place_read n unit rest = by (ltb n unit) refl
  where
    tenth : n / unit / 10 ≡ n / (unit * 10)
    tenth = div-div-eq-div-mul n unit 10

    by : (t : Bool) → ltb n unit ≡ t → read_from (n / (unit * 10)) (place_of n unit ++ rest) ≡ read_from (n / unit) rest
    by true e =
        let z : n / unit ≡ 0 = div-eq_of_lt (ltb-true n unit e) in
        let v : n / (unit * 10) ≡ n / unit = omega (arith, tenth) in
        rw (e, v)
    by false e =
        let v : 10 * (n / (unit * 10)) + (digit (n / unit % 10) - 48) ≡ n / unit = omega (arith, tenth) in
        rw e (ap (λ (m : ℕ). read_from m rest) v)

-- what is written reads back, for every number of 16 bits
pub read_back : (n : ℕ) → n < 65536 → read_from 0 (decimal_of n) ≡ n
unfolding decimal_of
read_back n h =
    let last : List ℕ = digit (n % 10) ∷ [] in
    let z : 0 ≡ n / 100000 = omega arith in
    let v : 10 * (n / 10) + (digit (n % 10) - 48) ≡ n = omega arith in
    simp append_assoc
    (ap (λ (m : ℕ). read_from m (place_of n 10000 ++ (place_of n 1000 ++ (place_of n 100 ++ (place_of n 10 ++ last))))) z
    ∙ place_read n 10000 (place_of n 1000 ++ (place_of n 100 ++ (place_of n 10 ++ last)))
    ∙ place_read n 1000 (place_of n 100 ++ (place_of n 10 ++ last))
    ∙ place_read n 100 (place_of n 10 ++ last)
    ∙ place_read n 10 last
    ∙ v)
