-- Octets read and written as numbers, low octet first, and the test for zeros.
use Rattle.std.specs.Prelude.{ℕ, zero, suc, ◌+◌, ◌*◌, ◌/◌, ◌%◌, ◌<◌, List, [], ◌∷◌, Bool, true, get_or, eqb}
use Rattle.limits.specs.Test.{◌&◌}

-- every element is an octet, as a slice of u8 has it
abbrev pub Octets : List ℕ → Type 0
Octets l = (i : ℕ) → get_or l i 0 < 256

-- two octets from `at` as a number
abbrev pub two : List ℕ → ℕ → ℕ
two m at = get_or m at 0 + 256 * get_or m (at + 1) 0

-- three octets from `at` as a number
abbrev pub three : List ℕ → ℕ → ℕ
three m at = get_or m at 0 + 256 * (get_or m (at + 1) 0 + 256 * get_or m (at + 2) 0)

-- four octets from `at` as a number
abbrev pub four : List ℕ → ℕ → ℕ
four m at = get_or m at 0 + 256 * (get_or m (at + 1) 0 + 256 * (get_or m (at + 2) 0 + 256 * get_or m (at + 3) 0))

-- eight octets from `at` as a number
abbrev pub eight : List ℕ → ℕ → ℕ
eight m at = four m at + 4294967296 * four m (at + 4)

-- twelve octets from `at`
abbrev pub twelve : List ℕ → ℕ → List ℕ
twelve m at =
    get_or m at 0 ∷ get_or m (at + 1) 0 ∷ get_or m (at + 2) 0 ∷ get_or m (at + 3) 0 ∷ get_or m (at + 4) 0 ∷ get_or m (at + 5) 0
    ∷ get_or m (at + 6) 0 ∷ get_or m (at + 7) 0 ∷ get_or m (at + 8) 0 ∷ get_or m (at + 9) 0 ∷ get_or m (at + 10) 0 ∷ get_or m (at + 11) 0 ∷ []

-- a number as two octets
abbrev pub pair : ℕ → List ℕ
pair v = v % 256 ∷ v / 256 ∷ []

-- a number as three octets
abbrev pub triple : ℕ → List ℕ
triple v = v % 256 ∷ v / 256 % 256 ∷ v / 65536 ∷ []

-- n octets from `at` are zero
unfoldable pub zeros : List ℕ → ℕ → ℕ → Bool
zeros m at zero = true
zeros m at (suc n) = eqb (get_or m at 0) 0 & zeros m (at + 1) n

-- n octets from `at` as a number
unfoldable pub number : List ℕ → ℕ → ℕ → ℕ
number m at zero = 0
number m at (suc n) = get_or m at 0 + 256 * number m (at + 1) n

-- what `number` says of n + 1 octets, of which the first stands k past `at`
abbrev pub number_on : List ℕ → ℕ → ℕ → ℕ → ℕ
number_on m at k zero = get_or m (at + k) 0
number_on m at k (suc n) = get_or m (at + k) 0 + 256 * number_on m at (suc k) n

-- n octets from `at` as a number, written so that it is `two`, `three` and `four` where n is 2, 3 and 4
abbrev pub number_of : ℕ → List ℕ → ℕ → ℕ
number_of zero m at = 0
number_of (suc zero) m at = get_or m at 0
number_of (suc (suc n)) m at = get_or m at 0 + 256 * number_on m at 1 n

-- n + 1 octets of a number v over p, of which the last takes all that is left
abbrev pub octets_on : ℕ → ℕ → ℕ → List ℕ
octets_on v p zero = v / p ∷ []
octets_on v p (suc n) = v / p % 256 ∷ octets_on v (256 * p) n

-- a number as n octets, written so that it is `pair` and `triple` where n is 2 and 3
abbrev pub octets_of : ℕ → ℕ → List ℕ
octets_of zero v = []
octets_of (suc zero) v = v ∷ []
octets_of (suc (suc n)) v = v % 256 ∷ octets_on v 256 n

-- 256 to the e: the first number that e octets cannot hold
abbrev pub power : ℕ → ℕ
power zero = 1
power (suc e) = 256 * power e
