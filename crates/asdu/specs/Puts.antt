-- What a writer of octets gives back and leaves.
use Rattle.std.specs.Prelude.{ℕ, ◌+◌, ◌≡◌, List, length}
use Rattle.octets.specs.Over.{over}

-- It writes octets at the front of a memory and gives how many they are.
abbrev pub Puts : List ℕ → List ℕ → ℕ → List ℕ → Type 0
Puts xs before r after = (r ≡ length xs) × (after ≡ over before 0 xs)

-- It writes them from `o` on and gives the place after the last.
abbrev pub PutsAt : ℕ → List ℕ → List ℕ → ℕ → List ℕ → Type 0
PutsAt o xs before r after = (r ≡ o + length xs) × (after ≡ over before o xs)
