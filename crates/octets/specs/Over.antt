-- What writing and moving do to a memory, as lists of octets.
use Rattle.std.specs.Prelude.{ℕ, ◌+◌, ◌-◌, List, ◌++◌, length, take, drop}

-- a memory with octets laid over it from `at`
unfoldable pub over : List ℕ → ℕ → List ℕ → List ℕ
over m at xs = take at m ++ (xs ++ drop (at + length xs) m)

-- the run from `from` up to `to` lies `by` higher; below `from + by` and from `to + by` on the memory is as it was
unfoldable pub shifted : List ℕ → ℕ → ℕ → ℕ → List ℕ
shifted m from to by = take (from + by) m ++ (drop from (take to m) ++ drop (to + by) m)

-- the run from `from + by` up to `to` lies `by` lower, from `from`; below `from` and from `to - by` on the memory is as it was
unfoldable pub lowered : List ℕ → ℕ → ℕ → ℕ → List ℕ
lowered m from to by = take from m ++ (drop (from + by) (take to m) ++ drop (to - by) m)
