-- The requests of a flat list, one after another, and the search for an address among the earlier ones. Assumes nothing.
use mathlib.Core.Path.{◌≡◌, refl, ap, ◌∙◌}
use mathlib.Core.List.{List, [], ◌∷◌}
use mathlib.Core.Bool.{Bool, true, false, ◌||◌}
use Prim.Native.Nat.{ℕ, zero, suc, ◌+◌, ◌*◌, ◌-◌, ◌≤◌, ◌<◌}
use native.Mathlib.Omega.{arith}
use lib.Dec.{eqb}
use borrow.Author.Tests.{eq-eqb, ne_eqb}
use Rattle.std.specs.List.{list_any, range_with_len}
use Rattle.limits.specs.Test.{◌&◌, pick}
use Rattle.octets.specs.Number.{two, four}
use Rattle.model.specs.declared.Request.{Request}
use Rattle.model.specs.Request.{request_at, requests_at}
use Rattle.registry.specs.Registry.{stands_in}
use Rattle.registry.specs.History.{AllTwelve}
use Rattle.batch_records.specs.Records.{earlier_at, has_address, stands_before}

-- ---- one request after another

-- The request of place i, and those after it.
pub requests_on : (m : List ℕ) (i n : ℕ) → i < n → requests_at m (24 * i) (n - i) ≡ request_at m (24 * i) ∷ requests_at m (24 * (i + 1)) (n - (i + 1))
unfolding requests_at
requests_on m i n h =
    let e : n - i ≡ suc (n - (i + 1)) = omega arith in
    let f : 24 * i + 24 ≡ 24 * (i + 1) = omega arith in
    ap (requests_at m (24 * i)) e ∙ ap (λ (x : ℕ). request_at m (24 * i) ∷ requests_at m x (n - (i + 1))) f

-- No request is left.
pub requests_end : (m : List ℕ) (i n : ℕ) → n ≤ i → requests_at m (24 * i) (n - i) ≡ []
unfolding requests_at
requests_end m i n h = let e : n - i ≡ 0 = omega arith in ap (requests_at m (24 * i)) e

-- The requests that stand before place i + 1.
pub earlier_on : (m : List ℕ) (i : ℕ) → earlier_at m (i + 1) ≡ request_at m (24 * i) ∷ earlier_at m i
unfolding earlier_at
earlier_on m i = let e : i + 1 ≡ suc i = omega arith in ap (earlier_at m) e

-- Every request of a flat list has twelve octets of value.
pub all_twelve : (m : List ℕ) (at n : ℕ) → AllTwelve (requests_at m at n)
unfolding requests_at AllTwelve
all_twelve m at zero = tt
all_twelve m at (suc n) = (refl, all_twelve m (at + 24) n)

-- ---- an address that stands earlier

module _ (m : List ℕ) (at ca ioa : ℕ) where
  -- another CA
  pub ca_differs : (two m at ≡ ca → ⊥) → has_address m at ca ioa ≡ false
  unfolding has_address ◌&◌
  ca_differs e = simp (ne_eqb _ _ e)

  -- the same CA
  pub ioa_test : two m at ≡ ca → has_address m at ca ioa ≡ eqb (four m (at + 2)) ioa
  unfolding has_address ◌&◌
  ioa_test e = simp (eq-eqb _ _ e)

-- What the code finds is what the definition of a batch asks.
pub stands_law : (m : List ℕ) (q : Request) (n : ℕ) → stands_in q (earlier_at m n) ≡ stands_before m q.ca q.ioa n
unfolding stands_in earlier_at stands_before has_address
stands_law m q zero = refl
stands_law m q (suc n) = ap (pick (has_address m (24 * n) q.ca q.ioa) true) (stands_law m q n)

-- asked of one place more, the last
any_more : (p : ℕ → Bool) (a n : ℕ) → list_any p (range_with_len a (suc n)) ≡ pick (p (a + n)) true (list_any p (range_with_len a n))
any_more p a zero = let e : a + zero ≡ a = omega arith in rw e (alone (p a))
  where
    alone : (b : Bool) → (b || false) ≡ pick b true false
    alone true = refl
    alone false = refl
any_more p a (suc n) =
    let e : a + 1 + n ≡ a + suc n = omega arith in
    ap (λ (b : Bool). p a || b) (any_more p (a + 1) n) ∙ rw e (swap (p a) (p (a + suc n)) _)
  where
    swap : (b c d : Bool) → (b || pick c true d) ≡ pick c true (b || d)
    swap true true d = refl
    swap true false d = refl
    swap false true d = refl
    swap false false d = refl

-- asked of each place from the first on
pub stands_any : (m : List ℕ) (ca ioa n : ℕ) → list_any (λ (i : ℕ). has_address m (24 * i) ca ioa) (range_with_len 0 n) ≡ stands_before m ca ioa n
unfolding stands_before
stands_any m ca ioa zero = refl
stands_any m ca ioa (suc n) =
    let e : 0 + n ≡ n = omega arith in
    any_more (λ (i : ℕ). has_address m (24 * i) ca ioa) 0 n ∙ rw e (ap (pick (has_address m (24 * n) ca ioa) true) (stands_any m ca ioa n))
