-- The flags of the records passed: an address whose flag is not set stands nowhere among them. Assumes nothing.
use mathlib.Core.Path.{◌≡◌, refl, sym, ap, ap₂, ◌∙◌, subst}
use mathlib.Core.List.{List}
use mathlib.Core.Bool.{Bool, true, false}
use Prim.Native.Nat.{ℕ, zero, suc, ◌+◌, ◌*◌, ◌≤◌, ◌<◌}
use native.Mathlib.Omega.{arith}
use lib.ListN.{length, get_or, set}
use lib.Seq.{get_or-set_same, get_or-set_other}
use lib.Dec.{eqb}
use borrow.Author.Tests.{eqb-true, eqb-false}
use Rattle.limits.specs.Test.{◌&◌, pick}
use Rattle.limits.proofs.Tests.{both}
use Rattle.limits.proofs.Outcomes.{not_both}
use Rattle.octets.specs.Number.{two, four}
use Rattle.batch_records.specs.Records.{has_address, stands_before}
use Rattle.merging.specs.Merge.{Differ}
use Rattle.batch_tests.specs.Tests.{address_flag, flag_at, comes_again}

-- each of the first n records has its flag set
pub data Marked (flags : List Bool) (r : List ℕ) : ℕ → Type 0 where
  none_marked : Marked flags r 0
  one_marked : {n : ℕ} → get_or flags (flag_at r (24 * n)) false ≡ true → Marked flags r n → Marked flags r (suc n)

-- Before the first record none is marked.
pub first_marked : (flags : List Bool) (r : List ℕ) → Marked flags r 0
first_marked flags r = none_marked

-- a record with an address has the flag of that address
same_flag : (r : List ℕ) (at ca ioa : ℕ) → has_address r at ca ioa ≡ true → flag_at r at ≡ address_flag ca ioa
unfolding has_address flag_at
same_flag r at ca ioa e = let b = both _ _ e in ap₂ address_flag (eqb-true _ _ b.0) (eqb-true _ _ b.1)

-- No flag, no such address.
pub unmarked : (flags : List Bool) (r : List ℕ) (ca ioa n : ℕ) → Marked flags r n → get_or flags (address_flag ca ioa) false ≡ false → stands_before r ca ioa n ≡ false
unfolding stands_before
unmarked flags r ca ioa zero none_marked z = refl
unmarked flags r ca ioa (suc n) (one_marked p w) z = by_test (has_address r (24 * n) ca ioa) refl (unmarked flags r ca ioa n w z)
  where
    by_test : (b : Bool) → has_address r (24 * n) ca ioa ≡ b → stands_before r ca ioa n ≡ false → pick b true (stands_before r ca ioa n) ≡ false
    by_test true e s =
        let one : get_or flags (address_flag ca ioa) false ≡ true = ap (λ (k : ℕ). get_or flags k false) (sym (same_flag r (24 * n) ca ioa e)) ∙ p in
        not_both (sym z ∙ one)
    by_test false e s = s

-- a flag set stays set
still_set : (flags : List Bool) (k j : ℕ) → k < length flags → get_or flags j false ≡ true → get_or (set flags k true) j false ≡ true
still_set flags k j h p = by_test (eqb j k) refl
  where
    by_test : (b : Bool) → eqb j k ≡ b → get_or (set flags k true) j false ≡ true
    by_test true e = ap (λ (y : ℕ). get_or (set flags k true) y false) (eqb-true j k e) ∙ get_or-set_same flags k true false h
    by_test false e = get_or-set_other flags k j true false (eqb-false j k e) ∙ p

still_marked : (flags : List Bool) (r : List ℕ) (k n : ℕ) → k < length flags → Marked flags r n → Marked (set flags k true) r n
still_marked flags r k zero h none_marked = none_marked
still_marked flags r k (suc n) h (one_marked p w) = one_marked (still_set flags k _ h p) (still_marked flags r k n h w)

-- With the flag of the next record set one more is marked.
pub marked_on : (flags : List Bool) (r : List ℕ) (k n : ℕ) → k ≡ flag_at r (24 * n) → k < length flags → Marked flags r n → Marked (set flags k true) r (n + 1)
marked_on flags r k n e h w =
    let p : get_or (set flags k true) (flag_at r (24 * n)) false ≡ true = ap (λ (y : ℕ). get_or (set flags k true) y false) (sym e) ∙ get_or-set_same flags k true false h in
    let s : suc n ≡ n + 1 = omega arith in
    subst (Marked (set flags k true) r) s (one_marked p (still_marked flags r k n h w))

-- What the flag of the next record says of those before it.
pub flag_says : (flags : List Bool) (r : List ℕ) (k n : ℕ) → k ≡ flag_at r (24 * n) → Marked flags r n → get_or flags k false ≡ false → comes_again r n ≡ false
unfolding flag_at
flag_says flags r k n e w z = unmarked flags r _ _ n w (ap (λ (y : ℕ). get_or flags y false) (sym e) ∙ z)

-- ---- records that differ

-- none of the first k records has the address of record i
none_same : (r : List ℕ) (n i k : ℕ) → Differ r n → i < n → k ≤ i → stands_before r (two r (24 * i)) (four r (24 * i + 2)) k ≡ false
unfolding stands_before has_address
none_same r n i zero d h l = refl
none_same r n i (suc k) d h l = by_test (eqb (two r (24 * k)) (two r (24 * i)) & eqb (four r (24 * k + 2)) (four r (24 * i + 2))) refl (none_same r n i k d h (omega arith))
  where
    by_test : (b : Bool) → (eqb (two r (24 * k)) (two r (24 * i)) & eqb (four r (24 * k + 2)) (four r (24 * i + 2))) ≡ b
        → stands_before r (two r (24 * i)) (four r (24 * i + 2)) k ≡ false → pick b true (stands_before r (two r (24 * i)) (four r (24 * i + 2)) k) ≡ false
    by_test true e s =
        let b = both _ _ e in
        let x = eqb-true _ _ b.0 in
        let y = eqb-true _ _ b.1 in
        absurd (d i k (omega arith) h (λ j. 16777216 * x j + y j))
    by_test false e s = s

-- Where no two records have one address, none before the next one has its address.
pub none_again : (r : List ℕ) (n i : ℕ) → Differ r n → i < n → comes_again r i ≡ false
none_again r n i d h = none_same r n i i d h (omega arith)
