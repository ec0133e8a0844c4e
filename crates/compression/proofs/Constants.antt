-- The constants are roots of the first primes, by tests that are computed over the tables. Assumes nothing.
use Rattle.std.proofs.Common.{◌≡◌, ℕ, zero, suc, ◌+◌, ◌*◌, ◌%◌, ◌^◌, ◌<◌, Bool, true, cond, not, ◌&&◌, ◌||◌, eqb, ltb, leb, List, [], ◌∷◌, get_or, refl, inl, inr, arith}
use Rattle.std.proofs.lemmas.Bool.{and_parts, or_cases, ltb-true, leb-true, eqb-true, eq-eqb, lt-ltb, not-true, and_from, both_ways}
use Rattle.compression.specs.Sha256.{K, H0}
use Rattle.compression.specs.Blake2b.{IV}
use Rattle.compression.specs.Roots.{Prime, primes, First64Primes, RootFraction, KFromCubeRoots, H0FromSquareRoots, IVFromSquareRoots}
use Rattle.compression.proofs.Tables.{below, at}

-- the whole part of the e-th root of p, if it is at most q
whole : (e q p : ℕ) → ℕ
whole e zero p = 0
whole e (suc q) p = cond (leb (suc q ^ e) p) (suc q) (whole e q p)

root : (e w p k q : ℕ) → Bool
root e w p k q = ltb k (2 ^ w) && (leb ((q * 2 ^ w + k) ^ e) (p * 2 ^ (w * e)) && ltb (p * 2 ^ (w * e)) ((q * 2 ^ w + k + 1) ^ e))

root_from : (e w p k q : ℕ) → root e w p k q ≡ true → RootFraction e w p k
unfolding root
root_from e w p k q t =
    let a = and_parts _ _ t in
    let b = and_parts _ _ a.1 in
    record { q = q; fits = ltb-true _ _ a.0; at_most = leb-true _ _ b.0; more = ltb-true _ _ b.1 }

-- the test at the i-th entry of a table
entry : (e w : ℕ) → List ℕ → ℕ → Bool
entry e w ks i = root e w (get_or primes i 0) (get_or ks i 0) (whole e 20 (get_or primes i 0))

all_of_K : below (entry 3 32 K) 64 ≡ true
unfolding below entry root whole primes
all_of_K = refl

all_of_H0 : below (entry 2 32 H0) 8 ≡ true
unfolding below entry root whole primes
all_of_H0 = refl

all_of_IV : below (entry 2 64 IV) 8 ≡ true
unfolding below entry root whole primes
all_of_IV = refl

pub K_roots : KFromCubeRoots
unfolding entry
K_roots i h = root_from _ _ _ _ _ (at (entry 3 32 K) 64 all_of_K i h)

pub H0_roots : H0FromSquareRoots
unfolding entry
H0_roots i h = root_from _ _ _ _ _ (at (entry 2 32 H0) 8 all_of_H0 i h)

pub IV_roots : IVFromSquareRoots
unfolding entry
IV_roots i h = root_from _ _ _ _ _ (at (entry 2 64 IV) 8 all_of_IV i h)

-- d is no divisor of n between 1 and n
no_divisor : ℕ → ℕ → Bool
no_divisor n d = not (ltb 1 d && eqb (n % d) 0)

is_prime : ℕ → Bool
is_prime n = ltb 1 n && below (no_divisor n) n

prime_from : (n : ℕ) → is_prime n ≡ true → Prime n
unfolding is_prime no_divisor
prime_from n t =
    let a = and_parts _ _ t in
    record {
      above_one = ltb-true _ _ a.0;
      undivided = λ d lo hi e. both_ways _ (not-true _ (at (no_divisor n) n a.1 d hi)) (and_from _ _ (lt-ltb 1 d lo) (eq-eqb _ _ e));
    }

all_prime : below (λ i. is_prime (get_or primes i 0)) 64 ≡ true
unfolding below is_prime no_divisor primes
all_prime = refl

all_rise : below (λ i. ltb (get_or primes i 0) (get_or primes (i + 1) 0)) 63 ≡ true
unfolding below primes
all_rise = refl

-- where n stands in the list
place : List ℕ → ℕ → ℕ
place [] n = 0
place (x ∷ xs) n = cond (eqb x n) 0 (suc (place xs n))

-- the least divisor of n from d on, if one of the next f numbers is one
least : (f d n : ℕ) → ℕ
least zero d n = n
least (suc f) d n = cond (eqb (n % d) 0) d (least f (suc d) n)

divided : ℕ → ℕ → Bool
divided n d = ltb 1 d && (ltb d n && eqb (n % d) 0)

listed : ℕ → ℕ → Bool
listed n i = ltb i 64 && eqb (get_or primes i 0) n

-- n is below 2, or divided, or listed
told : ℕ → Bool
told n = ltb n 2 || (divided n (least 20 2 n) || listed n (place primes n))

all_told : below told 312 ≡ true
unfolding below told divided least listed place primes
all_told = refl

not_divided : (n d : ℕ) → divided n d ≡ true → Prime n → ⊥
unfolding divided
not_divided n d t p =
    let a = and_parts _ _ t in
    let b = and_parts _ _ a.1 in
    p.undivided d (ltb-true _ _ a.0) (ltb-true _ _ b.0) (eqb-true _ _ b.1)

listed_from : (n i : ℕ) → listed n i ≡ true → (j : ℕ) × (j < 64) × (get_or primes j 0 ≡ n)
unfolding listed
listed_from n i t = let a = and_parts _ _ t in (i, ltb-true _ _ a.0, eqb-true _ _ a.1)

listed_prime : (n : ℕ) → n < 312 → Prime n → (j : ℕ) × (j < 64) × (get_or primes j 0 ≡ n)
unfolding told
listed_prime n h p =
    elim (or_cases (ltb n 2) (divided n (least 20 2 n) || listed n (place primes n)) (at told 312 all_told n h)) [
      | inl s ↦ absurd (let l = ltb-true n 2 s in omega (arith, p.above_one))
      | inr o ↦ elim (or_cases (divided n (least 20 2 n)) (listed n (place primes n)) o) [ inl d ↦ absurd (not_divided n _ d p) | inr l ↦ listed_from n _ l ]
    ]

pub first_64_primes : First64Primes
unfolding primes
first_64_primes = record {
  count = refl;
  prime = λ i h. prime_from _ (at (λ j. is_prime (get_or primes j 0)) 64 all_prime i h);
  rising = λ i h. ltb-true _ _ (at (λ j. ltb (get_or primes j 0) (get_or primes (j + 1) 0)) 63 all_rise i h);
  none_missing = λ n h p. listed_prime n (omega arith) p;
}
