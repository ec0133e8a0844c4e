-- Marks: which row a code belongs in, who has taken it, and what one new mark changes. Assumes nothing.
use Rattle.std.proofs.Common.{◌≡◌, ℕ, ◌+◌, ◌≤◌, Bool, true, false, cond, ◌&&◌, eqb, List, [], ◌∷◌, sym, refl, ap, ◌∙◌, subst, arith}
use Rattle.std.proofs.lemmas.Bool.{eqb-true, eq-eqb, ne_eqb, false≢true, both_ways}
use Rattle.chain.specs.Chain.{Absent}
use Rattle.counter.specs.declared.cell.Status.{Status}
use Rattle.counter.specs.declared.cell.Status.TheVariants.{Free, Reserved, Drawn, Issued, Void}
use Rattle.counter.specs.Cells.{is_free, is_reserved, is_drawn, in_a_row, counts_as_taken}
use Rattle.counter.specs.Ledger.{Mark, put, count, row_mark, takes}
use Rattle.counter.specs.Shown.{Listed, belongs}
use Rattle.counter.specs.History.{Gone}
use Rattle.counter.proofs.Sums.{put_other, total_put, total_le}

abbrev pub mark_of : Status → ℕ → Mark
mark_of t k = record { status = t; station = k }

pub mark_is : (m : Mark) (t : Status) (k : ℕ) → m.status ≡ t → m.station ≡ k → m ≡ mark_of t k
mark_is m t k p q = ap (λ u. mark_of u m.station) p ∙ ap (mark_of t) q

-- Facts of the mark of a row.
waiting : (b : Bool) → in_a_row (cond b Free Reserved) ≡ true
waiting true = refl
waiting false = refl

pub row_waits : (j : ℕ) → in_a_row (row_mark j).status ≡ true
row_waits j = waiting (eqb j 0)

not_drawn_yet : (b : Bool) → is_drawn (cond b Free Reserved) ≡ false
not_drawn_yet true = refl
not_drawn_yet false = refl

pub row_undrawn : (j : ℕ) → is_drawn (row_mark j).status ≡ false
row_undrawn j = not_drawn_yet (eqb j 0)

not_gone_yet : (b : Bool) → Gone (cond b Free Reserved) → ⊥
not_gone_yet true g = g
not_gone_yet false g = g

pub row_not_gone : (m : Mark) (j : ℕ) → m ≡ row_mark j → Gone m.status → ⊥
row_not_gone m j e g = not_gone_yet (eqb j 0) (subst (λ (w : Mark). Gone w.status) e g)

pub row_apart : (m : Mark) (a j : ℕ) → (a ≡ j → ⊥) → m ≡ row_mark a → m ≡ row_mark j → ⊥
row_apart m a j ne p q = ne (ap (λ (w : Mark). w.station) (sym p ∙ q))

pub drawn_apart : (m : Mark) (k j : ℕ) → m ≡ mark_of Drawn k → m ≡ row_mark j → ⊥
drawn_apart m k j p q = false≢true (ap (λ (w : Mark). in_a_row w.status) (sym p ∙ q) ∙ row_waits j)

-- Where a row's mark belongs.
at_home : (b : Bool) (a : ℕ) → cond b (is_free (cond b Free Reserved)) (is_reserved (cond b Free Reserved) && eqb a a) ≡ true
at_home true a = refl
at_home false a = eq-eqb a a refl

pub belongs_here : (a : ℕ) → ◌≡◌ {A = ℕ} (cond (belongs a (row_mark a)) 1 0) 1
belongs_here a = ap {B = ℕ} (λ t. cond t 1 0) (at_home (eqb a 0) a)

away : (p q e : Bool) → (p ≡ true → q ≡ true → ⊥) → e ≡ false → cond p (is_free (cond q Free Reserved)) (is_reserved (cond q Free Reserved) && e) ≡ false
away true true e ne f = absurd (ne refl refl)
away true false e ne f = refl
away false true e ne f = refl
away false false e ne f = f

pub belongs_elsewhere : (j a : ℕ) → (a ≡ j → ⊥) → ◌≡◌ {A = ℕ} (cond (belongs j (row_mark a)) 1 0) 0
belongs_elsewhere j a ne = ap {B = ℕ} (λ t. cond t 1 0) (away (eqb j 0) (eqb a 0) (eqb a j) (λ p q. ne (eqb-true a 0 q ∙ sym (eqb-true j 0 p))) (ne_eqb a j ne))

nowhere : (b : Bool) → cond b false false ≡ false
nowhere true = refl
nowhere false = refl

pub drawn_nowhere : (j k : ℕ) → ◌≡◌ {A = ℕ} (cond (belongs j (mark_of Drawn k)) 1 0) 0
drawn_nowhere j k = ap {B = ℕ} (λ t. cond t 1 0) (nowhere (eqb j 0))

pub void_nowhere : (j k : ℕ) → ◌≡◌ {A = ℕ} (cond (belongs j (mark_of Void k)) 1 0) 0
void_nowhere j k = ap {B = ℕ} (λ t. cond t 1 0) (nowhere (eqb j 0))

-- A station's row has codes that it has taken.
belongs_taken : (b : Bool) (s : Status) (e : Bool) → b ≡ false → cond (cond b (is_free s) (is_reserved s && e)) 1 0 ≤ cond (counts_as_taken s && e) 1 0
belongs_taken true s e f = absurd (both_ways true f refl)
belongs_taken false Free e f = omega arith
belongs_taken false Reserved e f = omega arith
belongs_taken false Drawn e f = omega arith
belongs_taken false Issued e f = omega arith
belongs_taken false Void e f = omega arith

pub row_taken : (mark : ℕ → Mark) (k n : ℕ) → 1 ≤ k → count (λ i. belongs k (mark i)) n ≤ count (λ i. takes k (mark i)) n
row_taken mark k n one = total_le _ _ n (λ i. belongs_taken (eqb k 0) (mark i).status (eqb (mark i).station k) (ne_eqb k 0 (omega arith)))

-- Who takes a row's codes: nobody the free ones, station k those of row k.
taking : (b e : Bool) → b ≡ false → (counts_as_taken (cond b Free Reserved) && e) ≡ e
taking true e f = absurd (both_ways true f refl)
taking false e f = refl

pub row_takes : (j k : ℕ) → 1 ≤ k → takes j (row_mark k) ≡ eqb k j
row_takes j k one = taking (eqb k 0) (eqb k j) (ne_eqb k 0 (omega arith))

-- One new mark, and what is counted.
pub count_put : (test : Mark → Bool) (mark : ℕ → Mark) (x : ℕ) (u v : Mark) (n : ℕ) → 1 ≤ x → x ≤ n → mark x ≡ u
    → count (λ i. test (put mark x v i)) n + cond (test u) 1 0 ≡ count (λ i. test (mark i)) n + cond (test v) 1 0
count_put test mark x u v n one le e =
    let P : Mark → Type 0 = λ w. count (λ i. test (put mark x v i)) n + cond (test w) 1 0 ≡ count (λ i. test (mark i)) n + cond (test v) 1 0 in
    subst P e (total_put (λ _ (w : Mark). cond (test w) 1 0) mark x v n one le)

-- Rows of codes with one mark.
module _ (mark : ℕ → Mark) (n : ℕ) (m : Mark) where
  pub listed_absent : (x : ℕ) (xs : List ℕ) → (mark x ≡ m → ⊥) → Listed mark n m xs → Absent x xs
  listed_absent x [] differs p = tt
  listed_absent x (y ∷ ys) differs p = ((λ e. differs (ap mark e ∙ p.2)), listed_absent x ys differs p.4)

  pub listed_put : (x : ℕ) (v : Mark) (xs : List ℕ) → Absent x xs → Listed mark n m xs → Listed (put mark x v) n m xs
  listed_put x v [] a p = tt
  listed_put x v (y ∷ ys) a p = (p.0, p.1, put_other mark x v y (λ e. a.0 (sym e)) ∙ p.2, p.3, listed_put x v ys a.1 p.4)
