-- What each move leaves of a ledger; no cells here. Assumes nothing.
use Rattle.std.proofs.Common.{◌≡◌, ℕ, zero, suc, ◌+◌, ◌-◌, ◌≤◌, cond, List, [], ◌∷◌, length, sym, refl, ap, ◌∙◌, subst, ⊎_elim, arith}
use Rattle.std.proofs.lemmas.Bool.{cases_eq, eq-eqb, ne_eqb}
use Rattle.chain.specs.Chain.{Absent, first}
use Rattle.counter.specs.declared.cell.Status.TheVariants.{Drawn, Void}
use Rattle.counter.specs.Cells.{is_drawn}
use Rattle.counter.specs.Ledger.{Terms, Mark, Ledger, put, total, count, row_mark, moved, move, drawn_from, draw, voided, times, takes, taken_of, guarantee_of, limit_of, lacking_of, others_lack}
use Rattle.counter.specs.Shown.{Listed, belongs, Tidy, Fair}
use Rattle.counter.specs.History.{Gone}
use Rattle.counter.proofs.Sums.{put_at, put_same, put_other, total_put, total_same, cond_none, cond_more}
use Rattle.counter.proofs.Marks.{mark_of, row_undrawn, row_not_gone, row_apart, drawn_apart, belongs_here, belongs_elsewhere, drawn_nowhere, void_nowhere, row_takes, count_put, listed_absent, listed_put}

abbrev pub drawn_now : Terms → Ledger → ℕ
drawn_now o l = count (λ i. is_drawn (l.mark i).status) o.codes

-- n codes went from row a to row b.
pub record Moves (o : Terms) (a b n : ℕ) (l m : Ledger) : Type 0 where
  pub tidy : Tidy o m
  pub gone : (i : ℕ) → Gone (l.mark i).status → Gone (m.mark i).status
  pub from : length (m.row a) + n ≡ length (l.row a)
  pub to : length (m.row b) ≡ length (l.row b) + n
  pub taken : (j : ℕ) → taken_of o m j + cond (takes j (row_mark a)) n 0 ≡ taken_of o l j + cond (takes j (row_mark b)) n 0
  pub drawn : drawn_now o m ≡ drawn_now o l

-- The code x was drawn from station k's row.
pub record Draws (o : Terms) (k : ℕ) (l : Ledger) (x : ℕ) (m : Ledger) : Type 0 where
  pub tidy : Tidy o m
  pub gone : (i : ℕ) → Gone (l.mark i).status → Gone (m.mark i).status
  pub frees : m.row 0 ≡ l.row 0
  pub taken : (j : ℕ) → taken_of o m j ≡ taken_of o l j
  pub waited : Gone (l.mark x).status → ⊥
  pub now_gone : Gone (m.mark x).status
  pub low : 1 ≤ x
  pub high : x ≤ o.codes
  pub drawn : drawn_now o m ≡ drawn_now o l + 1

-- A drawn code is void.
pub record Voids (o : Terms) (l m : Ledger) : Type 0 where
  pub tidy : Tidy o m
  pub gone : (i : ℕ) → Gone (l.mark i).status → Gone (m.mark i).status
  pub taken : (j : ℕ) → taken_of o m j ≡ taken_of o l j
  pub drawn : drawn_now o m + 1 ≡ drawn_now o l

module _ (o : Terms) (l : Ledger) (t : Tidy o l) where
  apart : (x j : ℕ) → (l.mark x ≡ row_mark j → ⊥) → Absent x (l.row j)
  apart x j ne = listed_absent l.mark o.codes (row_mark j) x (l.row j) ne (t.listed j)

  gone_put : (x : ℕ) (v : Mark) → (Gone (l.mark x).status → Gone v.status) → (i : ℕ) → Gone (l.mark i).status → Gone (put l.mark x v i).status
  gone_put x v f i g = put_at (λ (w : Mark). Gone w.status) l.mark x v i (λ (e : i ≡ x). f (subst (λ j. Gone (l.mark j).status) e g)) (λ _. g)

  module _ (a b : ℕ) (ne : a ≡ b → ⊥) (x : ℕ) (xs : List ℕ) (here : l.row a ≡ x ∷ xs) (p : Listed l.mark o.codes (row_mark a) (x ∷ xs)) where
    moved_listed : (j : ℕ) → Listed (put l.mark x (row_mark b)) o.codes (row_mark j) (put (put l.row a xs) b (x ∷ l.row b) j)
    moved_listed j =
        let v = row_mark b in
        let Q : List ℕ → Type 0 = λ ys. Listed (put l.mark x v) o.codes (row_mark j) ys in
        let off : (i : ℕ) → (a ≡ i → ⊥) → Absent x (l.row i) = λ i no. apart x i (row_apart (l.mark x) a i no p.2) in
        put_at Q (put l.row a xs) b (x ∷ l.row b) j
        (λ (e : j ≡ b). let P : ℕ → Type 0 = λ i. Listed (put l.mark x v) o.codes (row_mark i) (x ∷ l.row b) in
        subst P (sym e) (p.0, p.1, put_same l.mark x v, off b ne, listed_put _ _ _ x v _ (off b ne) (t.listed b)))
        (λ _. put_at Q l.row a xs j
        (λ (e : j ≡ a). let P : ℕ → Type 0 = λ i. Listed (put l.mark x v) o.codes (row_mark i) xs in subst P (sym e) (listed_put _ _ _ x v xs p.3 p.4))
        (λ (no : j ≡ a → ⊥). listed_put _ _ _ x v _ (off j (λ e. no (sym e))) (t.listed j)))

    moved_whole : (j : ℕ) → length (put (put l.row a xs) b (x ∷ l.row b) j) ≡ count (λ i. belongs j (put l.mark x (row_mark b) i)) o.codes
    moved_whole j =
        let F : ℕ → ℕ = λ i. count (λ c. belongs i (put l.mark x (row_mark b) c)) o.codes in
        let counted : (i : ℕ) → F i + cond (belongs i (row_mark a)) 1 0 ≡ count (λ c. belongs i (l.mark c)) o.codes + cond (belongs i (row_mark b)) 1 0
        = λ i. count_put (belongs i) l.mark x (row_mark a) (row_mark b) o.codes p.0 p.1 p.2 in
        put_at (λ ys. length ys ≡ F j) (put l.row a xs) b (x ∷ l.row b) j
        (λ (e : j ≡ b). subst (λ i. length (x ∷ l.row b) ≡ F i) (sym e) (omega (arith, counted b, t.whole b, belongs_here b, belongs_elsewhere b a ne)))
        (λ (off_b : j ≡ b → ⊥). put_at (λ ys. length ys ≡ F j) l.row a xs j
        (λ (e : j ≡ a). subst (λ i. length xs ≡ F i) (sym e) (omega (arith, counted a, t.whole a, ap length here, belongs_here a, belongs_elsewhere a b (λ z. ne (sym z)))))
        (λ (off_a : j ≡ a → ⊥). omega (arith, counted j, t.whole j, belongs_elsewhere j a (λ z. off_a (sym z)), belongs_elsewhere j b (λ z. off_b (sym z)))))

    moved_tidy : Moves o a b 1 l (moved a b l (x ∷ xs))
    moved_tidy =
        let v = row_mark b in
        let at_a : put (put l.row a xs) b (x ∷ l.row b) a ≡ xs = put_other (put l.row a xs) b (x ∷ l.row b) a ne ∙ put_same l.row a xs in
        let at_b : put (put l.row a xs) b (x ∷ l.row b) b ≡ x ∷ l.row b = put_same (put l.row a xs) b (x ∷ l.row b) in
        record {
          tidy = record { listed = moved_listed; whole = moved_whole; few = t.few; small = t.small; seats = t.seats; lent = t.lent };
          gone = gone_put x v (λ g. absurd (row_not_gone (l.mark x) a p.2 g));
          from = omega (arith, ap length at_a, ap length here);
          to = omega (arith, ap length at_b);
          taken = λ j. count_put (takes j) l.mark x (row_mark a) v o.codes p.0 p.1 p.2;
          drawn = omega (arith, count_put (λ (m : Mark). is_drawn m.status) l.mark x (row_mark a) v o.codes p.0 p.1 p.2, ap {B = ℕ} (λ u. cond u 1 0) (row_undrawn a), ap {B = ℕ} (λ u. cond u 1 0) (row_undrawn b));
        }

  move_at : (a b : ℕ) → (a ≡ b → ⊥) → (ys : List ℕ) → l.row a ≡ ys → 1 ≤ length ys → Listed l.mark o.codes (row_mark a) ys → Moves o a b 1 l (moved a b l ys)
  move_at a b ne [] here some p = absurd (omega arith)
  move_at a b ne (x ∷ xs) here some p = moved_tidy a b ne x xs here p

  pub move_one : (a b : ℕ) → (a ≡ b → ⊥) → 1 ≤ length (l.row a) → Moves o a b 1 l (move a b l)
  move_one a b ne some = move_at a b ne (l.row a) refl some (t.listed a)

  module _ (k : ℕ) (one : 1 ≤ k) (x : ℕ) (xs : List ℕ) (here : l.row k ≡ x ∷ xs) (p : Listed l.mark o.codes (row_mark k) (x ∷ xs)) where
    drawn_whole : (j : ℕ) → length (put l.row k xs j) ≡ count (λ i. belongs j (put l.mark x (mark_of Drawn k) i)) o.codes
    drawn_whole j =
        let F : ℕ → ℕ = λ i. count (λ c. belongs i (put l.mark x (mark_of Drawn k) c)) o.codes in
        let counted : (i : ℕ) → F i + cond (belongs i (row_mark k)) 1 0 ≡ count (λ c. belongs i (l.mark c)) o.codes + cond (belongs i (mark_of Drawn k)) 1 0
        = λ i. count_put (belongs i) l.mark x (row_mark k) (mark_of Drawn k) o.codes p.0 p.1 p.2 in
        put_at (λ ys. length ys ≡ F j) l.row k xs j
        (λ (e : j ≡ k). subst (λ i. length xs ≡ F i) (sym e) (omega (arith, counted k, t.whole k, ap length here, belongs_here k, drawn_nowhere k k)))
        (λ (off : j ≡ k → ⊥). omega (arith, counted j, t.whole j, belongs_elsewhere j k (λ z. off (sym z)), drawn_nowhere j k))

    drawn_tidy : Draws o k l x (drawn_from k l (x ∷ xs))
    drawn_tidy =
        let v = mark_of Drawn k in
        record {
          tidy = record {
            listed = λ j. put_at (λ ys. Listed (put l.mark x v) o.codes (row_mark j) ys) l.row k xs j
                (λ (e : j ≡ k). let P : ℕ → Type 0 = λ i. Listed (put l.mark x v) o.codes (row_mark i) xs in subst P (sym e) (listed_put _ _ _ x v xs p.3 p.4))
                (λ (no : j ≡ k → ⊥). listed_put _ _ _ x v _ (apart x j (row_apart (l.mark x) k j (λ e. no (sym e)) p.2)) (t.listed j));
            whole = drawn_whole;
            few = t.few;
            small = t.small;
            seats = t.seats;
            lent = t.lent;
          };
          gone = gone_put x v (λ _. tt);
          frees = put_other l.row k xs 0 (omega arith);
          taken = λ j. omega (arith, count_put (takes j) l.mark x (row_mark k) v o.codes p.0 p.1 p.2, ap {B = ℕ} (λ u. cond u 1 0) (row_takes j k one));
          waited = row_not_gone (l.mark x) k p.2;
          now_gone = subst (λ (w : Mark). Gone w.status) (sym (put_same l.mark x v)) tt;
          low = p.0;
          high = p.1;
          drawn = omega (arith, count_put (λ (m : Mark). is_drawn m.status) l.mark x (row_mark k) v o.codes p.0 p.1 p.2, ap {B = ℕ} (λ u. cond u 1 0) (row_undrawn k));
        }

  draw_at : (k : ℕ) → 1 ≤ k → (ys : List ℕ) → l.row k ≡ ys → 1 ≤ length ys → Listed l.mark o.codes (row_mark k) ys → Draws o k l (first ys) (drawn_from k l ys)
  draw_at k one [] here some p = absurd (omega arith)
  draw_at k one (x ∷ xs) here some p = drawn_tidy k one x xs here p

  pub draw_one : (k : ℕ) → 1 ≤ k → 1 ≤ length (l.row k) → Draws o k l (first (l.row k)) (draw k l)
  draw_one k one some = draw_at k one (l.row k) refl some (t.listed k)

  pub void_one : (x k : ℕ) → 1 ≤ x → x ≤ o.codes → l.mark x ≡ mark_of Drawn k → Voids o l (voided x k l)
  void_one x k low high e =
      let v = mark_of Void k in
      record {
        tidy = record {
          listed = λ j. listed_put _ _ _ x v _ (apart x j (drawn_apart (l.mark x) k j e)) (t.listed j);
          whole = λ j. omega (arith, count_put (belongs j) l.mark x (mark_of Drawn k) v o.codes low high e, t.whole j, drawn_nowhere j k, void_nowhere j k);
          few = t.few;
          small = t.small;
          seats = t.seats;
          lent = t.lent;
        };
        gone = gone_put x v (λ _. tt);
        taken = λ j. omega (arith, count_put (takes j) l.mark x (mark_of Drawn k) v o.codes low high e);
        drawn = omega (arith, count_put (λ (m : Mark). is_drawn m.status) l.mark x (mark_of Drawn k) v o.codes low high e);
      }

-- Many codes, one after the other.
pub move_many : (o : Terms) (a b : ℕ) → (a ≡ b → ⊥) → (l : Ledger) → Tidy o l → (n : ℕ) → n ≤ length (l.row a) → Moves o a b n l (times n (move a b) l)
move_many o a b ne l t zero le = record { tidy = t; gone = λ i g. g; from = omega arith; to = omega arith; taken = λ j. omega (arith, cond_none (takes j (row_mark a)), cond_none (takes j (row_mark b))); drawn = refl }
move_many o a b ne l t (suc n) le =
    let r = move_many o a b ne l t n (omega arith) in
    let s = move_one o (times n (move a b) l) r.tidy a b ne (omega (arith, r.from)) in
    record {
      tidy = s.tidy;
      gone = λ i g. s.gone i (r.gone i g);
      from = omega (arith, r.from, s.from);
      to = omega (arith, r.to, s.to);
      taken = λ j. omega (arith, r.taken j, s.taken j, cond_more (takes j (row_mark a)) n, cond_more (takes j (row_mark b)) n);
      drawn = s.drawn ∙ r.drawn;
    }

-- Who has taken how many, after a reserve and after a give back.
module _ (o : Terms) (k n : ℕ) (one : 1 ≤ k) (l m : Ledger) where
  here_takes : cond (takes k (row_mark k)) n 0 ≡ n
  here_takes = ap {B = ℕ} (λ u. cond u n 0) (row_takes k k one ∙ eq-eqb k k refl)

  other_takes : (j : ℕ) → (j ≡ k → ⊥) → cond (takes j (row_mark k)) n 0 ≡ 0
  other_takes j ne = ap {B = ℕ} (λ u. cond u n 0) (row_takes j k one ∙ ne_eqb k j (λ e. ne (sym e)))

  pub reserve_mine : Moves o 0 k n l m → taken_of o m k ≡ taken_of o l k + n
  reserve_mine r = omega (arith, r.taken k, here_takes)

  pub reserve_rest : Moves o 0 k n l m → (j : ℕ) → (j ≡ k → ⊥) → taken_of o m j ≡ taken_of o l j
  reserve_rest r j ne = omega (arith, r.taken j, other_takes j ne)

  pub give_mine : Moves o k 0 n l m → taken_of o m k + n ≡ taken_of o l k
  give_mine r = omega (arith, r.taken k, here_takes)

  pub give_rest : Moves o k 0 n l m → (j : ℕ) → (j ≡ k → ⊥) → taken_of o m j ≡ taken_of o l j
  give_rest r j ne = omega (arith, r.taken j, other_takes j ne)

-- What the others lack, and what all lack.
pub lacking_split : (o : Terms) (l : Ledger) (k : ℕ) → 1 ≤ k → k ≤ o.setting.stations → others_lack o l k + lacking_of o l k ≡ total (lacking_of o l) o.setting.stations
lacking_split o l k low high = omega (arith, total_put (λ _ (n : ℕ). n) (lacking_of o l) k 0 o.setting.stations low high)

pub others_same : (o : Terms) (l m : Ledger) (k : ℕ) → ((j : ℕ) → (j ≡ k → ⊥) → taken_of o m j ≡ taken_of o l j) → others_lack o m k ≡ others_lack o l k
others_same o l m k same = total_same (put (lacking_of o m) k 0) (put (lacking_of o l) k 0) o.setting.stations (λ j _ _.
    put_at (λ n. n ≡ put (lacking_of o l) k 0 j) (lacking_of o m) k 0 j
    (λ (e : j ≡ k). sym (ap (put (lacking_of o l) k 0) e ∙ put_same (lacking_of o l) k 0))
    (λ (ne : j ≡ k → ⊥). ap (λ n. guarantee_of o j - n) (same j ne) ∙ sym (put_other (lacking_of o l) k 0 j ne)))

-- Fair stays fair where station k stays within its limit and enough codes are left.
pub fair_after : (o : Terms) (k : ℕ) (l m : Ledger) → 1 ≤ k → k ≤ o.setting.stations → Fair o l → Tidy o m → ((j : ℕ) → (j ≡ k → ⊥) → taken_of o m j ≡ taken_of o l j) → taken_of o m k ≤ limit_of o k → others_lack o l k + lacking_of o m k ≤ length (m.row 0) → Fair o m
fair_after o k l m low high f t rest le enough = record {
  tidy = t;
  within = λ j one known. ⊎_elim (λ (e : j ≡ k). subst (λ i. taken_of o m i ≤ limit_of o i) (sym e) le) (λ (ne : j ≡ k → ⊥). omega (arith, f.within j one known, rest j ne)) (cases_eq j k);
  enough = omega (arith, lacking_split o m k low high, others_same o l m k rest);
}
