-- A block as it is checked and opened. Assumes nothing.
use Rattle.std.proofs.Common.{◌≡◌, ℕ, zero, suc, ◌+◌, ◌-◌, ◌<◌, ◌≤◌, Bool, false, cond, ◌||◌, eqb, ltb, List, [], ◌∷◌, length, get_or, take, replicate, Ok, Err, sym, refl, ap, ◌∙◌, subst, ⊎_elim, add-one, arith}
use lib.ListN.{get_or-replicate}
use Rattle.std.specs.List.{list_any, sum_by}
use Rattle.std.proofs.Math.Seq.{take-length}
use Rattle.std.proofs.lemmas.List.Folds.{list_any_more}
use Rattle.std.proofs.lemmas.Bool.{cases_eq, eqb-false, ltb-false, ne_eqb, le-ltb, or_from, or_parts, cond-false}
use Rattle.std.proofs.lemmas.Bool.Decides.{nat_tests}
use Rattle.chain.specs.Chain.{Absent, first, follower}
use Rattle.refusal.specs.declared.Refusal.{Refusal}
use Rattle.refusal.specs.Verdict.{Verdict}
use Rattle.counter.specs.declared.tables.Row.{Row}
use Rattle.counter.specs.declared.cell.CodeCell.{CodeCell}
use Rattle.counter.specs.declared.cell.RegisterCell.{RegisterCell}
use Rattle.counter.specs.declared.cell.Status.TheVariants.{Free}
use Rattle.counter.specs.declared.station.Station.{Station}
use Rattle.counter.specs.Cells.{blank_record, no_station, code_cell, register_cell, station_of}
use Rattle.counter.specs.Ledger.{Terms, put, total, count, run, row_mark, fresh, lacking_of}
use Rattle.counter.specs.Opened.{Given, no_size, breaks, some_breaks, unfit, check_verdict, admitted, terms_by, terms}
use Rattle.counter.specs.Shown.{State, no_row, cell_of, kept_row, belongs, Listed, Tidy, Fair, Keeps, Sound}
use Rattle.counter.specs.History.{Opened}
use Rattle.counter.specs.Inside.{InOrder, Blank, new_state}
use Rattle.counter.proofs.Sums.{put_at, put_other, total_same, total_none, total_list}
use Rattle.counter.proofs.Marks.{belongs_elsewhere}
use Rattle.counter.proofs.Moves.{follows_first, follows_later}
use Rattle.counter.proofs.Verdicts.{clear}
use Rattle.counter.proofs.Histories.{law}

-- The rule of the station table, station by station.
module _ (ts : List Station) where
  -- the next one
  next_station : (m : ℕ) → station_of ts (suc m) ≡ get_or ts m no_station
  next_station m = let e : suc m - 1 ≡ m = omega arith in ap (λ j. get_or ts j no_station) e

  breaks_upto : (n m : ℕ) → m ≤ length ts → some_breaks n ts m ≡ list_any (breaks n) (take m ts)
  breaks_upto n zero le = refl
  breaks_upto n (suc m) le =
      ap (λ b. b || breaks n (station_of ts (suc m))) (breaks_upto n m (omega arith)) ∙ ap (λ s. list_any (breaks n) (take m ts) || breaks n s) (next_station m)
      ∙ sym (list_any_more (breaks n) ts m no_station (omega arith)) ∙ ap (λ j. list_any (breaks n) (take j ts)) (add-one m)

  pub unfit_is : (n : ℕ) (b : Bool) → eqb (length ts) 0 ≡ false → length ts ≤ 8 → b ≡ list_any (breaks n) ts → (b || ltb n (sum_by (λ (s : Station). s.guarantee) ts)) ≡ unfit n ts
  unfit_is n b some few broken =
      let sizes : (eqb (length ts) 0 || ltb 8 (length ts)) ≡ false = or_from _ _ some (le-ltb 8 (length ts) few) in
      let F : List Station → List Station → Bool = λ xs ys. list_any (breaks n) xs || ltb n (sum_by (λ (s : Station). s.guarantee) ys) in
      ap (λ c. c || ltb n (sum_by (λ (s : Station). s.guarantee) ts)) broken ∙ sym (
      ap (λ c. c || (some_breaks n ts (length ts) || ltb n (total (λ k. (station_of ts k).guarantee) (length ts)))) sizes
      ∙ ap (λ b. b || ltb n (total (λ k. (station_of ts k).guarantee) (length ts))) (breaks_upto n (length ts) (omega arith))
      ∙ ap (λ m. list_any (breaks n) (take (length ts) ts) || ltb n m) (total_list (λ k. (station_of ts k).guarantee) (λ (s : Station). s.guarantee) ts no_station (length ts) (omega arith) (λ m _. ap (λ (s : Station). s.guarantee) (next_station m)))
      ∙ ap (λ xs. F xs xs) (take-length ts))

-- Runs of numbers.
run_length : (i n : ℕ) → length (run i n) ≡ n
run_length i zero = refl
run_length i (suc n) = ap suc (run_length (suc i) n)

run_absent : (x i n : ℕ) → x < i → Absent x (run i n)
run_absent x i zero lt = tt
run_absent x i (suc n) lt = ((λ e. omega arith), run_absent x (suc i) n (omega arith))

run_listed : (N i n : ℕ) → 1 ≤ i → i + n ≤ N + 1 → Listed (λ _. row_mark 0) N (row_mark 0) (run i n)
run_listed N i zero one le = tt
run_listed N i (suc n) one le = (one, omega arith, refl, run_absent i (suc i) n (omega arith), run_listed N (suc i) n (omega arith) (omega arith))

run_first : (i n : ℕ) → first (run i n) ≡ cond (eqb n 0) 0 i
run_first i zero = refl
run_first i (suc n) = sym (cond-false (eqb (suc n) 0) 0 i (ne_eqb (suc n) 0 (λ e. omega arith)))

ends : (a n : ℕ) → cond (eqb n 0) 0 (suc a) ≡ cond (ltb (a + 1) (a + suc n)) (a + 1) 0
ends a zero = grind (arith, nat_tests)
ends a (suc n) = grind (arith, nat_tests)

-- The one that follows i in a run.
run_follower : (a n i : ℕ) → a ≤ i → i < a + n → follower (run a n) i ≡ cond (ltb (i + 1) (a + n)) (i + 1) 0
run_follower a zero i low high = absurd (omega arith)
run_follower a (suc n) i low high = ⊎_elim
    (λ (e : i ≡ a).
    let P : ℕ → Type 0 = λ j. follower (a ∷ run (suc a) n) j ≡ cond (ltb (j + 1) (a + suc n)) (j + 1) 0 in
    subst P (sym e) (follows_first a (run (suc a) n) ∙ run_first (suc a) n ∙ ends a n))
    (λ (ne : i ≡ a → ⊥). follows_later a (run (suc a) n) i ne ∙ run_follower (suc a) n i (omega arith) (omega arith) ∙ (let same : suc a + n ≡ a + suc n = omega arith in ap (λ m. cond (ltb (i + 1) m) (i + 1) 0) same))
    (cases_eq i a)

total_ones : (m : ℕ) → total (λ _. 1) m ≡ m
total_ones zero = refl
total_ones (suc m) = omega (arith, total_ones m)

-- A block as it is opened is fair, whether it was admitted or not.
module _ (g : Given) (n many : ℕ) (few : many ≤ 8) (small : n ≤ 4096) (seats : many ≤ length g.stations) (lent : 1 ≤ many → n ≡ length g.codes) (sum : total (λ k. (station_of g.stations k).guarantee) many ≤ n) where
  fresh_whole : (j : ℕ) → length ((fresh (admitted g n many)).row j) ≡ count (λ i. belongs j (row_mark 0)) n
  fresh_whole j = put_at (λ ys. length ys ≡ count (λ i. belongs j (row_mark 0)) n) (λ _. []) 0 (run 1 n) j
      (λ (e : j ≡ 0). subst (λ i. length (run 1 n) ≡ count (λ _. belongs i (row_mark 0)) n) (sym e) (run_length 1 n ∙ sym (total_ones n)))
      (λ (ne : j ≡ 0 → ⊥). sym (total_same _ (λ _. 0) n (λ i _ _. belongs_elsewhere j 0 (λ e. ne (sym e))) ∙ total_none n))

  fresh_tidy : Tidy (admitted g n many) (fresh (admitted g n many))
  fresh_tidy = record {
    listed = λ j. put_at (λ ys. Listed (λ _. row_mark 0) n (row_mark j) ys) (λ _. []) 0 (run 1 n) j
        (λ (e : j ≡ 0). subst (λ i. Listed (λ _. row_mark 0) n (row_mark i) (run 1 n)) (sym e) (run_listed n 1 n (omega arith) (omega arith)))
        (λ _. tt);
    whole = fresh_whole;
    few = few;
    small = small;
    seats = seats;
    lent = lent;
  }

  fresh_fair : Fair (admitted g n many) (fresh (admitted g n many))
  fresh_fair = record {
    tidy = fresh_tidy;
    within = λ k _ _. omega (arith, total_none n);
    enough = omega (arith, sum, run_length 1 n, total_same (lacking_of (admitted g n many) (fresh (admitted g n many))) (λ k. (station_of g.stations k).guarantee) many (λ k _ _. omega (arith, total_none n)));
  }

  -- Its tables show it.
  module _ (s : State) (setting : s.setting ≡ (admitted g n many).setting) (size : length s.cells ≡ length g.codes) (room : length s.register ≡ length g.register)
      (cells : (i : ℕ) → 1 ≤ i → i ≤ n → code_cell s.cells i ≡ cell_of (fresh (admitted g n many)) i)
      (blank : (i : ℕ) → 1 ≤ many → 1 ≤ i → i ≤ length g.register → register_cell s.register i ≡ blank_record)
      (untouched : many ≡ 0 → (s.cells ≡ g.codes) × (s.register ≡ g.register))
      (nine : (length s.rows ≡ 9) × (length s.newest ≡ 9))
      (rows : (j : ℕ) → j ≤ many → get_or s.rows j no_row ≡ kept_row (fresh (admitted g n many)) j)
      (newest : (k : ℕ) → 1 ≤ k → k ≤ many → get_or s.newest k 0 ≡ 0)
      (nine_taken : length s.taken ≡ 9)
      (taken : (k : ℕ) → 1 ≤ k → k ≤ many → get_or s.taken k 0 ≡ 0) where
    pub fresh_keeps : Keeps (admitted g n many) s (fresh (admitted g n many))
    fresh_keeps = record {
      fair = fresh_fair;
      shows = record { setting = setting; size = size; cells = cells; room = room; blank = blank; untouched = untouched; nine = nine; rows = rows; newest = newest };
      counted = record { nine = nine_taken; counts = λ k low high. taken k low high ∙ sym (total_none n) };
    }

shift_test : (i m n : ℕ) → 1 ≤ i → m ≡ n → ltb (i - 1 + 1) m ≡ ltb (i + 1) (1 + n)
shift_test i m n low e = grind (arith, nat_tests)

-- The tables that `open` makes.
zeros : (k : ℕ) → k ≤ 8 → ◌≡◌ {A = ℕ} (get_or (replicate 9 0) k 0) 0
zeros k le = get_or-replicate 9 k 0 0 (omega arith)

new_rows : (free : Row) (ys : List ℕ) → free ≡ record { head = first ys; count = length ys } → (o : Terms) → o.setting.stations ≤ 8 → (j : ℕ) → j ≤ o.setting.stations → get_or (free ∷ replicate 8 no_row) j no_row ≡ record { head = first (put (λ _. []) 0 ys j); count = length (put (λ _. []) 0 ys j) }
new_rows free ys e o few zero le = e
new_rows free ys e o few (suc j) le =
    let K : List ℕ → Row = λ xs. record { head = first xs; count = length xs } in
    get_or-replicate 8 j no_row no_row (omega arith) ∙ sym (ap K (put_other (λ _. []) 0 ys (suc j) (λ z. omega arith)))

-- Opened, from what is shown.
pub opened_by : (g : Given) (v : Verdict) (s : State) → v ≡ check_verdict g → Keeps (terms_by g v) s (fresh (terms_by g v)) → Opened g s
opened_by g v s e k =
    let keeps = subst (λ w. Keeps (terms_by g w) s (fresh (terms_by g w))) e k in
    record { keeps = keeps; law = law (terms g) s keeps }

pub opened_sound : (g : Given) (s : State) → Opened g s → ∥ Sound s ∥₁
opened_sound g s w = ∣ (terms g, fresh (terms g), w.keeps) ∣₁

-- A block that was refused.
pub refused_opened : (g : Given) (r : Refusal) → Err r ≡ check_verdict g → Opened g (new_state (admitted g 0 0).setting g.codes g.register no_row)
refused_opened g r e = opened_by g (Err r) _ e (fresh_keeps g 0 0 (omega arith) (omega arith) (omega arith) (λ z. absurd (omega arith)) (omega arith) _ refl refl refl
    (λ i low high. absurd (omega arith)) (λ i one low high. absurd (omega arith)) (λ _. (refl, refl)) (refl, refl)
    (new_rows no_row [] refl (admitted g 0 0) (omega arith))
    (λ k low high. absurd (omega arith)) refl (λ k low high. absurd (omega arith)))

-- A block that was admitted: its sizes, and what its tables show.
sizes : (n : ℕ) → no_size n ≡ false → (1 ≤ n) × (n ≤ 4096)
sizes n e = let p = or_parts (eqb n 0) (ltb 4096 n) e in (omega (arith, eqb-false n 0 p.0), ltb-false 4096 n p.1)

fitting : (n : ℕ) (ts : List Station) → unfit n ts ≡ false → (length ts ≤ 8) × (total (λ k. (station_of ts k).guarantee) (length ts) ≤ n)
fitting n ts e =
    let p = or_parts _ _ e in
    let q = or_parts (eqb (length ts) 0) (ltb 8 (length ts)) p.0 in
    let r = or_parts (some_breaks n ts (length ts)) _ p.1 in
    (ltb-false 8 (length ts) q.1, ltb-false n (total (λ k. (station_of ts k).guarantee) (length ts)) r.1)

pub admitted_opened : (g : Given) (cells : List CodeCell) (register : List RegisterCell) → Ok tt ≡ check_verdict g → length cells ≡ length g.codes → length register ≡ length g.register → InOrder cells → Blank register
    → Opened g (new_state (admitted g (length g.codes) (length g.stations)).setting cells register (record { head = 1; count = length g.codes }))
admitted_opened g cells register e size room order zero_cells =
    let n = length g.codes in
    let many = length g.stations in
    let o = admitted g n many in
    let a = clear _ _ _ (sym e) in
    let b = clear _ _ _ a.1 in
    let s = sizes n a.0 in
    let f = fitting n g.stations b.0 in
    let some : many ≡ 0 → ⊥ = eqb-false many 0 (or_parts (eqb many 0) (ltb 8 many) (or_parts _ _ b.0).0).0 in
    let F : ℕ → CodeCell = λ m. record { status = Free; station = 0; next = m } in
    let R : ℕ → ℕ → Row = λ h c. record { head = h; count = c } in
    let shown : (i : ℕ) → 1 ≤ i → i ≤ n → code_cell cells i ≡ cell_of (fresh o) i = λ i low high.
    let back : i - 1 + 1 ≡ i = omega arith in
    let more : i - 1 + 2 ≡ i + 1 = omega arith in
    let ends_at : length cells + 1 ≡ 1 + n = omega arith in
    let tests : ltb (i - 1 + 1) (length cells) ≡ ltb (i + 1) (1 + n) = shift_test i (length cells) n low size in
    order (i - 1) (omega arith) ∙ ap F (ap (λ t. cond t (i - 1 + 2) 0) tests ∙ ap (λ m. cond (ltb (i + 1) (1 + n)) m 0) more ∙ sym (run_follower 1 n i low (omega arith))) in
    let head : first (run 1 n) ≡ 1 = run_first 1 n ∙ cond-false (eqb n 0) 0 1 (ne_eqb n 0 (omega arith)) in
    opened_by g (Ok tt) _ e (fresh_keeps g n many f.0 s.1 (omega arith) (λ _. refl) f.1 _ refl size room shown
    (λ i one low high. zero_cells (i - 1) (omega arith)) (λ z. absurd (some z)) (refl, refl)
    (new_rows _ (run 1 n) (ap (λ h. R h n) (sym head) ∙ ap (R (first (run 1 n))) (sym (run_length 1 n))) o f.0)
    (λ k low high. zeros k (omega arith)) refl (λ k low high. zeros k (omega arith)))
