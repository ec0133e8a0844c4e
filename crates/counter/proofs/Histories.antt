-- The law of every history. Assumes nothing.
use Rattle.std.proofs.Common.{◌≡◌, ℕ, ◌+◌, ◌<◌, ◌≤◌, Bool, true, false, cond, eqb, ltb, List, [], ◌∷◌, length, Ok, Err, sym, refl, ap, ◌∙◌, subst, inl, inr, ⊎_elim, arith}
use Rattle.std.proofs.lemmas.Bool.{false≢true, cases_eq, eq-eqb, ne_eqb, lt-ltb, ltb-true, or_left, or_right}
use Rattle.chain.specs.Chain.{Absent, first}
use Rattle.refusal.specs.declared.Refusal.{Refusal}
use Rattle.refusal.specs.declared.Refusal.TheVariants.{UnknownStation, ZeroCount, OverLimit, OwedToOthers}
use Rattle.refusal.specs.Number.{number}
use Rattle.refusal.specs.Verdict.{Verdict, judged, answered, left}
use Rattle.counter.specs.declared.cell.CodeCell.{CodeCell}
use Rattle.counter.specs.Cells.{is_drawn, outside, code_cell}
use Rattle.counter.specs.Ledger.{Terms, Mark, Ledger, Numbers, Call, Reserve, GiveBack, Draw, VoidSlip, Answer, fresh, count, times, move, draw, voided, row_mark, takes, taken_of, guarantee_of, others_lack, unknown, over_limit, owed_to_others, objections, verdict, value, after, answer}
use Rattle.counter.specs.Shown.{State, Fair, Shows, Keeps}
use Rattle.counter.specs.History.{History, Runs, ledger, said, accepted, Applies, Right, EachRight, EachAnswered, with_code, draws, more_if, voids, got, gave, Once, Gone, EachGone, EachSaid, Law}
use Rattle.counter.proofs.Sums.{total_same, total_none}
use Rattle.counter.proofs.Marks.{row_takes}
use Rattle.counter.proofs.Ledgers.{drawn_now, move_many, draw_one, void_one, lacking_split}
use Rattle.counter.proofs.Facts.{inside}
use Rattle.counter.proofs.Verdicts.{reserve_fits, give_fits, draw_fits, void_fits, done_fair}

by_verdict : (P : Verdict → Type 0) (v : Verdict) → (v ≡ Ok tt → P (Ok tt)) → ((r : Refusal) → P (Err r)) → P v
by_verdict P (Ok _) f g = f refl
by_verdict P (Err r) f g = g r

eqb_turned : (a b : ℕ) → eqb a b ≡ eqb b a
eqb_turned a b = ⊎_elim (λ (e : a ≡ b). eq-eqb a b e ∙ sym (eq-eqb b a (sym e))) (λ (ne : a ≡ b → ⊥). ne_eqb a b ne ∙ sym (ne_eqb b a (λ e. ne (sym e)))) (cases_eq a b)

-- The codes that were drawn are gone.
abbrev Each : Terms → Ledger → List ℕ → Type 0
Each o l [] = Unit {0}
Each o l (x ∷ xs) = (1 ≤ x) × (x ≤ o.codes) × Gone (l.mark x).status × Each o l xs

each_passes : (o : Terms) (l m : Ledger) → ((i : ℕ) → Gone (l.mark i).status → Gone (m.mark i).status) → (xs : List ℕ) → Each o l xs → Each o m xs
each_passes o l m f [] e = tt
each_passes o l m f (x ∷ xs) e = (e.0, e.1, f x e.2, each_passes o l m f xs e.3)

each_absent : (o : Terms) (l : Ledger) (x : ℕ) → (Gone (l.mark x).status → ⊥) → (xs : List ℕ) → Each o l xs → Absent x xs
each_absent o l x ne [] e = tt
each_absent o l x ne (y ∷ ys) e = ((λ p. ne (subst (λ i. Gone (l.mark i).status) (sym p) e.2)), each_absent o l x ne ys e.3)

each_cells : (o : Terms) (t : State) (l : Ledger) → Shows o t l → (xs : List ℕ) → Each o l xs → EachGone t xs
each_cells o t l w [] e = tt
each_cells o t l w (x ∷ xs) e = (subst Gone (sym (ap (λ (c : CodeCell). c.status) (w.cells x e.0 e.1))) e.2, each_cells o t l w xs e.3)

-- What a ledger and a history say of each other.
record Books (o : Terms) (l : Ledger) (ds : List ℕ) (vs : ℕ) (taking giving : ℕ → ℕ) : Type 0 where
  fair : Fair o l
  balance : length ds ≡ vs + drawn_now o l
  once : Once ds
  each : Each o l ds
  counts : (j : ℕ) → taking j ≡ giving j + taken_of o l j

module _ (o : Terms) (l : Ledger) (ds : List ℕ) (vs : ℕ) (taking giving : ℕ → ℕ) (b : Books o l ds vs taking giving) where
  own : (j k n : ℕ) → 1 ≤ k → cond (takes j (row_mark k)) n 0 ≡ cond (eqb j k) n 0
  own j k n one = ap {B = ℕ} (λ t. cond t n 0) (row_takes j k one ∙ eqb_turned k j)

  reserve_books : (k n : ℕ) → let c = Reserve k n in Books o (after o l c) ds vs (λ j. more_if (accepted (answer o l c)) (cond (eqb j k) n 0) (taking j)) giving
  reserve_books k n = by_verdict (λ v. Books o (left v l (times n (move 0 k) l)) ds vs (λ j. more_if (accepted (answered v (value l (Reserve k n)))) (cond (eqb j k) n 0) (taking j)) giving) (verdict o l (Reserve k n))
      (λ e.
      let q = reserve_fits o l k n e in
      let r = move_many o 0 k (omega arith) l b.fair.tidy n (omega arith) in
      record {
        fair = done_fair o l (Reserve k n) b.fair e;
        balance = omega (arith, b.balance, r.drawn);
        once = b.once;
        each = each_passes o l (times n (move 0 k) l) r.gone ds b.each;
        counts = λ j. omega (arith, b.counts j, r.taken j, own j k n q.0);
      })
      (λ _. b)

  give_books : (k n : ℕ) → let c = GiveBack k n in Books o (after o l c) ds vs taking (λ j. more_if (accepted (answer o l c)) (cond (eqb j k) n 0) (giving j))
  give_books k n = by_verdict (λ v. Books o (left v l (times n (move k 0) l)) ds vs taking (λ j. more_if (accepted (answered v (value l (GiveBack k n)))) (cond (eqb j k) n 0) (giving j))) (verdict o l (GiveBack k n))
      (λ e.
      let q = give_fits o l k n e in
      let r = move_many o k 0 (omega arith) l b.fair.tidy n q.3 in
      record {
        fair = done_fair o l (GiveBack k n) b.fair e;
        balance = omega (arith, b.balance, r.drawn);
        once = b.once;
        each = each_passes o l (times n (move k 0) l) r.gone ds b.each;
        counts = λ j. omega (arith, b.counts j, r.taken j, own j k n q.0);
      })
      (λ _. b)

  draw_books : (k : ℕ) → let c = Draw k in Books o (after o l c) (with_code (answer o l c) ds) vs taking giving
  draw_books k = by_verdict (λ v. Books o (left v l (draw k l)) (with_code (answered v (first (l.row k))) ds) vs taking giving) (verdict o l (Draw k))
      (λ e.
      let q = draw_fits o l k e in
      let r = draw_one o l b.fair.tidy k q.0 q.2 in
      record {
        fair = done_fair o l (Draw k) b.fair e;
        balance = omega (arith, b.balance, r.drawn);
        once = (each_absent o l _ r.waited ds b.each, b.once);
        each = (r.low, r.high, r.now_gone, each_passes o l (draw k l) r.gone ds b.each);
        counts = λ j. omega (arith, b.counts j, r.taken j);
      })
      (λ _. b)

  void_books : (p : Numbers) → let c = VoidSlip p in Books o (after o l c) ds (more_if (accepted (answer o l c)) 1 vs) taking giving
  void_books p = by_verdict (λ v. Books o (left v l (voided p.code p.station l)) ds (more_if (accepted (answered v p.code)) 1 vs) taking giving) (verdict o l (VoidSlip p))
      (λ e.
      let q = void_fits o l p e in
      let r = void_one o l b.fair.tidy p.code p.station q.2 q.3 q.4 in
      record {
        fair = done_fair o l (VoidSlip p) b.fair e;
        balance = omega (arith, b.balance, r.drawn);
        once = b.once;
        each = each_passes o l (voided p.code p.station l) r.gone ds b.each;
        counts = λ j. omega (arith, b.counts j, r.taken j);
      })
      (λ _. b)

books : (o : Terms) → Fair o (fresh o) → (h : History) → EachAnswered o h → Books o (ledger o h) (draws h) (voids h) (λ k. got k h) (λ k. gave k h)
books o f [] a = record { fair = f; balance = omega (arith, total_none o.codes); once = tt; each = tt; counts = λ j. omega (arith, total_none o.codes) }
books o f ((Reserve k n, a) ∷ h) w = let P : Answer → Type 0 = λ a. Books o (ledger o ((Reserve k n, a) ∷ h)) (draws h) (voids h) (λ j. got j ((Reserve k n, a) ∷ h)) (λ j. gave j h) in
    subst P (sym w.0) (reserve_books o _ _ _ _ _ (books o f h w.1) k n)
books o f ((GiveBack k n, a) ∷ h) w = let P : Answer → Type 0 = λ a. Books o (ledger o ((GiveBack k n, a) ∷ h)) (draws h) (voids h) (λ j. got j h) (λ j. gave j ((GiveBack k n, a) ∷ h)) in
    subst P (sym w.0) (give_books o _ _ _ _ _ (books o f h w.1) k n)
books o f ((Draw k, a) ∷ h) w = let P : Answer → Type 0 = λ a. Books o (ledger o ((Draw k, a) ∷ h)) (draws ((Draw k, a) ∷ h)) (voids h) (λ j. got j h) (λ j. gave j h) in
    subst P (sym w.0) (draw_books o _ _ _ _ _ (books o f h w.1) k)
books o f ((VoidSlip p, a) ∷ h) w = let P : Answer → Type 0 = λ a. Books o (ledger o ((VoidSlip p, a) ∷ h)) (draws h) (voids ((VoidSlip p, a) ∷ h)) (λ j. got j h) (λ j. gave j h) in
    subst P (sym w.0) (void_books o _ _ _ _ _ (books o f h w.1) p)

-- Every run follows the ledger.
record Follows (o : Terms) (h : History) (t : State) : Type 0 where
  answers : EachAnswered o h
  keeps : Keeps o t (ledger o h)

follows : (o : Terms) (s : State) → Keeps o s (fresh o) → (h : History) (t : State) → Runs s h t → Follows o h t
follows o s w [] t r = record { answers = tt; keeps = subst (λ u. Keeps o u (fresh o)) r w }
follows o s w ((c, a) ∷ h) t r =
    let p = follows o s w h r.0 r.1 in
    let q = r.2 o (ledger o h) p.keeps in
    record { answers = (q.0, p.answers); keeps = q.1 }

-- A reserve that is refused for what the others lack asks for more than its guarantee.
onward : (b : Bool) (r : Refusal) (v : Verdict) (x : ℕ) → (number r ≡ 10 → ⊥) → said (answered (cond b (Err r) v) x) ≡ 10 → (b ≡ false) × (said (answered v x) ≡ 10)
onward true r v x ne e = absurd (ne e)
onward false r v x ne e = (refl, e)

ten_6 : number UnknownStation ≡ 10 → ⊥
ten_6 z = omega (arith, z)

ten_7 : number ZeroCount ≡ 10 → ⊥
ten_7 z = omega (arith, z)

ten_9 : number OverLimit ≡ 10 → ⊥
ten_9 z = omega (arith, z)

last_test : (b : Bool) (x : ℕ) → said (answered (cond b (Err OwedToOthers) (Ok tt)) x) ≡ 10 → b ≡ true
last_test true x e = refl
last_test false x e = absurd (omega (arith, e))

not_owed : (o : Terms) (l : Ledger) (k n : ℕ) → Fair o l → taken_of o l k + n ≤ guarantee_of o k → said (answer o l (Reserve k n)) ≡ 10 → ⊥
not_owed o l k n f within e =
    let x = value l (Reserve k n) in
    let a = onward (unknown o k) UnknownStation _ x ten_6 e in
    let b = onward (eqb n 0) ZeroCount _ x ten_7 a.1 in
    let c = onward (over_limit o l k n) OverLimit _ x ten_9 b.1 in
    let p = inside o.setting.stations k a.0 in
    let short : length (l.row 0) < n + others_lack o l k = ltb-true (length (l.row 0)) (n + others_lack o l k) (last_test (owed_to_others o l k n) x c.1) in
    omega (arith, f.enough, lacking_split o l k p.0 p.1)

-- The first of ascending refusals that applies is the smallest.
abbrev Up : ℕ → List (Bool × Refusal) → Type 0
Up m [] = Unit {0}
Up m ((b, r) ∷ os) = (m < number r) × Up (number r) os

applies_up : (m : ℕ) (os : List (Bool × Refusal)) → Up m os → (n : ℕ) → Applies os n → m < n
applies_up m [] u n p = absurd p
applies_up m ((b, r) ∷ os) u n (inl p) = omega (arith, u.0, p.0)
applies_up m ((b, r) ∷ os) u n (inr p) = omega (arith, u.0, applies_up (number r) os u.1 n p)

right : (m : ℕ) (os : List (Bool × Refusal)) (x : ℕ) → Up m os → Right os (said (answered (judged os) x))
right m [] x u = record { accepted_if = λ _ n p. p; refused_if = λ ne. ne refl; smallest = λ n p. absurd p }
right m ((true, r) ∷ os) x u = record {
  accepted_if = λ e. absurd (omega (arith, u.0, e));
  refused_if = λ _. inl (refl, refl);
  smallest = λ n p. ⊎_elim (λ (q : (number r ≡ n) × (true ≡ true)). omega (arith, q.0)) (λ q. omega (arith, applies_up (number r) os u.1 n q)) p;
}
right m ((false, r) ∷ os) x u =
    let s = right (number r) os x u.1 in
    record {
      accepted_if = λ e n p. ⊎_elim (λ (q : (number r ≡ n) × (false ≡ true)). false≢true q.1) (s.accepted_if e n) p;
      refused_if = λ ne. inr (s.refused_if ne);
      smallest = λ n p. ⊎_elim (λ (q : (number r ≡ n) × (false ≡ true)). absurd (false≢true q.1)) (s.smallest n) p;
    }

up : (o : Terms) (l : Ledger) (c : Call) → Up 0 (objections o l c)
up o l (Reserve k n) = (omega arith, (omega arith, (omega arith, (omega arith, tt))))
up o l (GiveBack k n) = (omega arith, (omega arith, (omega arith, tt)))
up o l (Draw k) = (omega arith, (omega arith, tt))
up o l (VoidSlip p) = (omega arith, (omega arith, tt))

each_right : (o : Terms) (h : History) → EachAnswered o h → EachRight o h
each_right o [] w = tt
each_right o ((c, a) ∷ h) w = (subst (λ (b : Answer). Right (objections o (ledger o h) c) (said b)) (sym w.0) (right 0 (objections o (ledger o h) c) (value (ledger o h) c) (up o (ledger o h) c)), each_right o h w.1)

-- Without stations every call is refused with 6.
nobody : (n k : ℕ) → n ≡ 0 → outside n k ≡ true
nobody n k e = ⊎_elim (λ (z : k ≡ 0). or_left (eqb k 0) (ltb n k) (eq-eqb k 0 z)) (λ (z : k ≡ 0 → ⊥). or_right (eqb k 0) (ltb n k) (lt-ltb n k (omega arith))) (cases_eq k 0)

refused_6 : (b : Bool) (v : Verdict) (x : ℕ) → b ≡ true → said (answered (cond b (Err UnknownStation) v) x) ≡ 6
refused_6 true v x e = refl
refused_6 false v x e = absurd (false≢true e)

says_6 : (o : Terms) (l : Ledger) (c : Call) → o.setting.stations ≡ 0 → said (answer o l c) ≡ 6
says_6 o l (Reserve k n) e = refused_6 _ _ _ (nobody _ k e)
says_6 o l (GiveBack k n) e = refused_6 _ _ _ (nobody _ k e)
says_6 o l (Draw k) e = refused_6 _ _ _ (nobody _ k e)
says_6 o l (VoidSlip p) e = refused_6 _ _ _ (nobody _ p.station e)

each_6 : (o : Terms) (h : History) → o.setting.stations ≡ 0 → EachAnswered o h → EachSaid 6 h
each_6 o [] e w = tt
each_6 o ((c, a) ∷ h) e w = (ap said w.0 ∙ says_6 o (ledger o h) c e, each_6 o h e w.1)

-- Counting by the cells and by the ledger.
cells_count : (o : Terms) (t : State) (l : Ledger) (test : Mark → Bool) → Shows o t l → count (λ i. test (record { status = (code_cell t.cells i).status; station = (code_cell t.cells i).station })) o.codes ≡ count (λ i. test (l.mark i)) o.codes
cells_count o t l test w = total_same _ _ o.codes (λ i low high. ap {B = ℕ} (λ (c : CodeCell). cond (test (record { status = c.status; station = c.station })) 1 0) (w.cells i low high))

pub law : (o : Terms) (s : State) → Keeps o s (fresh o) → Law o s
law o s w h t r =
    let p = follows o s w h t r in
    let b = books o w.fair h p.answers in
    let shown = p.keeps.shows in
    record {
      accepted_exactly = each_right o h p.answers;
      answers = p.answers;
      one_status = λ i low high. (ap (λ (c : CodeCell). c.status) (shown.cells i low high), ap (λ (c : CodeCell). c.station) (shown.cells i low high));
      draws_balance = omega (arith, b.balance, cells_count o t (ledger o h) (λ (m : Mark). is_drawn m.status) shown);
      no_code_twice = b.once;
      never_back = each_cells o t (ledger o h) shown (draws h) b.each;
      taken_adds_up = λ k. omega (arith, b.counts k, cells_count o t (ledger o h) (takes k) shown);
      within_limit = λ k low high. omega (arith, b.counts k, b.fair.within k low high);
      guaranteed = λ k n a u q le e.
          not_owed o (ledger o h) k n b.fair (omega (arith, b.counts k)) (ap {B = ℕ} said (sym (q o (ledger o h) p.keeps).0) ∙ e);
      without_stations = λ e. (each_6 o h e p.answers, (shown.untouched e).0, (shown.untouched e).1);
    }
