-- What the code of each call does is the ledger's. Assumes nothing.
use Rattle.std.proofs.Common.{◌≡◌, ℕ, suc, ◌+◌, ◌-◌, ◌<◌, ◌≤◌, List, map, length, get_or, set, take, drop, Ok, sym, refl, ap, ◌∙◌, subst, ⊎_elim, add-one, arith, length-set}
use mathlib.Core.Logic.{∥∥₁_elim, ∥∥₁_map}
use native.Mathlib.Bridge.{le_prop}
use Rattle.std.specs.List.{sum_by, zip}
use Rattle.std.proofs.Math.Seq.{take-length}
use Rattle.std.proofs.Math.ListN.{get_or-map}
use Rattle.std.proofs.lemmas.List.{get_or-set_same, get_or-set_other, length-map, length-take-le, length-drop, get_or-take, get_or-drop}
use Rattle.std.proofs.lemmas.Slice.Zip.{length-zip, get_or-zip}
use Rattle.counter.specs.declared.station.Station.{Station}
use Rattle.std.proofs.lemmas.Bool.{cases_eq}
use Rattle.counter.specs.declared.tables.Row.{Row}
use Rattle.counter.specs.declared.tables.Seat.{Seat}
use Rattle.counter.specs.declared.cell.Status.TheVariants.{Void}
use Rattle.counter.specs.Cells.{no_station, station_of}
use Rattle.counter.specs.Ledger.{Setting, Terms, Ledger, Numbers, Call, Reserve, GiveBack, Draw, VoidSlip, Answer, total, times, move, draw, voided, takes, taken_of, lacking_of, guarantee_of, others_lack, verdict, done, value, answer, after}
use Rattle.counter.specs.Shown.{State, no_row, Shows, Counted, Keeps, Sound}
use Rattle.counter.specs.History.{Step}
use Rattle.counter.specs.Inside.{no_seat, with_mark, with_taken, drawn_out, Matches, Kept, Judges}
use Rattle.counter.proofs.Sums.{total_list, count_most}
use Rattle.counter.proofs.Marks.{mark_of, row_taken}
use Rattle.counter.proofs.Ledgers.{move_many, reserve_mine, reserve_rest, give_mine, give_rest, draw_one, void_one, lacking_split}
use Rattle.counter.proofs.Moves.{draw_shows, void_shows}
use Rattle.counter.proofs.Verdicts.{reserve_fits, give_fits, draw_fits, void_fits, accepts, done_fair}

stations_same : (o : Terms) (s : State) (l : Ledger) → Keeps o s l → s.setting.stations ≡ o.setting.stations
stations_same o s l q = ap (λ (x : Setting). x.stations) q.shows.setting

-- What the stations lack, by the kept counts: all of them, and the others.
abbrev lack : Station × Seat → ℕ
lack p = p.0.guarantee - p.1.taken

pub others_shown : (o : Terms) (s : State) (seats : List Seat) (l : Ledger) (k t all own : ℕ) → s.taken ≡ map (λ (x : Seat). x.taken) seats → Keeps o s l → 1 ≤ k → k ≤ s.setting.stations → t ≡ get_or s.taken k 0 → all ≡ sum_by lack (zip (take s.setting.stations s.setting.table) (take 8 (drop 1 seats))) → own ≡ (station_of s.setting.table k).guarantee - t → others_lack o l k + own ≡ all
others_shown o s seats l k t all own kept q one known t_is all_is own_is =
    let n = s.setting.stations in
    let table = s.setting.table in
    let ys = take 8 (drop 1 seats) in
    let xs = zip (take n table) ys in
    let same : n ≡ o.setting.stations = stations_same o s l q in
    let tables : table ≡ o.setting.table = ap (λ (x : Setting). x.table) q.shows.setting in
    let front : length (take n table) ≡ n = length-take-le n table (omega (arith, ap (λ (ts : List Station). length ts) tables, q.fair.tidy.seats)) in
    let nine : length seats ≡ 9 = sym (ap (λ (ts : List ℕ). length ts) kept ∙ length-map seats (λ (x : Seat). x.taken)) ∙ q.counted.nine in
    let back : length ys ≡ 8 = length-take-le 8 (drop 1 seats) (omega (arith, length-drop 1 seats)) in
    let long : length xs ≡ n = omega (arith, length-zip (take n table) ys, q.fair.tidy.few) in
    let at : (j : ℕ) → 1 ≤ j → j ≤ n → (station_of table j).guarantee - get_or s.taken j 0 ≡ lacking_of o l j = λ j low high. ap {B = ℕ} (λ ts. (station_of ts j).guarantee - get_or s.taken j 0) tables ∙ ap (λ m. guarantee_of o j - m) (q.counted.counts j low (omega arith)) in
    let each : (i : ℕ) → i < n → lacking_of o l (suc i) ≡ lack (get_or xs i (no_station, no_seat)) = λ i lt.
    let back_one : i ≡ suc i - 1 = omega arith in
    let one_on : 1 + i ≡ suc i = omega arith in
    let few : i < 8 = omega (arith, q.fair.tidy.few) in
    let a : get_or (take n table) i no_station ≡ station_of table (suc i) = get_or-take n table i no_station lt ∙ ap (λ j. get_or table j no_station) back_one in
    let b : get_or ys i no_seat ≡ get_or seats (suc i) no_seat = get_or-take 8 (drop 1 seats) i no_seat few ∙ get_or-drop 1 seats i no_seat ∙ ap (λ j. get_or seats j no_seat) one_on in
    let c : get_or s.taken (suc i) 0 ≡ (get_or seats (suc i) no_seat).taken = ap (λ ts. get_or ts (suc i) 0) kept ∙ get_or-map (λ (x : Seat). x.taken) seats (suc i) no_seat in
    let d : lack (get_or xs i (no_station, no_seat)) ≡ (station_of table (suc i)).guarantee - (get_or seats (suc i) no_seat).taken = ap {B = ℕ} lack (get_or-zip (take n table) ys i (no_station, no_seat) (omega arith) (omega arith)) ∙ ap {B = ℕ} (λ (t : Station). t.guarantee - (get_or ys i no_seat).taken) a ∙ ap {B = ℕ} (λ (x : Seat). (station_of table (suc i)).guarantee - x.taken) b in
    sym (at (suc i) (omega arith) (omega arith)) ∙ ap (λ m. (station_of table (suc i)).guarantee - m) c ∙ sym d in
    omega (arith, all_is, own_is, ap (λ m. (station_of table k).guarantee - m) t_is, at k one known, total_list (lacking_of o l) lack xs (no_station, no_seat) n (omega arith) each, ap (λ m. sum_by lack (take m xs)) long, ap {B = ℕ} (sum_by lack) (take-length xs), lacking_split o l k one (omega arith), ap (total (lacking_of o l)) same)

pub step_sound : (s : State) (c : Call) (a : Answer) (t : State) → ∥ Sound s ∥₁ → Step s c a t → ∥ Sound t ∥₁
step_sound s c a t q e = ∥∥₁_map q (λ r. (r.0, after r.0 r.1 c, (e r.0 r.1 r.2).1))

-- In the midst of a loop.
pub matches : {o : Terms} {s : State} {l : Ledger} → Keeps o s l → Matches o s l
matches q = record { tidy = q.fair.tidy; shows = q.shows }

pub kept_after : (s u : State) (f : Ledger → Ledger) (i : ℕ) → ∥ Kept s ∥₁ → ((o : Terms) (l : Ledger) → Matches o s l → Matches o u (times i f l)) → ∥ Kept u ∥₁
kept_after s u f i q inv = ∥∥₁_map q (λ r. (r.0, times i f r.1, inv r.0 r.1 r.2))

pub one_more : (o : Terms) (u : State) (f : Ledger → Ledger) (l : Ledger) (i : ℕ) → Matches o u (f (times i f l)) → Matches o u (times (i + 1) f l)
one_more o u f l i m = subst (λ j. Matches o u (times j f l)) (sym (add-one i)) m

-- What an accepted call leaves no doubt of.
module _ (s : State) (q : ∥ Sound s ∥₁) (k n : ℕ) where
  pub reserve_safe : Judges s (Reserve k n) (Ok tt) → (k ≤ 8) × (get_or s.taken k 0 + n ≤ 4096)
  reserve_safe j = (
    ∥∥₁_elim q le_prop (λ r. omega (arith, (reserve_fits r.0 r.1 k n (sym (j r.0 r.1 r.2))).1, r.2.fair.tidy.few)),
    ∥∥₁_elim q le_prop (λ r.
        let f = reserve_fits r.0 r.1 k n (sym (j r.0 r.1 r.2)) in
        let m = times n (move 0 k) r.1 in
        let moves = move_many r.0 0 k (omega arith) r.1 r.2.fair.tidy n (omega arith) in
        omega (arith, r.2.counted.counts k f.0 f.1, reserve_mine r.0 k n f.0 r.1 m moves, count_most (λ i. takes k (m.mark i)) r.0.codes, r.2.fair.tidy.small)),
  )

  pub give_safe : Judges s (GiveBack k n) (Ok tt) → (k ≤ 8) × (n ≤ get_or s.taken k 0) × (n ≤ 4096)
  give_safe j = (
    ∥∥₁_elim q le_prop (λ r. omega (arith, (give_fits r.0 r.1 k n (sym (j r.0 r.1 r.2))).1, r.2.fair.tidy.few)),
    ∥∥₁_elim q le_prop (λ r. let f = give_fits r.0 r.1 k n (sym (j r.0 r.1 r.2)) in omega (arith, r.2.counted.counts k f.0 f.1, r.2.fair.tidy.whole k, row_taken r.1.mark k r.0.codes f.0)),
    ∥∥₁_elim q le_prop (λ r. let f = give_fits r.0 r.1 k n (sym (j r.0 r.1 r.2)) in omega (arith, r.2.fair.tidy.whole k, row_taken r.1.mark k r.0.codes f.0, count_most (λ i. takes k (r.1.mark i)) r.0.codes, r.2.fair.tidy.small)),
  )

-- The counts of taken codes, where one station's changes.
shows_taken : (o : Terms) (s : State) (l : Ledger) (k v : ℕ) → Shows o s l → Shows o (with_taken s k v) l
shows_taken o s l k v w = record { setting = w.setting; size = w.size; cells = w.cells; room = w.room; blank = w.blank; untouched = w.untouched; nine = w.nine; rows = w.rows; newest = w.newest }

counted_set : (o : Terms) (ts : List ℕ) (l m : Ledger) (k v : ℕ) → k ≤ 8 → Counted o ts l → v ≡ taken_of o m k → ((j : ℕ) → (j ≡ k → ⊥) → taken_of o m j ≡ taken_of o l j) → Counted o (set ts k v) m
counted_set o ts l m k v le c here rest = record {
  nine = length-set ts k v ∙ c.nine;
  counts = λ j low high. ⊎_elim
      (λ (e : j ≡ k). let nine = c.nine in subst (λ i. get_or (set ts k v) i 0 ≡ taken_of o m i) (sym e) (get_or-set_same ts k v 0 (omega arith) ∙ here))
      (λ (ne : j ≡ k → ⊥). get_or-set_other ts k j v 0 ne ∙ c.counts j low high ∙ sym (rest j ne))
      (cases_eq j k);
}

counted_same : (o : Terms) (ts : List ℕ) (l m : Ledger) → Counted o ts l → ((j : ℕ) → taken_of o m j ≡ taken_of o l j) → Counted o ts m
counted_same o ts l m c same = record { nine = c.nine; counts = λ j low high. c.counts j low high ∙ sym (same j) }

-- An accepted call that moved codes from row to row: v is what station k has taken then.
moved_step : (o : Terms) (s u t : State) (l : Ledger) (c : Call) (k v x : ℕ) → u.taken ≡ s.taken → t ≡ with_taken u k v → x ≡ (get_or t.rows 0 no_row).count → verdict o l c ≡ Ok tt → Keeps o s l → Shows o u (done l c) → value l c ≡ length ((done l c).row 0) → k ≤ o.setting.stations
    → (get_or s.taken k 0 ≡ taken_of o l k → v ≡ taken_of o (done l c) k) → 1 ≤ k → ((j : ℕ) → (j ≡ k → ⊥) → taken_of o (done l c) j ≡ taken_of o l j)
    → (◌≡◌ {A = Answer} (Ok x) (answer o l c)) × Keeps o t (after o l c)
moved_step o s u t l c k v x same noted is e q shown free known here one rest =
    accepts o l c x t e (is ∙ ap (λ (w : State). (get_or w.rows 0 no_row).count) noted ∙ ap (λ (w : Row). w.count) (shown.rows 0 (omega arith)) ∙ sym free) (subst (λ w. Keeps o w (done l c)) (sym noted) (record {
      fair = done_fair o l c q.fair e;
      shows = shows_taken o u (done l c) k v shown;
      counted = counted_set o u.taken l (done l c) k v (omega (arith, q.fair.tidy.few)) (subst (λ ts. Counted o ts l) (sym same) q.counted) (here (q.counted.counts k one known)) rest;
    }))

-- The calls.
module _ (s u t : State) (k n v x : ℕ) (same : u.taken ≡ s.taken) (noted : t ≡ with_taken u k v) (is : x ≡ (get_or t.rows 0 no_row).count) where
  pub reserve_steps : v ≡ get_or u.taken k 0 + n → Judges s (Reserve k n) (Ok tt) → ((o : Terms) (l : Ledger) → Matches o s l → Matches o u (times n (move 0 k) l)) → Step s (Reserve k n) (Ok x) t
  reserve_steps v_is judged moves o l q =
      let e = sym (judged o l q) in
      let f = reserve_fits o l k n e in
      let r = move_many o 0 k (omega arith) l q.fair.tidy n (omega arith) in
      moved_step o s u t l (Reserve k n) k v x same noted is e q (moves o l (matches q)).shows refl f.1 (λ was. omega (arith, v_is, ap (λ ts. get_or ts k 0) same, reserve_mine o k n f.0 l _ r)) f.0 (reserve_rest o k n f.0 l _ r)

  pub give_steps : v ≡ get_or u.taken k 0 - n → Judges s (GiveBack k n) (Ok tt) → ((o : Terms) (l : Ledger) → Matches o s l → Matches o u (times n (move k 0) l)) → Step s (GiveBack k n) (Ok x) t
  give_steps v_is judged moves o l q =
      let e = sym (judged o l q) in
      let f = give_fits o l k n e in
      let r = move_many o k 0 (omega arith) l q.fair.tidy n f.3 in
      moved_step o s u t l (GiveBack k n) k v x same noted is e q (moves o l (matches q)).shows refl f.1 (λ was. omega (arith, v_is, ap (λ ts. get_or ts k 0) same, give_mine o k n f.0 l _ r)) f.0 (give_rest o k n f.0 l _ r)

pub draw_steps : (s u : State) (k x : ℕ) → Judges s (Draw k) (Ok tt) → x ≡ (get_or s.rows k no_row).head → u ≡ drawn_out s k → Step s (Draw k) (Ok x) u
draw_steps s u k x judged code after o l q =
    let e = sym (judged o l q) in
    let f = draw_fits o l k e in
    let r = draw_one o l q.fair.tidy k f.0 f.2 in
    accepts o l (Draw k) x u e (code ∙ ap (λ (w : Row). w.head) (q.shows.rows k f.1)) (subst (λ t. Keeps o t (draw k l)) (sym after) (record {
      fair = done_fair o l (Draw k) q.fair e;
      shows = draw_shows o s l q.fair.tidy q.shows (omega arith) k f.0 f.1 f.2;
      counted = counted_same o s.taken l _ q.counted r.taken;
    }))

pub void_steps : (s u : State) (p : Numbers) (x : ℕ) → Judges s (VoidSlip p) (Ok tt) → x ≡ p.code → u ≡ with_mark s p.code (mark_of Void p.station) → Step s (VoidSlip p) (Ok x) u
void_steps s u p x judged code after o l q =
    let e = sym (judged o l q) in
    let f = void_fits o l p e in
    let r = void_one o l q.fair.tidy p.code p.station f.2 f.3 f.4 in
    accepts o l (VoidSlip p) x u e code (subst (λ t. Keeps o t (voided p.code p.station l)) (sym after) (record {
      fair = done_fair o l (VoidSlip p) q.fair e;
      shows = void_shows o s l q.fair.tidy q.shows (omega arith) p.code p.station f.2 f.3 f.4;
      counted = counted_same o s.taken l _ q.counted r.taken;
    }))
