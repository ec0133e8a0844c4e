-- One code moves: the tables show the ledger after it. Assumes nothing.
use Rattle.std.proofs.Common.{◌≡◌, ℕ, ◌+◌, ◌-◌, ◌<◌, ◌≤◌, Bool, true, false, cond, eqb, ◌≢◌, List, [], ◌∷◌, map, length, get_or, set, Some, None, Option, sym, refl, ap, ◌∙◌, subst, ⊎_elim, arith, length-set}
use Rattle.std.proofs.lemmas.List.{get_or-set_same, get_or-set_other, set-set, get_or-map, length-map}
use Rattle.std.proofs.lemmas.Bool.{cases_eq, eq-eqb, ne_eqb, cond-true, cond-false}
use Rattle.chain.specs.Chain.{no_cell, next_of, relink, first, follower}
use Rattle.chain.proofs.Chains.{has_number, next_in, relink_from_1, relink_set}
use Rattle.counter.specs.declared.tables.Row.{Row}
use Rattle.counter.specs.declared.cell.CodeCell.{CodeCell}
use Rattle.counter.specs.declared.cell.Status.{Status}
use Rattle.counter.specs.declared.cell.Status.TheVariants.{Drawn, Void}
use Rattle.counter.specs.Cells.{blank_code, code_cell, in_a_row}
use Rattle.counter.specs.Ledger.{Setting, Terms, Ledger, put, row_mark, moved, move, drawn_from, draw, voided}
use Rattle.counter.specs.Shown.{State, no_row, row_of, cell_with, cell_of, kept_row, Shows, Listed, Tidy}
use Rattle.counter.specs.Inside.{with_mark, with_row, drawn_at, drawn_out, Matches}
use Rattle.counter.proofs.Sums.{put_at, put_same, put_other}
use Rattle.counter.proofs.Marks.{mark_of, row_waits}
use Rattle.counter.proofs.Facts.{one_of}
use Rattle.counter.proofs.Ledgers.{move_one}

-- The block after the first code x of row a went to the front of row b, and after it was drawn.
abbrev pub shifted_at : State → ℕ → ℕ → ℕ → State
shifted_at s a b x = record {
  setting = s.setting;
  cells = set s.cells (x - 1) (record { status = (row_mark b).status; station = b; next = (get_or s.rows b no_row).head });
  register = s.register;
  rows = set (set s.rows a (record { head = (code_cell s.cells x).next; count = (get_or s.rows a no_row).count - 1 })) b (record { head = x; count = (get_or s.rows b no_row).count + 1 });
  taken = s.taken;
  newest = s.newest;
}

abbrev pub shifted : State → ℕ → ℕ → State
shifted s a b = shifted_at s a b (get_or s.rows a no_row).head

-- Followers.
pub follows_first : (x : ℕ) (xs : List ℕ) → follower (x ∷ xs) x ≡ first xs
follows_first x xs = cond-true (eqb x x) (first xs) (follower xs x) (eq-eqb x x refl)

pub follows_later : (x : ℕ) (xs : List ℕ) (i : ℕ) → (i ≡ x → ⊥) → follower (x ∷ xs) i ≡ follower xs i
follows_later x xs i ne = cond-false (eqb i x) (first xs) (follower xs i) (ne_eqb i x ne)

row_of_row : (l : Ledger) (j : ℕ) → row_of l (row_mark j) ≡ l.row j
row_of_row l j = cond-true (in_a_row (row_mark j).status) (l.row j) [] (row_waits j)

either_row : (t : Bool) (xs ys : List ℕ) (i : ℕ) → follower xs i ≡ follower ys i → follower (cond t xs []) i ≡ follower (cond t ys []) i
either_row true xs ys i e = e
either_row false xs ys i e = refl

-- A code that keeps its mark and its follower keeps its cell.
stays : (l m : Ledger) (i : ℕ) → m.mark i ≡ l.mark i → ((j : ℕ) → follower (m.row j) i ≡ follower (l.row j) i) → cell_of m i ≡ cell_of l i
stays l m i e f =
    let k = l.mark i in
    let F : ℕ → CodeCell = λ n. record { status = k.status; station = k.station; next = n } in
    ap (λ w. cell_with m w i) e ∙ ap F (either_row (in_a_row k.status) (m.row k.station) (l.row k.station) i (f k.station))

module _ (o : Terms) (s : State) (l : Ledger) (t : Tidy o l) (w : Shows o s l) (some : 1 ≤ o.setting.stations) where
  pub within : (x : ℕ) → 1 ≤ x → x ≤ o.codes → x - 1 < length s.cells
  within x low high = omega (arith, w.size, t.lent some)

  -- One cell is written.
  cells_after : (m : Ledger) (x : ℕ) (c : CodeCell) → 1 ≤ x → x ≤ o.codes → c ≡ cell_of m x → ((i : ℕ) → (i ≡ x → ⊥) → cell_of m i ≡ cell_of l i)
      → (i : ℕ) → 1 ≤ i → i ≤ o.codes → code_cell (set s.cells (x - 1) c) i ≡ cell_of m i
  cells_after m x c low high here off i one le = ⊎_elim
      (λ (e : i ≡ x). subst (λ j. code_cell (set s.cells (x - 1) c) j ≡ cell_of m j) (sym e) (get_or-set_same s.cells (x - 1) c blank_code (within x low high) ∙ here))
      (λ (ne : i ≡ x → ⊥).
      let apart : i - 1 ≢ x - 1 = λ e. ne (omega (arith, e)) in
      get_or-set_other s.cells (x - 1) (i - 1) c blank_code apart ∙ w.cells i one le ∙ sym (off i ne))
      (cases_eq i x)

  -- The first code of a row: its next number is the second.
  pub next_first : (a x : ℕ) (xs : List ℕ) → l.row a ≡ x ∷ xs → Listed l.mark o.codes (row_mark a) (x ∷ xs) → (code_cell s.cells x).next ≡ first xs
  next_first a x xs here p = ap (λ (c : CodeCell). c.next) (w.cells x p.0 p.1) ∙ ap (λ m. follower (row_of l m) x) p.2 ∙ ap (λ ys. follower ys x) (row_of_row l a ∙ here) ∙ follows_first x xs

  -- What is kept of the row that it leaves.
  row_left : (a : ℕ) → a ≤ o.setting.stations → (x : ℕ) (xs : List ℕ) → l.row a ≡ x ∷ xs → Listed l.mark o.codes (row_mark a) (x ∷ xs)
      → ◌≡◌ {A = Row} (record { head = (code_cell s.cells x).next; count = (get_or s.rows a no_row).count - 1 }) (record { head = first xs; count = length xs })
  row_left a known x xs here p =
      let F : ℕ → ℕ → Row = λ h n. record { head = h; count = n } in
      let count : (get_or s.rows a no_row).count - 1 ≡ length xs = omega (arith, ap (λ (r : Row). r.count) (w.rows a known), ap length here) in
      ap (λ h. F h ((get_or s.rows a no_row).count - 1)) (next_first a x xs here p) ∙ ap (F (first xs)) count

  module _ (a b : ℕ) (ne : a ≡ b → ⊥) (in_a : a ≤ o.setting.stations) (in_b : b ≤ o.setting.stations) (x : ℕ) (xs : List ℕ) (here : l.row a ≡ x ∷ xs) (p : Listed l.mark o.codes (row_mark a) (x ∷ xs)) where
    shifted_cell : ◌≡◌ {A = CodeCell} (record { status = (row_mark b).status; station = b; next = (get_or s.rows b no_row).head }) (cell_of (moved a b l (x ∷ xs)) x)
    shifted_cell =
        let m = moved a b l (x ∷ xs) in
        let v = row_mark b in
        let F : ℕ → CodeCell = λ n. record { status = v.status; station = b; next = n } in
        let row : row_of m v ≡ x ∷ l.row b = row_of_row m b ∙ put_same (put l.row a xs) b (x ∷ l.row b) in
        ap F (ap (λ (r : Row). r.head) (w.rows b in_b) ∙ sym (ap (λ ys. follower ys x) row ∙ follows_first x (l.row b))) ∙ sym (ap (λ k. cell_with m k x) (put_same l.mark x v))

    shifted_rest : (i : ℕ) → (i ≡ x → ⊥) → cell_of (moved a b l (x ∷ xs)) i ≡ cell_of l i
    shifted_rest i off = stays l (moved a b l (x ∷ xs)) i (put_other l.mark x (row_mark b) i off)
        (λ j. put_at (λ ys. follower ys i ≡ follower (l.row j) i) (put l.row a xs) b (x ∷ l.row b) j
        (λ (e : j ≡ b). follows_later x (l.row b) i off ∙ ap (λ k. follower (l.row k) i) (sym e))
        (λ _. put_at (λ ys. follower ys i ≡ follower (l.row j) i) l.row a xs j
        (λ (e : j ≡ a). sym (ap (λ k. follower (l.row k) i) e ∙ ap (λ ys. follower ys i) here ∙ follows_later x xs i off))
        (λ _. refl)))

    shifted_rows : (j : ℕ) → j ≤ o.setting.stations → get_or (shifted_at s a b x).rows j no_row ≡ kept_row (moved a b l (x ∷ xs)) j
    shifted_rows j known =
        let m = moved a b l (x ∷ xs) in
        let K : List ℕ → Row = λ ys. record { head = first ys; count = length ys } in
        let ra : Row = record { head = (code_cell s.cells x).next; count = (get_or s.rows a no_row).count - 1 } in
        let rb : Row = record { head = x; count = (get_or s.rows b no_row).count + 1 } in
        let nine = w.nine.0 in
        let few = t.few in
        let G : Row → ℕ → Type 0 = λ r i. r ≡ kept_row m i in
        let F : ℕ → Row = λ n. record { head = x; count = n } in
        let at_b : m.row b ≡ x ∷ l.row b = put_same (put l.row a xs) b (x ∷ l.row b) in
        let at_a : m.row a ≡ xs = put_other (put l.row a xs) b (x ∷ l.row b) a ne ∙ put_same l.row a xs in
        let more : (get_or s.rows b no_row).count + 1 ≡ length (x ∷ l.row b) = omega (arith, ap (λ (r : Row). r.count) (w.rows b in_b)) in
        ⊎_elim
        (λ (e : j ≡ b). subst (λ i. get_or (set (set s.rows a ra) b rb) i no_row ≡ kept_row m i) (sym e) (get_or-set_same (set s.rows a ra) b rb no_row (simp length-set (omega arith)) ∙ ap F more ∙ sym (ap K at_b)))
        (λ (off_b : j ≡ b → ⊥). get_or-set_other (set s.rows a ra) b j rb no_row off_b ∙ ⊎_elim
        (λ (e : j ≡ a). subst (λ i. get_or (set s.rows a ra) i no_row ≡ kept_row m i) (sym e) (get_or-set_same s.rows a ra no_row (omega arith) ∙ row_left a in_a x xs here p ∙ sym (ap K at_a)))
        (λ (off_a : j ≡ a → ⊥). get_or-set_other s.rows a j ra no_row off_a ∙ w.rows j known ∙ sym (ap K (put_other (put l.row a xs) b (x ∷ l.row b) j off_b ∙ put_other l.row a xs j off_a)))
        (cases_eq j a))
        (cases_eq j b)

    shifted_shows : Shows o (shifted_at s a b x) (moved a b l (x ∷ xs))
    shifted_shows = record {
      setting = w.setting;
      size = length-set s.cells (x - 1) _ ∙ w.size;
      cells = cells_after (moved a b l (x ∷ xs)) x _ p.0 p.1 shifted_cell shifted_rest;
      room = w.room;
      blank = w.blank;
      untouched = λ z. absurd (omega arith);
      nine = (length-set (set s.rows a _) b _ ∙ length-set s.rows a _ ∙ w.nine.0, w.nine.1);
      rows = shifted_rows;
      newest = w.newest;
    }

  module _ (k : ℕ) (one : 1 ≤ k) (known : k ≤ o.setting.stations) (x : ℕ) (xs : List ℕ) (here : l.row k ≡ x ∷ xs) (p : Listed l.mark o.codes (row_mark k) (x ∷ xs)) where
    drawn_rows : (j : ℕ) → j ≤ o.setting.stations → get_or (drawn_at s k x).rows j no_row ≡ kept_row (drawn_from k l (x ∷ xs)) j
    drawn_rows j in_j =
        let m = drawn_from k l (x ∷ xs) in
        let K : List ℕ → Row = λ ys. record { head = first ys; count = length ys } in
        let r : Row = record { head = (code_cell s.cells x).next; count = (get_or s.rows k no_row).count - 1 } in
        let nine = w.nine.0 in
        let few = t.few in
        ⊎_elim
        (λ (e : j ≡ k). subst (λ i. get_or (set s.rows k r) i no_row ≡ kept_row m i) (sym e) (get_or-set_same s.rows k r no_row (omega arith) ∙ row_left k known x xs here p ∙ sym (ap K (put_same l.row k xs))))
        (λ (off : j ≡ k → ⊥). get_or-set_other s.rows k j r no_row off ∙ w.rows j in_j ∙ sym (ap K (put_other l.row k xs j off)))
        (cases_eq j k)

    drawn_shows : Shows o (drawn_at s k x) (drawn_from k l (x ∷ xs))
    drawn_shows =
        let m = drawn_from k l (x ∷ xs) in
        record {
          setting = w.setting;
          size = length-set s.cells (x - 1) _ ∙ w.size;
          cells = cells_after m x _ p.0 p.1 (sym (ap (λ v. cell_with m v x) (put_same l.mark x (mark_of Drawn k))))
              (λ i off. stays l m i (put_other l.mark x (mark_of Drawn k) i off)
              (λ j. put_at (λ ys. follower ys i ≡ follower (l.row j) i) l.row k xs j
              (λ (e : j ≡ k). sym (ap (λ c. follower (l.row c) i) e ∙ ap (λ ys. follower ys i) here ∙ follows_later x xs i off))
              (λ _. refl)));
          room = w.room;
          blank = w.blank;
          untouched = λ z. absurd (omega arith);
          nine = (length-set s.rows k _ ∙ w.nine.0, w.nine.1);
          rows = drawn_rows;
          newest = w.newest;
        }

  pub void_shows : (x k : ℕ) → 1 ≤ x → x ≤ o.codes → l.mark x ≡ mark_of Drawn k → Shows o (with_mark s x (mark_of Void k)) (voided x k l)
  void_shows x k low high e =
      let m = voided x k l in
      let F : ℕ → CodeCell = λ n. record { status = Void; station = k; next = n } in
      let none : (code_cell s.cells x).next ≡ 0 = ap (λ (c : CodeCell). c.next) (w.cells x low high) ∙ ap (λ v. follower (row_of l v) x) e in
      record {
        setting = w.setting;
        size = length-set s.cells (x - 1) _ ∙ w.size;
        cells = cells_after m x _ low high (ap F none ∙ sym (ap (λ v. cell_with m v x) (put_same l.mark x (mark_of Void k))))
            (λ i off. stays l m i (put_other l.mark x (mark_of Void k) i off) (λ j. refl));
        room = w.room;
        blank = w.blank;
        untouched = λ z. absurd (omega arith);
        nine = w.nine;
        rows = w.rows;
        newest = w.newest;
      }

  -- The head of a row is its first code.
  shift_at : (a b : ℕ) → (a ≡ b → ⊥) → a ≤ o.setting.stations → b ≤ o.setting.stations → (ys : List ℕ) → l.row a ≡ ys → 1 ≤ length ys → Listed l.mark o.codes (row_mark a) ys → Shows o (shifted_at s a b (first ys)) (moved a b l ys)
  shift_at a b ne in_a in_b [] here long p = absurd (omega arith)
  shift_at a b ne in_a in_b (x ∷ xs) here long p = shifted_shows a b ne in_a in_b x xs here p

  pub shift_shows : (a b : ℕ) → (a ≡ b → ⊥) → a ≤ o.setting.stations → b ≤ o.setting.stations → 1 ≤ length (l.row a) → Shows o (shifted s a b) (move a b l)
  shift_shows a b ne in_a in_b long =
      let head : (get_or s.rows a no_row).head ≡ first (l.row a) = ap (λ (r : Row). r.head) (w.rows a in_a) in
      subst (λ x. Shows o (shifted_at s a b x) (move a b l)) (sym head) (shift_at a b ne in_a in_b (l.row a) refl long (t.listed a))

  draw_at : (k : ℕ) → 1 ≤ k → k ≤ o.setting.stations → (ys : List ℕ) → l.row k ≡ ys → 1 ≤ length ys → Listed l.mark o.codes (row_mark k) ys → Shows o (drawn_at s k (first ys)) (drawn_from k l ys)
  draw_at k one known [] here long p = absurd (omega arith)
  draw_at k one known (x ∷ xs) here long p = drawn_shows k one known x xs here p

  pub draw_shows : (k : ℕ) → 1 ≤ k → k ≤ o.setting.stations → 1 ≤ length (l.row k) → Shows o (drawn_out s k) (draw k l)
  draw_shows k one known long =
      let head : (get_or s.rows k no_row).head ≡ first (l.row k) = ap (λ (r : Row). r.head) (w.rows k known) in
      subst (λ x. Shows o (drawn_at s k x) (draw k l)) (sym head) (draw_at k one known (l.row k) refl long (t.listed k))

-- One move keeps a ledger tidy and shown.
pub shift_matches : (o : Terms) (s : State) (l : Ledger) (a b : ℕ) → (a ≡ b → ⊥) → a ≤ s.setting.stations → b ≤ s.setting.stations → 1 ≤ (get_or s.rows a no_row).count → Matches o s l → Matches o (shifted s a b) (move a b l)
shift_matches o s l a b ne in_a in_b some m =
    let e : s.setting.stations ≡ o.setting.stations = ap (λ (x : Setting). x.stations) m.shows.setting in
    let ka : a ≤ o.setting.stations = omega arith in
    let kb : b ≤ o.setting.stations = omega arith in
    let one : 1 ≤ o.setting.stations = one_of a b _ ne ka kb in
    let long : 1 ≤ length (l.row a) = omega (arith, ap (λ (r : Row). r.count) (m.shows.rows a ka)) in
    record { tidy = (move_one o l m.tidy a b ne long).tidy; shows = shift_shows o s l m.tidy m.shows one a b ne ka kb long }

pub shifted_fewer : (s : State) (a b : ℕ) → (a ≡ b → ⊥) → a < length s.rows → 1 ≤ (get_or s.rows a no_row).count → (get_or (shifted s a b).rows a no_row).count + 1 ≡ (get_or s.rows a no_row).count
shifted_fewer s a b ne lt some =
    let r : Row = record { head = (code_cell s.cells (get_or s.rows a no_row).head).next; count = (get_or s.rows a no_row).count - 1 } in
    let e : get_or (shifted s a b).rows a no_row ≡ r = get_or-set_other (set s.rows a r) b a _ no_row ne ∙ get_or-set_same s.rows a r no_row lt in
    omega (arith, ap (λ (w : Row). w.count) e)

-- The code's way by pop, push and mark comes to the same block.
abbrev relinked : CodeCell → ℕ → CodeCell
relinked c n = record { status = c.status; station = c.station; next = n }

abbrev pub next_number : CodeCell → ℕ
next_number c = c.next

module _ (cs : List CodeCell) (h : ℕ) (low : 1 ≤ h) (high : h ≤ length cs) where
  relinks : (n : ℕ) → relink relinked cs h n ≡ set cs (h - 1) (relinked (code_cell cs h) n)
  relinks n = relink_from_1 relinked cs h n low ∙ relink_set relinked cs (h - 1) n blank_code

  rewritten : (n : ℕ) (c : CodeCell) → set (relink relinked cs h n) (h - 1) c ≡ set cs (h - 1) c
  rewritten n c = ap (λ xs. set xs (h - 1) c) (relinks n) ∙ set-set cs (h - 1) _ c

  next_set : (n : ℕ) → (code_cell (relink relinked cs h n) h).next ≡ n
  next_set n = ap (λ xs. (code_cell xs h).next) (relinks n) ∙ ap next_number (get_or-set_same cs (h - 1) _ blank_code (omega arith))

  pub next_shown : next_of (map next_number cs) h ≡ (code_cell cs h).next
  next_shown = next_in (map next_number cs) h low (simp length-map high) ∙ get_or-map next_number cs (h - 1) blank_code 0 (omega arith)

abbrev left_in : Option (ℕ × ℕ) → ℕ
left_in None = 0
left_in (Some p) = p.0

abbrev right_in : Option (ℕ × ℕ) → ℕ
right_in None = 0
right_in (Some p) = p.1

pub popped_pair : (n h code rest x : ℕ) → 1 ≤ h → h ≤ n → ◌≡◌ {A = Option (ℕ × ℕ)} (Some (code, rest)) (cond (no_cell n h) None (Some (h, x))) → (code ≡ h) × (rest ≡ x)
popped_pair n h code rest x low high e =
    let f : ◌≡◌ {A = Option (ℕ × ℕ)} (Some (code, rest)) (Some (h, x)) = e ∙ cond-false (no_cell n h) None (Some (h, x)) (has_number n h low high) in
    (ap left_in f, ap right_in f)

pub popped_none : (n h x : ℕ) → 1 ≤ h → h ≤ n → ◌≡◌ {A = Option (ℕ × ℕ)} None (cond (no_cell n h) None (Some (h, x))) → ⊥
popped_none n h x low high e =
    let f : ◌≡◌ {A = Option (ℕ × ℕ)} None (Some (h, x)) = e ∙ cond-false (no_cell n h) None (Some (h, x)) (has_number n h low high) in
    let z : ◌≡◌ {A = ℕ} 0 1 = cc in omega arith

abbrev with_cells : State → List CodeCell → State
with_cells s cs = record { setting = s.setting; cells = cs; register = s.register; rows = s.rows; taken = s.taken; newest = s.newest }

-- Row a has lost its first code, and row b got one.
abbrev pub lost : State → ℕ → ℕ → State
lost u a rest = with_row u a (record { head = rest; count = (get_or u.rows a no_row).count - 1 })

abbrev pub gained : State → ℕ → ℕ → State
gained u b front = with_row u b (record { head = front; count = (get_or u.rows b no_row).count + 1 })

pub other_row : (s u v : State) (a b rest : ℕ) → (a ≡ b → ⊥) → u.rows ≡ s.rows → v ≡ lost u a rest → (get_or v.rows b no_row).count ≡ (get_or s.rows b no_row).count
other_row s u v a b rest ne e f =
    ap (λ (w : State). (get_or w.rows b no_row).count) f ∙ ap (λ (r : Row). r.count) (get_or-set_other u.rows a b (record { head = rest; count = (get_or u.rows a no_row).count - 1 }) no_row (λ z. ne (sym z))) ∙ ap (λ (rs : List Row). (get_or rs b no_row).count) e

pub took : (s : State) (a b code rest front : ℕ) (status : Status) (popped pushed : List CodeCell) (u v t : State) → (a ≡ b → ⊥)
    → 1 ≤ (get_or s.rows a no_row).head → (get_or s.rows a no_row).head ≤ length s.cells
    → code ≡ (get_or s.rows a no_row).head → rest ≡ next_of (map next_number s.cells) (get_or s.rows a no_row).head
    → popped ≡ relink relinked s.cells (get_or s.rows a no_row).head 0
    → pushed ≡ relink relinked popped code (get_or s.rows b no_row).head
    → front ≡ cond (no_cell (length popped) code) (get_or s.rows b no_row).head code
    → status ≡ (row_mark b).status
    → u ≡ with_mark (with_cells s pushed) code (mark_of status b) → v ≡ lost u a rest → t ≡ gained v b front
    → t ≡ shifted s a b
took s a b code rest front status popped pushed u v t ne low high e₁ e₂ e₃ e₄ e₅ e₆ e₇ e₈ e₉ =
    let h = (get_or s.rows a no_row).head in
    let nb = (get_or s.rows b no_row).head in
    let F : State → ℕ → ℕ → State = λ w r f. gained (lost w a r) b f in
    let long : h ≤ length popped = subst (λ (xs : List CodeCell). h ≤ length xs) (sym (e₃ ∙ relinks s.cells h low high 0)) (simp length-set high) in
    let rest_is : rest ≡ (code_cell s.cells h).next = e₂ ∙ next_shown s.cells h low high in
    let front_is : front ≡ h = e₅ ∙ ap (λ c. cond (no_cell (length popped) c) nb c) e₁ ∙ cond-false (no_cell (length popped) h) nb h (has_number (length popped) h low long) in
    let pushed_is : pushed ≡ relink relinked popped h nb = e₄ ∙ ap (λ c. relink relinked popped c nb) e₁ in
    let next_is : (code_cell pushed h).next ≡ nb = ap (λ xs. (code_cell xs h).next) pushed_is ∙ next_set popped h low long nb in
    let C : CodeCell = record { status = (row_mark b).status; station = b; next = nb } in
    let G : ℕ → Status → ℕ → State = λ c w n. with_cells s (set pushed (c - 1) (record { status = w; station = b; next = n })) in
    let cells_are : set pushed (h - 1) C ≡ set s.cells (h - 1) C = ap (λ xs. set xs (h - 1) C) pushed_is ∙ rewritten popped h low long nb C ∙ ap (λ xs. set xs (h - 1) C) e₃ ∙ rewritten s.cells h low high 0 C in
    let S : State = with_cells s (set s.cells (h - 1) C) in
    let marked : u ≡ S = e₇ ∙ ap (λ c. with_mark (with_cells s pushed) c (mark_of status b)) e₁ ∙ ap (λ w. G h w (code_cell pushed h).next) e₆ ∙ ap (G h (row_mark b).status) next_is ∙ ap (with_cells s) cells_are in
    let r : Row = record { head = (code_cell s.cells h).next; count = (get_or s.rows a no_row).count - 1 } in
    let Q : Row → State = λ w. with_row (with_row S a r) b (record { head = h; count = w.count + 1 }) in
    e₉ ∙ ap (λ w. gained w b front) e₈ ∙ ap (λ w. F w rest front) marked ∙ ap (λ n. F S n front) rest_is ∙ ap (F S (code_cell s.cells h).next) front_is ∙ ap Q (get_or-set_other s.rows a b r no_row (λ e. ne (sym e)))

pub took_out : (s : State) (k code rest : ℕ) (popped : List CodeCell) (u t : State)
    → 1 ≤ (get_or s.rows k no_row).head → (get_or s.rows k no_row).head ≤ length s.cells
    → code ≡ (get_or s.rows k no_row).head → rest ≡ next_of (map next_number s.cells) (get_or s.rows k no_row).head
    → popped ≡ relink relinked s.cells (get_or s.rows k no_row).head 0
    → u ≡ with_mark (with_cells s popped) code (mark_of Drawn k) → t ≡ lost u k rest
    → t ≡ drawn_out s k
took_out s k code rest popped u t low high e₁ e₂ e₃ e₄ e₅ =
    let h = (get_or s.rows k no_row).head in
    let rest_is : rest ≡ (code_cell s.cells h).next = e₂ ∙ next_shown s.cells h low high in
    let C : CodeCell = record { status = Drawn; station = k; next = 0 } in
    let G : ℕ → ℕ → State = λ c n. with_cells s (set popped (c - 1) (record { status = Drawn; station = k; next = n })) in
    let next_is : (code_cell popped h).next ≡ 0 = ap (λ xs. (code_cell xs h).next) e₃ ∙ next_set s.cells h low high 0 in
    let cells_are : set popped (h - 1) C ≡ set s.cells (h - 1) C = ap (λ xs. set xs (h - 1) C) e₃ ∙ rewritten s.cells h low high 0 C in
    let S : State = with_cells s (set s.cells (h - 1) C) in
    let marked : u ≡ S = e₄ ∙ ap (λ c. with_mark (with_cells s popped) c (mark_of Drawn k)) e₁ ∙ ap (G h) next_is ∙ ap (with_cells s) cells_are in
    e₅ ∙ ap (λ w. lost w k rest) marked ∙ ap (lost S k) rest_is
