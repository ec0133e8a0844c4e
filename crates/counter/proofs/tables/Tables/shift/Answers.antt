-- One code's move. Assumes nothing.
use Rattle.std.proofs.Common.{◌≡◌, ℕ, ◌+◌, ◌≤◌, map, length, get_or, sym, ap, ◌∙◌, subst, arith}
use Rattle.chain.specs.Chain.{next_of}
use Rattle.counter.specs.Ledger.{move}
use Rattle.counter.specs.Shown.{State, view, no_row}
use Rattle.counter.specs.Inside.{Matches, Kept}
use Rattle.counter.proofs.Facts.{few, row_small, nine_rows, head_low, head_high, one_of}
use Rattle.counter.proofs.Moves.{next_number, other_row, shift_matches, shifted_fewer, popped_pair, popped_none, took}
use Rattle.counter.proofs.tables.Tables.shift.Goals as goal

pub bounds-self-to : goal.bounds-self-to
bounds-self-to c = omega (arith, few (view c.args.self.now) c.requires.kept, c.requires.to)

pub join-requires : goal.join-requires
join-requires c =
    let s = view c.args.self.now in
    let same : (view c.mark.new.self).rows ≡ s.rows = ap (λ (u : State). u.rows) c.mark.ensures in
    let row = other_row s (view c.mark.new.self) (view c.leave.new.self) c.args.from c.args.to c.in-Some.rest c.requires.apart same c.leave.ensures in
    let small = row_small s c.requires.kept c.args.to c.requires.to in
    record { known = omega (arith, few s c.requires.kept, c.requires.to); room = omega arith }

-- the head of the row that it leaves
heads : (s : State) → ∥ Kept s ∥₁ → (a b : ℕ) → (a ≡ b → ⊥) → a ≤ s.setting.stations → b ≤ s.setting.stations → 1 ≤ (get_or s.rows a no_row).count → (1 ≤ (get_or s.rows a no_row).head) × ((get_or s.rows a no_row).head ≤ length s.cells)
heads s q a b ne in_a in_b some = (head_low s q a in_a some, head_high s q a in_a some (one_of a b _ ne in_a in_b))

pub returns-in_default : goal.returns-in_default
returns-in_default c =
    let s = view c.args.self.now in
    let h = heads s c.requires.kept c.args.from c.args.to c.requires.apart c.requires.from c.requires.to c.requires.some in
    absurd (popped_none (length s.cells) (get_or s.rows c.args.from no_row).head (next_of (map next_number s.cells) (get_or s.rows c.args.from no_row).head) h.0 h.1 (sym c.in_default.is ∙ c.pop_front.ensures.first))

pub returns-in-Some : goal.returns-in-Some
returns-in-Some c =
    let s = view c.args.self.now in
    let a = c.args.from in
    let b = c.args.to in
    let h = heads s c.requires.kept a b c.requires.apart c.requires.from c.requires.to c.requires.some in
    let e = popped_pair (length s.cells) (get_or s.rows a no_row).head c.in-Some.code c.in-Some.rest _ h.0 h.1 c.in-Some.ensures.first in
    let same = took s a b c.in-Some.code c.in-Some.rest c.push_front-head.result c.row_status-status.result c.pop_front.new.cells c.push_front-head.new.cells (view c.mark.new.self) (view c.leave.new.self) (view c.join.new.self) c.requires.apart
    h.0 h.1 e.0 e.1 c.in-Some.ensures.links c.push_front-head.ensures.links c.push_front-head.ensures.head c.row_status-status.ensures c.mark.ensures c.leave.ensures c.join.ensures in
    record {
      moves = λ o l m. subst (λ u. Matches o u (move a b l)) (sym same) (shift_matches o s l a b c.requires.apart c.requires.from c.requires.to c.requires.some m);
      fewer = ap (λ (u : State). (get_or u.rows a no_row).count + 1) same ∙ shifted_fewer s a b c.requires.apart (omega (arith, nine_rows s c.requires.kept, few s c.requires.kept, c.requires.from)) c.requires.some;
      stations = ap (λ (u : State). u.setting.stations) same;
      taken = ap (λ (u : State). u.taken) same;
    }
