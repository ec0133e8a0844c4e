-- What is known of a call that is accepted. Assumes nothing.
use Rattle.std.proofs.Common.{◌≡◌, ℕ, ◌+◌, ◌≤◌, Bool, true, false, cond, eqb, length, Ok, Err, sym, refl, ap, subst, arith}
use Rattle.std.proofs.lemmas.Bool.{eqb-true, eqb-false, ltb-false, and_parts, not-true, not-false}
use Rattle.refusal.specs.declared.Refusal.{Refusal}
use Rattle.refusal.specs.Verdict.{Verdict, answered, left}
use Rattle.counter.specs.declared.cell.Status.{Status}
use Rattle.counter.specs.declared.cell.Status.TheVariants.{Free, Reserved, Drawn, Issued, Void}
use Rattle.counter.specs.Cells.{is_drawn}
use Rattle.counter.specs.Ledger.{Terms, Ledger, Numbers, Call, Reserve, GiveBack, Draw, VoidSlip, Answer, verdict, value, done, answer, after, times, move, taken_of, limit_of, others_lack}
use Rattle.counter.specs.Shown.{State, Fair, Keeps}
use Rattle.counter.proofs.Marks.{mark_of, mark_is}
use Rattle.counter.proofs.Facts.{inside}
use Rattle.counter.proofs.Ledgers.{move_many, reserve_mine, reserve_rest, give_mine, give_rest, draw_one, void_one, lacking_split, fair_after}

-- An objection that was not raised.
pub clear : (b : Bool) (r : Refusal) (v : Verdict) → cond b (Err r) v ≡ Ok tt → (b ≡ false) × (v ≡ Ok tt)
clear true r v e = let z : ◌≡◌ {A = ℕ} 0 1 = cc in absurd (omega arith)
clear false r v e = (refl, e)

some : (n : ℕ) → eqb n 0 ≡ false → 1 ≤ n
some n e = omega (arith, eqb-false n 0 e)

pub reserve_fits : (o : Terms) (l : Ledger) (k n : ℕ) → verdict o l (Reserve k n) ≡ Ok tt → (1 ≤ k) × (k ≤ o.setting.stations) × (1 ≤ n) × (taken_of o l k + n ≤ limit_of o k) × (n + others_lack o l k ≤ length (l.row 0))
reserve_fits o l k n e =
    let a = clear _ _ _ e in
    let b = clear _ _ _ a.1 in
    let c = clear _ _ _ b.1 in
    let d = clear _ _ _ c.1 in
    let p = inside o.setting.stations k a.0 in
    (p.0, p.1, some n b.0, ltb-false _ _ c.0, ltb-false _ _ d.0)

pub give_fits : (o : Terms) (l : Ledger) (k n : ℕ) → verdict o l (GiveBack k n) ≡ Ok tt → (1 ≤ k) × (k ≤ o.setting.stations) × (1 ≤ n) × (n ≤ length (l.row k))
give_fits o l k n e =
    let a = clear _ _ _ e in
    let b = clear _ _ _ a.1 in
    let c = clear _ _ _ b.1 in
    let p = inside o.setting.stations k a.0 in
    (p.0, p.1, some n b.0, ltb-false _ _ c.0)

pub draw_fits : (o : Terms) (l : Ledger) (k : ℕ) → verdict o l (Draw k) ≡ Ok tt → (1 ≤ k) × (k ≤ o.setting.stations) × (1 ≤ length (l.row k))
draw_fits o l k e =
    let a = clear _ _ _ e in
    let b = clear _ _ _ a.1 in
    let p = inside o.setting.stations k a.0 in
    (p.0, p.1, some (length (l.row k)) b.0)

drawn_is : (s : Status) → is_drawn s ≡ true → s ≡ Drawn
drawn_is Free e = let z : ◌≡◌ {A = ℕ} 0 1 = cc in absurd (omega arith)
drawn_is Reserved e = let z : ◌≡◌ {A = ℕ} 0 1 = cc in absurd (omega arith)
drawn_is Drawn e = refl
drawn_is Issued e = let z : ◌≡◌ {A = ℕ} 0 1 = cc in absurd (omega arith)
drawn_is Void e = let z : ◌≡◌ {A = ℕ} 0 1 = cc in absurd (omega arith)

pub void_fits : (o : Terms) (l : Ledger) (p : Numbers) → verdict o l (VoidSlip p) ≡ Ok tt → (1 ≤ p.station) × (p.station ≤ o.setting.stations) × (1 ≤ p.code) × (p.code ≤ o.codes) × (l.mark p.code ≡ mark_of Drawn p.station)
void_fits o l p e =
    let a = clear _ _ _ e in
    let b = clear _ _ _ a.1 in
    let s = inside o.setting.stations p.station a.0 in
    let here = and_parts _ _ (not-false _ b.0) in
    let code = and_parts _ _ here.1 in
    let mark = and_parts _ _ code.1 in
    let x = inside o.codes p.code (not-true _ code.0) in
    (s.0, s.1, x.0, x.1, mark_is (l.mark p.code) Drawn p.station (drawn_is _ mark.0) (eqb-true _ _ mark.1))

-- A call that does what is accepted, and one that is refused.
pub accepts : (o : Terms) (l : Ledger) (c : Call) (n : ℕ) (t : State) → verdict o l c ≡ Ok tt → n ≡ value l c → Keeps o t (done l c) → (◌≡◌ {A = Answer} (Ok n) (answer o l c)) × Keeps o t (after o l c)
accepts o l c n t e v k =
    let P : Verdict → Type 0 = λ w. (◌≡◌ {A = Answer} (Ok n) (answered w (value l c))) × Keeps o t (left w l (done l c)) in
    subst P (sym e) (ap Ok v, k)

pub refuses : (o : Terms) (l : Ledger) (c : Call) (r : Refusal) (s : State) → verdict o l c ≡ Err r → Keeps o s l → (◌≡◌ {A = Answer} (Err r) (answer o l c)) × Keeps o s (after o l c)
refuses o l c r s e k =
    let P : Verdict → Type 0 = λ w. (◌≡◌ {A = Answer} (Err r) (answered w (value l c))) × Keeps o s (left w l (done l c)) in
    subst P (sym e) (refl, k)

-- An accepted call keeps a ledger fair.
pub done_fair : (o : Terms) (l : Ledger) (c : Call) → Fair o l → verdict o l c ≡ Ok tt → Fair o (done l c)
done_fair o l (Reserve k n) f e =
    let q = reserve_fits o l k n e in
    let m = times n (move 0 k) l in
    let r = move_many o 0 k (omega arith) l f.tidy n (omega arith) in
    let mine = reserve_mine o k n q.0 l m r in
    fair_after o k l m q.0 q.1 f r.tidy (reserve_rest o k n q.0 l m r) (omega arith) (omega (arith, r.from, f.enough, lacking_split o l k q.0 q.1))
done_fair o l (GiveBack k n) f e =
    let q = give_fits o l k n e in
    let m = times n (move k 0) l in
    let r = move_many o k 0 (omega arith) l f.tidy n q.3 in
    let mine = give_mine o k n q.0 l m r in
    fair_after o k l m q.0 q.1 f r.tidy (give_rest o k n q.0 l m r) (omega (arith, f.within k q.0 q.1)) (omega (arith, r.to, f.enough, lacking_split o l k q.0 q.1))
done_fair o l (Draw k) f e =
    let q = draw_fits o l k e in
    let r = draw_one o l f.tidy k q.0 q.2 in
    fair_after o k l _ q.0 q.1 f r.tidy (λ j _. r.taken j) (omega (arith, r.taken k, f.within k q.0 q.1)) (omega (arith, r.taken k, ap length r.frees, f.enough, lacking_split o l k q.0 q.1))
done_fair o l (VoidSlip p) f e =
    let q = void_fits o l p e in
    let r = void_one o l f.tidy p.code p.station q.2 q.3 q.4 in
    let k = p.station in
    fair_after o k l _ q.0 q.1 f r.tidy (λ j _. r.taken j) (omega (arith, r.taken k, f.within k q.0 q.1)) (omega (arith, r.taken k, f.enough, lacking_split o l k q.0 q.1))
