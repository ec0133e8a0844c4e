-- A cell with another next number. Assumes nothing.
use Rattle.std.proofs.Common.{◌≡◌, set, sym, arith}
use Rattle.chain.specs.Chain.{relink}
use Rattle.chain.proofs.Chains.{relink_none, wrote, pushed, popped}
use Rattle.chain.proofs.link_cell.Goals as goal

pub returns-in_err-get-clause-links : goal.returns-in_err-get-clause-links
returns-in_err-get-clause-links g c = sym (relink_none g.R.Linked.relinked c.args.cells.now c.args.i c.args.next (λ one. omega (arith, c.in_ok-place.ensures, c.in_err-get.ensures.lookup.3)))

-- the cell is linked
linked : (g : _) (c : goal.After-set_next g) → set c.args.cells.now c.in_ok-place.place c.set_next.new.self ≡ relink g.R.Linked.relinked c.args.cells.now c.args.i c.args.next
linked g c = wrote g.R.Linked.link g.R.Linked.relinked g.met.R.Linked.reads c.args.cells.now c.args.i c.args.next c.in_ok-place.place _ _ (omega (arith, c.in_ok-place.ensures)) (omega (arith, c.in_ok-place.ensures)) c.set_next.ensures

pub returns-clause-links : goal.returns-clause-links
returns-clause-links g c = linked g c

pub returns-clause-front : goal.returns-clause-front
returns-clause-front g c xs _ k a = pushed g.R.Linked.link g.R.Linked.relinked g.met.R.Linked.reads c.args.cells.now _ c.args.next c.args.i (omega (arith, c.in_ok-place.ensures)) (omega (arith, c.in_ok-place.ensures, c.in_ok-get.ensures.lookup.3.0)) (linked g c) xs k a

pub returns-clause-rest : goal.returns-clause-rest
returns-clause-rest g c = popped g.R.Linked.link g.R.Linked.relinked g.met.R.Linked.reads c.args.cells.now _ c.args.i c.args.next (linked g c)
