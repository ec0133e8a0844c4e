-- The first code of a row is drawn. Assumes nothing.
use Rattle.std.proofs.Common.{map, length, get_or, arith}
use Rattle.chain.specs.Chain.{next_of}
use Rattle.counter.specs.Shown.{view, no_row}
use Rattle.counter.proofs.Facts.{head_low, head_high}
use Rattle.counter.proofs.Moves.{next_number, popped_pair, popped_none, took_out}
use Rattle.counter.proofs.tables.Tables.take_first.Goals as goal

pub returns-in-None : goal.returns-in-None
returns-in-None c =
    let s = view c.args.self.now in
    let k = c.args.station in
    let r = c.requires in
    absurd (popped_none (length s.cells) (get_or s.rows k no_row).head (next_of (map next_number s.cells) (get_or s.rows k no_row).head) (head_low s r.kept k r.known r.some) (head_high s r.kept k r.known r.some (omega arith)) c.in-None.ensures.first)

pub returns-in-Some : goal.returns-in-Some
returns-in-Some c =
    let s = view c.args.self.now in
    let k = c.args.station in
    let r = c.requires in
    let low = head_low s r.kept k r.known r.some in
    let high = head_high s r.kept k r.known r.some (omega arith) in
    let e = popped_pair (length s.cells) (get_or s.rows k no_row).head c.in-Some.code c.in-Some.rest _ low high c.in-Some.ensures.first in
    record { code = e.0; takes = took_out s k c.in-Some.code c.in-Some.rest c.pop_front.new.cells (view c.mark.new.self) (view c.leave.new.self) low high e.0 e.1 c.in-Some.ensures.links c.mark.ensures c.leave.ensures }
