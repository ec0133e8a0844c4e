-- A station's count is set. Assumes nothing.
use Rattle.std.proofs.Common.{get_or, refl}
use Rattle.std.proofs.Math.Seq.{map-set_same}
use Rattle.std.proofs.lemmas.List.{map-set}
use Rattle.counter.specs.declared.tables.Seat.{Seat}
use Rattle.counter.specs.Inside.{no_seat}
use Rattle.counter.proofs.tables.Tables.set_taken.Goals as goal

pub returns : goal.returns
returns c =
    let seats = c.args.self.now.seats in
    let k = c.args.station in
    let x : Seat = record { taken = c.args.taken; newest = (get_or seats k no_seat).newest } in
    rw (map-set (λ (y : Seat). y.taken) seats k x, map-set_same (λ (y : Seat). y.newest) seats k x no_seat refl)
