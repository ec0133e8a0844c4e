-- The rule of the station table. Assumes nothing.
use Rattle.std.proofs.Common.{◌||◌, ltb, sym, ap, ◌∙◌, arith}
use Rattle.std.specs.List.{sum_by}
use Rattle.counter.specs.declared.station.Station.{Station}
use Rattle.counter.proofs.Openings.{unfit_is}
use Rattle.counter.proofs.opening.unfit.Goals as goal

pub returns-then-some_breaks : goal.returns-then-some_breaks
returns-then-some_breaks c =
    let b = c.some_breaks.result in
    c.if-some_breaks.true ∙ ap (λ t. t || ltb c.args.n (sum_by (λ (s : Station). s.guarantee) c.args.stations.now)) (sym c.if-some_breaks.true) ∙ unfit_is c.args.stations.now c.args.n b (sym c.is_empty.ensures ∙ c.if-is_empty.false) (omega arith) c.some_breaks.ensures

pub returns-else-some_breaks : goal.returns-else-some_breaks
returns-else-some_breaks c =
    let b = c.some_breaks.result in
    ap (ltb c.args.n) c.guaranteed.ensures ∙ ap (λ t. t || ltb c.args.n (sum_by (λ (s : Station). s.guarantee) c.args.stations.now)) (sym c.if-some_breaks.false) ∙ unfit_is c.args.stations.now c.args.n b (sym c.is_empty.ensures ∙ c.if-is_empty.false) (omega arith) c.some_breaks.ensures
