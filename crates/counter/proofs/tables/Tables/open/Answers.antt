-- An opening. Assumes nothing.
use Rattle.std.proofs.Common.{◌≡◌, ℕ, length, sym, ap, ◌∙◌, subst}
use Rattle.counter.specs.Opened.{Given, given, admitted}
use Rattle.counter.specs.Shown.{State, view, no_row}
use Rattle.counter.specs.History.{Opened}
use Rattle.counter.specs.Inside.{new_state}
use Rattle.counter.proofs.Examples.{examples_hold}
use Rattle.counter.proofs.Openings.{opened_sound, refused_opened, admitted_opened}
use Rattle.counter.proofs.tables.Tables.open.Goals as goal

pub returns-in-Err : goal.returns-in-Err
returns-in-Err g c =
    let x : ℕ → Given = λ kind. given kind g.C.Compression.SHORTEST_KEY g.C.Compression.LONGEST_KEY c.args.opening in
    let lent = x g.C.Compression.KIND in
    let F : ℕ → State = λ kind. new_state (admitted (x kind) 0 0).setting lent.codes lent.register no_row in
    let w : Opened lent (view c.new.result) = subst (Opened lent) (sym (c.new.ensures ∙ ap F c.KIND-kind.ensures)) (refused_opened lent c.in-Err.field-0 c.in-Err.ensures) in
    record { opened = w; examples = examples_hold; sound = opened_sound lent (view c.new.result) w }

pub returns-in-Ok : goal.returns-in-Ok
returns-in-Ok g c =
    let x : ℕ → Given = λ kind. given kind g.C.Compression.SHORTEST_KEY g.C.Compression.LONGEST_KEY c.args.opening in
    let lent = x g.C.Compression.KIND in
    let F : ℕ → ℕ → State = λ kind n. new_state (admitted (x kind) 0 (length lent.stations)).setting c.fill.new.codes c.wipe.new.register (record { head = 1; count = n }) in
    let e : view c.new-in-Ok.result ≡ F lent.kind (length lent.codes) = c.new-in-Ok.ensures ∙ ap (λ kind. F kind (length c.fill.new.codes)) c.KIND-kind.ensures ∙ ap (F lent.kind) c.fill.auto.codes in
    let w : Opened lent (view c.new-in-Ok.result) = subst (Opened lent) (sym e) (admitted_opened lent c.fill.new.codes c.wipe.new.register c.in-Ok.ensures c.fill.auto.codes c.wipe.auto.register c.fill.ensures c.wipe.ensures) in
    record { opened = w; examples = examples_hold; sound = opened_sound lent (view c.new-in-Ok.result) w }
