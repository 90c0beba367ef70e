use Rattle.std.proofs.Common.{◌≡◌, ◌∙◌, sym, ap, subst, false}
use Rattle.std.specs.Prelude.{Result, is_ok, Err, OnOk}
use Rattle.refusal.specs.declared.Refusal.TheVariants.{NoMemory}
use Rattle.recovery.specs.Open.{state_of, has_failed}
use Rattle.flusher.specs.Holding.{store_of}
use Rattle.turns.specs.Writing.{told_count}
use Rattle.serving.specs.declared.failure.ServingError.{ServingError}
use Rattle.serving.specs.declared.failure.ServingError.TheVariants.{Refused}
use Rattle.hub_desk.specs.AtHub.{Desk}
use Rattle.server_threads.specs.Served.{WasServed}
use Rattle.server_threads.specs.Streams.{ByOne, EndsAtHub, first_of}
use Rattle.server_threads.proofs.Served.{lived_from, served_as}
use Rattle.server_threads.proofs.Ended.{ends_with, well_with, with_memory, by_one, none_asked, works_with}
use Rattle.server_threads.proofs.streams.serve_run.Goals as goal

-- the session was held, and the life that ended is its own
pub returns-in-Ok-hold_at-clause-served : goal.returns-in-Ok-hold_at-clause-served
returns-in-Ok-hold_at-clause-served g c =
    let past = c.in-Ok-hold_at.past in
    let after = c.in-Ok-hold_at.held.0 in
    let answer = c.in-Ok-hold_at.held.1 in
    let old = c.in-Ok.begun.1.flusher in
    let written = past.written in
    let ends : Result (Unit {0}) ServingError → Desk → Type 0 = λ r. EndsAtHub r g.L.Life.start (g.I.Input.remaining c.args.streams.input) (g.I.Input.remaining after.input)
    (g.O.Output.contents c.args.streams.output) (g.O.Output.contents after.output) (g.I.Input.has_failed after.input) (g.O.Output.has_failed after.output) in
    let lived = lived_from (ByOne (ends answer)) g.L.Life.start old past.ordered (told_count past.flusher) past.tally.counted past.written
    (store_of past.flusher) c.end-store.result c.end-store.ensures.store c.in-Ok.ensures.ready.started c.in-Ok-hold_at.ensures.held c.end-store.ensures.counted in
    subst (λ b. WasServed (ByOne (EndsAtHub b.served (state_of c.args.store) (g.I.Input.remaining c.args.streams.input) (g.I.Input.remaining b.input)
    (g.O.Output.contents c.args.streams.output) (g.O.Output.contents b.output) (g.I.Input.has_failed b.input) (g.O.Output.has_failed b.output)))
    (is_ok b.served) c.args.store b.store) (sym c.back-in-Ok-hold_at.ensures)
    (subst (λ s. WasServed (ByOne (EndsAtHub c.first_failure.result s (g.I.Input.remaining c.args.streams.input) (g.I.Input.remaining after.input)
    (g.O.Output.contents c.args.streams.output) (g.O.Output.contents after.output) (g.I.Input.has_failed after.input) (g.O.Output.has_failed after.output))) (is_ok c.first_failure.result) c.args.store c.end-store.result) (sym c.requires.named.state)
    (subst (λ s. WasServed (ByOne (ends c.first_failure.result)) (is_ok c.first_failure.result) s c.end-store.result) c.in-Ok.ensures.store
    (subst (λ r. WasServed (ByOne (ends r)) (is_ok r) (store_of old) c.end-store.result) (sym c.first_failure.ensures)
    (served_as (ByOne (ends answer)) (ByOne (ends (first_of answer written))) (is_ok written) (is_ok (first_of answer written))
    (store_of old) c.end-store.result
    (by_one (ends answer) (ends (first_of answer written))
    (λ desk is. ends_with g.L.Life.start (g.I.Input.remaining c.args.streams.input) (g.I.Input.remaining after.input)
    (g.O.Output.contents c.args.streams.output) (g.O.Output.contents after.output) (g.I.Input.has_failed after.input) (g.O.Output.has_failed after.output)
    answer written desk is))
    (well_with answer written) lived.served))))

pub returns-in-Ok-hold_at-clause-no_memory : goal.returns-in-Ok-hold_at-clause-no_memory
returns-in-Ok-hold_at-clause-no_memory g c =
    λ is. absurd (with_memory c.in-Ok-hold_at.held.1 c.in-Ok-hold_at.past.written c.in-Ok-hold_at.ensures.only
    (sym c.first_failure.ensures ∙ (sym (ap (λ b. b.served) c.back-in-Ok-hold_at.ensures) ∙ is)))

pub returns-in-Ok-hold_at-clause-works : goal.returns-in-Ok-hold_at-clause-works
returns-in-Ok-hold_at-clause-works g c =
    let past = c.in-Ok-hold_at.past in
    let after = c.in-Ok-hold_at.held.0 in
    let answer = c.in-Ok-hold_at.held.1 in
    let old = c.in-Ok.begun.1.flusher in
    let ends : Desk → Type 0 = EndsAtHub answer g.L.Life.start (g.I.Input.remaining c.args.streams.input) (g.I.Input.remaining after.input)
    (g.O.Output.contents c.args.streams.output) (g.O.Output.contents after.output) (g.I.Input.has_failed after.input) (g.O.Output.has_failed after.output) in
    let lived = lived_from (ByOne ends) g.L.Life.start old past.ordered (told_count past.flusher) past.tally.counted past.written
    (store_of past.flusher) c.end-store.result c.end-store.ensures.store c.in-Ok.ensures.ready.started c.in-Ok-hold_at.ensures.held c.end-store.ensures.counted in
    subst (λ b. OnOk b.served (has_failed c.args.store ≡ false → has_failed b.store ≡ false)) (sym c.back-in-Ok-hold_at.ensures)
    (subst (λ s. OnOk c.first_failure.result (has_failed s ≡ false → has_failed c.end-store.result ≡ false)) c.in-Ok.ensures.store
    (subst (λ r. OnOk r (has_failed (store_of old) ≡ false → has_failed c.end-store.result ≡ false)) (sym c.first_failure.ensures)
    (works_with answer past.written (has_failed (store_of old)) (has_failed c.end-store.result) lived.fails)))

-- nothing was asked: no server began
pub returns-in-Err-clause-served : goal.returns-in-Err-clause-served
returns-in-Err-clause-served g c =
    subst (λ b. WasServed (ByOne (EndsAtHub b.served (state_of c.args.store) (g.I.Input.remaining c.args.streams.input) (g.I.Input.remaining b.input)
    (g.O.Output.contents c.args.streams.output) (g.O.Output.contents b.output) (g.I.Input.has_failed b.input) (g.O.Output.has_failed b.output)))
    (is_ok b.served) c.args.store b.store) (sym c.back.ensures)
    (subst (λ s. WasServed (ByOne (EndsAtHub (Err (Refused NoMemory)) (state_of c.args.store) (g.I.Input.remaining c.args.streams.input) (g.I.Input.remaining c.args.streams.input)
    (g.O.Output.contents c.args.streams.output) (g.O.Output.contents c.args.streams.output) (g.I.Input.has_failed c.args.streams.input) (g.O.Output.has_failed c.args.streams.output))) false c.args.store s) (sym c.in-Err.ensures.refused)
    (none_asked (state_of c.args.store) (g.I.Input.remaining c.args.streams.input) (g.O.Output.contents c.args.streams.output)
    (g.I.Input.has_failed c.args.streams.input) (g.O.Output.has_failed c.args.streams.output) c.args.store))

-- or one that could hold nobody
pub returns-in-Err-hold_at-clause-served : goal.returns-in-Err-hold_at-clause-served
returns-in-Err-hold_at-clause-served g c =
    let after = c.in-Err-hold_at.streams in
    subst (λ b. WasServed (ByOne (EndsAtHub b.served (state_of c.args.store) (g.I.Input.remaining c.args.streams.input) (g.I.Input.remaining b.input)
    (g.O.Output.contents c.args.streams.output) (g.O.Output.contents b.output) (g.I.Input.has_failed b.input) (g.O.Output.has_failed b.output)))
    (is_ok b.served) c.args.store b.store) (sym c.back-in-Err-hold_at.ensures)
    (subst (λ s. WasServed (ByOne (EndsAtHub (Err (Refused NoMemory)) (state_of c.args.store) (g.I.Input.remaining c.args.streams.input) (g.I.Input.remaining after.input)
    (g.O.Output.contents c.args.streams.output) (g.O.Output.contents after.output) (g.I.Input.has_failed after.input) (g.O.Output.has_failed after.output))) false c.args.store s)
    (sym (c.end.ensures ∙ (ap store_of c.in-Err-hold_at.ensures.refused.0 ∙ c.in-Ok.ensures.store)))
    (subst (λ s. WasServed (ByOne (EndsAtHub (Err (Refused NoMemory)) (state_of c.args.store) (g.I.Input.remaining c.args.streams.input) (g.I.Input.remaining s.input)
    (g.O.Output.contents c.args.streams.output) (g.O.Output.contents s.output) (g.I.Input.has_failed s.input) (g.O.Output.has_failed s.output))) false c.args.store c.args.store) (sym c.in-Err-hold_at.ensures.refused.1)
    (none_asked (state_of c.args.store) (g.I.Input.remaining c.args.streams.input) (g.O.Output.contents c.args.streams.output)
    (g.I.Input.has_failed c.args.streams.input) (g.O.Output.has_failed c.args.streams.output) c.args.store)))

pub returns-in-Err-hold_at-clause-no_memory : goal.returns-in-Err-hold_at-clause-no_memory
returns-in-Err-hold_at-clause-no_memory g c = λ is. (
  ap (λ b. b.store) c.back-in-Err-hold_at.ensures ∙ (c.end.ensures ∙ (ap store_of c.in-Err-hold_at.ensures.refused.0 ∙ c.in-Ok.ensures.store)),
  ap (λ b. b.input) c.back-in-Err-hold_at.ensures ∙ ap (λ s. s.input) c.in-Err-hold_at.ensures.refused.1,
  ap (λ b. b.output) c.back-in-Err-hold_at.ensures ∙ ap (λ s. s.output) c.in-Err-hold_at.ensures.refused.1,
)
