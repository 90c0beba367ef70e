use Rattle.std.proofs.Common.{◌≡◌, ◌∙◌, ap, sym, subst, true, false}
use Rattle.std.specs.Prelude.{◌↔◌, IsErrOf, is_ok}
use Rattle.refusal.specs.declared.Refusal.TheVariants.{Fault}
use Rattle.recovery.specs.Open.{state_of, has_failed}
use Rattle.flusher.specs.Holding.{store_of}
use Rattle.turns.specs.Writing.{told_count}
use Rattle.sockets.specs.Attendance.{visits_of}
use Rattle.server_threads.specs.Connections.{EachHasServed}
use Rattle.server_threads.specs.Served.{WasServed}
use Rattle.server_threads.proofs.Served.{lived_from, served_as}
use Rattle.server_threads.proofs.Attending.{caused, caused_by_memory, well_by, complete_by, nobody_served, none_came, fails_not}
use Rattle.server_threads.proofs.connections.serve_run.Goals as goal

-- the sessions were held, and the life that ended is theirs
pub returns-in-Ok-hold_at-clause-served : goal.returns-in-Ok-hold_at-clause-served
returns-in-Ok-hold_at-clause-served g c =
    let past = c.in-Ok-hold_at.past in
    let old = c.in-Ok.begun.1.flusher in
    let each = EachHasServed g.L.Life.start (visits_of c.in-Ok-hold_at.heard.attendance) in
    let lived = lived_from each g.L.Life.start old past.ordered (told_count past.flusher) past.tally.counted past.written
    (store_of past.flusher) c.end-store.result c.end-store.ensures.store c.in-Ok.ensures.ready.started c.in-Ok-hold_at.ensures.held c.end-store.ensures.counted in
    subst (λ s. WasServed (EachHasServed s (visits_of c.in-Ok-hold_at.heard.attendance)) (is_ok c.first_failure.result) c.args.store c.end-store.result) (sym c.requires.named.state)
    (subst (λ s. WasServed each (is_ok c.first_failure.result) s c.end-store.result) c.in-Ok.ensures.store
    (served_as each each (is_ok past.written) (is_ok c.first_failure.result) (store_of old) c.end-store.result
    (λ desks is. is) (well_by _ c.first_failure.result past.written c.first_failure.ensures.ok) lived.served))

pub returns-in-Ok-hold_at-clause-fails : goal.returns-in-Ok-hold_at-clause-fails
returns-in-Ok-hold_at-clause-fails g c =
    let past = c.in-Ok-hold_at.past in
    let old = c.in-Ok.begun.1.flusher in
    let each = EachHasServed g.L.Life.start (visits_of c.in-Ok-hold_at.heard.attendance) in
    let lived = lived_from each g.L.Life.start old past.ordered (told_count past.flusher) past.tally.counted past.written
    (store_of past.flusher) c.end-store.result c.end-store.ensures.store c.in-Ok.ensures.ready.started c.in-Ok-hold_at.ensures.held c.end-store.ensures.counted in
    subst (λ s. has_failed s ≡ false → (has_failed c.end-store.result ≡ true ↔ IsErrOf c.first_failure.result Fault)) c.in-Ok.ensures.store
    (λ works. (λ failed. c.first_failure.ensures.fault.1 ((lived.fails works).0 failed), λ is. (lived.fails works).1 (c.first_failure.ensures.fault.0 is)))

pub returns-in-Ok-hold_at-clause-causes : goal.returns-in-Ok-hold_at-clause-causes
returns-in-Ok-hold_at-clause-causes g c =
    let past = c.in-Ok-hold_at.past in
    let old = c.in-Ok.begun.1.flusher in
    let each = EachHasServed g.L.Life.start (visits_of c.in-Ok-hold_at.heard.attendance) in
    let lived = lived_from each g.L.Life.start old past.ordered (told_count past.flusher) past.tally.counted past.written
    (store_of past.flusher) c.end-store.result c.end-store.ensures.store c.in-Ok.ensures.ready.started c.in-Ok-hold_at.ensures.held c.end-store.ensures.counted in
    caused c.first_failure.result past.written c.first_failure.ensures.which lived.causes

pub returns-in-Ok-hold_at-clause-complete : goal.returns-in-Ok-hold_at-clause-complete
returns-in-Ok-hold_at-clause-complete g c =
    complete_by _ _ c.first_failure.result c.in-Ok-hold_at.heard.answer c.first_failure.ensures.ok c.in-Ok-hold_at.ensures.complete

-- nobody was served: no server began
pub returns-in-Err-clause-causes : goal.returns-in-Err-clause-causes
returns-in-Err-clause-causes g c = caused_by_memory c.unserved.result.served c.unserved.ensures.back.2

pub returns-in-Err-clause-served : goal.returns-in-Err-clause-served
returns-in-Err-clause-served g c =
    let un = c.unserved in
    nobody_served (state_of c.args.store) (visits_of un.result.attendance) un.result.served c.args.store un.result.store
    (un.ensures.back.0 ∙ c.in-Err.ensures.refused) un.ensures.nobody.0 un.ensures.back.2

pub returns-in-Err-clause-attended : goal.returns-in-Err-clause-attended
returns-in-Err-clause-attended g c = none_came _ _ c.unserved.result.attendance c.unserved.ensures.nobody

-- or one that could hold nobody
pub returns-in-Err-hold_at-clause-served : goal.returns-in-Err-hold_at-clause-served
returns-in-Err-hold_at-clause-served g c =
    let un = c.unserved-in-Err-hold_at in
    nobody_served (state_of c.args.store) (visits_of un.result.attendance) un.result.served c.args.store un.result.store
    (un.ensures.back.0 ∙ (c.end.ensures ∙ (ap store_of c.in-Err-hold_at.ensures.refused.0 ∙ c.in-Ok.ensures.store))) un.ensures.nobody.0 un.ensures.back.2

pub returns-in-Err-hold_at-clause-attended : goal.returns-in-Err-hold_at-clause-attended
returns-in-Err-hold_at-clause-attended g c = none_came _ _ c.unserved-in-Err-hold_at.result.attendance c.unserved-in-Err-hold_at.ensures.nobody

pub returns-in-Err-hold_at-clause-fails : goal.returns-in-Err-hold_at-clause-fails
returns-in-Err-hold_at-clause-fails g c =
    let un = c.unserved-in-Err-hold_at in
    fails_not un.result.served c.args.store un.result.store
    (un.ensures.back.0 ∙ (c.end.ensures ∙ (ap store_of c.in-Err-hold_at.ensures.refused.0 ∙ c.in-Ok.ensures.store))) un.ensures.back.2

pub returns-in-Err-hold_at-clause-causes : goal.returns-in-Err-hold_at-clause-causes
returns-in-Err-hold_at-clause-causes g c = caused_by_memory c.unserved-in-Err-hold_at.result.served c.unserved-in-Err-hold_at.ensures.back.2
