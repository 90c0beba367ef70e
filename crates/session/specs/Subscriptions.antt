-- The documents that a session follows.
use Rattle.std.specs.Prelude.{ℕ, not, List, Option, Some, None, Result, Ok, Err}
use Rattle.std.specs.Ordering.{eq_by_cmp}
use Rattle.std.specs.FinMap.Entries.{put, where_key}
use Rattle.attributes.specs.Map.{by_bytes}
use Rattle.refusal.specs.declared.Refusal.{Refusal}
use Rattle.refusal.specs.declared.Refusal.TheVariants.{StoreFailed}
use Rattle.revision.specs.Readings.{at_revision}
use Rattle.revision.specs.State.{State, find}

-- the names of the documents, in the order of their bytes and each once, with the revision of each from which on
-- news are still to be told
abbrev pub Subscriptions : Type 0
Subscriptions = List (List ℕ × ℕ)

-- with a subscription of a document from a revision on, in place of an earlier one
abbrev pub with_subscription : Subscriptions → List ℕ → ℕ → Subscriptions
with_subscription subscriptions doc revision = put by_bytes doc revision subscriptions

-- without a document
abbrev pub without_subscription : Subscriptions → List ℕ → Subscriptions
without_subscription subscriptions doc = where_key by_bytes (λ other. not (eq_by_cmp by_bytes doc other)) subscriptions

-- A document may be followed from a revision on that is held: the first refusal that holds, or none.
abbrev pub may_follow : List ℕ → ℕ → State → Result (Unit {0}) Refusal
may_follow doc revision state = at_revision revision (find doc 0 state.documents) (λ past. tt)

-- the same of the state that is shown, if there is one
abbrev pub may_follow_shown : List ℕ → ℕ → Option State → Result (Unit {0}) Refusal
may_follow_shown doc revision None = Err StoreFailed
may_follow_shown doc revision (Some state) = may_follow doc revision state

-- the subscriptions after a document was asked for
abbrev pub subscribed : Subscriptions → List ℕ → ℕ → Result (Unit {0}) Refusal → Subscriptions
subscribed subscriptions doc revision (Ok held) = with_subscription subscriptions doc revision
subscribed subscriptions doc revision (Err refusal) = subscriptions
