-- A state, and the state with what was prepared to follow; and how states are told apart.
use Rattle.std.specs.Prelude.{ℕ, List, refl}
use Rattle.std.specs.Coded.{Coded, code_by, coded×, coded_list, coded_ℕ}
use Rattle.revision.specs.Past.{Past, past_code}
use Rattle.revision.specs.State.{Limits, DocumentRecord, State}

-- what is held, and what it becomes once what was prepared is accepted
pub record PreparedState : Type 0 where
  pub before : State
  pub after : State

-- nothing is prepared
abbrev pub unprepared : State → PreparedState
unprepared state = record { before = state; after = state }

abbrev pub limits_code : Coded Limits
limits_code =
    code_by (ℕ × (ℕ × (ℕ × (ℕ × (ℕ × ℕ))))) (coded× coded_ℕ (coded× coded_ℕ (coded× coded_ℕ (coded× coded_ℕ (coded× coded_ℕ coded_ℕ)))))
    (λ l. (l.docs, (l.sources, (l.weight, (l.width, (l.keep, l.retry))))))
    (λ p. record { docs = p.0; sources = p.1.0; weight = p.1.1.0; width = p.1.1.1.0; keep = p.1.1.1.1.0; retry = p.1.1.1.1.1 }) (λ _. refl)

abbrev pub document_code : Coded DocumentRecord
document_code =
    code_by (List ℕ × Past) (coded× (coded_list coded_ℕ) past_code) (λ d. (d.name, d.past)) (λ p. record { name = p.0; past = p.1 }) (λ _. refl)

abbrev pub state_code : Coded State
state_code =
    code_by (Limits × List DocumentRecord) (coded× limits_code (coded_list document_code))
    (λ s. (s.limits, s.documents)) (λ p. record { limits = p.0; documents = p.1 }) (λ _. refl)

abbrev pub prepared_state_code : Coded PreparedState
prepared_state_code =
    code_by (State × State) (coded× state_code state_code) (λ s. (s.before, s.after)) (λ p. record { before = p.0; after = p.1 }) (λ _. refl)
