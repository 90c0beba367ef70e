-- What is told of the documents that a session follows.
use Rattle.std.specs.Prelude.{◌≡◌, ℕ, ◌+◌, max, length, nat_lt, if◌then◌else◌, Bool, true, false, List, [], ◌∷◌, ◌++◌, Option, Some, None}
use Rattle.std.specs.List.{list_any}
use Rattle.std.specs.Option.{ForSome}
use Rattle.delta.specs.Operation.{Operation}
use Rattle.revision.specs.Past.{Past, newest, deltas_above}
use Rattle.revision.specs.State.{DocumentRecord, State, find}
use Rattle.session.specs.Reply.{news_line, ended_line}
use Rattle.session.specs.Subscriptions.{Subscriptions}

-- one line for each delta; the first delta made the revision after this one
abbrev pub lines_of : List ℕ → ℕ → List (List Operation) → List ℕ
lines_of doc revision [] = []
lines_of doc revision (delta ∷ others) = news_line doc (revision + 1) delta ++ lines_of doc (revision + 1) others

-- What is told of a document after the revision that was told last: each later one, or that the subscription ends, where the next one
-- isn't above the floor.
abbrev pub lines_after : List ℕ → ℕ → Past → List ℕ
lines_after doc last past = if nat_lt last past.floor then ended_line doc else lines_of doc last (deltas_above past last)

-- the revision that is told last then, none where the subscription ends
abbrev pub last_after : ℕ → Past → Option ℕ
last_after last past = if nat_lt last past.floor then None else Some (max last (newest past))

-- the same of a document that is there or not: of one that isn't there is no news
abbrev pub lines_found : List ℕ → ℕ → Option (ℕ × DocumentRecord) → List ℕ
lines_found doc last None = []
lines_found doc last (Some found) = lines_after doc last found.1.past

abbrev pub last_found : ℕ → Option (ℕ × DocumentRecord) → Option ℕ
last_found last None = Some last
last_found last (Some found) = last_after last found.1.past

-- and of a document of a state
abbrev pub lines_in : State → List ℕ → ℕ → List ℕ
lines_in state doc last = lines_found doc last (find doc 0 state.documents)

abbrev pub last_in : State → List ℕ → ℕ → Option ℕ
last_in state doc last = last_found last (find doc 0 state.documents)

-- a subscription, where it doesn't end
abbrev pub subscription : List ℕ → Option ℕ → Subscriptions
subscription doc None = []
subscription doc (Some last) = (doc, last) ∷ []

-- subscriptions, each with the revision that was told last, where it doesn't end
abbrev pub going_on : Subscriptions → List (Option ℕ) → Subscriptions
going_on [] last = []
going_on (first ∷ others) [] = []
going_on (first ∷ others) (one ∷ more) = subscription first.0 one ++ going_on others more

-- The news of a state: the lines, and the subscriptions after them.
abbrev pub news : Subscriptions → State → List ℕ
news [] state = []
news (first ∷ others) state = lines_in state first.0 first.1 ++ news others state

abbrev pub subscriptions_after : Subscriptions → State → Subscriptions
subscriptions_after [] state = []
subscriptions_after (first ∷ others) state = subscription first.0 (last_in state first.0 first.1) ++ subscriptions_after others state

-- the same of the state that is shown: where none is, nothing is told
abbrev pub news_shown : Subscriptions → Option State → List ℕ
news_shown subscriptions None = []
news_shown subscriptions (Some state) = news subscriptions state

abbrev pub subscriptions_shown : Subscriptions → Option State → Subscriptions
subscriptions_shown subscriptions None = subscriptions
subscriptions_shown subscriptions (Some state) = subscriptions_after subscriptions state

-- whether a document, if it is there, has a revision after the last that was told
abbrev pub has_later : ℕ → Option (ℕ × DocumentRecord) → Bool
has_later last None = false
has_later last (Some found) = nat_lt last (newest found.1.past)

-- whether there is something to tell of the documents that are followed
abbrev pub has_news : Subscriptions → State → Bool
has_news subscriptions state = list_any (λ one. has_later one.1 (find one.0 0 state.documents)) subscriptions

-- The news may be missed where no state is shown, or where there is something to tell of it.
abbrev pub MayBeMissed : Subscriptions → Option State → Type 0
MayBeMissed subscriptions shown = ForSome shown (λ state. has_news subscriptions state ≡ true)

-- What is found out before the news are told: their lines, and of each subscription the revision that is told last then.
pub record AreNews (subscriptions : Subscriptions) (shown : Option State) (text : List ℕ) (last : List (Option ℕ)) : Type 0 where
  pub lines : text ≡ news_shown subscriptions shown
  pub left : going_on subscriptions last ≡ subscriptions_shown subscriptions shown
  pub each : length last ≡ length subscriptions

-- There is nothing to tell: no line, and each subscription stays as it is.
pub record AreNone (subscriptions : Subscriptions) (shown : Option State) : Type 0 where
  pub lines : news_shown subscriptions shown ≡ []
  pub left : subscriptions_shown subscriptions shown ≡ subscriptions
