-- What is held of a document's past: its units at one revision, the floor, and the deltas of the revisions after it, in order.
use Rattle.std.specs.Prelude.{◌≡◌, ℕ, ◌+◌, ◌-◌, ◌≤◌, ◌<◌, ◌^◌, ◌||◌, not, Bool, true, false, zero, suc, max, List, [], ◌∷◌, ◌++◌, length, ◌==◌, take, drop, map, IfSome, refl}
use Rattle.std.specs.Coded.{Coded, code_by, coded×, coded_list, coded_ℕ, coded_bool}
use Rattle.attributes.specs.Map.{empty}
use Rattle.delta.specs.Element.{Element}
use Rattle.delta.specs.ElementCode.{element_code}
use Rattle.delta.specs.Operation.{Operation, operation_code}
use Rattle.delta.specs.Gaps.{counted, apply}
use Rattle.delta.specs.Normal.{nf}
use Rattle.document.specs.Outcome.{IsAccepted}
use Rattle.compose.specs.Inverse.{inverse}
use Rattle.compose.specs.Many.{applied}
use Rattle.revision.specs.Late.{late}
use Rattle.revision.specs.Command.{Step, Edits, Deletes, Revives}
use Rattle.revision.specs.Sources.{Sources, sources_code, with_taken}
use Rattle.revision.specs.declared.past.kept_document.Kept.{Kept}
use Rattle.revision.specs.declared.rule.taker.Taker.{Taker}

-- each delta stands on what those before it leave: the document there has all units that it speaks of, it parts no pair, and
-- the document after it has at most 2^48 units
abbrev pub StandInTurn : List Element → List (List Operation) → Type 0
StandInTurn units [] = Unit {0}
StandInTurn units (taken ∷ others) = IsAccepted units (counted taken) × StandInTurn (apply units (counted taken)) others

-- the document at a revision that is held
abbrev pub units_at : ℕ → List Element → List (List Operation) → ℕ → List Element
units_at floor units deltas revision = applied units (take (revision - floor) deltas)

-- the deltas after a revision that is held
abbrev pub deltas_since : ℕ → List (List Operation) → ℕ → List (List Operation)
deltas_since floor deltas revision = drop (revision - floor) deltas

-- what takes a delta back that was taken on these units
abbrev pub way_back : List Element → List Operation → List Operation
way_back units taken = nf (inverse (counted taken) units)

-- what takes the first of these deltas back, as an edit of its revision: late past all others
abbrev pub way_back_late : List Element → List (List Operation) → List Operation
way_back_late units [] = []
way_back_late units (taken ∷ others) = late (way_back units taken) others

-- the delta by which the change of a revision above the floor is undone
abbrev pub undo_of : ℕ → List Element → List (List Operation) → ℕ → List Operation
undo_of floor units deltas revision = way_back_late (units_at floor units deltas (revision - 1)) (deltas_since floor deltas (revision - 1))

-- what stands in a document at a revision, and its mark: it is live, or deleted
pub record Content : Type 0 where
  pub units : List Element
  pub live : Bool

-- nothing stands in a deleted document
abbrev pub is_content : Content → Bool
is_content content = content.live || (length content.units == 0)

-- A document that is live is edited or deleted, and one that is deleted is created again.
abbrev pub suits : Bool → Step → Bool
suits live Edits = live
suits live Deletes = live
suits live Revives = not live

-- what stands in a document after a step: an edit's delta is one on what stands there, that of a creation again one on the empty document
abbrev pub units_after : List Element → Step → List Operation → List Element
units_after units Edits delta = apply units (counted delta)
units_after units Deletes delta = []
units_after units Revives delta = apply [] (counted delta)

-- a document is created again where nothing stands in it
abbrev pub IsBlankFor : Step → List Element → Type 0
IsBlankFor Edits units = Unit {0}
IsBlankFor Deletes units = Unit {0}
IsBlankFor Revives units = units ≡ []

abbrev pub live_after : Bool → Step → Bool
live_after live Edits = live
live_after live Deletes = false
live_after live Revives = true

abbrev pub content_after : Content → Step → List Operation → Content
content_after content step delta = record { units = units_after content.units step delta; live = live_after content.live step }

-- A change of a document that was taken: its source, the source's number for it, and the delta from the revision before.
pub record Change : Type 0 where
  pub source : List ℕ
  pub number : ℕ
  pub delta : List Operation

-- A document's past, as far back as it is held: the floor, which is the lowest revision that is held, the content and the sources
-- there, and the changes of the revisions after it, in order. Each of them is an edit: no past reaches over a deletion.
pub record Past : Type 0 where
  pub floor : ℕ
  pub content : Content
  pub sources : Sources
  pub changes : List Change

-- the past of a document that nothing was taken of yet
abbrev pub empty_past : Past
empty_past = record { floor = 0; content = record { units = []; live = true }; sources = empty; changes = [] }

-- the newest revision
abbrev pub newest : Past → ℕ
newest past = past.floor + length past.changes

-- the deltas of changes
abbrev pub deltas_in : List Change → List (List Operation)
deltas_in changes = map (λ (change : Change). change.delta) changes

-- the deltas of the revisions above the floor
abbrev pub deltas_of : Past → List (List Operation)
deltas_of past = deltas_in past.changes

-- the sources after changes, where the first is that of the revision after this one
abbrev pub sources_after : ℕ → Sources → List Change → Sources
sources_after revision sources [] = sources
sources_after revision sources (first ∷ others) =
    sources_after (revision + 1) (with_taken first.source first.number (revision + 1) sources) others

-- the content, and the sources, at a revision that is held
abbrev pub content_at : Past → ℕ → Content
content_at past revision = record past.content { units = units_at past.floor past.content.units (deltas_of past) revision }

abbrev pub sources_at : Past → ℕ → Sources
sources_at past revision = sources_after past.floor past.sources (take (revision - past.floor) past.changes)

-- the deltas of the revisions after one that is held
abbrev pub deltas_above : Past → ℕ → List (List Operation)
deltas_above past revision = deltas_since past.floor (deltas_of past) revision

-- the past from a revision on that is held
abbrev pub from_floor : Past → ℕ → Past
from_floor past floor = record {
  floor = floor;
  content = content_at past floor;
  sources = sources_at past floor;
  changes = drop (floor - past.floor) past.changes;
}

-- One revision more: the floor rises to `keep` below it where it is lower.
abbrev pub with_change : ℕ → Past → Change → Past
with_change keep past change =
    from_floor (record past { changes = past.changes ++ change ∷ [] }) (max past.floor (newest past + 1 - keep))

-- the units at the newest revision
abbrev pub newest_units : Past → List Element
newest_units past = (content_at past (newest past)).units

-- the content at the newest revision, and the sources there
abbrev pub newest_content : Past → Content
newest_content past = content_at past (newest past)

abbrev pub newest_sources : Past → Sources
newest_sources past = sources_at past (newest past)

-- A revision more, from which on alone the past is held: this stands there.
abbrev pub rebased : Past → Content → Change → Past
rebased past content change = record {
  floor = newest past + 1;
  content = content;
  sources = with_taken change.source change.number (newest past + 1) (newest_sources past);
  changes = [];
}

-- One revision more, by a step: a deletion and a creation again are the lowest revision that is held from then on.
abbrev pub with_step : ℕ → Past → Step → Change → Past
with_step keep past Edits change = with_change keep past change
with_step keep past Deletes change = rebased past (content_after (newest_content past) Deletes change.delta) change
with_step keep past Revives change = rebased past (content_after (newest_content past) Revives change.delta) change

-- what comes next: a change, with what it does to the document
pub record Next : Type 0 where
  pub step : Step
  pub change : Change

-- several revisions more
abbrev pub with_steps : ℕ → Past → List Next → Past
with_steps keep past [] = past
with_steps keep past (first ∷ others) = with_steps keep (with_step keep past first.step first.change) others

-- what stands in the document after several steps
abbrev pub content_after_all : Content → List Next → Content
content_after_all content [] = content
content_after_all content (first ∷ others) = content_after_all (content_after content first.step first.change.delta) others

-- the changes alone
abbrev pub changes_in : List Next → List Change
changes_in next = map (λ (one : Next). one.change) next

-- A past, with what was prepared to follow it.
pub record Prepared : Type 0 where
  pub past : Past
  pub next : List Next

-- the content after all that was prepared, its units, and its revision
abbrev pub prepared_content : Prepared → Content
prepared_content prepared = content_after_all (newest_content prepared.past) prepared.next

abbrev pub prepared_units : Prepared → List Element
prepared_units prepared = (prepared_content prepared).units

abbrev pub prepared_revision : Prepared → ℕ
prepared_revision prepared = newest prepared.past + length prepared.next

-- all but the last
abbrev pub without_last : List Next → List Next
without_last next = take (length next - 1) next

-- the changes of these sources by these deltas, one by one
abbrev pub changes_by : List Taker → List (List Operation) → List Change
changes_by [] deltas = []
changes_by (first ∷ others) [] = []
changes_by (first ∷ others) (delta ∷ deltas) =
    record { source = first.source; number = first.number; delta = delta } ∷ changes_by others deltas

-- A deletion is kept as the delta that deletes all, and has the empty one.
abbrev pub own_delta : Step → List Operation → List Operation
own_delta Edits delta = delta
own_delta Deletes delta = []
own_delta Revives delta = delta

abbrev pub next_by : List ℕ → ℕ → Step → List Operation → Next
next_by source number step delta = record { step = step; change = record { source = source; number = number; delta = own_delta step delta } }

-- what comes next by these takers and by the deltas that are kept of them, one by one
abbrev pub nexts_by : List Taker → List (List Operation) → List Next
nexts_by [] deltas = []
nexts_by (first ∷ others) [] = []
nexts_by (first ∷ others) (delta ∷ deltas) = next_by first.source first.number first.step delta ∷ nexts_by others deltas

-- A delta that is kept leads from what stands in the document to what does after the step.
pub record LeadsTo (content : Content) (step : Step) (delta : List Operation) : Type 0 where
  pub suited : suits content.live step ≡ true
  pub units : apply content.units (counted delta) ≡ units_after content.units step delta

abbrev pub LeadInTurn : Content → List Taker → List (List Operation) → Type 0
LeadInTurn content [] deltas = Unit {0}
LeadInTurn content (first ∷ others) [] = Unit {0}
LeadInTurn content (first ∷ others) (delta ∷ deltas) =
    LeadsTo content first.step delta × LeadInTurn (content_after content first.step delta) others deltas

-- What the program keeps of a past: the document and the sources at a revision that isn't above the floor, the start; the deltas after it
-- with their takers, so many of them taken and the others prepared; documents at some of the revisions taken, some with their
-- sources; and the mark at the last of these.
pub record Parts : Type 0 where
  pub start : ℕ
  pub floor : ℕ
  pub units : List Element
  pub sources : Sources
  pub takers : List Taker
  pub deltas : List (List Operation)
  pub count : ℕ
  pub kept : List Kept
  pub live : Bool

-- the past from the start on
abbrev pub whole_past : Parts → Past
whole_past parts = record {
  floor = parts.start;
  content = record { units = parts.units; live = parts.live };
  sources = parts.sources;
  changes = take parts.count (changes_by parts.takers parts.deltas);
}

-- what stands in the document at the last revision taken
abbrev pub taken_content : Parts → Content
taken_content parts = record { units = applied parts.units (take parts.count parts.deltas); live = parts.live }

-- what is seen of them: the past from the floor on, with what is prepared
abbrev pub seen : Parts → Prepared
seen parts = record { past = from_floor (whole_past parts) parts.floor; next = drop parts.count (nexts_by parts.takers parts.deltas) }

-- the document has at most 2^29 units at each of these revisions, as one of a weight below 2^32 has
abbrev pub StayShort : List Element → List (List Operation) → Type 0
StayShort units [] = length units ≤ 2 ^ 29
StayShort units (taken ∷ others) = (length units ≤ 2 ^ 29) × StayShort (apply units (counted taken)) others

-- a document that is kept is that of its revision, which was taken; of one from below the start nothing is said
abbrev pub IsKept : ℕ → ℕ → List Element → List (List Operation) → Kept → Type 0
IsKept start count units deltas k = (k.revision ≤ start + count) × (start ≤ k.revision → k.document ≡ applied units (take (k.revision - start) deltas))

abbrev pub AreKept : ℕ → ℕ → List Element → List (List Operation) → List Kept → Type 0
AreKept start count units deltas [] = Unit {0}
AreKept start count units deltas (k ∷ ks) = IsKept start count units deltas k × AreKept start count units deltas ks

-- the sources that are kept beside it, where some are, are those of its revision; of those from below the start nothing is said
abbrev pub IsNoted : ℕ → Sources → List Change → Kept → Type 0
IsNoted start sources changes k = start ≤ k.revision → IfSome k.sources (λ (s : Sources). s ≡ sources_after start sources (take (k.revision - start) changes))

abbrev pub AreNoted : ℕ → Sources → List Change → List Kept → Type 0
AreNoted start sources changes [] = Unit {0}
AreNoted start sources changes (k ∷ ks) = IsNoted start sources changes k × AreNoted start sources changes ks

-- what they keep: all deltas stand in turn on short documents, those prepared lead to what stands after their steps, and at most 65,536 of
-- those taken are above the floor
pub record AreParts (parts : Parts) : Type 0 where
  pub stand : StandInTurn parts.units parts.deltas
  pub short : StayShort parts.units parts.deltas
  pub same : length parts.takers ≡ length parts.deltas
  pub content : is_content (taken_content parts) ≡ true
  pub lead : LeadInTurn (taken_content parts) (drop parts.count parts.takers) (drop parts.count parts.deltas)
  pub count : parts.count ≤ length parts.deltas
  pub start : parts.start ≤ parts.floor
  pub floor : parts.floor ≤ parts.start + parts.count
  pub held : parts.start + parts.count ≤ parts.floor + 65536
  pub revision : parts.start + length parts.deltas < 2 ^ 53
  pub kept : AreKept parts.start parts.count parts.units parts.deltas parts.kept
  pub noted : AreNoted parts.start parts.sources (changes_by parts.takers parts.deltas) parts.kept

-- how a past is told from another
abbrev pub change_code : Coded Change
change_code =
    code_by (List ℕ × (ℕ × List Operation)) (coded× (coded_list coded_ℕ) (coded× coded_ℕ (coded_list operation_code)))
    (λ c. (c.source, (c.number, c.delta))) (λ p. record { source = p.0; number = p.1.0; delta = p.1.1 }) (λ _. refl)

abbrev pub content_code : Coded Content
content_code =
    code_by (List Element × Bool) (coded× (coded_list element_code) coded_bool) (λ c. (c.units, c.live)) (λ p. record { units = p.0; live = p.1 }) (λ _. refl)

abbrev pub past_code : Coded Past
past_code =
    code_by (ℕ × (Content × (Sources × List Change))) (coded× coded_ℕ (coded× content_code (coded× sources_code (coded_list change_code))))
    (λ p. (p.floor, (p.content, (p.sources, p.changes))))
    (λ p. record { floor = p.0; content = p.1.0; sources = p.1.1.0; changes = p.1.1.1 }) (λ _. refl)

abbrev pub number_of_step : Step → ℕ
number_of_step Edits = 0
number_of_step Deletes = 1
number_of_step Revives = 2

abbrev pub step_of_number : ℕ → Step
step_of_number zero = Edits
step_of_number (suc zero) = Deletes
step_of_number (suc (suc number)) = Revives

pub same_step : (step : Step) → step_of_number (number_of_step step) ≡ step
same_step Edits = refl
same_step Deletes = refl
same_step Revives = refl

abbrev pub step_code : Coded Step
step_code = code_by ℕ coded_ℕ number_of_step step_of_number same_step

abbrev pub next_code : Coded Next
next_code =
    code_by (Step × Change) (coded× step_code change_code) (λ n. (n.step, n.change)) (λ p. record { step = p.0; change = p.1 }) (λ _. refl)

abbrev pub prepared_code : Coded Prepared
prepared_code =
    code_by (Past × List Next) (coded× past_code (coded_list next_code)) (λ p. (p.past, p.next)) (λ p. record { past = p.0; next = p.1 }) (λ _. refl)
