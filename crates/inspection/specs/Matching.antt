-- When two readings of a store hold the same, as far as that is seen of the states.
use Rattle.std.specs.Prelude.{◌≡◌, ℕ, ◌+◌, ◌-◌, max, Option, Some, None, List, [], ◌∷◌, slice_get}
use Rattle.disk.specs.Device.{History, IsSync, IsAtMostOneStep}
use Rattle.revision.specs.Past.{Past, content_at, sources_at, deltas_above}
use Rattle.revision.specs.State.{DocumentRecord, State, revision_of, units_of, is_live, sources_of}
use Rattle.history.specs.declared.pick.Pick.TheVariants.{Newer, Older}
use Rattle.recovery.specs.Found.{Found}

-- the lowest revision that both records hold
abbrev pub common_floor : DocumentRecord → DocumentRecord → ℕ
common_floor a b = max a.past.floor b.past.floor

-- Two pasts match from a revision on that both hold: what stands there, the sources there, and the deltas of the changes after it are equal.
pub record PastsMatch (floor : ℕ) (a b : Past) : Type 0 where
  pub units : (content_at a floor).units ≡ (content_at b floor).units
  pub sources : sources_at a floor ≡ sources_at b floor
  pub deltas : deltas_above a floor ≡ deltas_above b floor

-- Two records match: their names, revisions, marks, units and sources are equal, and their pasts match from the lowest revision on that both
-- hold. Of `DocumentsAgree` this leaves out whose each of the changes is; the sources tell it of the last ones.
pub record DocumentsMatch (a b : DocumentRecord) : Type 0 where
  pub name : a.name ≡ b.name
  pub revision : revision_of a ≡ revision_of b
  pub live : is_live a ≡ is_live b
  pub sources : sources_of a ≡ sources_of b
  pub units : units_of a ≡ units_of b
  pub past : PastsMatch (common_floor a b) a.past b.past

-- at one place of both lists: a document in each, which match, or in neither
abbrev pub PlacesMatch : Option DocumentRecord → Option DocumentRecord → Type 0
PlacesMatch None None = Unit {0}
PlacesMatch None (Some b) = ⊥
PlacesMatch (Some a) None = ⊥
PlacesMatch (Some a) (Some b) = DocumentsMatch a b

-- two states match: their limits are equal, and their documents match place by place
pub record Match (s t : State) : Type 0 where
  pub limits : s.limits ≡ t.limits
  pub documents : (number : ℕ) → PlacesMatch (slice_get s.documents number) (slice_get t.documents number)

-- the readings of a content by the newer and by the older cells find states that match
pub record IsSound (content : List ℕ) : Type 0 where
  pub newer : State
  pub older : State
  pub by_newer : Found content Newer newer
  pub by_older : Found content Older older
  pub alike : Match newer older

-- how many changes documents hold, above their floors
abbrev pub changes_in : List DocumentRecord → ℕ
changes_in [] = 0
changes_in (first ∷ others) = (revision_of first - first.past.floor) + changes_in others

-- A device was synced twice at most, and nothing else moved it on.
abbrev pub IsSyncedTwice : History → History → Type 0
IsSyncedTwice old new = (between : History) × IsAtMostOneStep IsSync old between × IsAtMostOneStep IsSync between new
