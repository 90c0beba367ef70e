-- What a document's newest revision keeps that a cell is made of.
use Rattle.std.proofs.Common.{◌≡◌, ℕ, ◌^◌, ◌≤◌, ◌<◌, true, List, map, sym, ap, subst, arith}
use Rattle.delta.specs.Element.{Element}
use Rattle.document.specs.Weight.{weight_of}
use Rattle.revision.specs.Window.{Window}
use Rattle.revision.specs.Width.{delta_width}
use Rattle.revision.specs.Past.{Past, newest, content_at, sources_at}
use Rattle.revision.specs.Sources.{cut}
use Rattle.revision.specs.State.{Limits, are_sources}
use Rattle.revision.specs.Invariants.{IsPast, KeepsAt}
use Rattle.revision.proofs.CallerLemmas.{cut_stays}
use Rattle.milestone.specs.CellSpelling.{inserts_of}
use Rattle.milestone.proofs.CallerLemmas.{light_content}

pub at_newest : (limits : Limits) (past : Past) → IsPast limits past → KeepsAt limits past (newest past)
at_newest limits past is = is.each (newest past) (omega arith) (omega arith)

pub sources_cut : (limits : Limits) (past : Past) (entries : List (List ℕ × Window)) → IsPast limits past → entries ≡ map cut (sources_at past (newest past)).entries
    → are_sources (newest past) entries ≡ true
sources_cut limits past entries is cuts =
    subst (λ es. are_sources (newest past) es ≡ true) (sym cuts) (cut_stays (newest past) (sources_at past (newest past)).entries (at_newest limits past is).sources)

-- its spelling has fewer than 2^32 bytes
pub light_enough : (limits : Limits) (past : Past) (units : List Element) → IsPast limits past → limits.weight < 2 ^ 30 → units ≡ (content_at past (newest past)).units
    → 2 ^ 32 ≤ delta_width (inserts_of units) → ⊥
light_enough limits past units is low same heavy =
    let at = at_newest limits past is in
    let weighs : weight_of units ≡ weight_of (content_at past (newest past)).units = ap (λ (us : List Element). weight_of us) same in
    omega (arith, light_content units, weighs, at.weight, low, heavy)
