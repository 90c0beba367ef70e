-- A list in normal form whose first retain gets another length.
use Rattle.std.proofs.Common.{◌≡◌, ℕ, zero, suc, Bool, true, false, cond, ◌+◌, ◌-◌, ◌<◌, List, [], ◌∷◌, Option, Some, None, MatchOption, length, get_or, slice_set, refl, sym, ap, subst, ◌∙◌, arith}
use Rattle.std.specs.Prelude.{not, ◌==◌}
use Rattle.std.proofs.lemmas.Bool.{and_from}
use Rattle.attributes.specs.Attributes.{Changes}
use Rattle.delta.specs.Operation.{Operation, retain, is_plain, IsBounded}
use Rattle.delta.specs.Lead.{lead_units, with_lead, RetainsFirst, IsLengthened, IsLeft}
use Rattle.delta.specs.Normal.{IsNormal, is_built, ends_plain}
use Rattle.delta.specs.steps.Building.{IsDelta}
use Rattle.delta.proofs.LeftOver.{normal-parts}
use Rattle.delta.proofs.Neighbours.{may_lead-retain, built-parts, built-from}

pub ends-retain : (m n : ℕ) (c : Changes) (ops : List Operation) → ends_plain (retain m c ∷ ops) ≡ ends_plain (retain n c ∷ ops)
ends-retain m n c [] = refl
ends-retain m n c (next ∷ ops) = refl

pub normal-retain : (m n : ℕ) (c : Changes) (ops : List Operation) → 0 < n → IsNormal (retain m c ∷ ops) → IsNormal (retain n c ∷ ops)
normal-retain m n c ops some normal =
    let parts = normal-parts (retain m c) ops normal in
    let built = built-parts (retain m c) ops parts.0 in
    and_from (is_built (retain n c ∷ ops)) _
    (built-from (retain n c) ops some (may_lead-retain n c ops ∙ (sym (may_lead-retain m c ops) ∙ built.1)) built.2)
    (ap not (ends-retain n m c ops) ∙ parts.1)

delta-retain : (m n base out : ℕ) (c : Changes) (ops : List Operation) → 0 < n → IsBounded (retain n c ∷ ops)
    → IsDelta (retain m c ∷ ops) base out → IsDelta (retain n c ∷ ops) (base - m + n) (out - m + n)
delta-retain m n base out c ops some bounded delta = record {
  normal = normal-retain m n c ops some delta.normal;
  bounded = bounded;
  base_is = omega (arith, delta.base_is);
  out_is = omega (arith, delta.out_is);
}

-- a list that is not empty
pub some-from : (n : ℕ) → false ≡ (n == 0) → 0 < n
some-from zero e = absurd (cc)
some-from (suc n) e = omega arith

-- as a program writes it: the first operation in place of what stood there
pub retain-first : (len : Option ℕ) (ops : List Operation) (n : ℕ) (old new : Operation) → 0 < length ops → old ≡ get_or ops 0 old
    → MatchOption len (IsLeft old new) (IsLengthened n old new) → MatchOption len (slice_set ops 0 new ≡ ops) (RetainsFirst ops)
retain-first len [] n old new there first same = absurd (omega (arith, there))
retain-first None (op ∷ ops) n old new there first same = ap (λ o. o ∷ ops) (same.same ∙ first)
retain-first (Some m) (op ∷ ops) n old new there first same =
    record { change = same.change; rest = ops; is = ap (λ o. o ∷ ops) (sym first ∙ same.was) }

pub delta-lead : (ops : List Operation) (base out m n : ℕ) → 0 < n → IsBounded (with_lead n ops) → IsDelta ops base out
    → RetainsFirst ops m → IsDelta (with_lead n ops) (base - m + n) (out - m + n)
delta-lead ops base out m n some bounded delta first =
    subst (λ l. IsDelta (with_lead n l) (base - m + n) (out - m + n)) (sym first.is)
    (delta-retain m n base out first.change first.rest some
    (subst (λ l. IsBounded (with_lead n l)) first.is bounded)
    (subst (λ l. IsDelta l base out) first.is delta))

units-plain : (b : Bool) (m n : ℕ) → ¬ (cond b m 0 ≡ 0) → n ≡ cond b n 0
units-plain true m n some = refl
units-plain false m n some = absurd (some refl)

units-other : (b : Bool) (m n : ℕ) → 0 < m → cond b m 0 ≡ 0 → 0 ≡ cond b n 0
units-other true m n some none = absurd (omega (arith, some, none))
units-other false m n some none = refl

-- the plain retain that is first gets the length
pub lead-longer : (ops : List Operation) (m n : ℕ) → RetainsFirst ops m → ¬ (lead_units ops ≡ 0) → n ≡ lead_units (with_lead n ops)
lead-longer ops m n first some =
    subst (λ l. n ≡ lead_units (with_lead n l)) (sym first.is)
    (units-plain (is_plain (retain m first.change)) m n (subst (λ l. ¬ (lead_units l ≡ 0)) first.is some))

-- a retain with attributes is none after either
pub lead-other : (ops : List Operation) (m n : ℕ) → RetainsFirst ops m → IsNormal ops → lead_units ops ≡ 0
    → 0 ≡ lead_units (with_lead n ops)
lead-other ops m n first normal none =
    let parts = normal-parts (retain m first.change) first.rest (subst IsNormal first.is normal) in
    let built = built-parts (retain m first.change) first.rest parts.0 in
    subst (λ l. 0 ≡ lead_units (with_lead n l)) (sym first.is)
    (units-other (is_plain (retain m first.change)) m n built.0 (subst (λ l. lead_units l ≡ 0) first.is none))
