-- A list in normal form whose first retain gets another length, once and again.
use Rattle.std.proofs.Common.{◌≡◌, ℕ, ◌+◌, ◌-◌, ◌<◌, ◌≤◌, ◌^◌, true, List, [], ◌∷◌, Option, Some, None, refl, sym, ap, subst, ◌∙◌, arith}
use Rattle.attributes.specs.Map.{empty}
use Rattle.delta.specs.Operation.{Operation, insert_text, insert_embed, retain, delete, base_of, out_of, IsBounded}
use Rattle.delta.specs.Gaps.{counted}
use Rattle.delta.specs.Lead.{lead_of, with_lead}
use Rattle.delta.specs.Normal.{IsNormal, nf}
use Rattle.delta.proofs.CallerLemmas.{nf-same, normal-retain}
use Rattle.xform.specs.After.{second_past}
use Rattle.xform.specs.steps.Moving.{IsMovedLead, led, IsMoving}
use Rattle.xform.proofs.Apart.{begins-lead, moved-lead}

-- the plain retain that is first gets another length
pub normal-lead : (kept len : ℕ) (ops : List Operation) → lead_of ops ≡ Some kept → 0 < len → IsNormal ops → IsNormal (with_lead len ops)
normal-lead kept len ops leads some normal =
    let begins = begins-lead kept ops leads in
    subst (λ l. IsNormal (with_lead len l)) (sym begins.1)
    (normal-retain kept len empty begins.0 some (subst IsNormal begins.1 normal))

pub lead-of-led : (kept len : ℕ) (ops : List Operation) → lead_of ops ≡ Some kept → lead_of (with_lead len ops) ≡ Some len
lead-of-led kept len ops leads =
    let begins = begins-lead kept ops leads in
    ap (λ l. lead_of (with_lead len l)) begins.1

-- and only the last length counts
pub lead-twice : (m n : ℕ) (ops : List Operation) → with_lead n (with_lead m ops) ≡ with_lead n ops
lead-twice m n [] = refl
lead-twice m n (retain k c ∷ ops) = refl
lead-twice m n (insert_text us a ∷ ops) = refl
lead-twice m n (insert_embed key value a ∷ ops) = refl
lead-twice m n (delete k ∷ ops) = refl

pub led-again : (lead : Option ℕ) (n : ℕ) (ops : List Operation) → with_lead n (led lead ops) ≡ with_lead n ops
led-again None n ops = refl
led-again (Some m) n ops = lead-twice m n ops

-- how the lengths change
record IsLonger (kept len : ℕ) (ops : List Operation) : Type 0 where
  base : base_of (with_lead len ops) ≡ base_of ops - kept + len
  out : out_of (with_lead len ops) ≡ out_of ops - kept + len

longer : (kept len : ℕ) (ops : List Operation) → lead_of ops ≡ Some kept → IsLonger kept len ops
longer kept len ops leads =
    let begins = begins-lead kept ops leads in
    subst (IsLonger kept len) (sym begins.1) (record {
      base = omega arith;
      out = omega arith;
    })

-- a delta on its way, by its operations, with another length of the retain that is first
pub still-moving : (ops : List Operation) (lead : Option ℕ) (base out kept len : ℕ) → IsMoving ops lead base out
    → lead_of (led lead ops) ≡ Some kept → 0 < len → IsBounded (with_lead len (led lead ops))
    → IsMoving ops (Some len) (base - kept + len) (out - kept + len)
still-moving ops lead base out kept len moving leads some bounded =
    let same = led-again lead len ops in
    let more = longer kept len (led lead ops) leads in
    record {
      normal = subst IsNormal same (normal-lead kept len (led lead ops) leads some moving.normal);
      bounded = subst IsBounded same bounded;
      base_is = omega (arith, moving.base_is, more.base, ap base_of same);
      out_is = omega (arith, moving.out_is, more.out, ap out_of same);
      some = some;
      leads = ap lead_of (sym same) ∙ lead-of-led kept len (led lead ops) leads;
    }

-- the second keeps all units that the first speaks of
pub moves-behind : (first second : List Operation) (kept gone made base out len : ℕ) → lead_of second ≡ Some kept
    → gone ≡ base_of first → made ≡ out_of first → base ≡ base_of second → out ≡ out_of second → gone ≤ kept
    → base + made ≤ 2 ^ 48 → out + made ≤ 2 ^ 48 → len ≡ kept - gone + made → 0 < len → IsMovedLead first second len
moves-behind first second kept gone made base out len leads gone_is made_is base_is out_is behind base_fits out_fits len_is some =
    let begins = begins-lead kept second leads in
    moved-lead first second begins.0 kept len begins.1 (omega (arith, gone_is, behind)) some (omega (arith, len_is, gone_is, made_is))
    (omega (arith, base_fits, base_is, made_is)) (omega (arith, out_fits, out_is, made_is))

pub moved-past : (first second moved : List Operation) (len : ℕ) → IsMovedLead first second len → moved ≡ with_lead len second
    → IsNormal moved → (moved ≡ second_past first second true) × IsBounded moved
moved-past first second moved len led_so is normal = (
  sym (nf-same moved normal) ∙ (ap (λ l. nf (counted l)) is ∙ led_so.same),
  subst IsBounded (sym is) led_so.bounded,
)
