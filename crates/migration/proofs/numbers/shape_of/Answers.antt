use Rattle.std.proofs.Common.{◌≡◌, ◌∙◌, true, ℕ, List, take, drop, sym, ap}
use Rattle.std.proofs.lemmas.Result.{IfOk-weaker}
use Rattle.refusal.specs.declared.Refusal.TheVariants.{Damaged}
use Rattle.history.specs.declared.pick.Pick.TheVariants.{Newer}
use Rattle.revision.specs.State.{State}
use Rattle.recovery.specs.declared.shape.Shape.{Shape}
use Rattle.recovery.specs.Shape.{is_in_range, superblock}
use Rattle.recovery.specs.Found.{Found}
use Rattle.migration.proofs.numbers.shape_of.Goals as goal

pub returns-in-Ok-clause-shape : goal.returns-in-Ok-clause-shape
returns-in-Ok-clause-shape g c =
    IfOk-weaker c.read_numbers.result.shape
    (λ (shape : Shape). g.A.Disk.honest c.read_numbers.result.device → (other : Shape) → is_in_range other ≡ true
    → take 32 (drop 1 (g.A.Disk.seen c.in-Ok.store.device)) ≡ superblock other → shape ≡ other)
    (λ (shape : Shape). g.A.Disk.honest c.read_numbers.result.device → (state : State) → (is : Found (g.A.Disk.seen c.args.device) Newer state) → is.shape ≡ shape)
    (λ shape named honest state is.
    let names = is.holds.laid_out.names in
    sym (named honest is.shape names.in_range (ap (λ (l : List ℕ). take 32 (drop 1 l)) c.in-Ok.ensures.device.seen ∙ names.named)))
    c.read_numbers.ensures.shape

pub returns-in-Err-clause-damaged : goal.returns-in-Err-clause-damaged
returns-in-Err-clause-damaged g c told honest =
    let same : c.in-Err.field-0.refusal ≡ Damaged = cc in
    c.in-Err.ensures.refused.damaged same honest
