-- A delta with a content that a message can spell is read back.
use Rattle.std.proofs.Common.{List}
use Rattle.std.specs.Prelude.{All}
use Rattle.delta.specs.Operation.{Operation, IsBounded}
use Rattle.delta.specs.Normal.{IsNormal}
use Rattle.optext.specs.Laws.{HasSpellableContent, IsReadBack, DeltaReadsBack}

pub reads_back : (ops : List Operation) → DeltaReadsBack → IsNormal ops → IsBounded ops → All HasSpellableContent ops → IsReadBack ops
reads_back ops law normal bounded kept = λ few short. law ops normal bounded few (λ k d inside. (kept k d inside, short k d inside))
